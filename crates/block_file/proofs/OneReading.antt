-- A text has one reading.
use Rattle.std.proofs.Common.{◌≡◌, Result, Ok, Err, inl, inr, sym, ◌∙◌}
use Rattle.block_file.specs.declared.fault.BlockFault.{BlockFault}
use Rattle.block_file.specs.Answer.{ReadsFile, said, HadMemory}

-- an answer that did not run out of memory says what is wanted
says_wanted : {X Y : Type 0} (view : X → Y) (answer : Result X BlockFault) (wanted : Result Y BlockFault) → ReadsFile view answer wanted → HadMemory answer → wanted ≡ said view answer
says_wanted view (Ok x) wanted reads memory = reads
says_wanted view (Err fault) wanted (inl is) memory = is
says_wanted view (Err fault) wanted (inr want) memory = absurd (memory want.0)

-- two such answers say the same
pub one_reading : {X Y : Type 0} (view : X → Y) (first second : Result X BlockFault) (wanted : Result Y BlockFault) → ReadsFile view first wanted → ReadsFile view second wanted → HadMemory first → HadMemory second → said view first ≡ said view second
one_reading view first second wanted reads again memory more =
    sym (says_wanted view first wanted reads memory) ∙ says_wanted view second wanted again more
