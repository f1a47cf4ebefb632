use Rattle.std.proofs.Common.{List, ℕ, length, ◌<◌, subst, arith}
use Rattle.std.specs.Io.BufRead.{FillKeeps}
use Rattle.std.specs.Io.KnownBytes.{Consumes}
use Rattle.std.proofs.BufReadLemmas.{Consumes_shown}
use Rattle.std.proofs.lemmas.Bool.Decides.{nat_tests}
use Rattle.session_requests.proofs.Taken.{first_of}
use Rattle.session_requests.proofs.reading.next_byte.Goals as goal

pub returns-clause-byte : goal.returns-clause-byte
returns-clause-byte g c =
    let some : 0 < length c.in-Ok.shown.now = grind (arith, nat_tests) in
    let shown : List ℕ = c.in-Ok.shown.now in
    let rested = c.fill_part.follows.lender-at-none in
    let filled = subst (FillKeeps (g.R.Read.remaining c.args.input.now) (g.R.Read.remaining rested) (g.R.BufRead.consumable_len rested)) c.in-Ok.is c.fill_part.follows.holds-at-none.0 in
    let moved = Consumes_shown (g.R.Read.remaining c.args.input.now) (g.R.Read.remaining rested) (g.R.Read.remaining c.consume_part.new.self) (g.R.BufRead.consumable_len rested) shown 1
    some c.in-Ok.ensures.front c.in-Ok.ensures.end filled.0 filled.1 c.consume_part.ensures.bytes in
    subst (λ (l : List ℕ). Consumes (g.R.Read.remaining c.args.input.now) (g.R.Read.remaining c.consume_part.new.self) l) (first_of shown some) moved.0
