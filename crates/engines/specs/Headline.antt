-- What follows of the table for who runs the program: what commands print over the same files, and what a refused one printed.
use Rattle.std.specs.Prelude.{◌≡◌, ◌⊎◌, ℕ, true, All, codes, List, [], ◌∷◌, ◌++◌, flat_map, map, Option, Some, None, IfOk, IfSome, IsOkAnd, IsSome, Result, option_and_then}
use Rattle.std.specs.Io.KnownBytes.{Appends}
use Rattle.block_file.specs.Block.{parsed_block}
use Rattle.byte_streams.specs.declared.fault.WriteFault.{WriteFault}
use Rattle.clap.specs.Words.{Text}
use Rattle.cmdline.specs.Line.{Asked, RunOf, SeqOf, ConflictsOf, DriveOf, AsmOf, DisOf, DebugOf, MigrateOf, ChainOf}
use Rattle.debugger.specs.Session.{AppendsBeginning}
use Rattle.session_durability.specs.Durable.{FileMoment, IsFileAnswer}
use Rattle.elf32.specs.declared.words.PlacedWord.{PlacedWord}
use Rattle.session_requests.specs.Requests.{Ask, requests_of}
use Rattle.session_requests.specs.declared.request.RequestFault.{RequestFault}
use Rattle.rv_names.specs.Text.{disassembly}
use Rattle.session_serving.specs.Serving.{Answering, AreAnswered, end_text, end_fault_of, until_quit}
use Rattle.session_turns.specs.Failures.{IsAnswer}
use Rattle.session_turns.specs.Turn.{new_session}
use Rattle.engines.specs.Conflicts.{IsConflictsText}
use Rattle.engines.specs.Debug.{replayed_text}
use Rattle.engines.specs.Dis.{listing_line, listing_of_file}
use Rattle.engines.specs.Engine.{answer_of, loaded_job}
use Rattle.engines.specs.Program.{Contents, Prints, chain_settings}
use Rattle.engines.specs.declared.fault.Refusal.{Refusal}

-- ---- the same files

-- what `rvstm seq FILE` prints over the bytes of files, or the first fault in them; None if bytes that decide this are not
-- known
abbrev pub result_of : Contents → Text → Option (Result (List ℕ) Refusal)
result_of content file = option_and_then (λ input. answer_of content (parsed_block input)) (content file)

-- two machines have the same bytes in a block file, and in the files of the programs that it names
pub record HaveSameFiles (first second : Contents) (file : Text) : Type 0 where
  pub block : first file ≡ second file
  pub programs : IfSome (first file) (λ input. IfOk (parsed_block input) (λ block. All (λ path. first path ≡ second path) block.programs))

-- a command that prints the result of a block file: `seq`, `run` by any number of workers, or `drive` along any known schedule
abbrev pub IsOfResult : Contents → Text → Asked → Type 0
IsOfResult content file (RunOf named workers counts) = named ≡ file
IsOfResult content file (SeqOf named) = named ≡ file
IsOfResult content file (DriveOf named workers schedule counts) = (named ≡ file) × IsSome (content schedule)
IsOfResult content file asked = ⊥

-- ---- what a refused command printed

-- nothing, or a beginning of a text if a write may fail
abbrev pub PrintsPart : (WriteFault → Type 0) → Option (List ℕ) → Option (List ℕ) → Type 0 → Type 0
PrintsPart may_refuse old new begins = (new ≡ old) ⊎ (((fault : WriteFault) × may_refuse fault) × begins)

-- a beginning of the result of a block file
abbrev pub BeginsResult : Contents → Option (List ℕ) → Option (List ℕ) → Text → Type 0
BeginsResult content old new file = IfSome (result_of content file) (λ answer. IsOkAnd answer (AppendsBeginning old new))

-- a part of the answer to the next request of a session; if none is left, a part of what is written last
abbrev pub IsPartOfNext : {S : Type 0} → Answering S → Option RequestFault → S → List Ask → List ℕ → Type 0
IsPartOfNext answers fault s [] part = (left : List ℕ) × (part ++ left ≡ end_text fault)
IsPartOfNext {S} answers fault s (ask ∷ asks) part = (part ≡ []) ⊎ ((left : List ℕ) × (next : S) × answers s ask (part ++ left) next)

-- a beginning of what a session prints: the answers to the first requests of its input, and a part of what comes next
abbrev pub BeginsSession : {S : Type 0} → Answering S → S → List ℕ → Option (List ℕ) → Option (List ℕ) → Type 0
BeginsSession {S} answers first bytes old new =
    (heard rest : List Ask) × (text : List ℕ) × (mid : S) × (part : List ℕ)
    × (until_quit (requests_of bytes).asks ≡ heard ++ rest) × AreAnswered answers first heard text mid
    × IsPartOfNext answers (end_fault_of (requests_of bytes)) mid rest part × Appends old new (text ++ part)

-- what a refused command printed at most
abbrev pub PrintsAtMost : Contents → Option (List ℕ) → (WriteFault → Type 0) → Option (List ℕ) → Option (List ℕ) → Asked → Type 0
PrintsAtMost content typed may_refuse old new (RunOf file workers counts) =
    PrintsPart may_refuse old new (BeginsResult content old new file) ⊎ ((counts ≡ true) × Prints content typed old new (RunOf file workers counts))
PrintsAtMost content typed may_refuse old new (SeqOf file) = PrintsPart may_refuse old new (BeginsResult content old new file)
PrintsAtMost content typed may_refuse old new (ConflictsOf file) = PrintsPart may_refuse old new
    (IfSome (content file) (λ input. IfSome (loaded_job content (parsed_block input)) (λ wanted. IsOkAnd wanted (λ job.
    (text : List ℕ) × IsConflictsText job text × AppendsBeginning old new text))))
PrintsAtMost content typed may_refuse old new (DriveOf file workers schedule counts) =
    PrintsPart may_refuse old new (BeginsResult content old new file) ⊎ ((counts ≡ true) × Prints content typed old new (DriveOf file workers schedule counts))
PrintsAtMost content typed may_refuse old new (AsmOf file out) = new ≡ old
PrintsAtMost content typed may_refuse old new (DisOf file) = PrintsPart may_refuse old new
    (IfSome (content file) (λ bytes. IsOkAnd (listing_of_file bytes) (AppendsBeginning old new)))
PrintsAtMost content typed may_refuse old new (DebugOf file call more) = (new ≡ old) ⊎ IfSome (content file) (λ input. IfSome typed (λ lines.
    IfSome (loaded_job content (parsed_block input)) (λ job. IsOkAnd (replayed_text more job call lines) (AppendsBeginning old new))))
PrintsAtMost content typed may_refuse old new (MigrateOf file out) = new ≡ old
PrintsAtMost content typed may_refuse old new (ChainOf workers limit gas digest brief None) = (new ≡ old) ⊎ IfSome typed (λ bytes.
    BeginsSession (IsAnswer (chain_settings limit gas digest brief)) (new_session (chain_settings limit gas digest brief)) bytes old new)
PrintsAtMost content typed may_refuse old new (ChainOf workers limit gas digest brief (Some file)) = (new ≡ old) ⊎ IfSome typed (λ bytes.
    (first : FileMoment) × BeginsSession (IsFileAnswer (record (chain_settings limit gas digest brief) { keeps_digest = true })) first bytes old new)

-- ---- what `dis` prints, as a source

-- lines that `dis` prints, the words of their second columns, and a source of their third columns, each on a line of its own
pub record IsListing (printed words source : List ℕ) : Type 0 where
  pub placed : List PlacedWord
  pub lines : printed ≡ flat_map listing_line placed
  pub second : words ≡ map (λ (p : PlacedWord). p.word) placed
  pub third : source ≡ flat_map (λ (p : PlacedWord). disassembly p.word ++ codes "\n") placed
