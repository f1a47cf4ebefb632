-- What the same files give, by whatever command.
use Rattle.std.proofs.Common.{◌≡◌, ℕ, List, [], ◌∷◌, Bool, refl, sym, ◌∙◌, ap, ap₂, subst}
use Rattle.std.proofs.lemmas.List.Elements.{All-head, All-tail}
use Rattle.std.specs.Prelude.{All, Option, Some, None, Result, Ok, Err, IfOk, IfSome, IsOkAnd, IsSome, option_and_then}
use Rattle.std.specs.Io.KnownBytes.{Appends}
use Rattle.std.specs.Option.{option_map}
use Rattle.std.specs.Result.{result_map_both}
use Rattle.block_file.specs.Block.{BlockValue, parsed_block}
use Rattle.block_file.specs.Schedule.{parsed_schedule}
use Rattle.block_file.specs.declared.fault.BlockFault.{BlockFault}
use Rattle.clap.specs.Words.{Text}
use Rattle.cmdline.specs.Line.{Asked, RunOf, SeqOf, DriveOf}
use Rattle.elf32.specs.Layout.{Layout}
use Rattle.programs.specs.Programs.{calls_over, program_of_file, programs_of, with_program}
use Rattle.programs.specs.declared.fault.ProgramFault.{ProgramFault}
use Rattle.receipts.specs.Text.{result_text}
use Rattle.rv_ledger.specs.Call.{Invocation}
use Rattle.rv_ledger.specs.Key.{Storage}
use Rattle.rv_step.specs.Fold.{receipts_of, store_after}
use Rattle.stm_state.specs.Drive.{DriveRefusal, drive_of}
use Rattle.stm_state.specs.State.{State}
use Rattle.engines.specs.Drive.{drive_fault, driven_answer, text_along, text_by, text_over}
use Rattle.engines.specs.Engine.{answer_of, job_over, program_refusal, programs_in, text_of}
use Rattle.engines.specs.Headline.{HaveSameFiles, IsOfResult, result_of}
use Rattle.engines.specs.Program.{Contents, Prints, PrintsResult}
use Rattle.engines.specs.declared.fault.Refusal.{Refusal}
use Rattle.engines.specs.declared.fault.Refusal.TheVariants.{Drive}

-- ---- along any schedule the result is that of the calls in order

module _ (P : List ℕ → Type 0) where
  along : (calls : List Invocation) (store : Storage) (r : Result State DriveRefusal)
      → IsOkAnd (result_map_both (λ _. result_text (receipts_of calls store) (store_after calls store)) (λ refusal. Drive (drive_fault refusal)) r) P
      → P (result_text (receipts_of calls store) (store_after calls store))
  along calls store (Ok s) h = h
  along calls store (Err refusal) h = absurd h

  -- the text along a list is that of the job
  pub text_is : (calls : List Invocation) (store : Storage) (workers : ℕ) (entries : List ℕ) → IsOkAnd (text_along calls store workers entries) P
      → P (result_text (receipts_of calls store) (store_after calls store))
  text_is calls store workers entries h = along calls store (drive_of calls store workers entries) h

  by_schedule : (block : BlockValue) (images : List Layout) (workers : ℕ) (schedule : Result (List ℕ) BlockFault) → IsOkAnd (text_by block images workers schedule) P → P (text_of (job_over block images))
  by_schedule block images workers (Err fault) h = absurd h
  by_schedule block images workers (Ok entries) h = text_is (calls_over block images) block.store workers entries h

  over_programs : (block : BlockValue) (workers : ℕ) (bytes : List ℕ) (programs : Option (Result (List Layout) ProgramFault))
      → IfSome (option_and_then (text_over block workers (Some (parsed_schedule bytes))) programs) (λ answer. IsOkAnd answer P)
      → IfSome (option_map (result_map_both text_of (λ fault. fault)) (option_map (result_map_both (job_over block) program_refusal) programs)) (λ answer. IsOkAnd answer P)
  over_programs block workers bytes None h = tt
  over_programs block workers bytes (Some (Err fault)) h = absurd h
  over_programs block workers bytes (Some (Ok images)) h = by_schedule block images workers (parsed_schedule bytes) h

  of_block : (content : Contents) (block : Result BlockValue BlockFault) (workers : ℕ) (bytes : List ℕ)
      → IfSome (driven_answer content block workers (Some (parsed_schedule bytes))) (λ answer. IsOkAnd answer P) → IfSome (answer_of content block) (λ answer. IsOkAnd answer P)
  of_block content (Err fault) workers bytes h = h
  of_block content (Ok block) workers bytes h = over_programs block workers bytes (programs_of (programs_in content) block.programs) h

  of_file : (content : Contents) (input : Option (List ℕ)) (workers : ℕ) (bytes : List ℕ)
      → IfSome input (λ b. IfSome (driven_answer content (parsed_block b) workers (Some (parsed_schedule bytes))) (λ answer. IsOkAnd answer P))
      → IfSome input (λ b. IfSome (answer_of content (parsed_block b)) (λ answer. IsOkAnd answer P))
  of_file content None workers bytes h = tt
  of_file content (Some b) workers bytes h = of_block content (parsed_block b) workers bytes h

  at_schedule : (content : Contents) (input schedule : Option (List ℕ)) (workers : ℕ) → IsSome schedule
      → IfSome input (λ b. IfSome (driven_answer content (parsed_block b) workers (option_map parsed_schedule schedule)) (λ answer. IsOkAnd answer P))
      → IfSome input (λ b. IfSome (answer_of content (parsed_block b)) (λ answer. IsOkAnd answer P))
  at_schedule content input None workers known h = cc
  at_schedule content input (Some bytes) workers known h = of_file content input workers bytes h

pub drive_is_seq : (content : Contents) (typed old new : Option (List ℕ)) (file : Text) (workers : ℕ) (schedule : Text) (counts : Bool) → IsSome (content schedule)
    → Prints content typed old new (DriveOf file workers schedule counts) → Prints content typed old new (SeqOf file)
drive_is_seq content typed old new file workers schedule counts known h = at_schedule (Appends old new) content (content file) (content schedule) workers known h

-- ---- the same files have the same result

programs_same : (first second : Contents) (paths : List Text) → All (λ path. first path ≡ second path) paths → programs_of (programs_in first) paths ≡ programs_of (programs_in second) paths
programs_same first second [] h = refl
programs_same first second (path ∷ paths) h = ap₂ with_program (ap (option_map program_of_file) (All-head (λ p. first p ≡ second p) path paths h)) (programs_same first second paths (All-tail (λ p. first p ≡ second p) path paths h))

answer_same : (first second : Contents) (block : Result BlockValue BlockFault) → IfOk block (λ b. All (λ path. first path ≡ second path) b.programs) → answer_of first block ≡ answer_of second block
answer_same first second (Err fault) h = refl
answer_same first second (Ok block) h =
    ap (λ programs. option_map (result_map_both text_of (λ fault. fault)) (option_map (result_map_both (job_over block) program_refusal) programs)) (programs_same first second block.programs h)

at_input : (first second : Contents) (input : Option (List ℕ)) → IfSome input (λ b. IfOk (parsed_block b) (λ block. All (λ path. first path ≡ second path) block.programs))
    → option_and_then (λ b. answer_of first (parsed_block b)) input ≡ option_and_then (λ b. answer_of second (parsed_block b)) input
at_input first second None h = refl
at_input first second (Some b) h = answer_same first second (parsed_block b) h

pub result_same : (first second : Contents) (file : Text) → HaveSameFiles first second file → result_of first file ≡ result_of second file
result_same first second file same = at_input first second (first file) same.programs ∙ ap (λ input. option_and_then (λ b. answer_of second (parsed_block b)) input) same.block

-- ---- so what they print is one text

nested : {X Y : Type 0} (o : Option X) (f : X → Option Y) (P : Y → Type 0) → IfSome o (λ x. IfSome (f x) P) → IfSome (option_and_then f o) P
nested None f P h = tt
nested (Some x) f P h = h

-- what is printed at the end is the result
pub prints_result : (content : Contents) (typed old new : Option (List ℕ)) (file : Text) (asked : Asked) → IsOfResult content file asked → Prints content typed old new asked
    → IfSome (result_of content file) (λ answer. IsOkAnd answer (Appends old new))
prints_result content typed old new file (RunOf named workers counts) is h = nested (content file) (λ b. answer_of content (parsed_block b)) (λ answer. IsOkAnd answer (Appends old new)) (subst (λ f. PrintsResult content old new f) is h)
prints_result content typed old new file (SeqOf named) is h = nested (content file) (λ b. answer_of content (parsed_block b)) (λ answer. IsOkAnd answer (Appends old new)) (subst (λ f. PrintsResult content old new f) is h)
prints_result content typed old new file (DriveOf named workers schedule counts) is h =
    nested (content file) (λ b. answer_of content (parsed_block b)) (λ answer. IsOkAnd answer (Appends old new))
    (subst (λ f. PrintsResult content old new f) is.0 (drive_is_seq content typed old new named workers schedule counts is.1 h))
prints_result content typed old new file asked is h = absurd is

one_text : (answer : Option (Result (List ℕ) Refusal)) (one other : List ℕ) → IsSome answer → IfSome answer (λ a. IsOkAnd a (Appends (Some []) (Some one)))
    → IfSome answer (λ a. IsOkAnd a (Appends (Some []) (Some other))) → one ≡ other
one_text None one other known h k = cc
one_text (Some (Err fault)) one other known h k = absurd h
one_text (Some (Ok text)) one other known h k = h ∙ sym k

pub one_result : (first second : Contents) (typed lines : Option (List ℕ)) (one other : List ℕ) (file : Text) (asked wanted : Asked) → HaveSameFiles first second file → IsSome (result_of first file)
    → IsOfResult first file asked → IsOfResult second file wanted → Prints first typed (Some []) (Some one) asked → Prints second lines (Some []) (Some other) wanted → one ≡ other
one_result first second typed lines one other file asked wanted same known is also h k =
    one_text (result_of first file) one other known (prints_result first typed (Some []) (Some one) file asked is h)
    (subst (λ answer. IfSome answer (λ a. IsOkAnd a (Appends (Some []) (Some other)))) (sym (result_same first second file same)) (prints_result second lines (Some []) (Some other) file wanted also k))
