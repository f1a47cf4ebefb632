-- Command lines as they are typed.
use Rattle.std.specs.Prelude.{Bool, true, false, ◌&&◌, ◌||◌, List, [], ◌∷◌, ◌++◌, Option, Some, None, codes, is_some, option_map}
use Rattle.std.specs.Option.{option_map_or}
use Rattle.clap.specs.Words.{Text}
use Rattle.cmdline.specs.Line.{AsmOf, Asked, ChainOf, ConflictsOf, DebugOf, DisOf, DriveOf, MigrateOf, RunOf, SeqOf, is_call_number, is_operand, is_setting_number, is_store_file, is_worker_number, word_number}

-- a line: FILE and the values of the options are the words that are typed, and a `Bool` says whether an option that
-- has no value is there
pub data TypedLine : Type 0 where
  RunLine : (file workers : Text) (counts : Bool) → TypedLine
  SeqLine : (file : Text) → TypedLine
  ConflictsLine : (file : Text) → TypedLine
  DriveLine : (file workers schedule : Text) (counts : Bool) → TypedLine
  AsmLine : (file out : Text) → TypedLine
  DisLine : (file : Text) → TypedLine
  DebugLine : (file call : Text) (more : Bool) → TypedLine
  MigrateLine : (file out : Text) → TypedLine
  ChainLine : (workers frame_limit frame_gas : Option Text) (digest brief : Bool) (store : Option Text) → TypedLine

-- the words of an option that has a value
abbrev pub valued : Text → Option Text → List Text
valued option None = []
valued option (Some value) = option ∷ value ∷ []

-- the word of an option that has none
abbrev pub flagged : Text → Bool → List Text
flagged option false = []
flagged option true = option ∷ []

-- the words of a line after the program's name: the command, FILE, and the options in the order of `rvstm help COMMAND`
abbrev pub typed_words : TypedLine → List Text
typed_words (RunLine file workers counts) = codes "run" ∷ file ∷ codes "--workers" ∷ workers ∷ flagged (codes "--counts") counts
typed_words (SeqLine file) = codes "seq" ∷ file ∷ []
typed_words (ConflictsLine file) = codes "conflicts" ∷ file ∷ []
typed_words (DriveLine file workers schedule counts) = codes "drive" ∷ file ∷ codes "--workers" ∷ workers ∷ codes "--schedule" ∷ schedule ∷ flagged (codes "--counts") counts
typed_words (AsmLine file out) = codes "asm" ∷ file ∷ codes "--out" ∷ out ∷ []
typed_words (DisLine file) = codes "dis" ∷ file ∷ []
typed_words (DebugLine file call more) = codes "debug" ∷ file ∷ codes "--call" ∷ call ∷ flagged (codes "--more") more
typed_words (MigrateLine file out) = codes "migrate" ∷ file ∷ codes "--out" ∷ out ∷ []
typed_words (ChainLine workers frame_limit frame_gas digest brief store) = codes "chain"
    ∷ valued (codes "--workers") workers ++ valued (codes "--frame-limit") frame_limit ++ valued (codes "--frame-gas") frame_gas
    ++ flagged (codes "--digest") digest ++ flagged (codes "--brief") brief ++ valued (codes "--store") store

-- each word is one that its place takes
abbrev pub has_right_words : TypedLine → Bool
has_right_words (RunLine file workers counts) = is_operand file && is_worker_number workers
has_right_words (SeqLine file) = is_operand file
has_right_words (ConflictsLine file) = is_operand file
has_right_words (DriveLine file workers schedule counts) = is_operand file && is_worker_number workers && is_operand schedule
has_right_words (AsmLine file out) = is_operand file && is_operand out
has_right_words (DisLine file) = is_operand file
has_right_words (DebugLine file call more) = is_operand file && is_call_number call
has_right_words (MigrateLine file out) = is_operand file && is_operand out
has_right_words (ChainLine workers frame_limit frame_gas digest brief store) =
    option_map_or is_worker_number workers true && option_map_or is_setting_number frame_limit true
    && option_map_or is_setting_number frame_gas true && option_map_or is_store_file store true

-- what a line asks for; with `--store` a session keeps a digest
abbrev pub asked_by_line : TypedLine → Asked
asked_by_line (RunLine file workers counts) = RunOf file (word_number workers) counts
asked_by_line (SeqLine file) = SeqOf file
asked_by_line (ConflictsLine file) = ConflictsOf file
asked_by_line (DriveLine file workers schedule counts) = DriveOf file (word_number workers) schedule counts
asked_by_line (AsmLine file out) = AsmOf file out
asked_by_line (DisLine file) = DisOf file
asked_by_line (DebugLine file call more) = DebugOf file (word_number call) more
asked_by_line (MigrateLine file out) = MigrateOf file out
asked_by_line (ChainLine workers frame_limit frame_gas digest brief store) =
    ChainOf (option_map word_number workers) (option_map word_number frame_limit) (option_map word_number frame_gas)
    (digest || is_some store) brief store
