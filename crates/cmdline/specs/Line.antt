-- The command line of `rvstm`, in clap's words.
use Rattle.std.specs.Prelude.{◌≡◌, ℕ, Bool, true, false, not, ◌&&◌, ◌||◌, ◌==◌, List, [], ◌∷◌, Option, Some, None, Result}
use Rattle.std.specs.Prelude.{MatchResult, codes, length, nat_lt, is_some, option_and_then, option_map, if◌then◌else◌}
use Rattle.std.specs.Option.{option_map_or}
use Rattle.std.specs.Str.{bytes_eq}
use Rattle.std.specs.Str.Parse.{digits_value, without_leading_plus}
use Rattle.clap.specs.Words.{App, Row, Rule, Text, first_of, new_app, new_rule, one_of}
use Rattle.clap.specs.Words.{kind_of, subcommand_of, with_rule, with_subcommand}
use Rattle.clap.specs.ValueTests.{is_unsigned_in}
use Rattle.clap.specs.declared.builder.ArgAction.TheVariants as action
use Rattle.clap.specs.declared.builder.value_parser.ValueParser.TheVariants as parser
use Rattle.clap.specs.declared.error.Error.{Error}
use Rattle.clap.specs.declared.error.ErrorKind.TheVariants as kind
use Rattle.cmdline.specs.declared.Request.{Request}
use Rattle.cmdline.specs.declared.Request.TheVariants.{Run, Seq, Conflicts, Drive, Asm, Dis, Debug, Migrate, Chain}

-- the argument FILE: one required word
abbrev pub file_rule : Rule
file_rule = record (new_rule (codes "file")) {
  action = Some action.Set;
  value_names = 1;
  required = true;
}

-- the largest number of workers
abbrev pub max_workers : ℕ
max_workers = 32

-- the largest number of a call, the first being 0
abbrev pub last_call : ℕ
last_call = 1023

-- the option `--workers N`: it is required, and N is a whole number of 1 to `max_workers`
abbrev pub workers_rule : Rule
workers_rule = record (new_rule (codes "workers")) {
  long = Some (codes "workers");
  action = Some action.Set;
  value_names = 1;
  parser = Some (parser.Unsigned 1 max_workers);
  required = true;
}

-- the option `--call N`: it is required, and N is a whole number of 0 to `last_call`
abbrev pub call_rule : Rule
call_rule = record (new_rule (codes "call")) {
  long = Some (codes "call");
  action = Some action.Set;
  value_names = 1;
  parser = Some (parser.Unsigned 0 last_call);
  required = true;
}

-- the option `--counts`, a word that may be given or not
abbrev pub counts_rule : Rule
counts_rule = record (new_rule (codes "counts")) { long = Some (codes "counts"); action = Some action.SetTrue }

-- `run FILE --workers N`, with `--counts` if it is given
abbrev pub run_app : App
run_app = with_rule (with_rule (with_rule (new_app (codes "run")) file_rule) workers_rule) counts_rule

-- `seq FILE`
abbrev pub seq_app : App
seq_app = with_rule (new_app (codes "seq")) file_rule

-- `conflicts FILE`
abbrev pub conflicts_app : App
conflicts_app = with_rule (new_app (codes "conflicts")) file_rule

-- the option `--schedule FILE`: it is required
abbrev pub schedule_rule : Rule
schedule_rule = record (new_rule (codes "schedule")) {
  long = Some (codes "schedule");
  action = Some action.Set;
  value_names = 1;
  required = true;
}

-- `drive FILE --workers N --schedule FILE`, with `--counts` if it is given
abbrev pub drive_app : App
drive_app = with_rule (with_rule (with_rule (with_rule (new_app (codes "drive")) file_rule) workers_rule) schedule_rule) counts_rule

-- the option `--out FILE`: it is required
abbrev pub out_rule : Rule
out_rule = record (new_rule (codes "out")) {
  long = Some (codes "out");
  action = Some action.Set;
  value_names = 1;
  required = true;
}

-- `NAME FILE --out FILE`
abbrev pub written_app : Text → App
written_app name = with_rule (with_rule (new_app name) file_rule) out_rule

-- `asm FILE --out FILE`
abbrev pub asm_app : App
asm_app = written_app (codes "asm")

-- `dis FILE`
abbrev pub dis_app : App
dis_app = with_rule (new_app (codes "dis")) file_rule

-- the option `--more`, a word that may be given or not
abbrev pub more_rule : Rule
more_rule = record (new_rule (codes "more")) { long = Some (codes "more"); action = Some action.SetTrue }

-- `debug FILE --call N`, with `--more` if it is given
abbrev pub debug_app : App
debug_app = with_rule (with_rule (with_rule (new_app (codes "debug")) file_rule) call_rule) more_rule

-- `migrate FILE --out FILE`
abbrev pub migrate_app : App
migrate_app = written_app (codes "migrate")

-- the largest number of a setting of `chain`
abbrev pub most_setting : ℕ
most_setting = 9999999999

-- the option `--frame-limit BYTES`, which may be given or not: BYTES is a whole number of 0 to `most_setting`
abbrev pub frame_limit_rule : Rule
frame_limit_rule = record (new_rule (codes "frame-limit")) {
  long = Some (codes "frame-limit");
  action = Some action.Set;
  value_names = 1;
  parser = Some (parser.Unsigned 0 most_setting);
}

-- the option `--frame-gas N`, which may be given or not: N is a whole number of 0 to `most_setting`
abbrev pub frame_gas_rule : Rule
frame_gas_rule = record (new_rule (codes "frame-gas")) {
  long = Some (codes "frame-gas");
  action = Some action.Set;
  value_names = 1;
  parser = Some (parser.Unsigned 0 most_setting);
}

-- the option `--digest`, a word that may be given or not
abbrev pub digest_rule : Rule
digest_rule = record (new_rule (codes "digest")) { long = Some (codes "digest"); action = Some action.SetTrue }

-- the option `--brief`, a word that may be given or not
abbrev pub brief_rule : Rule
brief_rule = record (new_rule (codes "brief")) { long = Some (codes "brief"); action = Some action.SetTrue }

-- the option `--store FILE`, which may be given or not: FILE is not empty
abbrev pub store_rule : Rule
store_rule = record (new_rule (codes "store")) {
  long = Some (codes "store");
  action = Some action.Set;
  value_names = 1;
  parser = Some parser.NonEmptyString;
}

-- `chain`, with `--workers N`, the settings of a session and `--store FILE`, each of which may be given or not
abbrev pub chain_app : App
chain_app = with_rule (with_rule (with_rule (with_rule (with_rule (with_rule (new_app (codes "chain"))
    (record workers_rule { required = false })) frame_limit_rule) frame_gas_rule) digest_rule) brief_rule) store_rule

-- `rvstm`, which has a version and requires a subcommand
abbrev pub top_app : App
top_app = record (new_app (codes "rvstm")) {
  top = record (new_app (codes "rvstm")).top { has_version = true; subcommand_required = true };
}

-- the whole command line
abbrev pub rvstm_app : App
rvstm_app =
    with_subcommand (with_subcommand (with_subcommand (with_subcommand (with_subcommand (with_subcommand (with_subcommand (with_subcommand (with_subcommand top_app run_app.top)
    seq_app.top) conflicts_app.top) drive_app.top) asm_app.top) dis_app.top) debug_app.top) migrate_app.top) chain_app.top

-- a request with its words as texts
pub data Asked : Type 0 where
  RunOf : Text → ℕ → Bool → Asked
  SeqOf : Text → Asked
  ConflictsOf : Text → Asked
  DriveOf : Text → ℕ → Text → Bool → Asked
  AsmOf : Text → Text → Asked
  DisOf : Text → Asked
  DebugOf : Text → ℕ → Bool → Asked
  MigrateOf : Text → Text → Asked
  ChainOf : Option ℕ → Option ℕ → Option ℕ → Bool → Bool → Option Text → Asked

abbrev pub asked_by_request : Request → Asked
asked_by_request (Run file workers counts) = RunOf file.now workers counts
asked_by_request (Seq file) = SeqOf file.now
asked_by_request (Conflicts file) = ConflictsOf file.now
asked_by_request (Drive file workers schedule counts) = DriveOf file.now workers schedule.now counts
asked_by_request (Asm file out) = AsmOf file.now out.now
asked_by_request (Dis file) = DisOf file.now
asked_by_request (Debug file call more) = DebugOf file.now call more
asked_by_request (Migrate file out) = MigrateOf file.now out.now
asked_by_request (Chain workers limit gas digest brief store) = ChainOf workers limit gas digest brief (option_map (λ file. file.now) store)

-- the number that a word gives
abbrev pub word_number : Text → ℕ
word_number word = digits_value 10 (without_leading_plus word)

-- the number that a word gives, if it is one of at most 64 bits
unfoldable pub number_of : Text → Option ℕ
number_of word = if is_unsigned_in 0 0xffff_ffff_ffff_ffff word then Some (word_number word) else None

-- the number of an option, from what clap found
abbrev pub number_at : Text → List Row → Option ℕ
number_at option rows = option_and_then number_of (one_of option rows)

-- whether a word such as `--counts` is on the line: clap then has the text `true` for it
abbrev pub flag_at : Text → List Row → Bool
flag_at flag rows = option_map_or (λ text. bytes_eq text (codes "true")) (first_of flag rows) false

-- what FILE and the number of an option ask for, from what clap found
abbrev pub numbered_of : (Text → ℕ → Asked) → Text → List Row → Option Asked
numbered_of ask option rows = option_and_then (λ file. option_map (ask file) (number_at option rows)) (first_of (codes "file") rows)

-- what `run` asks for, from what clap found
abbrev pub run_of : List Row → Option Asked
run_of rows = numbered_of (λ file workers. RunOf file workers (flag_at (codes "counts") rows)) (codes "workers") rows

-- what `debug` asks for, from what clap found
abbrev pub debug_of : List Row → Option Asked
debug_of rows = numbered_of (λ file call. DebugOf file call (flag_at (codes "more") rows)) (codes "call") rows

-- what `drive` asks for, from what clap found
abbrev pub drive_asked : List Row → Option Asked
drive_asked rows = option_and_then (λ file. option_and_then (λ workers. option_map (λ schedule. DriveOf file workers schedule (flag_at (codes "counts") rows))
    (first_of (codes "schedule") rows)) (number_at (codes "workers") rows)) (first_of (codes "file") rows)

-- what FILE and the FILE of `--out` ask for, from what clap found
abbrev pub written_of : (Text → Text → Asked) → List Row → Option Asked
written_of ask rows = option_and_then (λ file. option_map (ask file) (first_of (codes "out") rows)) (first_of (codes "file") rows)

-- a word that clap takes for a number is a decimal: it has no sign, and no zero before another digit
abbrev pub is_decimal : Text → Bool
is_decimal [] = false
is_decimal (x ∷ []) = true
is_decimal (x ∷ y ∷ rest) = not (x == 43 || x == 48)

-- the word of an option, if it is there, is a decimal
abbrev pub is_decimal_at : Text → List Row → Bool
is_decimal_at option rows = option_map_or is_decimal (first_of option rows) true

-- a session of `chain` keeps a digest if `--digest` or `--store FILE` is given
abbrev pub keeps_digest : List Row → Bool
keeps_digest rows = flag_at (codes "digest") rows || is_some (first_of (codes "store") rows)

-- what `chain` asks for, from what clap found; nothing if a number of a setting is no decimal
abbrev pub chain_of : List Row → Option Asked
chain_of rows = if is_decimal_at (codes "frame-limit") rows && is_decimal_at (codes "frame-gas") rows
    then Some (ChainOf (number_at (codes "workers") rows) (number_at (codes "frame-limit") rows) (number_at (codes "frame-gas") rows)
    (keeps_digest rows) (flag_at (codes "brief") rows) (first_of (codes "store") rows))
    else None

-- what a subcommand asks for, from its name and what clap found for its arguments
abbrev pub asked_in : Text × List Row → Option Asked
asked_in found = if bytes_eq found.0 (codes "run")
    then run_of found.1
    else if bytes_eq found.0 (codes "seq")
    then option_map SeqOf (first_of (codes "file") found.1)
    else if bytes_eq found.0 (codes "conflicts")
    then option_map ConflictsOf (first_of (codes "file") found.1)
    else if bytes_eq found.0 (codes "drive")
    then drive_asked found.1
    else if bytes_eq found.0 (codes "asm")
    then written_of AsmOf found.1
    else if bytes_eq found.0 (codes "dis")
    then option_map DisOf (first_of (codes "file") found.1)
    else if bytes_eq found.0 (codes "debug")
    then debug_of found.1
    else if bytes_eq found.0 (codes "migrate")
    then written_of MigrateOf found.1
    else if bytes_eq found.0 (codes "chain")
    then chain_of found.1
    else None

-- what a whole line, with the program's name first, asks for, if clap accepts it
abbrev pub requested : List Text → Option Asked
requested words = option_and_then asked_in (subcommand_of rvstm_app words)

-- the word does not begin with a hyphen
abbrev pub is_operand : Text → Bool
is_operand [] = true
is_operand (x ∷ rest) = not (x == 45)

-- the word is not empty, and does not begin with a hyphen
abbrev pub is_store_file : Text → Bool
is_store_file word = nat_lt 0 (length word) && is_operand word

-- the word gives a whole number of 1 to `max_workers`
abbrev pub is_worker_number : Text → Bool
is_worker_number word = is_unsigned_in 1 max_workers word

-- the word gives a whole number of 0 to `last_call`
abbrev pub is_call_number : Text → Bool
is_call_number word = is_unsigned_in 0 last_call word

-- the word is a decimal of 0 to `most_setting`
abbrev pub is_setting_number : Text → Bool
is_setting_number word = is_unsigned_in 0 most_setting word && is_decimal word

-- the answer is this request, or memory ran out
abbrev pub AnswersUnlessMemory : Result (Option Request) Error → Asked → Type 0
AnswersUnlessMemory r a =
    MatchResult r (λ found. option_map asked_by_request found ≡ Some a) (λ e. kind_of e ≡ kind.OutOfMemory)
