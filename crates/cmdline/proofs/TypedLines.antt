-- Each line with right words is taken, and asks for what it says.
use Rattle.std.proofs.Common.{◌≡◌, ◌&&◌, ◌∙◌, ℕ, Bool, true, false, List, [], ◌∷◌, Option, Some, None, ap, codes, length, nat_lt, option_map, refl}
use Rattle.std.specs.List.{list_all}
use Rattle.std.specs.Option.{option_map_or, option_or}
use Rattle.std.proofs.lemmas.Bool.{and_from, and_parts}
use Rattle.clap.specs.Simple.{Shape, built_leaf, inherited, new_app, with_rule}
use Rattle.clap.specs.Takes.{takes}
use Rattle.clap.specs.ValueTests.{is_unsigned_in}
use Rattle.clap.specs.Walk.{Row, Text, first_of, nothing_held, rows_after, walk_from}
use Rattle.clap.specs.declared.builder.value_parser.Reading.TheVariants as reading
use Rattle.clap.specs.declared.parser.matches.ValueSource.TheVariants as source
use Rattle.clap.proofs.OnLiterals.{clap_on_literals}
use Rattle.cmdline.specs.Line.{AsmOf, Asked, ConflictsOf, DisOf, MigrateOf, SeqOf, asked_in, file_rule, flag_at, is_call_number, is_decimal, is_decimal_at, is_operand, is_setting_number, is_store_file, is_worker_number, last_call, max_workers, most_setting, number_at, word_number, requested, rvstm_app, top_app, written_app, written_of}
use Rattle.cmdline.specs.Typed.{AsmLine, ChainLine, ConflictsLine, DebugLine, DisLine, DriveLine, MigrateLine, RunLine, SeqLine, TypedLine, asked_by_line, has_right_words, typed_words}
use Rattle.cmdline.proofs.Lines.{IsSubcommand, line_asks, line_is_taken, shape_at}
use Rattle.cmdline.proofs.Numbers.{is_no_flag, number_is_read}
use Rattle.cmdline.proofs.Rows.{Kept, Looks, given, kept_or_defaults, row_at, row_of_use}
use Rattle.cmdline.proofs.Steps.{IsFlag, IsOption, Needs, Reaches, TakesFile, by_file, by_flag, by_option, go_on, is_given_row, line_passes, rows_look, said, start_holds}

-- ---- what is read of the rows

module _ (rows : List Row) (id : Text) where
  text_is : (word : Option Text) → row_at id rows ≡ option_map (given id) word → first_of id rows ≡ word
  text_is None found = rw found refl
  text_is (Some word) found = rw found refl

  number_is : (low high : ℕ) (word : Option Text) → option_map_or (is_unsigned_in low high) word true ≡ true → row_at id rows ≡ option_map (given id) word
      → number_at id rows ≡ option_map word_number word
  number_is low high None right found = rw found refl
  number_is low high (Some word) right found = rw found (number_is_read low high word right)

  decimal_is : (word : Option Text) → option_map_or is_decimal word true ≡ true → row_at id rows ≡ option_map (given id) word → is_decimal_at id rows ≡ true
  decimal_is None right found = rw found refl
  decimal_is (Some word) right found = rw found right

  flag_is : (b : Bool) → row_at id rows ≡ option_or (said id b) (Some (row_of_use id reading.AsWritten source.DefaultValue (codes "false" ∷ []))) → flag_at id rows ≡ b
  flag_is false found = rw found refl
  flag_is true found = rw found refl

-- ---- which words are right

number_right : (low high : ℕ) (word : Option Text) → option_map_or (is_unsigned_in low high) word true ≡ true
    → option_map_or (λ typed. is_operand typed && is_unsigned_in low high typed) word true ≡ true
number_right low high None right = refl
number_right low high (Some word) right = and_from _ _ (is_no_flag low high word right) right

setting_right : (word : Option Text) → option_map_or is_setting_number word true ≡ true
    → (option_map_or (is_unsigned_in 0 most_setting) word true ≡ true) × (option_map_or is_decimal word true ≡ true)
setting_right None right = (refl, refl)
setting_right (Some word) right = and_parts (is_unsigned_in 0 most_setting word) (is_decimal word) right

store_right : (word : Option Text) → option_map_or is_store_file word true ≡ true → option_map_or (λ typed. is_operand typed && nat_lt 0 (length typed)) word true ≡ true
store_right None right = refl
store_right (Some word) right =
    let parts = and_parts (nat_lt 0 (length word)) (is_operand word) right in
    and_from _ _ parts.1 parts.0

-- ---- a line

-- clap takes the line, and it asks for this
pub record Accepts (line : List Text) (what : Asked) : Type 0 where
  pub taken : (program : Text) → takes rvstm_app (program ∷ line) ≡ true
  pub asks : (program : Text) → requested (program ∷ line) ≡ Some what

accepts : {name : Text} {s : Shape} {needed words : List Text} {kept : Kept} (what : Asked) → IsSubcommand name s → Needs s needed → Reaches s (walk_from nothing_held) words kept
    → list_all (λ id. is_given_row (kept_or_defaults s.rules kept id)) needed ≡ true
    → ((rows : List Row) → Looks rows (kept_or_defaults s.rules kept) → asked_in (s.name, rows) ≡ Some what) → Accepts (name ∷ words) what
accepts {s = s} {needed = needed} {words = words} what named needs reaches all_given asked = record {
  taken = λ program. line_is_taken named words program (line_passes reaches needed needs all_given);
  asks = λ program. line_asks named words program ∙ asked (rows_after s.rules [] words) (rows_look reaches);
}

-- a line with right words is accepted for what it asks
abbrev pub IsAccepted : TypedLine → Type 0
IsAccepted line = has_right_words line ≡ true → Accepts (typed_words line) (asked_by_line line)

-- ---- `run`

abbrev run_shape : Shape
run_shape = shape_at 0

run_reads : IsSubcommand (codes "run") run_shape
    × Needs run_shape (codes "file" ∷ codes "workers" ∷ [])
    × TakesFile run_shape
    × IsOption run_shape (codes "workers") is_worker_number
    × IsFlag run_shape (codes "counts")
unfolding clap_on_literals
run_reads = (
  record { stops = refl; passes = refl; enters = refl },
  record { defaults = refl; valid = λ rows. refl },
  record { goes = λ file. refl; passes = refl; settles = λ file. refl; is_used = λ file. refl },
  record { goes = λ h position. refl; passes = λ h position. refl; takes = λ rows skip word. refl; settles = λ rows word. refl; is_used = λ rows skip word. refl },
  record { goes = λ h position. refl; passes = λ h position. refl },
)

run_accepts : (file workers : Text) (counts : Bool) → IsAccepted (RunLine file workers counts)
run_accepts file workers counts right =
    let parts = and_parts (is_operand file) (is_worker_number workers) right in
    accepts _ run_reads.0 run_reads.1
    (go_on (go_on (by_file run_reads.2 file parts.0)
    (λ h position holds. by_option run_reads.3 position holds refl (Some workers) (number_right 1 max_workers (Some workers) parts.1)))
    (λ h position holds. by_flag run_reads.4 position holds refl counts))
    refl
    (λ rows looks.
    let file_is = text_is rows (codes "file") (Some file) (looks (codes "file")) in
    let workers_is = number_is rows (codes "workers") 1 max_workers (Some workers) parts.1 (looks (codes "workers")) in
    let counts_is = flag_is rows (codes "counts") counts (looks (codes "counts")) in
    rw (file_is, workers_is, counts_is) refl)

-- ---- `seq`, `conflicts` and `dis`

abbrev file_shape : Text → Shape
file_shape name = built_leaf (inherited top_app.top (with_rule (new_app name) file_rule).top)

file_reads : (name : Text) → Needs (file_shape name) (codes "file" ∷ []) × TakesFile (file_shape name)
unfolding clap_on_literals
file_reads name = (record { defaults = refl; valid = λ rows. refl }, record { goes = λ file. refl; passes = refl; settles = λ file. refl; is_used = λ file. refl })

file_accepts : (name file : Text) (ask : Text → Asked) → IsSubcommand name (file_shape name) → ((rows : List Row) → asked_in (name, rows) ≡ option_map ask (first_of (codes "file") rows))
    → is_operand file ≡ true → Accepts (name ∷ file ∷ []) (ask file)
file_accepts name file ask named asks right =
    accepts _ named (file_reads name).0 (by_file (file_reads name).1 file right) refl
    (λ rows looks. asks rows ∙ ap (option_map ask) (text_is rows (codes "file") (Some file) (looks (codes "file"))))

is_seq : IsSubcommand (codes "seq") (file_shape (codes "seq"))
unfolding clap_on_literals
is_seq = record { stops = refl; passes = refl; enters = refl }

is_conflicts : IsSubcommand (codes "conflicts") (file_shape (codes "conflicts"))
unfolding clap_on_literals
is_conflicts = record { stops = refl; passes = refl; enters = refl }

is_dis : IsSubcommand (codes "dis") (file_shape (codes "dis"))
unfolding clap_on_literals
is_dis = record { stops = refl; passes = refl; enters = refl }

-- ---- `drive`

abbrev drive_shape : Shape
drive_shape = shape_at 3

drive_reads : IsSubcommand (codes "drive") drive_shape
    × Needs drive_shape (codes "file" ∷ codes "workers" ∷ codes "schedule" ∷ [])
    × TakesFile drive_shape
    × IsOption drive_shape (codes "workers") is_worker_number
    × IsOption drive_shape (codes "schedule") (λ word. true)
    × IsFlag drive_shape (codes "counts")
unfolding clap_on_literals
drive_reads = (
  record { stops = refl; passes = refl; enters = refl },
  record { defaults = refl; valid = λ rows. refl },
  record { goes = λ file. refl; passes = refl; settles = λ file. refl; is_used = λ file. refl },
  record { goes = λ h position. refl; passes = λ h position. refl; takes = λ rows skip word. refl; settles = λ rows word. refl; is_used = λ rows skip word. refl },
  record { goes = λ h position. refl; passes = λ h position. refl; takes = λ rows skip word. refl; settles = λ rows word. refl; is_used = λ rows skip word. refl },
  record { goes = λ h position. refl; passes = λ h position. refl },
)

drive_accepts : (file workers schedule : Text) (counts : Bool) → IsAccepted (DriveLine file workers schedule counts)
drive_accepts file workers schedule counts right =
    let parts = and_parts (is_operand file && is_worker_number workers) (is_operand schedule) right in
    let first = and_parts (is_operand file) (is_worker_number workers) parts.0 in
    accepts _ drive_reads.0 drive_reads.1
    (go_on (go_on (go_on (by_file drive_reads.2 file first.0)
    (λ h position holds. by_option drive_reads.3 position holds refl (Some workers) (number_right 1 max_workers (Some workers) first.1)))
    (λ h position holds. by_option drive_reads.4 position holds refl (Some schedule) (and_from _ _ parts.1 refl)))
    (λ h position holds. by_flag drive_reads.5 position holds refl counts))
    refl
    (λ rows looks.
    let file_is = text_is rows (codes "file") (Some file) (looks (codes "file")) in
    let workers_is = number_is rows (codes "workers") 1 max_workers (Some workers) first.1 (looks (codes "workers")) in
    let schedule_is = text_is rows (codes "schedule") (Some schedule) (looks (codes "schedule")) in
    let counts_is = flag_is rows (codes "counts") counts (looks (codes "counts")) in
    rw (file_is, workers_is, schedule_is, counts_is) refl)

-- ---- `debug`

abbrev debug_shape : Shape
debug_shape = shape_at 6

debug_reads : IsSubcommand (codes "debug") debug_shape
    × Needs debug_shape (codes "file" ∷ codes "call" ∷ [])
    × TakesFile debug_shape
    × IsOption debug_shape (codes "call") is_call_number
    × IsFlag debug_shape (codes "more")
unfolding clap_on_literals
debug_reads = (
  record { stops = refl; passes = refl; enters = refl },
  record { defaults = refl; valid = λ rows. refl },
  record { goes = λ file. refl; passes = refl; settles = λ file. refl; is_used = λ file. refl },
  record { goes = λ h position. refl; passes = λ h position. refl; takes = λ rows skip word. refl; settles = λ rows word. refl; is_used = λ rows skip word. refl },
  record { goes = λ h position. refl; passes = λ h position. refl },
)

debug_accepts : (file call : Text) (more : Bool) → IsAccepted (DebugLine file call more)
debug_accepts file call more right =
    let parts = and_parts (is_operand file) (is_call_number call) right in
    accepts _ debug_reads.0 debug_reads.1
    (go_on (go_on (by_file debug_reads.2 file parts.0)
    (λ h position holds. by_option debug_reads.3 position holds refl (Some call) (number_right 0 last_call (Some call) parts.1)))
    (λ h position holds. by_flag debug_reads.4 position holds refl more))
    refl
    (λ rows looks.
    let file_is = text_is rows (codes "file") (Some file) (looks (codes "file")) in
    let call_is = number_is rows (codes "call") 0 last_call (Some call) parts.1 (looks (codes "call")) in
    let more_is = flag_is rows (codes "more") more (looks (codes "more")) in
    rw (file_is, call_is, more_is) refl)

-- ---- `asm` and `migrate`

abbrev written_shape : Text → Shape
written_shape name = built_leaf (inherited top_app.top (written_app name).top)

written_reads : (name : Text) → Needs (written_shape name) (codes "file" ∷ codes "out" ∷ []) × TakesFile (written_shape name) × IsOption (written_shape name) (codes "out") (λ word. true)
unfolding clap_on_literals
written_reads name = (
  record { defaults = refl; valid = λ rows. refl },
  record { goes = λ file. refl; passes = refl; settles = λ file. refl; is_used = λ file. refl },
  record { goes = λ h position. refl; passes = λ h position. refl; takes = λ rows skip word. refl; settles = λ rows word. refl; is_used = λ rows skip word. refl },
)

written_accepts : (name file out : Text) (ask : Text → Text → Asked) → IsSubcommand name (written_shape name) → ((rows : List Row) → asked_in (name, rows) ≡ written_of ask rows)
    → (is_operand file && is_operand out) ≡ true → Accepts (name ∷ file ∷ codes "--out" ∷ out ∷ []) (ask file out)
written_accepts name file out ask named asks right =
    let parts = and_parts (is_operand file) (is_operand out) right in
    accepts _ named (written_reads name).0
    (go_on (by_file (written_reads name).1 file parts.0)
    (λ h position holds. by_option (written_reads name).2 position holds refl (Some out) (and_from _ _ parts.1 refl)))
    refl
    (λ rows looks.
    let file_is = text_is rows (codes "file") (Some file) (looks (codes "file")) in
    let out_is = text_is rows (codes "out") (Some out) (looks (codes "out")) in
    asks rows ∙ (rw (file_is, out_is) refl))

is_asm : IsSubcommand (codes "asm") (written_shape (codes "asm"))
unfolding clap_on_literals
is_asm = record { stops = refl; passes = refl; enters = refl }

is_migrate : IsSubcommand (codes "migrate") (written_shape (codes "migrate"))
unfolding clap_on_literals
is_migrate = record { stops = refl; passes = refl; enters = refl }

-- ---- `chain`

abbrev chain_shape : Shape
chain_shape = shape_at 8

chain_reads : IsSubcommand (codes "chain") chain_shape
    × Needs chain_shape []
    × IsOption chain_shape (codes "workers") is_worker_number
    × IsOption chain_shape (codes "frame-limit") (is_unsigned_in 0 most_setting)
    × IsOption chain_shape (codes "frame-gas") (is_unsigned_in 0 most_setting)
    × IsFlag chain_shape (codes "digest")
    × IsFlag chain_shape (codes "brief")
    × IsOption chain_shape (codes "store") (λ word. nat_lt 0 (length word))
unfolding clap_on_literals
chain_reads = (
  record { stops = refl; passes = refl; enters = refl },
  record { defaults = refl; valid = λ rows. refl },
  record { goes = λ h position. refl; passes = λ h position. refl; takes = λ rows skip word. refl; settles = λ rows word. refl; is_used = λ rows skip word. refl },
  record { goes = λ h position. refl; passes = λ h position. refl; takes = λ rows skip word. refl; settles = λ rows word. refl; is_used = λ rows skip word. refl },
  record { goes = λ h position. refl; passes = λ h position. refl; takes = λ rows skip word. refl; settles = λ rows word. refl; is_used = λ rows skip word. refl },
  record { goes = λ h position. refl; passes = λ h position. refl },
  record { goes = λ h position. refl; passes = λ h position. refl },
  record { goes = λ h position. refl; passes = λ h position. refl; takes = λ rows skip word. refl; settles = λ rows word. refl; is_used = λ rows skip word. refl },
)

chain_accepts : (workers limit gas : Option Text) (digest brief : Bool) (store : Option Text) → IsAccepted (ChainLine workers limit gas digest brief store)
chain_accepts workers limit gas digest brief store right =
    let workers_are = option_map_or is_worker_number workers true in
    let limit_is = option_map_or is_setting_number limit true in
    let gas_is = option_map_or is_setting_number gas true in
    let parts = and_parts ((workers_are && limit_is) && gas_is) (option_map_or is_store_file store true) right in
    let numbers = and_parts (workers_are && limit_is) gas_is parts.0 in
    let first = and_parts workers_are limit_is numbers.0 in
    let limit_right = setting_right limit first.1 in
    let gas_right = setting_right gas numbers.1 in
    accepts _ chain_reads.0 chain_reads.1
    (go_on (go_on (go_on (go_on (go_on
    (by_option chain_reads.2 1 (start_holds chain_shape) refl workers (number_right 1 max_workers workers first.0))
    (λ h position holds. by_option chain_reads.3 position holds refl limit (number_right 0 most_setting limit limit_right.0)))
    (λ h position holds. by_option chain_reads.4 position holds refl gas (number_right 0 most_setting gas gas_right.0)))
    (λ h position holds. by_flag chain_reads.5 position holds refl digest))
    (λ h position holds. by_flag chain_reads.6 position holds refl brief))
    (λ h position holds. by_option chain_reads.7 position holds refl store (store_right store parts.1)))
    refl
    (λ rows looks.
    let workers_read = number_is rows (codes "workers") 1 max_workers workers first.0 (looks (codes "workers")) in
    let limit_read = number_is rows (codes "frame-limit") 0 most_setting limit limit_right.0 (looks (codes "frame-limit")) in
    let limit_decimal = decimal_is rows (codes "frame-limit") limit limit_right.1 (looks (codes "frame-limit")) in
    let gas_read = number_is rows (codes "frame-gas") 0 most_setting gas gas_right.0 (looks (codes "frame-gas")) in
    let gas_decimal = decimal_is rows (codes "frame-gas") gas gas_right.1 (looks (codes "frame-gas")) in
    let digest_read = flag_is rows (codes "digest") digest (looks (codes "digest")) in
    let brief_read = flag_is rows (codes "brief") brief (looks (codes "brief")) in
    let store_read = text_is rows (codes "store") store (looks (codes "store")) in
    rw (limit_decimal, gas_decimal, workers_read, limit_read, gas_read, digest_read, brief_read, store_read) refl)

-- ---- all lines

pub each_is_accepted : (line : TypedLine) → IsAccepted line
each_is_accepted (RunLine file workers counts) = run_accepts file workers counts
each_is_accepted (SeqLine file) = file_accepts (codes "seq") file SeqOf is_seq (λ rows. refl)
each_is_accepted (ConflictsLine file) = file_accepts (codes "conflicts") file ConflictsOf is_conflicts (λ rows. refl)
each_is_accepted (DriveLine file workers schedule counts) = drive_accepts file workers schedule counts
each_is_accepted (AsmLine file out) = written_accepts (codes "asm") file out AsmOf is_asm (λ rows. refl)
each_is_accepted (DisLine file) = file_accepts (codes "dis") file DisOf is_dis (λ rows. refl)
each_is_accepted (DebugLine file call more) = debug_accepts file call more
each_is_accepted (MigrateLine file out) = written_accepts (codes "migrate") file out MigrateOf is_migrate (λ rows. refl)
each_is_accepted (ChainLine workers limit gas digest brief store) = chain_accepts workers limit gas digest brief store
