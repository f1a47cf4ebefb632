-- A walk over the words of a subcommand, argument by argument.
use Rattle.std.proofs.Common.{◌≡◌, ◌&&◌, ◌||◌, ◌++◌, ◌∙◌, ℕ, Bool, true, false, not, [], ◌∷◌, List, Option, Some, None, ap, codes, fold, option_map, refl, if◌then◌else◌}
use Rattle.std.specs.List.{list_all}
use Rattle.std.specs.Option.{option_map_or}
use Rattle.std.proofs.lemmas.Bool.{and_from, and_parts}
use Rattle.clap.specs.Facts.{explicit_source}
use Rattle.clap.specs.Simple.{Shape}
use Rattle.clap.specs.Takes.{default_passes, is_given, is_valid, level_passes, settle_passes, step_passes, turn_passes, walk_passes}
use Rattle.clap.specs.Walk.{Held, Row, Text, Waiting, Walk, arg_by_id, arg_by_index, finished, has_row, idle, nothing_held, option, option_word, rows_after, settled_rows, to_positional, value, walk_from, walked}
use Rattle.cmdline.specs.Line.{is_operand}
use Rattle.cmdline.specs.Typed.{flagged, valued}
use Rattle.cmdline.proofs.Operands.{at, operand_passes, operand_walked, value_passes, value_walked}
use Rattle.cmdline.proofs.Rows.{Kept, Looks, defaults_look, given, kept_or_defaults, may_be_used, none_looks, put, row_at, used, used_looks}

-- ---- words that lead from one place to another

-- the walk over the words reaches this end, and each word passes
pub record Leads (s : Shape) (w : Walk) (words : List Text) (end : Walk) : Type 0 where
  pub goes : fold (walked s.rules []) w words ≡ end
  pub passes : walk_passes s [] w words ≡ true

arrived : {s : Shape} {w : Walk} → Leads s w [] w
unfolding walk_passes
arrived = record { goes = refl; passes = refl }

-- by one word to a place in between
leads_by : {s : Shape} {w : Walk} {word : Text} {rest : List Text} {end : Walk} (between : Walk)
    → walked s.rules [] w word ≡ between → turn_passes s [] w word ≡ true → Leads s between rest end → Leads s w (word ∷ rest) end
unfolding walk_passes
leads_by {s} {w} {word} {rest} {end} between goes passes leads = record {
  goes = ap (λ (v : Walk). fold (walked s.rules []) v rest) goes ∙ leads.goes;
  passes = and_from _ _ passes (ap (λ (v : Walk). walk_passes s [] v rest) goes ∙ leads.passes);
}

-- by words to a place in between
leads_on : (s : Shape) (w : Walk) (words more : List Text) (between end : Walk) → Leads s w words between → Leads s between more end → Leads s w (words ++ more) end
unfolding walk_passes
leads_on s w [] more between end first second = record {
  goes = ap (λ (v : Walk). fold (walked s.rules []) v more) first.goes ∙ second.goes;
  passes = ap (λ (v : Walk). walk_passes s [] v more) first.goes ∙ second.passes;
}
leads_on s w (word ∷ rest) more between end first second =
    let parts = and_parts (turn_passes s [] w word) (walk_passes s [] (walked s.rules [] w word) rest) first.passes in
    leads_by (walked s.rules [] w word) refl parts.0
    (leads_on s (walked s.rules [] w word) rest more between end (record { goes = first.goes; passes = parts.1 }) second)

-- ---- what is kept on the way

-- what is held and pending is kept so, and passes
pub record Holds (s : Shape) (h : Held) (kept : Kept) : Type 0 where
  pub looks : Looks (settled_rows s.rules h.pending h.rows) kept
  pub passes : settle_passes s.rules s.args_override_self h ≡ true

-- the words lead to a place at which nothing waits for a value, and this is kept there
pub record Reaches (s : Shape) (w : Walk) (words : List Text) (kept : Kept) : Type 0 where
  pub held : Held
  pub position : ℕ
  pub leads : Leads s w words (at held idle position)
  pub holds : Holds s held kept

pub go_on : {s : Shape} {w : Walk} {words more : List Text} {first second : Kept} → Reaches s w words first
    → ((h : Held) (position : ℕ) → Holds s h first → Reaches s (at h idle position) more second) → Reaches s w (words ++ more) second
go_on {s} {w} {words} {more} here next =
    let there = next here.held here.position here.holds in
    record {
      held = there.held;
      position = there.position;
      leads = leads_on s w words more _ _ here.leads there.leads;
      holds = there.holds;
    }

-- these values of the argument are pending
abbrev pub pending_values : List Row → Text → List Text → ℕ → Held
pending_values rows id values skip = record { rows = rows; pending = Some (id, values); skip = skip }

-- an argument that is not given
by_none : {s : Shape} {h : Held} {kept : Kept} (id : Text) (position : ℕ) → Holds s h kept → kept id ≡ None → Reaches s (at h idle position) [] (put id None kept)
by_none {h = h} {kept = kept} id position holds new = record {
  held = h;
  position = position;
  leads = arrived;
  holds = record { looks = none_looks _ kept id holds.looks new; passes = holds.passes };
}

-- ---- an option that has a value

pub record IsOption (s : Shape) (id : Text) (accepts : Text → Bool) : Type 0 where
  pub goes : (h : Held) (position : ℕ) → walked s.rules [] (at h idle position) (45 ∷ 45 ∷ id) ≡ at (pending_values (settled_rows s.rules h.pending h.rows) id [] h.skip) (option id) position
  pub passes : (h : Held) (position : ℕ) → turn_passes s [] (at h idle position) (45 ∷ 45 ∷ id) ≡ (settle_passes s.rules s.args_override_self h && true)
  pub takes : (rows : List Row) (skip : ℕ) (word : Text) → option_word (arg_by_id s.rules id) id word (pending_values rows id [] skip) ≡ (pending_values rows id (word ∷ []) skip, idle)
  pub settles : (rows : List Row) (word : Text) → settled_rows s.rules (Some (id, word ∷ [])) rows ≡ used id word rows
  pub is_used : (rows : List Row) (skip : ℕ) (word : Text) → settle_passes s.rules s.args_override_self (pending_values rows id (word ∷ []) skip)
      ≡ ((not (has_row id rows) || false) && (accepts word && true))

module _ {s : Shape} {id : Text} {accepts : Text → Bool} (is_option : IsOption s id accepts) {h : Held} {kept : Kept} (position : ℕ) (holds : Holds s h kept) (new : kept id ≡ None) where
  -- the rows so far
  abbrev rows_so_far : List Row
  rows_so_far = settled_rows s.rules h.pending h.rows

  by_value : (word : Text) → (is_operand word && accepts word) ≡ true → Reaches s (at h idle position) ((45 ∷ 45 ∷ id) ∷ word ∷ []) (put id (Some (given id word)) kept)
  by_value word right =
      let parts = and_parts (is_operand word) (accepts word) right in
      let waiting = pending_values rows_so_far id [] h.skip in
      record {
        held = pending_values rows_so_far id (word ∷ []) h.skip;
        position = position;
        leads =
            leads_by (at waiting (option id) position) (is_option.goes h position) (is_option.passes h position ∙ and_from _ _ holds.passes refl)
            (leads_by _ (value_walked s.rules waiting id position word parts.0 ∙ ap (λ (met : Held × Waiting). at met.0 met.1 position) (is_option.takes rows_so_far h.skip word))
            (value_passes s waiting id position word parts.0) arrived);
        holds = record {
          looks = λ name. ap (row_at name) (is_option.settles rows_so_far word) ∙ used_looks rows_so_far kept id holds.looks new word name;
          passes = is_option.is_used rows_so_far h.skip word ∙ and_from _ _ (may_be_used rows_so_far kept id holds.looks new) (and_from _ _ parts.1 refl);
        };
      }

  -- by its words, if it is there
  pub by_option : (word : Option Text) → option_map_or (λ typed. is_operand typed && accepts typed) word true ≡ true
      → Reaches s (at h idle position) (valued (45 ∷ 45 ∷ id) word) (put id (option_map (given id) word) kept)
  by_option None right = by_none id position holds new
  by_option (Some word) right = by_value word right

-- ---- an option that has none

pub record IsFlag (s : Shape) (id : Text) : Type 0 where
  pub goes : (h : Held) (position : ℕ) → walked s.rules [] (at h idle position) (45 ∷ 45 ∷ id)
      ≡ at (record { rows = used id (codes "true") (settled_rows s.rules h.pending h.rows); pending = None; skip = h.skip }) idle position
  pub passes : (h : Held) (position : ℕ) → turn_passes s [] (at h idle position) (45 ∷ 45 ∷ id)
      ≡ ((settle_passes s.rules s.args_override_self h && ((not (has_row id (settled_rows s.rules h.pending h.rows)) || false) && true)) && true)

-- what a flag leaves on the line
abbrev pub said : Text → Bool → Option Row
said id b = if b then Some (given id (codes "true")) else None

module _ {s : Shape} {id : Text} (is_flag : IsFlag s id) {h : Held} {kept : Kept} (position : ℕ) (holds : Holds s h kept) (new : kept id ≡ None) where
  -- by its word, if it is there
  pub by_flag : (b : Bool) → Reaches s (at h idle position) (flagged (45 ∷ 45 ∷ id) b) (put id (said id b) kept)
  by_flag false = by_none id position holds new
  by_flag true = record {
    held = record { rows = used id (codes "true") (settled_rows s.rules h.pending h.rows); pending = None; skip = h.skip };
    position = position;
    leads = leads_by _ (is_flag.goes h position)
        (is_flag.passes h position ∙ and_from _ _ (and_from _ _ holds.passes (and_from _ _ (may_be_used _ kept id holds.looks new) refl)) refl) arrived;
    holds = record { looks = used_looks _ kept id holds.looks new (codes "true"); passes = refl };
  }

-- ---- FILE, the first word

pub record TakesFile (s : Shape) : Type 0 where
  pub goes : (file : Text) → to_positional s.rules (arg_by_index s.rules 1) file (at nothing_held idle 1) nothing_held ≡ at (pending_values [] (codes "file") (file ∷ []) 0) idle 2
  pub passes : step_passes s 1 nothing_held value ≡ true
  pub settles : (file : Text) → settled_rows s.rules (Some (codes "file", file ∷ [])) [] ≡ given (codes "file") file ∷ []
  pub is_used : (file : Text) → settle_passes s.rules s.args_override_self (pending_values [] (codes "file") (file ∷ []) 0) ≡ true

-- nothing is kept
abbrev pub nothing_kept : Kept
nothing_kept name = None

-- FILE is kept
abbrev pub file_kept : Text → Kept
file_kept file = put (codes "file") (Some (given (codes "file") file)) nothing_kept

pub by_file : {s : Shape} → TakesFile s → (file : Text) → is_operand file ≡ true → Reaches s (walk_from nothing_held) (file ∷ []) (file_kept file)
by_file {s} takes_file file operand = record {
  held = pending_values [] (codes "file") (file ∷ []) 0;
  position = 2;
  leads = leads_by _ (operand_walked s.rules nothing_held 1 file operand ∙ takes_file.goes file) (operand_passes s nothing_held 1 file operand ∙ takes_file.passes) arrived;
  holds = record { looks = λ name. ap (row_at name) (takes_file.settles file); passes = takes_file.is_used file };
}

pub start_holds : (s : Shape) → Holds s nothing_held nothing_kept
start_holds s = record { looks = λ name. refl; passes = refl }

-- ---- the end of the line

-- the command needs these arguments, and has nothing else to ask
pub record Needs (s : Shape) (needed : List Text) : Type 0 where
  pub defaults : list_all default_passes s.rules ≡ true
  pub valid : (rows : List Row) → is_valid s rows false ≡ list_all (λ id. is_given id rows) needed

abbrev pub is_given_row : Option Row → Bool
is_given_row row = option_map_or (λ r. explicit_source r.source) row false

given_by : (rows : List Row) (kept : Kept) → Looks rows kept → (needed : List Text) → list_all (λ id. is_given id rows) needed ≡ list_all (λ id. is_given_row (kept id)) needed
given_by rows kept looks [] = refl
given_by rows kept looks (id ∷ rest) =
    ap (λ (row : Option Row). is_given_row row && list_all (λ name. is_given name rows) rest) (looks id)
    ∙ ap (λ (b : Bool). is_given_row (kept id) && b) (given_by rows kept looks rest)

module _ {s : Shape} {words : List Text} {kept : Kept} (reaches : Reaches s (walk_from nothing_held) words kept) where
  -- by the end the defaults are there, too
  end_looks : Looks (finished s.rules reaches.held) (kept_or_defaults s.rules kept)
  end_looks = defaults_look s.rules _ kept reaches.holds.looks

  pub rows_look : Looks (rows_after s.rules [] words) (kept_or_defaults s.rules kept)
  rows_look name = ap (λ (w : Walk). row_at name (finished s.rules w.held)) reaches.leads.goes ∙ end_looks name

  pub line_passes : (needed : List Text) → Needs s needed → list_all (λ id. is_given_row (kept_or_defaults s.rules kept id)) needed ≡ true
      → level_passes s [] nothing_held words false ≡ true
  line_passes needed needs all_given =
      and_from _ _ reaches.leads.passes
      (ap (λ (w : Walk). settle_passes s.rules s.args_override_self w.held && (list_all default_passes s.rules && is_valid s (finished s.rules w.held) false)) reaches.leads.goes
      ∙ and_from _ _ reaches.holds.passes
      (and_from _ _ needs.defaults
      (needs.valid (finished s.rules reaches.held) ∙ given_by _ _ end_looks needed ∙ all_given)))
