-- What clap keeps for each argument, by the argument's name.
use Rattle.std.proofs.Common.{◌≡◌, ◌∙◌, ◌++◌, Bool, true, false, ◌||◌, List, [], ◌∷◌, Option, Some, None, append-nil, ap, bytes_eq, cond, find, fold, is_some, not, refl, sym, if◌then◌else◌}
use Rattle.std.specs.Option.{option_or}
use Rattle.std.proofs.lemmas.Slice.Eq.{bytes_eq-Decides}
use Rattle.clap.specs.Walk.{Row, Rule, Text, at_row, default_rows, has_row, more_values, reading_by, with_default, with_values, without}
use Rattle.clap.specs.declared.builder.value_parser.Reading.{Reading}
use Rattle.clap.specs.declared.builder.value_parser.Reading.TheVariants as reading
use Rattle.clap.specs.declared.parser.matches.ValueSource.{ValueSource}
use Rattle.clap.specs.declared.parser.matches.ValueSource.TheVariants as source

-- what is kept for an argument
abbrev pub row_at : Text → List Row → Option Row
row_at id rows = find (λ r. bytes_eq r.id id) rows

-- rows by names
abbrev pub Kept : Type 0
Kept = Text → Option Row

abbrev pub Looks : List Row → Kept → Type 0
Looks rows kept = (name : Text) → row_at name rows ≡ kept name

-- the same, but for one name
abbrev pub put : Text → Option Row → Kept → Kept
put id row kept name = if bytes_eq id name then row else kept name

has_row_at : (id : Text) (rows : List Row) → has_row id rows ≡ is_some (row_at id rows)
has_row_at id [] = refl
has_row_at id (r ∷ rest) = go (bytes_eq r.id id) (has_row_at id rest)
  where
    go : (b : Bool) → has_row id rest ≡ is_some (row_at id rest) → (b || has_row id rest) ≡ is_some (cond b (Some r) (row_at id rest))
    go true e = refl
    go false e = e

-- a change of a row that is not there puts a new one at the end
at_no_row : (id : Text) (change : Row → List Row) (missing rows : List Row) → row_at id rows ≡ None → at_row id change missing rows ≡ rows ++ missing
at_no_row id change missing [] none = refl
at_no_row id change missing (r ∷ rest) none = go (bytes_eq r.id id) none (at_no_row id change missing rest)
  where
    go : (b : Bool) → cond b (Some r) (row_at id rest) ≡ None → (row_at id rest ≡ None → at_row id change missing rest ≡ rest ++ missing)
        → cond b (change r ++ rest) (r ∷ at_row id change missing rest) ≡ r ∷ (rest ++ missing)
    go true e rest_is = cc
    go false e rest_is = ap (λ (rows : List Row). r ∷ rows) (rest_is e)

-- the row of an argument that had none
abbrev pub row_of_use : Text → Reading → ValueSource → List Text → Row
row_of_use id how from values = record { id = id; values = values; count = None; source = Some from; reading = how }

first_use : (id : Text) (how : Reading) (from : ValueSource) (values : List Text) (rows : List Row) → row_at id rows ≡ None
    → with_values id how from values rows ≡ rows ++ row_of_use id how from values ∷ []
first_use id how from values rows none = at_no_row id (more_values from values) _ rows none

-- the rows with one more at the end
row_at_end : (name : Text) (rows : List Row) (r : Row) → row_at name (rows ++ r ∷ []) ≡ option_or (row_at name rows) (cond (bytes_eq r.id name) (Some r) None)
row_at_end name [] r = refl
row_at_end name (x ∷ rest) r = go (bytes_eq x.id name) (row_at_end name rest r)
  where
    go : (b : Bool) → row_at name (rest ++ r ∷ []) ≡ option_or (row_at name rest) (cond (bytes_eq r.id name) (Some r) None)
        → cond b (Some x) (row_at name (rest ++ r ∷ [])) ≡ option_or (cond b (Some x) (row_at name rest)) (cond (bytes_eq r.id name) (Some r) None)
    go true e = refl
    go false e = e

or_none : (found : Option Row) → option_or found None ≡ found
or_none None = refl
or_none (Some r) = refl

-- a name is kept as it was if it is put there as it was
same_put : (kept : Kept) (id name : Text) → kept name ≡ put id (kept id) kept name
same_put kept id name = go (bytes_eq id name) refl
  where
    go : (b : Bool) → bytes_eq id name ≡ b → kept name ≡ cond b (kept id) (kept name)
    go true e = ap kept (sym ((bytes_eq-Decides id name).0 e))
    go false e = refl

row_put : (rows : List Row) (kept : Kept) → Looks rows kept → (r : Row) → kept r.id ≡ None → Looks (rows ++ r ∷ []) (put r.id (Some r) kept)
row_put rows kept looks r new name =
    row_at_end name rows r
    ∙ ap (λ (found : Option Row). option_or found (cond (bytes_eq r.id name) (Some r) None)) (looks name ∙ same_put kept r.id name)
    ∙ go (bytes_eq r.id name)
  where
    go : (b : Bool) → option_or (cond b (kept r.id) (kept name)) (cond b (Some r) None) ≡ cond b (Some r) (kept name)
    go true = ap (λ (found : Option Row). option_or found (Some r)) new
    go false = or_none (kept name)

-- what a use on the line leaves, and the rows after it
abbrev pub given : Text → Text → Row
given id word = row_of_use id reading.AsWritten source.CommandLine (word ∷ [])

abbrev pub used : Text → Text → List Row → List Row
used id word rows = with_values id reading.AsWritten source.CommandLine (word ∷ []) (without id rows)

-- before and after the first use of an argument, and if it has none
module _ (rows : List Row) (kept : Kept) (id : Text) (looks : Looks rows kept) (new : kept id ≡ None) where
  no_row : row_at id rows ≡ None
  no_row = looks id ∙ new

  pub may_be_used : (not (has_row id rows) || false) ≡ true
  may_be_used = ap (λ (b : Bool). not b || false) (has_row_at id rows ∙ ap is_some no_row)

  pub none_looks : Looks rows (put id None kept)
  none_looks name = looks name ∙ same_put kept id name ∙ ap (λ (row : Option Row). put id row kept name) new

  pub used_looks : (word : Text) → Looks (used id word rows) (put id (Some (given id word)) kept)
  used_looks word name =
      ap (λ (left : List Row). row_at name (with_values id reading.AsWritten source.CommandLine (word ∷ []) left)) (at_no_row id (λ _. []) [] rows no_row ∙ append-nil rows)
      ∙ ap (row_at name) (first_use id reading.AsWritten source.CommandLine (word ∷ []) rows no_row)
      ∙ row_put rows kept looks (given id word) new name

-- the rows with the values that an argument has if it was not used
abbrev pub kept_or_default : Text → Reading → List Text → Kept → Kept
kept_or_default id how [] kept = kept
kept_or_default id how (v ∷ vs) kept = put id (option_or (kept id) (Some (row_of_use id how source.DefaultValue (v ∷ vs)))) kept

abbrev pub kept_or_defaults : List Rule → Kept → Kept
kept_or_defaults [] kept = kept
kept_or_defaults (a ∷ rest) kept = kept_or_defaults rest (kept_or_default a.id (reading_by a) a.defaults kept)

default_looks : (rows : List Row) (kept : Kept) → Looks rows kept → (id : Text) (how : Reading) (values : List Text)
    → Looks (if has_row id rows then rows else default_rows id how values rows) (kept_or_default id how values kept)
default_looks rows kept looks id how values name =
    ap (λ (b : Bool). row_at name (cond b rows (default_rows id how values rows))) (has_row_at id rows) ∙ go (row_at id rows) (sym (looks id)) values
  where
    go : (found : Option Row) → kept id ≡ found → (values : List Text) → row_at name (cond (is_some found) rows (default_rows id how values rows)) ≡ kept_or_default id how values kept name
    go (Some r) e [] = looks name
    go None e [] = looks name
    go (Some r) e (v ∷ vs) =
        looks name ∙ same_put kept id name
        ∙ ap (λ (found : Option Row). put id found kept name) (e ∙ sym (ap (λ (found : Option Row). option_or found (Some (row_of_use id how source.DefaultValue (v ∷ vs)))) e))
    go None e (v ∷ vs) =
        ap (row_at name) (first_use id how source.DefaultValue (v ∷ vs) rows (looks id ∙ e))
        ∙ row_put rows kept looks (row_of_use id how source.DefaultValue (v ∷ vs)) e name
        ∙ ap (λ (found : Option Row). put id (option_or found (Some (row_of_use id how source.DefaultValue (v ∷ vs)))) kept name) (sym e)

pub defaults_look : (rules : List Rule) (rows : List Row) (kept : Kept) → Looks rows kept → Looks (fold with_default rows rules) (kept_or_defaults rules kept)
defaults_look [] rows kept looks = looks
defaults_look (a ∷ rest) rows kept looks = defaults_look rest _ _ (default_looks rows kept looks a.id (reading_by a) a.defaults)
