-- What clap finds on the lines of `rvstm`, up to the words of a subcommand.
use Rattle.std.proofs.Common.{◌≡◌, ◌&&◌, ◌++◌, ◌∙◌, Bool, true, false, not, ℕ, List, [], ◌∷◌, Option, Some, append-nil, append_assoc, ap, find, fold, get_or, is_some, option_and_then, option_map, refl, sym}
use Rattle.std.specs.List.{list_all}
use Rattle.std.specs.Option.{option_map_or}
use Rattle.std.proofs.lemmas.Bool.{and_from}
use Rattle.clap.specs.Simple.{Shape, built, entered, label_of, names_of, rows_at}
use Rattle.clap.specs.Takes.{default_passes, entered_passes, is_valid, level_passes, settle_passes, turn_passes, walk_passes}
use Rattle.clap.specs.Walk.{Names, Rule, Walk, answers_to, finished, nothing_held, rows_after, walk, walk_from, walked}
use Rattle.clap.specs.Words.{Text, first_of, first_value, is_simple, is_simple_and_free, rows_of, takes}
use Rattle.clap.specs.declared.parser.matches.Found.{Found}
use Rattle.clap.proofs.OnLiterals.{clap_on_literals}
use Rattle.clap.proofs.WalkLemmas.{first_value-rows}
use Rattle.cmdline.specs.Line.{asked_in, requested, rvstm_app, top_app}

-- `get_str` reads the rows
pub first_in_rows : (f : Found) (id : Text) → first_value f id ≡ first_of id (rows_of f)
first_in_rows f id = first_value-rows f id

-- the third test of a chain, which is negated there
pub third_is_false : (a b c rest : Bool) → (a && (not b && (not c && rest))) ≡ true → c ≡ false
third_is_false true false false rest h = refl
third_is_false true false true rest h = sym h
third_is_false true true c rest h = cc
third_is_false false b c rest h = cc

-- clap's definitions define all of this command: its matches, and its faults
pub is_plain : is_simple rvstm_app ≡ true
unfolding clap_on_literals
is_plain = refl

pub is_free : is_simple_and_free rvstm_app ≡ true
unfolding clap_on_literals
is_free = refl

-- the command and its subcommands as they are read
abbrev top : Shape
top = (built rvstm_app).top

abbrev subs : List Shape
subs = (built rvstm_app).subs

abbrev names : Names
names = names_of (built rvstm_app)

-- a subcommand by its place
abbrev pub shape_at : ℕ → Shape
shape_at place = get_or subs place top_app.top

-- the state of the walk after the name of a subcommand and these words
abbrev pub stopped_at : Text → List Text → Walk
stopped_at name words = record (walk_from nothing_held) { stopped = Some (name, words) }

-- the words after the name are kept for the subcommand
stopped_walk : (c : List Rule) (known : Names) (name : Text) (before words : List Text) → fold (walked c known) (stopped_at name before) words ≡ stopped_at name (before ++ words)
unfolding walked
stopped_walk c known name before [] = ap (stopped_at name) (sym (append-nil before))
stopped_walk c known name before (word ∷ rest) =
    stopped_walk c known name (before ++ word ∷ []) rest ∙ ap (stopped_at name) (append_assoc before (word ∷ []) rest)

stopped_passes : (s : Shape) (known : Names) (name : Text) (before words : List Text) → walk_passes s known (stopped_at name before) words ≡ true
unfolding walked walk_passes
stopped_passes s known name before [] = refl
stopped_passes s known name before (word ∷ rest) = stopped_passes s known name (before ++ word ∷ []) rest

-- the name leads to a subcommand with this shape
pub record IsSubcommand (name : Text) (s : Shape) : Type 0 where
  pub stops : walked top.rules names (walk_from nothing_held) name ≡ stopped_at name []
  pub passes : turn_passes top names (walk_from nothing_held) name ≡ true
  pub enters : find (λ (known : Shape). answers_to name (label_of known)) subs ≡ Some s

module _ {name : Text} {s : Shape} (is_subcommand : IsSubcommand name s) (words : List Text) where
  top_walked : walk top.rules names nothing_held (name ∷ words) ≡ stopped_at name words
  top_walked = ap (λ (w : Walk). fold (walked top.rules names) w words) is_subcommand.stops ∙ stopped_walk top.rules names name [] words

  top_passes : walk_passes top names (walk_from nothing_held) (name ∷ words) ≡ true
  unfolding walk_passes
  top_passes =
      and_from _ _ is_subcommand.passes
      (ap (λ (w : Walk). walk_passes top names w words) is_subcommand.stops ∙ stopped_passes top names name [] words)

  -- the rest of the test of the level above, by what the name leads to
  abbrev above : Option Shape → Bool
  above found = settle_passes top.rules top.args_override_self nothing_held
      && (list_all default_passes top.rules && is_valid top (finished top.rules nothing_held) (is_some (option_map (λ (known : Shape). rows_at known words) found)))

  -- clap takes the line if it takes the words of the subcommand
  pub line_is_taken : (program : Text) → level_passes s [] nothing_held words false ≡ true → takes rvstm_app (program ∷ name ∷ words) ≡ true
  unfolding clap_on_literals
  line_is_taken program passes =
      ap (λ (w : Walk). entered_passes (built rvstm_app) w.stopped && (walk_passes top names (walk_from nothing_held) (name ∷ words)
      && (settle_passes top.rules top.args_override_self w.held
      && (list_all default_passes top.rules && is_valid top (finished top.rules w.held) (is_some (entered (built rvstm_app) w.stopped)))))) top_walked
      ∙ ap (λ (found : Option Shape). option_map_or (λ (known : Shape). level_passes known [] nothing_held words false) found true
      && (walk_passes top names (walk_from nothing_held) (name ∷ words) && above found)) is_subcommand.enters
      ∙ and_from _ _ passes (and_from _ _ top_passes refl)

  -- and it asks for what that finds
  pub line_asks : (program : Text) → requested (program ∷ name ∷ words) ≡ asked_in (s.name, rows_after s.rules [] words)
  unfolding clap_on_literals
  line_asks program =
      ap (λ (w : Walk). option_and_then asked_in (entered (built rvstm_app) w.stopped)) top_walked
      ∙ ap (λ (found : Option Shape). option_and_then asked_in (option_map (λ (known : Shape). rows_at known words) found)) is_subcommand.enters
