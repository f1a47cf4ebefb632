-- A word that begins with no hyphen, at any command without subcommands.
use Rattle.std.proofs.Common.{◌≡◌, ◌==◌, ◌&&◌, ℕ, Bool, true, false, not, List, [], ◌∷◌, None, refl, ap, ap₂}
use Rattle.clap.specs.Simple.{Shape}
use Rattle.clap.specs.Takes.{step_passes, turn_passes, word_passes}
use Rattle.clap.specs.Walk.{Held, Rule, Step, Text, Waiting, Walk, after_step, arg_by_id, arg_by_index, idle, option, option_word, plain_word, positional, to_positional, value, walked, word_met}
use Rattle.cmdline.specs.Line.{is_operand}

pub no_hyphen : (b : Bool) → not b ≡ true → b ≡ false
no_hyphen false h = refl
no_hyphen true h = cc

-- the state of a walk before such a word: no word before it ends the walk
abbrev pub at : Held → Waiting → ℕ → Walk
at h waiting position = record { held = h; waiting = waiting; position = position; is_trailing = false; stopped = None }

-- it is no flag
is_plain_word : (c : List Rule) (waiting : Waiting) (position : ℕ) (word : Text) (h : Held) → is_operand word ≡ true → word_met c [] false waiting position word h ≡ plain_word c waiting word h
is_plain_word c idle position [] h o = refl
is_plain_word c (option id) position [] h o = refl
is_plain_word c positional position [] h o = refl
is_plain_word c idle position (x ∷ rest) h o = let e = no_hyphen (x == 45) o in simp e refl
is_plain_word c (option id) position (x ∷ rest) h o = let e = no_hyphen (x == 45) o in simp e refl
is_plain_word c positional position (x ∷ rest) h o = let e = no_hyphen (x == 45) o in simp e refl

passes_as_word : (s : Shape) (waiting : Waiting) (word : Text) (h : Held) → is_operand word ≡ true → word_passes s [] false waiting word h ≡ true
passes_as_word s idle [] h o = refl
passes_as_word s (option id) [] h o = refl
passes_as_word s positional [] h o = refl
passes_as_word s idle (x ∷ rest) h o = let e = no_hyphen (x == 45) o in simp e refl
passes_as_word s (option id) (x ∷ rest) h o = let e = no_hyphen (x == 45) o in simp e refl
passes_as_word s positional (x ∷ rest) h o = let e = no_hyphen (x == 45) o in simp e refl

-- what is walked by such a word
pub operand_walked : (c : List Rule) (h : Held) (position : ℕ) (word : Text) → is_operand word ≡ true → walked c [] (at h idle position) word ≡ to_positional c (arg_by_index c position) word (at h idle position) h
unfolding walked
operand_walked c h position word o = ap (λ (met : Held × Step). after_step c word (at h idle position) met.0 met.1) (is_plain_word c idle position word h o)

pub value_walked : (c : List Rule) (h : Held) (id : Text) (position : ℕ) (word : Text) → is_operand word ≡ true
    → walked c [] (at h (option id) position) word ≡ at (option_word (arg_by_id c id) id word h).0 (option_word (arg_by_id c id) id word h).1 position
unfolding walked
value_walked c h id position word o = ap (λ (met : Held × Step). after_step c word (at h (option id) position) met.0 met.1) (is_plain_word c (option id) position word h o)

-- and it passes
pub operand_passes : (s : Shape) (h : Held) (position : ℕ) (word : Text) → is_operand word ≡ true → turn_passes s [] (at h idle position) word ≡ step_passes s position h value
operand_passes s h position word o =
    ap₂ (λ (b : Bool) (met : Held × Step). b && step_passes s position met.0 met.1) (passes_as_word s idle word h o) (is_plain_word s.rules idle position word h o)

pub value_passes : (s : Shape) (h : Held) (id : Text) (position : ℕ) (word : Text) → is_operand word ≡ true → turn_passes s [] (at h (option id) position) word ≡ true
value_passes s h id position word o =
    ap₂ (λ (b : Bool) (met : Held × Step). b && step_passes s position met.0 met.1) (passes_as_word s (option id) word h o) (is_plain_word s.rules (option id) position word h o)
