-- The code's lines and targets, whose names are borrowed from the source, with the names replaced.
use Rattle.std.specs.Prelude.{ℕ, List, Result}
use denote.Ref.{Bor}
use Rattle.std.specs.Option.{option_map}
use Rattle.std.specs.Result.{result_map_both}
use Rattle.rv_names.specs.declared.lines.LineCause.{LineCause}
use Rattle.rv_names.specs.declared.lines.Line.{Line}
use Rattle.rv_names.specs.declared.target.Target.{Target}
use Rattle.rv_names.specs.declared.target.Target.TheVariants.{Number, Label}

-- the target with f applied to its name
abbrev pub target_map : {A B : Type 0} → (A → B) → Target A → Target B
target_map f (Number n) = Number n
target_map f (Label label) = Label (f label)

-- the line with f applied to its names
abbrev pub line_map : {A B : Type 0} → (A → B) → Line A → Line B
line_map f line = record { label = option_map f line.label; statement = line.statement; target = option_map f line.target }

-- the line that was read, with each name as the text that it says, or the cause of the refusal
abbrev pub shown_line : Result (Line (Bor (List ℕ))) LineCause → Result (Line (List ℕ)) LineCause
shown_line result = result_map_both (line_map (λ label. label.now)) (λ cause. cause) result
