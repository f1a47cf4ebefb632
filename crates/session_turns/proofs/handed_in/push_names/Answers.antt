use Rattle.std.proofs.Common.{[], ◌∙◌, ◌++◌, ap, append-nil, map, sym}
use Rattle.std.specs.Prelude.{codes}
use Rattle.hex.specs.Hex.{encode_lower}
use Rattle.receipts.proofs.Buffers.{appended_more, appended_whole, nothing_appended}
use Rattle.session_turns.specs.Telling.{names_text}
use Rattle.session_turns.proofs.handed_in.push_names.Goals as goal

pub loop-name-init : goal.loop-name-init
loop-name-init g c = ([], ap (λ programs. names_text (map (λ e. e.0) programs)) (c.into_iter-name-iterator.ensures.into_iter_gives ∙ c.iter-name-items.ensures), nothing_appended _ _)

pub loop-name-preserved : goal.loop-name-preserved
loop-name-preserved g c = appended_more _ c.loop-name.invariant c.push_name.ensures (ap (λ line. line ++ names_text (map (λ e. e.0) c.next.new.self)) (append-nil (encode_lower c.in-Some.name.now ++ codes "\n")) ∙ ap (λ programs. names_text (map (λ e. e.0) programs)) (sym c.in-Some.ensures.steps))

pub returns : goal.returns
returns g c = appended_whole _ c.loop-name.invariant (ap (λ programs. names_text (map (λ e. e.0) programs)) c.in-None.ensures.steps.0)
