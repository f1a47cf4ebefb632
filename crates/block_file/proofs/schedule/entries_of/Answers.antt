use Rattle.std.proofs.Common.{◌+◌, ap, ◌∙◌, List, ℕ, drop, refl}
use Rattle.block_file.specs.declared.fault.Cause.TheVariants.{BadNumber}
use Rattle.block_file.specs.Line.{read_parts}
use Rattle.block_file.specs.Schedule.{with_entry}
use Rattle.block_file.proofs.Lines.{texts, taken, ended, refused}
use Rattle.block_file.proofs.schedule.entries_of.Goals as goal
use Rattle.block_file.proofs.schedule.entries_of.Goals.{then-line-parts+else-not-is_empty, else-line-parts+in_default}

pub loop-index-preserved : goal.loop-index-preserved
loop-index-preserved c =
    let left = λ (items : List ℕ). read_parts with_entry BadNumber (c.loop-index.index + 1 + 1) items (drop (c.loop-index.index + 1) (texts c.args.parts.now)) in
    elim c.if-line-parts.branch [
      | then-line-parts+else-not-is_empty w ↦ ap (λ entries. left entries.items) w.entries-is
          ∙ ended with_entry BadNumber _ _ _ _ _ _ _ w.if-line-parts.true w.if-not-is_empty.ensures c.loop-index.invariant
      | else-line-parts+in_default w ↦ ap (λ entries. left entries.items) w.entries-is
          ∙ taken with_entry BadNumber _ _ _ _ _ _ _ _ refl c.loop-index-test.true w.if-line-parts.false w.in_default.ensures c.loop-index.invariant
    ]

pub returns-in-Err : goal.returns-in-Err
returns-in-Err c = refused with_entry BadNumber _ _ _ _ _ _ _ c.loop-index-test.true c.if-line-parts.false c.in-Err.ensures c.loop-index.invariant
