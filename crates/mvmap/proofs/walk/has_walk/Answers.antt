use Rattle.std.proofs.Common.{◌∙◌, ℕ, None, Some, ap, sym}
use Rattle.std.specs.Option.{option_copied}
use Rattle.rv_ledger.specs.Lent.{lent_change}
use Rattle.mvmap.specs.Reading.{Visible, Found, is_walk, visible_over}
use Rattle.mvmap.specs.Slots.{seen_in, walk_after}
use Rattle.mvmap.specs.Versions.{Stands}
use Rattle.mvmap.proofs.walk.has_walk.Goals as goal

pub loop-bottom-preserved : goal.loop-bottom-preserved
loop-bottom-preserved c =
    let seen : ℕ → Visible = seen_in c.args.arena.now.records c.args.at_key.now in
    let found = c.in-Standing-default-Sum in let left = c.loop-bottom.left.now in let bottom = c.args.origin.now.bottom in
    let nearest = found.ensures.1 ∙ ap (λ d. visible_over found.version.writer (Some (Stands found.version.incarnation (lent_change d))) (seen found.version.writer)) found.field-1-is in
    c.loop-bottom.invariant ∙ ap (is_walk left bottom) nearest
    ∙ c.after.ensures bottom found.field-1-0 (seen found.version.writer) ∙ ap (λ o. walk_after (option_copied o) bottom (seen found.version.writer)) c.in-Some.is

pub returns-in-None : goal.returns-in-None
returns-in-None c =
    let seen : ℕ → Visible = seen_in c.args.arena.now.records c.args.at_key.now in
    let found = c.in-Standing-default-Sum in let left = c.loop-bottom.left.now in let bottom = c.args.origin.now.bottom in
    let nearest = found.ensures.1 ∙ ap (λ d. visible_over found.version.writer (Some (Stands found.version.incarnation (lent_change d))) (seen found.version.writer)) found.field-1-is in
    sym (c.loop-bottom.invariant ∙ ap (is_walk left bottom) nearest
    ∙ c.after.ensures bottom found.field-1-0 (seen found.version.writer) ∙ ap (λ o. walk_after (option_copied o) bottom (seen found.version.writer)) c.in-None.is)

pub returns-in-Standing-default-Value : goal.returns-in-Standing-default-Value
returns-in-Standing-default-Value c =
    let seen : ℕ → Visible = seen_in c.args.arena.now.records c.args.at_key.now in
    let found = c.in-Standing-default-Value in let left = c.loop-bottom.left.now in let bottom = c.args.origin.now.bottom in
    let nearest = found.ensures.1 ∙ ap (λ d. visible_over found.version.writer (Some (Stands found.version.incarnation (lent_change d))) (seen found.version.writer)) found.field-1-is in
    c.is_end.ensures (Some found.field-1-0.bytes.now) ∙ ap (λ b. is_walk left b (Found found.version.writer found.version.incarnation (Some found.field-1-0.bytes.now))) c.bottom-bottom.ensures ∙ sym (c.loop-bottom.invariant ∙ ap (is_walk left bottom) nearest)

pub returns-in-Standing-default-Gone : goal.returns-in-Standing-default-Gone
returns-in-Standing-default-Gone c =
    let seen : ℕ → Visible = seen_in c.args.arena.now.records c.args.at_key.now in
    let found = c.in-Standing-default-Gone in let left = c.loop-bottom.left.now in let bottom = c.args.origin.now.bottom in
    let nearest = found.ensures.1 ∙ ap (λ d. visible_over found.version.writer (Some (Stands found.version.incarnation (lent_change d))) (seen found.version.writer)) found.field-1-is in
    c.is_end-in-Standing-default-Gone.ensures None ∙ ap (λ b. is_walk left b (Found found.version.writer found.version.incarnation None)) c.bottom-bottom.ensures ∙ sym (c.loop-bottom.invariant ∙ ap (is_walk left bottom) nearest)
