use Rattle.std.proofs.Common.{◌≡◌, ◌⊎◌, inl, inr, List, ℕ, OnErr, sym, subst}
use Rattle.std.specs.String.{string_bytes}
use Rattle.system_files.specs.Entries.{IsBeside, IsNewPath}
use Rattle.system_files.specs.Orders.{Follow, LeavesNoFile, MakesLast}
use Rattle.system_files.proofs.OrderLists.{cleared_up, kept_then, kept_twice, widened}
use Rattle.system_files.proofs.replacing.replace_file.Goals as goal

pub returns-clause-others : goal.returns-clause-others
returns-clause-others g c = let touched : List ℕ → Type 0 = λ p. IsNewPath c.args.path.now p ⊎ (p ≡ c.args.path.now) in
    let same : string_bytes c.in_ok-name.name ≡ c.as_str.result.now = cc in
    let again : string_bytes c.in_ok-name.name ≡ c.as_str-2.result.now = cc in
    let start = g.D.OutputDisk.entries c.args.disk.now in
    let made = g.D.OutputDisk.entries c.new_beside.new.disk in
    let moved = g.D.OutputDisk.entries c.put-outcome.new.disk in
    let last = g.D.OutputDisk.entries c.clear_up.new.disk in
    kept_then touched c.as_str-2.result.now start moved last
    (inl (subst (IsNewPath c.args.path.now) again c.in_ok-name.ensures.beside.0))
    (kept_twice touched start made moved
    (widened (IsBeside c.args.path.now) touched start made (λ p is. inl is.0) c.new_beside.ensures.others)
    (widened (λ p. (p ≡ c.as_str.result.now) ⊎ (p ≡ c.args.path.now)) touched made moved (λ p is. elim is [
      | inl named ↦ inl (subst (IsNewPath c.args.path.now) (sym named) (subst (IsNewPath c.args.path.now) same c.in_ok-name.ensures.beside.0))
      | inr there ↦ inr there
    ]) c.put-outcome.ensures.others))
    c.clear_up.ensures.others

pub returns-clause-undone : goal.returns-clause-undone
returns-clause-undone g c = let again : string_bytes c.in_ok-name.name ≡ c.as_str-2.result.now = cc in
    let start = g.D.OutputDisk.asked c.args.disk.now in
    let made = g.D.OutputDisk.asked c.new_beside.new.disk in
    let moved = g.D.OutputDisk.asked c.put-outcome.new.disk in
    let last = g.D.OutputDisk.asked c.clear_up.new.disk in
    subst (λ r. OnErr r (Follow LeavesNoFile start last)) (sym c.clear_up.ensures.told)
    (cleared_up c.put-outcome.result c.as_str-2.result.now start made moved last
    (subst (λ name. Follow (MakesLast name) start made) again c.in_ok-name.ensures.makes)
    c.put-outcome.ensures.undone
    c.clear_up.ensures.asks)
