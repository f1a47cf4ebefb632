use Rattle.std.proofs.Common.{◌≡◌, ◌<◌, ◌≤◌, ◌-◌, ◌∙◌, ℕ, List, Some, None, cond, ap, arith, get_or, is_some, length, refl, subst, sym}
use Rattle.std.specs.BTreeMap.{is_at}
use Rattle.std.specs.Option.{option_copied_mut, option_map}
use Rattle.rv_ledger.specs.Key.{key_cmp}
use Rattle.rv_ledger.specs.Positions.{AreIndexed, EntryList, IsGoneAt, in_order, position_of}
use Rattle.rv_ledger.proofs.Positions.{key_found, position_within}
use Rattle.rv_ledger.proofs.Removals.{IsLeft, gone_in_order, last_there, moved, removed_in_order, removed_indexed, tells_last, tells_moved}
use Rattle.rv_ledger.proofs.entry_table.EntryTable.remove.Goals as goal
use Rattle.rv_ledger.proofs.entry_table.EntryTable.remove.Goals.{After-note_removal, then-position-len+in-Some-get_mut, then-position-len+in_default-get_mut, else-position-len}

pub returns-in_default-clause-gone : goal.returns-in_default-clause-gone
returns-in_default-clause-gone c = gone_in_order c.args.self.now.tree.entries c.remove.new.self.entries c.args.self.now.list.items c.args.key.now c.remove.ensures.updates.0

pub swap_remove-requires : goal.swap_remove-requires
swap_remove-requires c =
    let t = c.args.self.now in
    let within = position_within t.tree.entries t.list.items c.requires c.args.key.now c.in-Some.position (sym c.remove.ensures.value ∙ c.in-Some.is) in
    omega (arith, t.list.ok.0)

-- the list without the entry
left : (c : After-note_removal) → IsLeft c.args.self.now.list.items c.swap_remove.new.self.items c.in-Some.position
left c =
    let old = c.args.self.now.list in
    let new = c.swap_remove.new.self in
    record {
      shorter = omega (arith, c.swap_remove.ensures.len, old.ok.0, new.ok.0);
      here = λ d l.
          let last : old.len - 1 ≡ length new.items = omega (arith, c.swap_remove.ensures.len, old.ok.0, new.ok.0) in
          c.swap_remove.ensures.by_index.0 d (omega (arith, old.ok.0)) ∙ ap (λ (n : ℕ). get_or old.items n d) last;
      apart = λ k d ne l. c.swap_remove.ensures.by_index.1 k d ne (omega (arith, old.ok.0));
    }

-- the list and the tree at the end: the list without the entry, and a tree with the new positions
joined : (c : After-note_removal) → (c.if-position-len.self.list.items ≡ c.swap_remove.new.self.items)
    × ((q : List ℕ) → position_of c.if-position-len.self.tree.entries q ≡ cond (is_at (key_cmp c.args.key.now) q) None (option_map (moved (length c.swap_remove.new.self.items) c.in-Some.position) (position_of c.args.self.now.tree.entries q)))
joined c =
    let t = c.args.self.now in
    let key = c.args.key.now in
    let p = c.in-Some.position in
    let now = c.swap_remove.new.self.items in
    let between = c.remove.new.self.entries in
    let at : position_of t.tree.entries key ≡ Some p = sym c.remove.ensures.value ∙ c.in-Some.is in
    elim c.if-position-len.branch [
      | then-position-len+in-Some-get_mut w ↦
          let within : p < length now = omega (arith, w.if-position-len.true, c.swap_remove.new.self.ok.0) in
          let stands = key_found now p w.index.result.now within w.index.ensures in
          let there = last_there t.tree.entries t.list.items now c.requires key p at (left c) between w.index.result.now.0 within stands c.remove.ensures.updates.0 in
          let given = ((w.get_mut.follows.holds p).3 (ap is_some there)).0 in
          rw w.self-is (refl, tells_moved t.tree.entries t.list.items now c.requires key p at (left c) between (w.get_mut.follows.lender p).entries w.index.result.now.0 within stands c.remove.ensures.updates.0 given)
      | then-position-len+in_default-get_mut w ↦
          let within : p < length now = omega (arith, w.if-position-len.true, c.swap_remove.new.self.ok.0) in
          let stands = key_found now p w.index.result.now within w.index.ensures in
          let there = last_there t.tree.entries t.list.items now c.requires key p at (left c) between w.index.result.now.0 within stands c.remove.ensures.updates.0 in
          let none : position_of between w.index.result.now.0 ≡ None = sym w.get_mut.ensures.value ∙ ap option_copied_mut w.in_default-get_mut.is in
          let both : Some (length now) ≡ None = sym there ∙ none in
          let no : ⊥ = cc in
          absurd no
      | else-position-len w ↦
          let end : length now ≤ p = omega (arith, w.if-position-len.false, c.swap_remove.new.self.ok.0) in
          rw w.self-is (refl, tells_last t.tree.entries t.list.items now c.requires key p at (left c) between end c.remove.ensures.updates.0)
    ]

pub returns-clause-indexed : goal.returns-clause-indexed
returns-clause-indexed c =
    let at = (goal.at.returns-clause-indexed c).After-note_removal in
    let t = c.args.self.now in
    let to = joined at in
    let was : position_of t.tree.entries c.args.key.now ≡ Some c.in-Some.position = sym c.remove.ensures.value ∙ c.in-Some.is in
    subst (λ (list : EntryList). AreIndexed c.if-position-len.self.tree.entries list) (sym to.0)
    (removed_indexed t.tree.entries t.list.items c.swap_remove.new.self.items c.requires c.args.key.now c.in-Some.position was (left at) c.if-position-len.self.tree.entries to.1)

pub returns-clause-gone : goal.returns-clause-gone
returns-clause-gone c =
    let at = (goal.at.returns-clause-gone c).After-note_removal in
    let t = c.args.self.now in
    let to = joined at in
    let was : position_of t.tree.entries c.args.key.now ≡ Some c.in-Some.position = sym c.remove.ensures.value ∙ c.in-Some.is in
    subst (λ (list : EntryList). IsGoneAt (in_order t.tree.entries t.list.items) (in_order c.if-position-len.self.tree.entries list) c.args.key.now) (sym to.0)
    (removed_in_order t.tree.entries t.list.items c.swap_remove.new.self.items c.requires c.args.key.now c.in-Some.position was (left at) c.if-position-len.self.tree.entries to.1)
