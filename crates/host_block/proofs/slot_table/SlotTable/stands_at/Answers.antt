use Rattle.std.proofs.Common.{◌≡◌, Some, ap, arith, sym, ◌∙◌}
use mathlib.Core.Bool.{false≢true}
use Rattle.std.proofs.lemmas.Slice.Eq.{bytes_eq-Decides}
use Rattle.host_block.proofs.Positions.{key_found, key_within}
use Rattle.host_block.proofs.slot_table.SlotTable.stands_at.Goals as goal

pub returns-in-Some : goal.returns-in-Some
returns-in-Some c =
    let e = c.in-Some.entry.now in
    let key = c.args.key.now in
    let lookup = rw c.as_slice.ensures.value at c.in-Some.ensures.lookup in
    let found = key_found c.args.self.now.list.items c.args.position e lookup.3.0 lookup.1 in
    let decides = bytes_eq-Decides e.0 key in (
      λ same. found ∙ ap Some (decides.0 (sym c.eq.ensures ∙ same)),
      λ at.
          let same : Some e.0 ≡ Some key = sym found ∙ at in
          c.eq.ensures ∙ decides.1 (cc),
    )

pub returns-in-None : goal.returns-in-None
returns-in-None c =
    let lookup = rw c.as_slice.ensures.value at c.in-None.ensures.lookup in (
      λ no. absurd (false≢true no),
      λ at.
          let within = key_within c.args.self.now.list.items c.args.position c.args.key.now at in
          absurd (omega (arith, lookup.3)),
    )
