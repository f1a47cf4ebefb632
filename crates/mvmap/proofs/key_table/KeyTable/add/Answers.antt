use Rattle.std.proofs.Common.{◌≡◌, ◌∙◌, ◌++◌, ◌∷◌, List, [], ap, arith, length, sym, subst}
use Rattle.mvmap.specs.KeyTable.{AreFound, AreSlotsIndexed, positions_of}
use Rattle.mvmap.specs.declared.key_table.KeySlots.{KeySlots}
use Rattle.mvmap.proofs.KeyTables.{added_at, added_found, added_in_order, added_indexed, no_keys, none_found, still_found}
use Rattle.mvmap.proofs.key_table.KeyTable.add.Goals as goal
use Rattle.mvmap.proofs.key_table.KeyTable.add.Goals.{After-note_position, After-push_reserved, then-position-eq0, else-position-eq0}

last : (c : After-note_position) → c.len-position.result ≡ length c.args.self.now.list.items
last c = omega (arith, c.reserve.new.self.ok.0, ap length c.reserve.ensures.items)

-- whether the buckets were made or not, the keys stay at their positions and are found
opened : (c : After-note_position) → (c.if-position-eq0.self.list.items ≡ c.args.self.now.list.items)
    × AreFound c.if-position-eq0.self.hints.buckets.items c.if-position-eq0.self.others.entries (positions_of c.args.self.now.list.items)
opened c =
    let t = c.args.self.now in
    let was = c.requires.indexed.searched in
    elim c.if-position-eq0.branch [
      | then-position-eq0 w ↦ rw w.self-is (c.reserve.ensures.items, none_found t.hints.buckets.items t.others.entries (positions_of t.list.items) was (no_keys (positions_of t.list.items) t.list.items c.requires.indexed.positions (omega (arith, last c))) w.open.new.self.buckets.items)
      | else-position-eq0 w ↦ rw w.self-is (c.reserve.ensures.items, was)
    ]

kept : (c : After-note_position) → c.note_position.new.self.list.items ≡ c.args.self.now.list.items
kept c = let same = opened c in ap (λ l. l.items) c.note_position.ensures.list ∙ same.0

pub returns-in_err-note_position-clause-indexed : goal.returns-in_err-note_position-clause-indexed
returns-in_err-note_position-clause-indexed c =
    let at = (goal.at.returns-in_err-note_position-clause-indexed c).After-note_position in
    let t = c.args.self.now in
    let b = c.if-position-eq0.self in
    let same = opened at in
    record {
      positions = subst (λ (list : List KeySlots). AreSlotsIndexed (positions_of list) list) (sym (kept at)) c.requires.indexed.positions;
      searched = rw (kept at, c.note_position.ensures.buckets) (still_found b.hints.buckets.items b.others.entries (positions_of t.list.items) same.1 c.args.key.now c.len-position.result c.note_position.new.self.others.entries c.in_err-note_position.ensures.unchanged);
    }

pushed : (c : After-push_reserved) → c.note_position.new.self.list.items ≡ c.args.self.now.list.items → c.push_reserved.new.self.items ≡ c.args.self.now.list.items ++ record { key = c.args.key.now; writers = [] } ∷ []
pushed c same = rw (c.push_reserved.ensures.items, same, c.new.ensures)

pub returns-clause-indexed : goal.returns-clause-indexed
returns-clause-indexed c =
    let at = (goal.at.returns-clause-indexed c).After-note_position in
    let t = c.args.self.now in
    let b = c.if-position-eq0.self in
    let same = opened at in
    let items = pushed c (kept at) in
    record {
      positions = rw items (added_indexed t.list.items c.requires.indexed.positions c.args.key.now c.requires.absent c.len-position.result (last at));
      searched = rw (items, c.note_position.ensures.buckets) (added_found t.list.items c.requires.indexed.positions c.args.key.now c.requires.absent c.len-position.result (last at) b.hints.buckets.items b.others.entries c.note_position.new.self.others.entries same.1
          (rw (← c.note_position.ensures.buckets) c.in_ok-note_position.ensures.found) c.note_position.ensures.others);
    }

pub returns-clause-position : goal.returns-clause-position
returns-clause-position c =
    let at = (goal.at.returns-clause-position c).After-note_position in
    rw (pushed c (kept at)) (added_at c.args.self.now.list.items c.requires.indexed.positions c.args.key.now c.requires.absent c.len-position.result (last at))

pub returns-clause-set : goal.returns-clause-set
returns-clause-set c =
    let at = (goal.at.returns-clause-set c).After-note_position in
    let t = c.args.self.now in
    let items = pushed c (kept at) in
    rw items (added_in_order t.list.items c.requires.indexed.positions c.args.key.now c.requires.absent c.len-position.result (last at))
