-- What was promised to the tasks that move keys is kept by each step.
use Rattle.std.proofs.Common.{◌≡◌, ◌≢◌, ◌<◌, ◌≤◌, ◌+◌, ◌*◌, not, ℕ, zero, suc, Bool, true, cond, is_some, List, [], ◌∷◌, ◌++◌, length, get_or, set, replicate, sum_by, Option, None, Some, IsTrue, append-nil, arith, refl, sym, ap, subst, inl, inr, ◌∙◌}
use Rattle.std.specs.List.{AllByRecursion, filter}
use Rattle.std.specs.FinMap.{get, contains_key, entries, len, len-entries}
use Rattle.std.specs.FinSet.{FinSet, contains}
use Rattle.std.proofs.lemmas.Bool.{cases_eq}
use Rattle.std.proofs.lemmas.List.{get_or-set_same, get_or-set_other}
use Rattle.std.proofs.lemmas.List.Folds.{sum_by-replicate}
use Rattle.std.proofs.lemmas.List.Sums.{sum_by-cons}
use Rattle.rv_ledger.specs.Change.{ContentChange}
use Rattle.version_arena.specs.ArenaState.{ArenaState, Record}
use Rattle.mvmap.specs.Versions.{Place, place_cmp}
use Rattle.mvmap.specs.Table.{Table}
use Rattle.rv_ledger.specs.declared.receipt.Receipt.{Receipt}
use Rattle.rv_step.specs.declared.answer.StorageAnswer.{StorageAnswer}
use Rattle.stm_state.specs.declared.state.CallState.{CallState}
use Rattle.stm_state.specs.declared.state.Recorded.{Recorded}
use Rattle.stm_state.specs.declared.state.Task.{Task}
use Rattle.stm_state.specs.declared.state.Task.TheVariants.{Idle, Running, Moving}
use Rattle.stm_state.specs.Limits.{record_limit}
use Rattle.stm_state.specs.State.{State, fresh, call_at, task_at}
use Rattle.stm_state.specs.Steps.{Block, Step, ReadKey, Record as HandIn, MoveKey, counted, one_step, one_execution, after_record, recorded_run, after_move_key, has_new_key, keys_of, keys_to_move, left_over, write_of, written_by}
use Rattle.stm_state.proofs.Invariant.{Invariant, owned_by}
use Rattle.stm_state.proofs.Writes.{entries_found}
use Rattle.stm_core.specs.CoreState.{is_due}
use Rattle.stm_core.specs.Inner.{AreOpen, IsGrown, IsPromised, KeepsPromises, unpublished, with_write, writes_at}
use Rattle.stm_core.proofs.EntryPlaces.{open_grown}
use Rattle.stm_core.proofs.TaskChanges.{KeepsLasts, LeavesTask, Turn, has_moved, has_recorded, moved_by}

-- ---- sums

-- sums are equal if the summands are equal at each index
same_sums : {X : Type 0} (f g : X → ℕ) (xs : List X) (d : X) → ((u : ℕ) → f (get_or xs u d) ≡ g (get_or xs u d)) → sum_by f xs ≡ sum_by g xs
same_sums f g [] d same = refl
same_sums f g (x ∷ xs) d same =
    let first : f x ≡ g x = same zero in
    let rest = same_sums f g xs d (λ u. same (suc u)) in
    omega (arith, first, rest, sum_by-cons f x xs, sum_by-cons g x xs)

-- a sum if one element becomes another, and the summands of all the others stay the same
sum_changed : {X : Type 0} (f g : X → ℕ) (xs : List X) (w : ℕ) (y d : X) → w < length xs → ((u : ℕ) → u ≢ w → f (get_or xs u d) ≡ g (get_or xs u d)) → sum_by g (set xs w y) + f (get_or xs w d) ≡ sum_by f xs + g y
sum_changed f g [] w y d within same = absurd (omega (arith, within))
sum_changed f g (x ∷ xs) zero y d within same =
    let rest = same_sums f g xs d (λ u. same (suc u) (λ e. omega (arith, e))) in
    omega (arith, rest, sum_by-cons f x xs, sum_by-cons g y xs)
sum_changed f g (x ∷ xs) (suc w) y d within same =
    let first : f x ≡ g x = same zero (λ e. omega (arith, e)) in
    let rest = sum_changed f g xs w y d (omega (arith, within)) (λ u ne. same (suc u) (λ e. ne (omega (arith, e)))) in
    omega (arith, first, rest, sum_by-cons f x xs, sum_by-cons g x (set xs w y))

-- ---- writes at keys

with_write-append : (key : List ℕ) (o : Option ContentChange) (xs ys : List (List ℕ × ContentChange)) → with_write key o (xs ++ ys) ≡ with_write key o xs ++ ys
with_write-append key None xs ys = refl
with_write-append key (Some content) xs ys = refl

writes_at-append : (last : Option Recorded) (keys more : List (List ℕ)) → writes_at last (keys ++ more) ≡ writes_at last keys ++ writes_at last more
writes_at-append last [] more = refl
writes_at-append last (key ∷ keys) more =
    ap (with_write key (write_of last key)) (writes_at-append last keys more)
    ∙ with_write-append key (write_of last key) (writes_at last keys) (writes_at last more)

-- at the keys of writes that a run made they are those writes
at_own : (run : Recorded) (es : List (List ℕ × ContentChange)) → AllByRecursion (λ e. get run.receipt.writes e.0 ≡ Some e.1) es → writes_at (Some run) (keys_of es) ≡ es
at_own run [] found = refl
at_own run (e ∷ es) found =
    ap (λ o. with_write e.0 o (writes_at (Some run) (keys_of es))) found.0 ∙ ap (λ rest. e ∷ rest) (at_own run es found.1)

-- at the keys of writes that the run did not make there are none
at_left : (run : Recorded) (es : List (List ℕ × ContentChange)) → writes_at (Some run) (keys_of (filter (λ write. not (contains_key run.receipt.writes write.0)) es)) ≡ []
at_left run [] = refl
at_left run (e ∷ es) = go (get run.receipt.writes e.0) refl (at_left run es)
  where
    go : (o : Option ContentChange) → get run.receipt.writes e.0 ≡ o → writes_at (Some run) (keys_of (filter (λ write. not (contains_key run.receipt.writes write.0)) es)) ≡ []
        → writes_at (Some run) (keys_of (cond (not (is_some o)) (e ∷ filter (λ write. not (contains_key run.receipt.writes write.0)) es) (filter (λ write. not (contains_key run.receipt.writes write.0)) es))) ≡ []
    go None found none = ap (λ o. with_write e.0 o (writes_at (Some run) (keys_of (filter (λ write. not (contains_key run.receipt.writes write.0)) es)))) found ∙ none
    go (Some content) found none = none

-- at the keys that a run must move they are what it wrote
at_moved : (run : Recorded) (last : Option Recorded) → writes_at (Some run) (keys_to_move last run.receipt.writes) ≡ entries run.receipt.writes
at_moved run last =
    let es = entries run.receipt.writes in
    let left = keys_of (left_over last run.receipt.writes) in
    writes_at-append (Some run) (keys_of es) left
    ∙ ap (λ xs. xs ++ writes_at (Some run) left) (at_own run es (entries_found run.receipt.writes))
    ∙ ap (λ ys. es ++ ys) (at_left run (written_by last)) ∙ append-nil es

-- those at the next key come before those at the others
next_and_rest : (key : List ℕ) (o : Option ContentChange) (writes : List (List ℕ × ContentChange)) → length (with_write key o writes) ≡ length (with_write key o []) + length writes
next_and_rest key None writes = omega arith
next_and_rest key (Some content) writes = omega arith

module _ (places : FinSet place_cmp) (i : ℕ) (key : List ℕ) (writes : List (List ℕ × ContentChange)) where
  next_open : (o : Option ContentChange) → AreOpen places i (with_write key o writes) → AreOpen places i (with_write key o [])
  next_open None open_ = tt
  next_open (Some content) open_ = (open_.0, tt)

  rest_open : (o : Option ContentChange) → AreOpen places i (with_write key o writes) → AreOpen places i writes
  rest_open None open_ = open_
  rest_open (Some content) open_ = open_.1

-- equal tasks that move keys have the same call and the same keys
at_same_keys : (P : ℕ → List (List ℕ) → Type 0) (i j : ℕ) (keys ks : List (List ℕ)) (new b : Bool) → Moving i keys new ≡ Moving j ks b → P i keys → P j ks
at_same_keys P i j keys ks new b e h =
    let call : i ≡ j = cc in
    let same : keys ≡ ks = cc in
    subst (λ k. P k ks) call (subst (P i) same h)

-- ---- a step

-- a step that neither hands a run in nor moves a key
abbrev pub IsQuiet : Step → Type 0
IsQuiet HandIn = ⊥
IsQuiet MoveKey = ⊥
IsQuiet step = Unit {0}

-- it leaves no keys to move
leaves_none : (step : Step) (task : Task) → IsQuiet step → LeavesTask step task → moved_by task ≡ None
leaves_none (ReadKey key) task q h = h
leaves_none HandIn task q h = absurd q
leaves_none MoveKey task q h = absurd q
leaves_none step task q h = h.1

none_unpublished : (calls : List CallState) (task : Task) → moved_by task ≡ None → unpublished calls task ≡ []
none_unpublished calls (Moving i keys new) h = cc
none_unpublished calls task h = refl

-- nor is there a write to publish before it
none_before : (calls : List CallState) (step : Step) (task : Task) → IsQuiet step → is_due step task ≡ true → unpublished calls task ≡ []
none_before calls HandIn (Moving i (key ∷ keys) new) q due = absurd q
none_before calls MoveKey (Moving i (key ∷ keys) new) q due = absurd q
none_before calls step (Moving i (key ∷ keys) new) q due = cc
none_before calls step task q due = refl

module _ (block : Block) (n w : ℕ) (s : State) (h : Invariant block n s) (within : w < length s.tasks) where
  -- a step that changes the worker's own task, and no last recorded run but that of the worker's own call
  module _ (t : State) (task : Task) (tasks : t.tasks ≡ set s.tasks w task) (lasts : KeepsLasts w s t) where
    last_same : (u i : ℕ) (keys : List (List ℕ)) (new : Bool) → u ≢ w → task_at s u ≡ Moving i keys new → (call_at t i).last ≡ (call_at s i).last
    last_same u i keys new ne at = lasts i (λ own. ne (h.facts.alone u w i (ap owned_by at) own))

    -- the other tasks keep the writes that they are yet to publish
    same_writes : (u : ℕ) → u ≢ w → unpublished s.calls (task_at s u) ≡ unpublished t.calls (task_at s u)
    same_writes u ne = go (task_at s u) refl
      where
        go : (x : Task) → task_at s u ≡ x → unpublished s.calls x ≡ unpublished t.calls x
        go (Moving i keys new) at = ap (λ last. writes_at last keys) (sym (last_same u i keys new ne at))
        go x at = refl

    count_changed : sum_by (λ x. length (unpublished t.calls x)) t.tasks + length (unpublished s.calls (task_at s w)) ≡ sum_by (λ x. length (unpublished s.calls x)) s.tasks + length (unpublished t.calls task)
    count_changed =
        ap (λ l. sum_by (λ x. length (unpublished t.calls x)) l + length (unpublished s.calls (task_at s w))) tasks
        ∙ sum_changed (λ x. length (unpublished s.calls x)) (λ x. length (unpublished t.calls x)) s.tasks w task Idle within (λ u ne. ap length (same_writes u ne))

    -- places are kept at the writes of the others; so at all writes, if they are kept at the worker's own
    places_kept : (old new : FinSet place_cmp) → ((place : Place) → IsTrue (contains old place) → IsTrue (contains new place))
        → ((u i : ℕ) (keys : List (List ℕ)) (b : Bool) → task_at s u ≡ Moving i keys b → AreOpen old i (writes_at (call_at s i).last keys))
        → ((i : ℕ) (keys : List (List ℕ)) (b : Bool) → task ≡ Moving i keys b → AreOpen new i (writes_at (call_at t i).last keys))
        → (u i : ℕ) (keys : List (List ℕ)) (b : Bool) → task_at t u ≡ Moving i keys b → AreOpen new i (writes_at (call_at t i).last keys)
    places_kept old new grows before own u i keys b at = elim (cases_eq u w) [
      | inl e ↦ own i keys b (sym (ap (λ l. get_or l w Idle) tasks ∙ get_or-set_same s.tasks w task Idle within) ∙ sym (ap (task_at t) e) ∙ at)
      | inr ne ↦
          let was : task_at s u ≡ Moving i keys b = sym (ap (λ l. get_or l u Idle) tasks ∙ get_or-set_other s.tasks w u task Idle ne) ∙ at in
          subst (λ last. AreOpen new i (writes_at last keys)) (sym (last_same u i keys b ne was)) (open_grown old new grows i (writes_at (call_at s i).last keys) (before u i keys b was))
    ]

  module _ (table : Table) (promised : ℕ) (kept : KeepsPromises table promised s) where
    -- a quiet step keeps all
    pub quiet_kept : (t : State) (step : Step) (after : Table) → IsQuiet step → is_due step (task_at s w) ≡ true → Turn w (LeavesTask step) s t → after.places ≡ table.places → after.arena ≡ table.arena → KeepsPromises after promised t
    quiet_kept t step after q due turned places arena =
        let rests : moved_by turned.task ≡ None = leaves_none step turned.task q turned.fits in
        let before = ap length (none_before s.calls step (task_at s w) q due) in
        let own = ap length (none_unpublished t.calls turned.task rests) in
        record {
          places = places_kept t turned.task turned.tasks turned.lasts table.places after.places (λ place. subst (λ p. IsTrue (contains p place)) (sym places)) kept.places (λ i keys b e. let moves = ap moved_by e in cc);
          count = let c = count_changed t turned.task turned.tasks turned.lasts in let k = kept.count in omega (arith, c, k, before, own);
          limit = subst (λ (a : ArenaState). length a.records + promised ≤ record_limit) (sym arena) kept.limit;
          room = subst (λ (a : ArenaState). promised ≤ a.room) (sym arena) kept.room;
          bytes = subst (λ (a : ArenaState). promised * 256 ≤ a.bytes) (sym arena) kept.bytes;
        }

    -- a run that is handed in is promised room for its writes
    pub recorded_kept : (i more : ℕ) (answers : List StorageAnswer) (receipt : Receipt) (after : Table) → i < length s.calls → task_at s w ≡ Running i answers None → IsGrown table after → IsPromised i receipt.writes after promised more
        → length table.arena.records + promised + len receipt.writes ≤ record_limit → KeepsPromises after more (counted one_execution w (after_record w i answers receipt s))
    recorded_kept i more answers receipt after call_in at grown promises limit =
        let t = counted one_execution w (after_record w i answers receipt s) in
        let run = recorded_run answers receipt in
        let keys = keys_to_move (call_at s i).last receipt.writes in
        let task = Moving i keys (has_new_key (call_at s i).last receipt.writes) in
        let lasts = (has_recorded w s i answers receipt at).lasts in
        let last : (call_at t i).last ≡ Some run = ap (λ (call : CallState). call.last) (get_or-set_same s.calls i (record (call_at s i) { last = Some run }) fresh call_in) in
        let writes : writes_at (call_at t i).last keys ≡ entries receipt.writes = ap (λ l. writes_at l keys) last ∙ at_moved run (call_at s i).last in
        record {
          places = places_kept t task refl lasts table.places after.places grown.places kept.places
              (λ j ks b e. at_same_keys (λ k l. AreOpen after.places k (writes_at (call_at t k).last l)) i j keys ks _ b e (subst (AreOpen after.places i) (sym writes) promises.places));
          count =
              let c = count_changed t task refl lasts in
              let before = ap (λ x. length (unpublished s.calls x)) at in
              let own = ap length writes in
              let added = promises.count in
              let k = kept.count in
              omega (arith, c, k, own, before, added, len-entries receipt.writes);
          limit = let r = ap (λ (rs : List Record). length rs) grown.records in let added = promises.count in omega (arith, r, added, limit);
          room = promises.room;
          bytes = promises.bytes;
        }

    -- a key that is moved takes its record from the room that was promised
    pub moved_kept : (i rest : ℕ) (key : List ℕ) (keys : List (List ℕ)) (new : Bool) (after : Table) → task_at s w ≡ Moving i (key ∷ keys) new → after.places ≡ table.places
        → length after.arena.records + rest ≡ length table.arena.records + promised → rest + length (writes_at (call_at s i).last (key ∷ [])) ≡ promised → rest ≤ after.arena.room → rest * 256 ≤ after.arena.bytes
        → KeepsPromises after rest (counted one_step w (after_move_key w i key keys new s))
    moved_kept i rest key keys new after at places placed taken room bytes =
        let t = counted one_step w (after_move_key w i key keys new s) in
        let task = Moving i keys new in
        let lasts : KeepsLasts w s t = (has_moved w s i key keys new).lasts in
        let last = (call_at s i).last in
        let open_ = rest_open table.places i key (writes_at last keys) (write_of last key) (kept.places w i (key ∷ keys) new at) in
        record {
          places = places_kept t task refl lasts table.places after.places (λ place. subst (λ p. IsTrue (contains p place)) (sym places)) kept.places
              (λ j ks b e. at_same_keys (λ k l. AreOpen after.places k (writes_at (call_at s k).last l)) i j keys ks new b e (subst (λ p. AreOpen p i (writes_at last keys)) (sym places) open_));
          count =
              let c = count_changed t task refl lasts in
              let before = ap (λ x. length (unpublished s.calls x)) at in
              let own = next_and_rest key (write_of last key) (writes_at last keys) in
              let k = kept.count in
              omega (arith, c, k, own, before, taken);
          limit = let l = kept.limit in omega (arith, l, placed);
          room = room;
          bytes = bytes;
        }

    -- what the next key takes is promised, and has a place
    module _ (i : ℕ) (key : List ℕ) (keys : List (List ℕ)) (new : Bool) (at : task_at s w ≡ Moving i (key ∷ keys) new) where
      pub next_has_place : AreOpen table.places i (writes_at (call_at s i).last (key ∷ []))
      next_has_place = let last = (call_at s i).last in next_open table.places i key (writes_at last keys) (write_of last key) (kept.places w i (key ∷ keys) new at)

      pub next_is_promised : length (writes_at (call_at s i).last (key ∷ [])) ≤ promised
      next_is_promised =
          let last = (call_at s i).last in
          let c = sum_changed (λ x. length (unpublished s.calls x)) (λ x. length (unpublished s.calls x)) s.tasks w Idle Idle within (λ u ne. refl) in
          let before = ap (λ x. length (unpublished s.calls x)) at in
          let own = next_and_rest key (write_of last key) (writes_at last keys) in
          let k = kept.count in
          omega (arith, c, k, own, before)

-- all is kept if there is more room
pub grown_kept : (table : Table) (promised : ℕ) (s : State) → KeepsPromises table promised s → (after : Table) → IsGrown table after → KeepsPromises after promised s
grown_kept table promised s kept after grown = record {
  places = λ u i keys b at. open_grown table.places after.places grown.places i (writes_at (call_at s i).last keys) (kept.places u i keys b at);
  count = kept.count;
  limit = let r = ap (λ (rs : List Record). length rs) grown.records in let l = kept.limit in omega (arith, r, l);
  room = let more = grown.room in let k = kept.room in omega (arith, more, k);
  bytes = let more = grown.bytes in let k = kept.bytes in omega (arith, more, k);
}

-- at the start nothing is promised
pub none_promised : (table : Table) (workers : ℕ) (s : State) → s.tasks ≡ replicate workers Idle → table.arena.records ≡ [] → KeepsPromises table 0 s
none_promised table workers s idle none = record {
  places = λ w i keys b at. let e = ap (λ l. get_or l w Idle) idle ∙ all_idle workers w in cc;
  count = ap (sum_by (λ task. length (unpublished s.calls task))) idle ∙ sum_by-replicate (λ task. length (unpublished s.calls task)) workers Idle ∙ omega arith;
  limit = let r = ap (λ (rs : List Record). length rs) none in omega (arith, r);
  room = omega arith;
  bytes = omega arith;
}
  where
    all_idle : (m w : ℕ) → get_or (replicate m Idle) w Idle ≡ Idle
    all_idle zero w = refl
    all_idle (suc m) zero = refl
    all_idle (suc m) (suc w) = all_idle m w
