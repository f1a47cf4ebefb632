use Rattle.std.proofs.Common.{◌≡◌, ◌<◌, ◌+◌, ℕ, List, Option, arith, length, set, get_or, Some, sym, subst, ap, ◌∙◌}
use Rattle.std.proofs.lemmas.List.{get_or-set_same}
use Rattle.std.specs.FinMap.{len, len-entries}
use Rattle.stm_state.specs.declared.state.CallState.{CallState}
use Rattle.stm_state.specs.declared.state.Recorded.{Recorded}
use Rattle.stm_state.specs.declared.state.Task.TheVariants.{Moving}
use Rattle.stm_state.specs.State.{fresh, with_task}
use Rattle.stm_state.specs.Steps.{counted, has_new_key, keys_to_move, one_execution, written_by}
use Rattle.scheduler.specs.Schedule.{Schedule, state_of}
use Rattle.scheduler.proofs.Cases.{recorded_is}
use Rattle.scheduler.proofs.scheduler.Scheduler.keep_run.Goals as goal

-- the run that is kept is the last one of its call
kept_last : (calls new : List CallState) (i : ℕ) (run : Option Recorded) → i < length calls → new ≡ set calls i (record (get_or calls i fresh) { last = run }) → (get_or new i fresh).last ≡ run
kept_last calls new i run within is =
    ap (λ (l : List CallState). (get_or l i fresh).last) is ∙ ap (λ (k : CallState). k.last) (get_or-set_same calls i (record (get_or calls i fresh) { last = run }) fresh within)

pub keep-requires-clause-room : goal.keep-requires-clause-room
keep-requires-clause-room c =
    let room = c.requires.room c.in-Some.kept c.in-Some.is in
    let same = ap (λ (t : Schedule). t.key_room) c.count_execution.ensures in
    omega (arith, room, same, len-entries c.in-Some.kept.receipt.writes)

pub begin_moving-requires-clause-room : goal.begin_moving-requires-clause-room
begin_moving-requires-clause-room c =
    let i = c.args.call in
    let calls : c.count_execution.new.self.calls ≡ c.args.self.now.calls = ap (λ (t : Schedule). t.calls) c.count_execution.ensures in
    let within = subst (λ (l : List CallState). i < length l) (sym calls) c.requires.within in
    let room = c.requires.room c.in-Some.kept c.in-Some.is in
    let last = ap (λ (l : Option Recorded). length (written_by l)) (kept_last c.count_execution.new.self.calls c.keep.new.self.calls i (Some c.in-Some.kept) within (ap (λ (t : Schedule). t.calls) c.keep.ensures.kept)) in
    let before = ap (λ (l : Option Recorded). length (written_by l)) (c.keep.ensures.before ∙ ap (λ (l : List CallState). (get_or l i fresh).last) calls) in
    let kept = ap (λ (t : Schedule). t.key_room) c.keep.ensures.kept in
    let same = ap (λ (t : Schedule). t.key_room) c.count_execution.ensures in
    omega (arith, room, last, before, kept, same, len-entries c.in-Some.kept.receipt.writes)

pub returns-clause-state : goal.returns-clause-state
returns-clause-state c =
    let w = c.args.worker in
    let i = c.args.call in
    let new = c.has_new_key-new_key.result in
    let counted_one = c.count_execution.new.self in
    let calls : counted_one.calls ≡ c.args.self.now.calls = ap (λ (t : Schedule). t.calls) c.count_execution.ensures in
    let within = subst (λ (l : List CallState). i < length l) (sym calls) c.requires.within in
    let last = kept_last counted_one.calls c.keep.new.self.calls i (Some c.in-Some.kept) within (ap (λ (t : Schedule). t.calls) c.keep.ensures.kept) in
    let before : c.keep.new.run ≡ (get_or c.args.self.now.calls i fresh).last = c.keep.ensures.before ∙ ap (λ (l : List CallState). (get_or l i fresh).last) calls in
    λ run at answers is v p.
    let same : c.in-Some.kept ≡ run = cc in
    let keys = keys_to_move c.keep.new.run run.receipt.writes in
    let is_keys : keys ≡ keys_to_move (get_or c.args.self.now.calls i fresh).last run.receipt.writes = ap (λ (l : Option Recorded). keys_to_move l run.receipt.writes) before in
    let is_new : new ≡ has_new_key (get_or c.args.self.now.calls i fresh).last run.receipt.writes =
    c.has_new_key-new_key.ensures
    ∙ ap (λ (k : Recorded). has_new_key c.call.result.now.last k.receipt.writes) same
    ∙ ap (λ (k : CallState). has_new_key k.last run.receipt.writes) (c.call.ensures ∙ ap (λ (t : Schedule). get_or t.calls i fresh) c.count_execution.ensures) in
    let q = p + len run.receipt.writes in
    c.begin_moving.ensures.state run (last ∙ ap Some same) v q
    ∙ ap (λ (t : Schedule). with_task w (Moving i keys new) (state_of v q t)) c.keep.ensures.kept
    ∙ ap (λ (k : Recorded). with_task w (Moving i keys new) (state_of v q (record counted_one { calls = set counted_one.calls i (record (get_or counted_one.calls i fresh) { last = Some k }) }))) same
    ∙ ap (λ (t : Schedule). with_task w (Moving i keys new) (state_of v q (record t { calls = set t.calls i (record (get_or t.calls i fresh) { last = Some run }) }))) c.count_execution.ensures
    ∙ ap (counted one_execution w) (recorded_is w (state_of v p c.args.self.now) i run keys new answers is is_keys is_new)
