-- The room for keys, if calls are readied, and if the lists of workers get more of it in turn.
use Rattle.std.proofs.Common.{◌≡◌, ◌≤◌, ◌<◌, ◌+◌, ℕ, arith, Bool, true, false, if◌then◌else◌, List, length, map, get_or, set, Option, refl, sym, ap, subst, ◌∙◌, inl, inr}
use Rattle.std.proofs.lemmas.Bool.{cases_eq}
use Rattle.std.proofs.lemmas.List.{get_or-set_same, get_or-set_other, get_or_default}
use Rattle.std.proofs.Math.ListN.{get_or-map}
use Rattle.std.proofs.Math.Seq.{map-set_same}
use Rattle.stm_state.specs.declared.state.CallState.{CallState}
use Rattle.stm_state.specs.declared.state.Recorded.{Recorded}
use Rattle.stm_state.specs.State.{fresh}
use Rattle.stm_state.specs.Steps.{next_incarnation, resume_if_parked, is_parked_on, written_by}
use Rattle.scheduler.specs.KeyRoom.{HasKeyRoom}
use Rattle.scheduler.specs.Workers.{WorkerState, but_key_room, idle_worker}

abbrev key_room_of : WorkerState → ℕ
key_room_of w = w.key_room

-- a call's run stays if the call is readied
resumed_last : (b : Bool) (call : CallState) → (if b then next_incarnation call else call).last ≡ call.last
resumed_last true call = refl
resumed_last false call = refl

-- if the calls that are parked on one are readied, each has the run that it had
pub calls_resumed : (room : ℕ) (calls : List CallState) (workers : List WorkerState) → HasKeyRoom room calls workers → (on : ℕ) (new : List CallState) → new ≡ map (resume_if_parked on) calls → HasKeyRoom room new workers
calls_resumed room calls workers has on new e = record {
  lists = has.lists;
  runs = λ i.
      let at : get_or new i fresh ≡ resume_if_parked on (get_or calls i fresh) = ap (λ (l : List CallState). get_or l i fresh) e ∙ get_or-map (resume_if_parked on) calls i fresh in
      subst (λ (l : Option Recorded). length (written_by l) ≤ room) (sym (ap (λ (c : CallState). c.last) at ∙ resumed_last (is_parked_on on (get_or calls i fresh)) (get_or calls i fresh))) (has.runs i);
}

-- a worker's list gets more room
module _ (workers : List WorkerState) (i : ℕ) (old new : WorkerState) (within : i < length workers) (is : old ≡ get_or workers i old) where
  there : (get_or (set workers i new) i idle_worker).key_room ≡ new.key_room
  there = ap key_room_of (get_or-set_same workers i new idle_worker within)

  -- each has at least the room that it had
  pub grown_more : (before : List WorkerState) → old.key_room ≤ new.key_room → ((w : ℕ) → (get_or before w idle_worker).key_room ≤ (get_or workers w idle_worker).key_room)
      → (w : ℕ) → (get_or before w idle_worker).key_room ≤ (get_or (set workers i new) w idle_worker).key_room
  grown_more before more grown w = elim (cases_eq w i) [
    | inl p ↦
        let was : old.key_room ≡ (get_or workers w idle_worker).key_room = ap key_room_of (is ∙ get_or_default workers i old idle_worker within) ∙ ap (λ (k : ℕ). (get_or workers k idle_worker).key_room) (sym p) in
        let now : (get_or (set workers i new) w idle_worker).key_room ≡ new.key_room = ap (λ (k : ℕ). (get_or (set workers i new) k idle_worker).key_room) p ∙ there in
        omega (arith, was, now, more, grown w)
    | inr q ↦ subst (λ (n : ℕ). (get_or before w idle_worker).key_room ≤ n) (ap key_room_of (sym (get_or-set_other workers i w new idle_worker q))) (grown w)
  ]

  -- the first of them have room for this number of keys, with one more list
  pub room_more : (count : ℕ) → count ≤ new.key_room → ((w : ℕ) → w < i → count ≤ (get_or workers w idle_worker).key_room) → (w : ℕ) → w < i + 1 → count ≤ (get_or (set workers i new) w idle_worker).key_room
  room_more count more before w lt = elim (cases_eq w i) [
    | inl p ↦ subst (λ (n : ℕ). count ≤ n) (sym (ap (λ (k : ℕ). (get_or (set workers i new) k idle_worker).key_room) p ∙ there)) more
    | inr q ↦ subst (λ (n : ℕ). count ≤ n) (ap key_room_of (sym (get_or-set_other workers i w new idle_worker q))) (before w (omega arith))
  ]

  -- the workers are as they were except for that room
  pub rest_same : new ≡ record old { key_room = new.key_room } → map but_key_room (set workers i new) ≡ map but_key_room workers
  rest_same e = map-set_same but_key_room workers i new old (ap but_key_room e ∙ ap but_key_room is)
