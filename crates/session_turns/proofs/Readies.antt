-- A state without its room for what is pending.
use Rattle.std.proofs.Common.{◌≡◌, ℕ, List, Option, Some, None, refl, sym, ap, subst, ◌∙◌}
use Rattle.std.specs.Prelude.{Vec}
use Rattle.std.specs.declared.alloc.Global.{Global}
use Rattle.std.specs.Arc.{arc_value}
use Rattle.overlay.proofs.Commits.{given_back}
use Rattle.rv_ledger.specs.Key.{Storage}
use Rattle.session_turns.proofs.Pendings.{program_back}
use Rattle.session_turns.specs.Pending.{HasRoomFor, HasRoomForLeft, HasRoomForRun}
use Rattle.session_turns.specs.Ready.{left_without, store_without, without_room}
use Rattle.session_turns.specs.declared.pending.Pending.{Pending}
use Rattle.session_turns.specs.declared.pending.Pending.TheVariants as pending
use Rattle.session_turns.specs.declared.pending.PendingRun.{PendingRun}
use Rattle.session_turns.specs.declared.run.Left.{Left}
use Rattle.session_turns.specs.declared.run.Left.TheVariants as left
use Rattle.session_turns.specs.declared.state.State.{State}

left_is : (before now : Storage) (given : Left) (keys : Option (Vec (List ℕ) Global)) → HasRoomForLeft before given keys now → left_without given keys now ≡ before
left_is before now (left.Changed changes) (Some keys) has = given_back before now changes keys.items has
left_is before now (left.Changed changes) None has = absurd has
left_is before now (left.Begun begun) keys has = has

store_is : (before now : Storage) (run : Option PendingRun) (keys : Option (Vec (List ℕ) Global)) → HasRoomForRun before run keys now → store_without run keys now ≡ before
store_is before now None keys has = has
store_is before now (Some run) keys has = left_is before now run.left keys has

-- without the room the state is as it was before
pub without_is : (before now : State) (p : Pending) (keys : Option (Vec (List ℕ) Global)) → HasRoomFor before p keys now → without_room p keys now ≡ before
without_is before now (pending.Nothing given) keys has = has
without_is before now (pending.Program name image text) keys has = program_back before now name (arc_value image) _ has.0 has.1 refl
without_is before now (pending.Forget name) keys has = has
without_is before now (pending.Frame frame) keys has =
    ap (λ (s : State). record s { store = store_without frame.run keys now.store }) has.1
    ∙ ap (λ (store : Storage). record before { store = store }) (store_is before.store now.store frame.run keys has.0)
without_is before now (pending.Begin begin) keys has = has

-- so the room is also room over the state without it
pub is_ready : (before now : State) (p : Pending) (keys : Option (Vec (List ℕ) Global)) → HasRoomFor before p keys now → HasRoomFor (without_room p keys now) p keys now
is_ready before now p keys has = subst (λ (s : State). HasRoomFor s p keys now) (sym (without_is before now p keys has)) has
