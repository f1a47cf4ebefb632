-- What a session over a file asks of its stores.
use Rattle.std.proofs.Common.{◌≡◌, ◌∙◌, ℕ, ◌++◌, List, ap, append_assoc, subst, inl, inr}
use Rattle.std.specs.Prelude.{Option, Some, None, Result, Ok, Err, IfSome, OnErr, OnOk}
use Rattle.session_durability.specs.Durable.{FileMoment, IsFileAnswer, IsShutBy}
use Rattle.session_durability.specs.Opened as session
use Rattle.session_durability.specs.declared.opening.SessionFault.{SessionFault}
use Rattle.session_durability.specs.declared.opening.SessionFault.TheVariants as unwanted
use Rattle.session_requests.specs.declared.request.RequestFault.TheVariants as request
use Rattle.session_serving.specs.Serving.{IsEndedBy}
use Rattle.session_serving.specs.declared.serving.ServeFault.{ServeFault}
use Rattle.session_serving.specs.declared.serving.ServeFault.TheVariants as serve
use Rattle.session_disk.specs.declared.fault.OpenFault.{OpenFault}
use Rattle.session_disk.specs.declared.fault.OpenFault.TheVariants as disk
use Rattle.session_states.specs.Faults.{fault_of_store}
use Rattle.session_states.specs.declared.fault.StoreFault.{StoreFault}
use Rattle.session_states.specs.declared.fault.StoreFault.TheVariants.{Busy, HotJournal, NotASession, OtherVersion, OtherSettings}
use Rattle.sqlite_trees.specs.declared.error.StoreError.{StoreError}
use Rattle.sqlite_trees.specs.declared.error.StoreError.TheVariants as failure
use Rattle.session_turns.specs.declared.settings.Settings.{Settings}
use Rattle.engines.specs.Chain.{durably_cut, opening_fault}
use Rattle.engines.specs.Opened.{OrdersFollow}
use Rattle.engines.specs.Stores.{AsksAsTold, AsksForNone, AsksForSession, AsksInVain, IsOfSession, StoreOrder}
use Rattle.engines.specs.declared.fault.Refusal.{Refusal}
use Rattle.engines.specs.declared.fault.Refusal.TheVariants.{Seq, Store}

-- orders after orders
pub asks_then : {X : Type 0} (old mid new : Option (List X)) (first next : List X) → OrdersFollow old mid first → OrdersFollow mid new next → OrdersFollow old new (first ++ next)
asks_then None mid new first next h k = tt
asks_then (Some orders) mid new first next h k =
    let done : new ≡ Some ((orders ++ first) ++ next) = subst (λ m. OrdersFollow m new next) h k in done ∙ ap Some (append_assoc orders first next)

-- what holds whatever a call answers
pub if_done : {T E : Type 0} (r : Result T E) (P : Type 0) → P → OnOk r P
if_done (Ok x) P h = h
if_done (Err e) P h = tt

pub if_refused : {T E : Type 0} (r : Result T E) (P : Type 0) → P → OnErr r P
if_refused (Ok x) P h = tt
if_refused (Err e) P h = h

-- what holds whatever the input is
pub if_any : (input : Option (List ℕ)) (P : Type 0) → P → IfSome input (λ _. P)
if_any None P h = tt
if_any (Some bytes) P h = h

-- a file that was not opened
at_fault : (fault : OpenFault) (old new : Option (List StoreOrder)) (path : List ℕ) → new ≡ old → AsksAsTold old new path (Store (opening_fault fault))
at_fault disk.Busy old new path same = same
at_fault disk.HotJournal old new path same = same
at_fault fault old new path same = inl same

pub not_opened : (input : Option (List ℕ)) (fault : OpenFault) (told : StoreFault) (old new : Option (List StoreOrder)) (path : List ℕ) → told ≡ opening_fault fault → new ≡ old → IfSome input (λ _. AsksAsTold old new path (Store told))
not_opened input fault told old new path is same = rw is (if_any input _ (at_fault fault old new path same))

-- one that keeps no session of the settings
vain : (error : StoreError) (old new : Option (List StoreOrder)) (path : List ℕ) → AsksInVain old new path → AsksAsTold old new path (Store (fault_of_store error))
vain failure.OutOfMemory old new path asks = asks
vain error old new path asks = asks

at_none : (fault : SessionFault) (old new : Option (List StoreOrder)) (path : List ℕ) → AsksForNone old new path → AsksAsTold old new path (Store (session.store_fault_of fault))
at_none unwanted.NotASession old new path asks = inr asks
at_none unwanted.OtherVersion old new path asks = asks
at_none unwanted.OtherSettings old new path asks = asks
at_none unwanted.Damaged old new path asks = inr (inl asks)
at_none (unwanted.Store error) old new path asks = vain error old new path (inr (inl asks))

pub not_wanted : (input : Option (List ℕ)) (fault : SessionFault) (told : StoreFault) (old new : Option (List StoreOrder)) (path : List ℕ) → told ≡ session.store_fault_of fault → AsksForNone old new path → IfSome input (λ _. AsksAsTold old new path (Store told))
not_wanted input fault told old new path is asks = rw is (if_any input _ (at_none fault old new path asks))

-- and one whose session ended
pub ended : (fault : Refusal) (old new : Option (List StoreOrder)) (path : List ℕ) → IsOfSession fault → AsksForSession old new path → AsksAsTold old new path fault
ended (Seq fault) old new path never asks = absurd never
ended (Store Busy) old new path never asks = absurd never
ended (Store HotJournal) old new path never asks = absurd never
ended (Store NotASession) old new path never asks = absurd never
ended (Store OtherVersion) old new path never asks = absurd never
ended (Store OtherSettings) old new path never asks = absurd never
ended (Store fault) old new path _ asks = inr (inr asks)
ended fault old new path _ asks = asks

-- the end of a session is a refusal of an opened one
of_end : (may_fail : Type 0) (settings : Settings) (fault : ServeFault StoreFault) (old new : FileMoment) (bytes : List ℕ) (before after : Option (List ℕ))
    → IsEndedBy may_fail (IsFileAnswer settings) (IsShutBy settings) fault old bytes new before after → IsOfSession (durably_cut fault)
of_end may_fail settings (serve.Broken request.BadLine) old new bytes before after h = tt
of_end may_fail settings (serve.Shut Busy) old new bytes before after h = h.8.cause
of_end may_fail settings (serve.Shut HotJournal) old new bytes before after h = h.8.cause
of_end may_fail settings (serve.Shut NotASession) old new bytes before after h = h.8.cause
of_end may_fail settings (serve.Shut OtherVersion) old new bytes before after h = h.8.cause
of_end may_fail settings (serve.Shut OtherSettings) old new bytes before after h = h.8.cause
of_end may_fail settings fault old new bytes before after h = tt

pub of_session : (may_fail : Type 0) (settings : Settings) (fault : ServeFault StoreFault) (old new : FileMoment) (input : Option (List ℕ)) (before after : Option (List ℕ)) (e : Refusal) → e ≡ durably_cut fault
    → IfSome input (λ bytes. IsEndedBy may_fail (IsFileAnswer settings) (IsShutBy settings) fault old bytes new before after) → IfSome input (λ _. IsOfSession e)
of_session may_fail settings fault old new None before after e is h = tt
of_session may_fail settings fault old new (Some bytes) before after e is h = rw is (of_end may_fail settings fault old new bytes before after h)
