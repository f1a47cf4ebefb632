-- A session of an input.
use Rattle.std.proofs.Common.{◌≡◌, ℕ, List, Option, Some, None, IfSome, subst}
use Rattle.std.specs.declared.convert.Infallible.{Infallible}
use Rattle.session_serving.specs.Serving.{IsEndedBy, IsServed}
use Rattle.session_serving.specs.declared.serving.ServeFault.{ServeFault}
use Rattle.session_turns.specs.Failures.{IsAnswer}
use Rattle.session_turns.specs.Turn.{new_session}
use Rattle.session_turns.specs.declared.settings.Settings.{Settings}
use Rattle.session_turns.specs.declared.state.State.{State}
use Rattle.engines.specs.Chain.{cut_of, never_shut}
use Rattle.engines.specs.declared.fault.Refusal.{Refusal}

some_map : (P Q : List ℕ → Type 0) (a : Option (List ℕ)) → ((bytes : List ℕ) → P bytes → Q bytes) → IfSome a P → IfSome a Q
some_map P Q None f h = tt
some_map P Q (Some bytes) f h = f bytes h

-- a session that ended
pub session_done : (settings : Settings) (first after : State) (old new a : Option (List ℕ)) → first ≡ new_session settings
    → IfSome a (λ bytes. IsServed (IsAnswer settings) None first bytes after old new)
    → IfSome a (λ bytes. (last : State) × IsServed (IsAnswer settings) None (new_session settings) bytes last old new)
session_done settings first after old new a begins h = some_map _ _ a (λ bytes served. (after, subst (λ s. IsServed (IsAnswer settings) None s bytes after old new) begins served)) h

-- and one that a fault ended
pub session_cut : (may_fail : Type 0) (settings : Settings) (first after : State) (old new a : Option (List ℕ)) (e : Refusal) (fault : ServeFault Infallible) → first ≡ new_session settings → e ≡ cut_of fault
    → IfSome a (λ bytes. IsEndedBy may_fail (IsAnswer settings) never_shut fault first bytes after old new)
    → IfSome a (λ bytes. (f : ServeFault Infallible) × (last : State) × (e ≡ cut_of f) × IsEndedBy may_fail (IsAnswer settings) never_shut f (new_session settings) bytes last old new)
session_cut may_fail settings first after old new a e fault begins is h = some_map _ _ a (λ bytes ended. (fault, after, is, subst (λ s. IsEndedBy may_fail (IsAnswer settings) never_shut fault s bytes after old new) begins ended)) h
