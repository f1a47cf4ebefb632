-- What an open finds.
use Rattle.std.proofs.Common.{◌≡◌, ◌⊎◌, Bool, true, false, Result, Ok, Err, IfOk, IsTrue, inl, inr, sym, subst, ◌∙◌}
use Rattle.sqlite_exec.specs.Calls.{OnlyReads}
use Rattle.sqlite_trees.specs.Tree.{Trees}
use Rattle.sqlite_trees.specs.View.{View}
use Rattle.session_file.specs.Kept.{HoldsIn, Kept}
use Rattle.session_file.specs.Opening.{IsFresh}
use Rattle.session_file.specs.Staging.{IsKeeping}
use Rattle.session_file.proofs.Once.{holds_once}
use Rattle.session_file.proofs.Staged.{sound_open}
use Rattle.session_states.specs.States.{FileState, IsUnloadable, KeepsState, Loads, LoadsAs, file_state, new_state, nothing_kept}
use Rattle.session_states.specs.declared.loading.LoadFault.{LoadFault}
use Rattle.session_states.specs.declared.loading.LoadFault.TheVariants as load
use Rattle.session_states.specs.declared.loading.Loaded.{Loaded}
use Rattle.session_states.proofs.Changes.{session_made}
use Rattle.session_turns.specs.declared.settings.Settings.{Settings}
use Rattle.session_durability.specs.Durable.{HoldsState}
use Rattle.session_durability.specs.Keeping.{IsKeptBy}
use Rattle.session_durability.specs.Opened.{IsSessionUnopened, new_kept, fault_of_load}

-- rows that are no state of a session
pub unloaded : (settings : Settings) (v : View) (disk : Type 0) (k : Kept) (fault : LoadFault) → HoldsIn v.trees k → IsUnloadable settings k fault → IsSessionUnopened settings v disk (fault_of_load fault)
unloaded settings v disk k load.OtherSettings holds is = (k, holds, is)
unloaded settings v disk k load.Damaged holds is = λ j other.
    let same : j ≡ k = holds_once v.trees j k other holds in
    (λ e. is.0 (sym same ∙ e), λ f keeps. is.1 f (subst (λ (x : Kept). KeepsState settings f x) same keeps))

-- what was found is in the trees that were opened
pub holds_found : (old new : View) (k : Kept) → (old.is_open ≡ false → IsTrue old.is_broken) → IsFresh old → OnlyReads old new → IsKeeping new k → HoldsIn old.trees k
holds_found old new k shut fresh reads is =
    let still : IsTrue new.is_open = subst (λ (w : View). IsTrue w.is_open) (sym reads) (sound_open old shut fresh.sound) in
    subst (λ (w : View). HoldsIn w.trees k) reads (is still).written

-- a session that was there
pub loads_kept : (settings : Settings) (k : Kept) (loaded : Loaded) → Loads settings k loaded → loaded.is_new ≡ false → KeepsState settings (file_state loaded.state loaded.answer) k
loads_kept settings k loaded loads old = subst (λ (b : Bool). LoadsAs b settings k (file_state loaded.state loaded.answer)) old loads

-- a new one
pub loads_new : (settings : Settings) (k : Kept) (loaded : Loaded) → Loads settings k loaded → loaded.is_new ≡ true → (k ≡ nothing_kept) × (file_state loaded.state loaded.answer ≡ new_state settings)
loads_new settings k loaded loads new = subst (λ (b : Bool). LoadsAs b settings k (file_state loaded.state loaded.answer)) new loads

pub new_is_kept : (settings : Settings) (v : View) (f : FileState) → settings.keeps_digest ≡ true → f ≡ new_state settings → IsKeeping v (new_kept settings) → IsKeptBy settings v f
new_is_kept settings v f digest is keeping = (new_kept settings, subst (λ (g : FileState). KeepsState settings g (new_kept settings)) (sym is) (session_made settings digest), keeping)

pub new_is_held : (settings : Settings) (db : Trees) (before : Type 0) → settings.keeps_digest ≡ true → before ⊎ HoldsIn db (new_kept settings) → before ⊎ HoldsState settings (new_state settings) db
new_is_held settings db before digest (inl was) = inl was
new_is_held settings db before digest (inr now) = inr (new_kept settings, now, session_made settings digest)

pub ok_both : {X E : Type 0} {P Q R : X → Type 0} (r : Result X E) → ((x : X) → P x → Q x → R x) → IfOk r P → IfOk r Q → IfOk r R
ok_both (Ok x) f p q = f x p q
ok_both (Err e) f p q = tt
