-- A file that is opened before it is read.
use Rattle.std.proofs.Common.{◌≡◌, ◌⊎◌, ℕ, List, inl, inr, refl, subst}
use Rattle.std.specs.Prelude.{Option, Some, None, IfSome, Result}
use Rattle.std.proofs.lemmas.Option.{IfSome_then}
use Rattle.block_file.specs.Migrate.{migrated}
use Rattle.block_file.specs.declared.fault.BlockFault.{BlockFault}
use Rattle.block_file.specs.declared.fault.Cause.TheVariants as cause
use Rattle.rv_text.specs.declared.fault.AsmCause.TheVariants as asm_cause
use Rattle.engines.specs.Dis.{IsSourceFault}
use Rattle.engines.specs.Engine.{IsBlockFault}
use Rattle.engines.specs.declared.fault.FileFault.TheVariants.{Unreadable, Unwritable}
use Rattle.engines.specs.declared.fault.Refusal.{Refusal}
use Rattle.engines.proofs.Migrated.{memory_is_first}
use Rattle.engines.specs.declared.fault.Refusal.TheVariants.{Asm, Block, Elf, File}

-- what holds of its bytes holds of those at its path
pub of_content : {X : Type 0} (content remaining : Option X) (P : X → Type 0) → IfSome content (λ x. remaining ≡ Some x) → IfSome remaining P → IfSome content P
of_content None remaining P opened h = tt
of_content (Some x) remaining P opened h = subst (λ r. IfSome r P) opened h

source_weaker : (first second : Type 0) (source : List ℕ) (e : Refusal) → (first → second) → IsSourceFault first source e → IsSourceFault second source e
source_weaker first second source (Asm fault) f h = h
source_weaker first second source (Elf fault) f h = h
source_weaker first second source (File Unreadable) f (inl h) = inl (f h)
source_weaker first second source (File Unreadable) f (inr h) = inr h
source_weaker first second source e f h = absurd h

block_weaker : {X : Type 0} (first second : Type 0) (text : Result X BlockFault) (e : Refusal) → (first → second) → IsBlockFault first text e → IsBlockFault second text e
block_weaker first second text (Block fault) f h = h
block_weaker first second text (File Unreadable) f h = f h
block_weaker first second text e f h = absurd h

module _ (content remaining : Option (List ℕ)) (may_fail : Type 0) (opened : IfSome content (λ bytes. remaining ≡ Some bytes)) (readable : may_fail → content ≡ None) where
  -- a fault that is met in it
  pub source_fault : (e : Refusal) → IfSome remaining (λ bytes. IsSourceFault may_fail bytes e) → IfSome content (λ bytes. IsSourceFault (content ≡ None) bytes e)
  source_fault e h = of_content content remaining (λ bytes. IsSourceFault (content ≡ None) bytes e) opened
      (IfSome_then remaining h (λ bytes. source_weaker may_fail (content ≡ None) bytes e readable))

  pub block_fault : {X : Type 0} (text_of : List ℕ → Result X BlockFault) (e : Refusal) → IfSome remaining (λ bytes. IsBlockFault may_fail (text_of bytes) e) → IfSome content (λ bytes. IsBlockFault (content ≡ None) (text_of bytes) e)
  block_fault text_of e h = of_content content remaining (λ bytes. IsBlockFault (content ≡ None) (text_of bytes) e) opened
      (IfSome_then remaining h (λ bytes. block_weaker may_fail (content ≡ None) (text_of bytes) e readable))

all_bytes : (o : Option (List ℕ)) (P : List ℕ → Type 0) → ((bytes : List ℕ) → P bytes) → IfSome o P
all_bytes None P h = tt
all_bytes (Some bytes) P h = h bytes

-- a refusal before it is read
module _ (content : Option (List ℕ)) (e : Refusal) where
  pub asm_refused : (e ≡ File Unwritable) ⊎ (e ≡ Asm (record { line = 1; cause = asm_cause.Memory })) ⊎ ((e ≡ File Unreadable) × (content ≡ None)) → (e ≡ File Unwritable) ⊎ IfSome content (λ bytes. IsSourceFault (content ≡ None) bytes e)
  asm_refused (inl wrong) = inl wrong
  asm_refused (inr (inl memory)) = inr (all_bytes content _ (λ bytes. rw memory (inl (refl, refl))))
  asm_refused (inr (inr lost)) = inr (all_bytes content _ (λ bytes. rw lost.0 (inl lost.1)))

  pub migrate_refused : (e ≡ File Unwritable) ⊎ (e ≡ Block (record { line = 1; cause = cause.Memory })) ⊎ ((e ≡ File Unreadable) × (content ≡ None)) → (e ≡ File Unwritable) ⊎ IfSome content (λ bytes. IsBlockFault (content ≡ None) (migrated bytes) e)
  migrate_refused (inl wrong) = inl wrong
  migrate_refused (inr (inl memory)) = inr (all_bytes content _ (λ bytes. rw memory (memory_is_first (content ≡ None) bytes)))
  migrate_refused (inr (inr lost)) = inr (all_bytes content _ (λ bytes. rw lost.0 lost.1))
