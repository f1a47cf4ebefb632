-- The machine values of a `BlockHandle`. Assumes `Logic`.
use Rattle.std.proofs.Common.{◌≡◌, ℕ, List, [], ◌∷◌, ◌++◌, refl, subst}
use mathlib.Core.Bool.{Bool, true, false}
use seplogic.Ra.Ura.{Ura}
use mir.Raw.{raw as bare}
use mir.Val.{Val, vbool, vstruct, vcons, vnil, of_list}
use base.Logic.{never, fst∗}
use types.Logic.{Logic, sem}
use types.Kit.{Item, Goal, Seq, Step, step, ‵, ◌$◌, drop, fsplit, fjoin, fpick, fpack, rewrite, feq_i, feq_l}
use denote.RattleType.{RattleType, Valss}
use denote.Builtin.{RawPtr, bool}
use denote.Memory.{lone}
use denote.RawPtr.{Ptr, block_ptr, null_ptr, ptr_val, in_a_block}
use denote.Steps.{nothing}
use denote.Struct.Struct.{within}
use denote.Struct.Owning.{shape, to}
use Rattle.std.specs.Prelude.{Option, Some, None, IsSome, is_some}
use Rattle.std.specs.Box.Ownership.{box_owns}
use Rattle.std.specs.contracts.alloc.Global as heap
use Rattle.rvstm_c.specs.Held.{held, on_heap}
use Rattle.rvstm_c.specs.contracts.block.EmbeddedBlock as block
use Rattle.rvstm_c.specs.contracts.block_handle.BlockHandle as handle

abbrev pub R : RattleType
R = block.the_row

abbrev pub Z : RattleType
Z = heap.the_row

abbrev pub Hd : RattleType
Hd = handle.the_row

-- a family of types that separates true from false
abbrev Differs : Bool → Type 0
Differs true = ⊥
Differs false = Unit {0}

pub some_of : {X : Type 0} (v : Option X) → IsSome v → (x : X) × (v ≡ Some x)
some_of (Some x) full = (x, refl)
some_of None full = absurd (subst Differs full tt)

-- the machine value of a handle
abbrev pub word : Ptr → Bool → Val
word p t = vstruct (vcons (ptr_val p) (vcons (vbool t) vnil))

module _ {M : Type 1} {𝓤 : Ura M} {𝓛 : Logic 𝓤} {K : Type 0} {Γ : List (Item 𝓤)} {G : Goal 𝓤 𝓛.H} where
  -- a handle: what it holds, and its machine value
  pub handle_any : K → (d : Hd.Denot) (vs : List Val) → (vs ≡ word d.at d.full ∷ [] → Seq K 𝓛 (‵ (held on_heap R d.at d.value) ∷ Γ) G) → Seq K 𝓛 (‵ (Hd.own_val d vs) ∷ Γ) G
  handle_any t d vs k =
      fsplit t $ fpick t (λ vss. fsplit t $ feq_l t (λ ev. fsplit t $ feq_l t (λ ep. fsplit t $ feq_l t (λ eb. drop t $ k (
      subst (λ (bs : List Val). vs ≡ vstruct (of_list (ptr_val d.at ∷ (bs ++ []))) ∷ []) eb
      (subst (λ (ps : List Val). vs ≡ vstruct (of_list (ps ++ (vss.1.0 ++ []))) ∷ []) ep ev))))))

  -- a full handle: the box, and the pointer's block
  pub handle_out : K → (d : Hd.Denot) (x : R.Denot) → d.value ≡ Some x → (vs : List Val)
      → ((b o : ℕ) → d.at ≡ block_ptr b o → vs ≡ word d.at d.full ∷ [] → Seq K 𝓛 (‵ (box_owns on_heap R (block_ptr b o) x) ∷ Γ) G)
      → Seq K 𝓛 (‵ (Hd.own_val d vs) ∷ Γ) G
  handle_out t d x is vs k =
      handle_any t d vs (λ ev. rewrite t 0 (λ (y : Option R.Denot). ‵ (held on_heap R d.at y)) is refl $
      in_a_block t d.at (λ p. box_owns on_heap R p x) (fst∗ 𝓤 (never 𝓤) (sem 𝓛 (on_heap (bare (lone R.mir)) null_ptr))) (λ b o e. k b o e ev))

  -- a handle made of its machine value and what it holds
  pub handle_in : K → (p : Ptr) (t : Bool) (y : Option R.Denot) (is : t ≡ is_some y)
      → Step K 𝓛 (‵ (Hd.own_val (record { at = p; full = t; value = y; flagged = is }) (word p t ∷ [])) ∷ Γ) G (‵ (held on_heap R p y) ∷ Γ) G
  handle_in k p t y is = step (λ s. let v : Val = word p t in
      nothing k $ feq_i k (List Val) (vbool t ∷ []) (vbool t ∷ []) refl $ fjoin k $ feq_i k (List Val) (ptr_val p ∷ []) (ptr_val p ∷ []) refl $ fjoin k $ feq_i k (List Val) (v ∷ []) (v ∷ []) refl $ fjoin k $
      fpack k (Valss (RawPtr ∷ bool ∷ [])) (within (shape handle.the_type) (to handle.the_type (record { at = p; full = t; value = y; flagged = is })) (v ∷ [])) (ptr_val p ∷ [], (vbool t ∷ [], tt)) $ fjoin k $ s)
