-- What the walks of `allocate` and `deallocate` share. Assumes `Logic`.
--     slot_at, then_runs, out_of_block      a parameter's slot; what follows a statement, and a block
--     base_val, bytes_val, deed_val      the machine values of a chunk's parts: each can be made; an owner has only one
--     three_of      a tuple of three is made of its parts
use Prim.Native.Nat.{ℕ, zero, suc}
use Rattle.std.proofs.Common.{◌≡◌, List, [], ◌∷◌, ◌++◌, refl, ◌∙◌}
use seplogic.Ra.Ura.{Ura}
use mir.Syntax.{Body}
use mir.Val.{Val, vstruct, vcons, vnil, of_list}
use base.Logic.{ent, sep, emp}
use base.Fml.{Fml}
use prog.Wp.{Env, Calls, Loops, Wp, after_seq, after_block}
use types.Logic.{Logic, sem}
use types.Kit.{‵, Post, any_q, post, ◌$◌, ◌∵◌, !, qed, move, feq_i, fjoin, fpack, done}
use denote.Builtin.{unit}
use denote.RattleType.{RattleType, Valss}
use denote.RawPtr.{Ptr, RawPtr, ptr_val}
use denote.Shadow.{shadow, makes_shadow}
use denote.Signature.{Slot, plain}
use denote.Steps.{nothing}
use denote.Struct.Declared as Declared
use denote.Struct.Struct.{Struct, within}
use denote.Struct.Tuple.{Tuple, tuple_type}

abbrev pub slot_at : {n : ℕ} → ℕ → List (Slot n) → Slot n
slot_at k [] = plain (λ _. unit)
slot_at zero (s ∷ ss) = s
slot_at (suc k) (s ∷ ss) = slot_at k ss

-- a struct by its fields alone: what it owns does not read its name
abbrev plainly : List RattleType → RattleType
plainly Rs = Struct (record { name = []; args = []; types = []; fields = Rs })

abbrev pub base_val : Ptr → Val
base_val p = vstruct (vcons (ptr_val p) vnil)

abbrev pub base_own : Ptr → List Val → Fml
base_own p = (plainly (RawPtr ∷ [])).own_val (p, tt)

abbrev pub bytes_val : Val
bytes_val = vstruct vnil

abbrev pub bytes_fields : List Val → Fml
bytes_fields = (plainly []).own_val tt

pub bytes_told : (vs : List Val) → shadow (bytes_fields vs) → vs ≡ bytes_val ∷ []
bytes_told vs s = s.1.0

abbrev pub deed_val : Val
deed_val = vstruct (vcons (vstruct vnil) vnil)

abbrev pub deed_fields : List Val → Fml
deed_fields = (plainly (plainly [] ∷ [])).own_val (tt, tt)

pub deed_told : (vs : List Val) → shadow (deed_fields vs) → vs ≡ deed_val ∷ []
deed_told vs s = s.1.0 ∙ (λ i. vstruct (of_list (s.1.1.0.1.0 i ++ [])) ∷ [])

abbrev pub three_val : Val → Val → Val → Val
three_val u v w = vstruct (vcons u (vcons v (vcons w vnil)))

module _ {M : Type 1} {𝓤 : Ura M} (𝓛 : Logic 𝓤) where
  open 𝓛 use {H}

  abbrev pub then_runs : Calls 𝓤 H → Loops 𝓤 H → Env 𝓤 H → Body → Post 𝓤 H → Post 𝓤 H
  then_runs C Λ E b q = any_q (after_seq 𝓤 H (Wp 𝓤 H C Λ E b (post 𝓤 H q)) (post 𝓤 H q))

  abbrev pub out_of_block : Post 𝓤 H → Post 𝓤 H
  out_of_block q = any_q (after_block 𝓤 H (post 𝓤 H q))

  pub base_made : (p : Ptr) → ent 𝓤 (emp 𝓤) (sem 𝓛 (base_own p (base_val p ∷ [])))
  base_made p = makes_shadow 𝓛 (base_own p (base_val p ∷ [])) (λ _. (tt, (tt, tt))) ((ptr_val p ∷ [], tt), (refl, (refl, tt)))

  pub bytes_made : ent 𝓤 (emp 𝓤) (sem 𝓛 (bytes_fields (bytes_val ∷ [])))
  bytes_made = makes_shadow 𝓛 (bytes_fields (bytes_val ∷ [])) (λ _. (tt, tt)) (tt, (refl, tt))

  pub deed_made : ent 𝓤 (emp 𝓤) (sem 𝓛 (deed_fields (deed_val ∷ [])))
  deed_made = makes_shadow 𝓛 (deed_fields (deed_val ∷ [])) (λ _. (tt, ((λ _. (tt, tt)), tt))) ((vstruct vnil ∷ [], tt), (refl, ((tt, (refl, tt)), tt)))

  pub three_of : (R S T : RattleType) (x : R.Denot) (y : S.Denot) (z : T.Denot) (u v w : Val)
      → ent 𝓤 (sep 𝓤 (sem 𝓛 (R.own_val x (u ∷ []))) (sep 𝓤 (sem 𝓛 (S.own_val y (v ∷ []))) (sem 𝓛 (T.own_val z (w ∷ []))))) (sem 𝓛 ((Tuple (R ∷ S ∷ T ∷ [])).own_val (x, y, z) (three_val u v w ∷ [])))
  three_of R S T x y z u v w =
      qed 𝓛 (‵ (R.own_val x (u ∷ [])) ∷ ‵ (S.own_val y (v ∷ [])) ∷ ‵ (T.own_val z (w ∷ [])) ∷ []) ∵
      nothing ! $ move ! (3 ∷ 0 ∷ []) $ fjoin ! $ move ! (2 ∷ 0 ∷ []) $ fjoin ! $ move ! (1 ∷ 0 ∷ []) $ fjoin ! $
      feq_i ! (List Val) (three_val u v w ∷ []) (three_val u v w ∷ []) refl $ fjoin ! $
      fpack ! (Valss (R ∷ S ∷ T ∷ [])) (within (Declared.shape (tuple_type (R ∷ S ∷ T ∷ []))) (x, (y, (z, tt))) (three_val u v w ∷ [])) (u ∷ [], (v ∷ [], (w ∷ [], tt))) $ done !
