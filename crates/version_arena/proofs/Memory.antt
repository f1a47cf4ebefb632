-- Written bytes and room, side by side. Assumes `Logic`.
--     put_in      a byte right after the written ones is one of them
--     room_in     written bytes are room
use Prim.Native.Nat.{ℕ, suc, ◌+◌}
use Rattle.std.proofs.Common.{◌≡◌, List, [], ◌∷◌, ◌++◌, length, refl, arith}
use seplogic.Ra.Ura.{Ura}
use base.Fraction.{full_share}
use base.Fml.{fat, froom}
use base.Logic.{ent, sep}
use mir.Syntax.{w8, ty_int}
use mir.Val.{vint}
use types.Kit.{‵, ◌$◌, ◌∵◌, !, qed, move, drop, use1, use2, rewrite, fsplit, fjoin, done}
use types.Logic.{Logic, sem}
use denote.Builtin.{u8}
use denote.Memory.{part_at}
use denote.Plain.{uint_out}
use denote.Steps.{nothing}
use Rattle.version_arena.specs.Ownership.{bytes_type, owns_bytes_at}

module _ {M : Type 1} {𝓤 : Ura M} (𝓛 : Logic 𝓤) (b : ℕ) where
  open 𝓛 use {H}

  pub put_in : (xs : List ℕ) (x o at : ℕ) → at ≡ o + length xs
      → ent 𝓤 (sep 𝓤 (sem 𝓛 (owns_bytes_at b o xs)) (sem 𝓛 (part_at u8 full_share x b at))) (sem 𝓛 (owns_bytes_at b o (xs ++ x ∷ [])))
  put_in [] x o at e =
      let none : List ℕ = [] in let same : at ≡ o = omega (arith, e) in
      qed 𝓛 (‵ (owns_bytes_at b o none) ∷ ‵ (part_at u8 full_share x b at) ∷ []) ∵ drop ! $
      rewrite ! 0 (λ (k : ℕ). ‵ (part_at u8 full_share x b k)) same refl $ nothing ! $ move ! (1 ∷ 0 ∷ []) $ fjoin ! $ done !
  put_in (y ∷ ys) x o at e =
      let next : at ≡ o + 1 + length ys = omega (arith, e) in
      qed 𝓛 (‵ (owns_bytes_at b o (y ∷ ys)) ∷ ‵ (part_at u8 full_share x b at) ∷ []) ∵ fsplit ! $ move ! (1 ∷ 2 ∷ []) $
      use2 𝓛 (‵ (owns_bytes_at b (o + 1) (ys ++ x ∷ []))) (put_in ys x (o + 1) at next) $ move ! (1 ∷ 0 ∷ []) $ fjoin ! $ done !

  pub room_in : (xs : List ℕ) (n o at : ℕ) → at ≡ o + length xs
      → ent 𝓤 (sep 𝓤 (sem 𝓛 (owns_bytes_at b o xs)) (H.room (bytes_type n) b at)) (H.room (bytes_type (length xs + n)) b o)
  room_in [] n o at e =
      let none : List ℕ = [] in let same : at ≡ o = omega (arith, e) in let all : n ≡ length none + n = omega arith in
      qed 𝓛 (‵ (owns_bytes_at b o none) ∷ ‵ (froom (bytes_type n) b at) ∷ []) ∵ drop ! $
      rewrite ! 0 (λ (k : ℕ). ‵ (froom (bytes_type n) b k)) same refl $ rewrite ! 0 (λ (k : ℕ). ‵ (froom (bytes_type k) b o)) all refl $ done !
  room_in (y ∷ ys) n o at e =
      let next : at ≡ o + 1 + length ys = omega (arith, e) in let more : suc (length ys + n) ≡ length (y ∷ ys) + n = omega arith in
      qed 𝓛 (‵ (owns_bytes_at b o (y ∷ ys)) ∷ ‵ (froom (bytes_type n) b at) ∷ []) ∵ fsplit ! $ move ! (1 ∷ 2 ∷ []) $
      use2 𝓛 (‵ (froom (bytes_type (length ys + n)) b (o + 1))) (room_in ys n (o + 1) at next) $ move ! (1 ∷ []) $
      use1 𝓛 (‵ (fat full_share (ty_int w8) b o (vint w8 y))) (uint_out 𝓛 full_share w8 y b o) $
      use1 𝓛 (‵ (froom (ty_int w8) b o)) (𝓛.laws.at_room (ty_int w8) b o (vint w8 y)) $
      use2 𝓛 (‵ (froom (bytes_type (suc (length ys + n))) b o)) (𝓛.laws.room_cons (ty_int w8) (length ys + n) b o) $
      rewrite ! 0 (λ (k : ℕ). ‵ (froom (bytes_type k) b o)) more refl $ done !
