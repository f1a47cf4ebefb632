-- `put` writes the first byte of the room. Assumes `Logic`.
use Rattle.std.proofs.Common.{◌≡◌, ℕ, ◌+◌, ◌-◌, ◌<◌, ◌^◌, suc, [], ◌∷◌, ◌++◌, length, length-append, refl, sym, ◌∙◌, w8, w64, arith}
use Rattle.std.proofs.raw_atomic.Walks.{proved}
use Rattle.std.proofs.RcSteps.{word, word-Good}
use Rattle.std.proofs.VecSteps.Shapes.{after}
use base.Fraction.{full_share}
use base.Fml.{ftrue, fat, flft, froom}
use base.Logic.{id⊢}
use mir.Syntax.{ty_int, named}
use mir.Val.{vunit}
use contract.Monad.{fact}
use contract.Running.{tables}
use types.Kit.{‵, raw, ◌⊛◌, at_ret, ◌$◌, ◌∵◌, !, qed, move, keep, use1, use2, split, join, fsplit, fsplit3, fjoin, feq_i, flt_l, flt_i, rewrite, suffices, frame, group, done}
use types.Part.{whole, sub}
use types.Run.{enter, of_opd, unit_lit, bin, init, stop, fld, assigns_last, first, blocks, exec, returns}
use types.ByLocal.{alloc_all, pass_all, free_all, look_at, get, get_in, through, sets, env, take_at, give_at}
use denote.Builtin.{u8, usize}
use denote.Exit.{yes}
use denote.Memory.{part_at}
use denote.Param.{layout}
use denote.Plain.{uint_in, uint_vals, uint_Tells}
use denote.RawPtr.{Ptr, in_a_block}
use denote.RattleType.{owns}
use denote.Ref.{MutRef, mut_vals, mut_Tells}
use denote.Signature.{plain}
use denote.Steps.{nothing, opens, closes, heard}
use denote.Struct.Laws as struct_law
use denote.Triple.Walked.{Stays, walk_of, says, stay_dropped, stay_ref, Goes-dropped, Goes-ref, ends_at}
use Rattle.version_arena.specs.Ownership.{bytes_type, owns_bytes_at, bytes_own}
use Rattle.version_arena.proofs.Memory.{put_in}
use Rattle.version_arena.specs.contracts.raw.Bytes as bytes
use Rattle.version_arena.specs.contracts.raw.BaseAddress as base_type
use Rattle.version_arena.proofs.raw.BaseAddress.TheLaws as base_laws
use Rattle.version_arena.specs.contracts.raw.Bytes.put as f
use Rattle.version_arena.proofs.raw.Bytes.put.Statement.{statement}
use Rattle.version_arena.proofs.raw.Bytes.put.Code as code

abbrev stayed : Stays f.ended.signature.params f.ended.kept
stayed = (stay_ref (0 ∷ []) tt (plain (λ _. bytes.the_row)), (stay_dropped _ yes, (stay_dropped _ yes, (stay_dropped _ yes, tt))))

pub put_spec : {M : Type 1} → statement M
put_spec 𝓤 𝓛 𝓜 𝓡 wired =
    let R = bytes.the_row in let B = base_type.the_row in
    let c = f.clauses 𝓛 𝓜.mem 𝓡.returns in let W = walk_of 𝓛 f.ended stayed c in let 𝓣 = tables 𝓤 𝓛.H 𝓜 𝓡 𝓡.env in
    proved 𝓛 f.ended stayed c 𝓜 𝓡
    (Goes-ref 𝓛 1 0 tt (plain (λ _. R)), (Goes-dropped 𝓛 1 (plain (λ _. B)) yes (λ κs x w. refl), (Goes-dropped 𝓛 1 (plain (λ _. usize)) yes (λ κs x w. refl), (Goes-dropped 𝓛 1 (plain (λ _. u8)) yes (λ κs x w. refl), tt))))
    f.Key.name code.function (code.unfolded 𝓤 𝓛.H 𝓜 𝓡 wired)
    (λ κs. (mut_vals, (struct_law.vals base_type.the_type base_laws.the_laws, (uint_vals w64, (uint_vals w8, tt)))))
    (λ κs. (mut_Tells (named 0) κs.0 R, (struct_law.tells base_type.the_type base_laws.the_laws, (uint_Tells w64, (uint_Tells w8, tt)))))
    (λ κs qs bounds a _ are.
    let rb = a.0.ref_ptr.0 in let ro = a.0.ref_ptr.1 in let h = a.0.now in let vs = mut_vals a.0 in
    let base = a.1.0 in let at = a.1.1.0 in let byte = a.1.1.1.0 in
    let y : W.Ghost = ((κs, qs, bounds, a, (vs, (struct_law.vals base_type.the_type base_laws.the_laws base, (uint_vals w64 at, (uint_vals w8 byte, tt))))), tt) in
    let Post = W.post y in
    let Asked : Type 0 = (base.ptr ≡ h.at) × (at ≡ length h.bytes) × (0 < h.room) in
    qed 𝓛 (((‵ (flft κs.0 qs.0) ⊛ ‵ ftrue) ⊛ ‵ ((MutRef (named 0) κs.0 R).own_val a.0 vs) ⊛ ‵ (owns (B ∷ usize ∷ u8 ∷ []) a.1 y.0.4.1)) ∷ raw (fact 𝓤 Asked) ∷ []) ∵
    move ! (1 ∷ []) $ heard ! Asked (λ asked.
    split ! $ split ! $ move ! (2 ∷ []) $ split ! $ keep ! (0 ∷ 2 ∷ []) $
    enter ! _ _ _ _ _ $ alloc_all ! (λ l. pass_all ! refl ((tt, tt), (word-Good [] base.ptr, ((tt, record { fits = are.1.1.0.1 }), ((tt, record { fits = are.1.1.1.0.1 }), tt)))) $
    let En = env code.function.locals l in
    fsplit3 ! $ move ! (1 ∷ 2 ∷ 3 ∷ []) $ opens ! tt R {h = h} rb ro (λ us. move ! (1 ∷ []) $ fsplit ! $ move ! (1 ∷ []) $
    in_a_block ! h.at (λ p. bytes_own p h.bytes h.room) (id⊢ 𝓤 _) (λ b o e. fsplit ! $ flt_l ! (λ small. fsplit ! $ move ! (1 ∷ []) $
    let k = h.room - 1 in let one : h.room ≡ suc k = omega (arith, asked.2) in let end = o + length h.bytes in
    let here : end ≡ at + o = omega (arith, asked.1) in
    rewrite ! 0 (λ (n : ℕ). ‵ (froom (bytes_type n) b end)) one refl $
    use1 𝓛 (‵ (froom (ty_int w8) b end) ⊛ ‵ (froom (bytes_type k) b (end + 1))) (𝓛.laws.room_uncons (ty_int w8) k b end) $ split ! $
    rewrite ! 0 (λ (n : ℕ). ‵ (froom (ty_int w8) b n)) here refl $
    -- [the byte's room; the rest of it; the written bytes; the fields; the struct's cell; the open borrow]
    take_at ! 2 $ rewrite ! 0 (λ (p : Ptr). ‵ (fat full_share (layout B) (l 2) 0 (word p))) (asked.0 ∙ e) refl $ give_at ! 2 $ first ! $ blocks ! $
    sets ! (bin ! (get_in ! (fld ! refl (stop !)) (sub ! 0 refl (whole !))) (get ! refl) tt) refl (tt, tt) $
    assigns_last ! (of_opd ! (get ! refl)) (through ! refl (stop !)) (init ! 0 refl (tt, record { fits = are.1.1.1.0.1 })) $
    exec ! 𝓣.C 𝓣.Λ En (after 1 code.function.body) (at_ret En Post) $ sets ! (of_opd ! (unit_lit !)) refl (tt, tt) $
    let xs = h.bytes ++ byte ∷ [] in let long : length xs ≡ length h.bytes + 1 = omega (arith, length-append h.bytes (byte ∷ [])) in
    let next : end + 1 ≡ o + length xs = omega (arith, long) in let fits : length xs + k < 2 ^ 63 = omega (arith, long, one, small) in
    use1 𝓛 (‵ (part_at u8 full_share byte b (at + o))) (uint_in 𝓛 full_share w8 byte b (at + o)) $ move ! (2 ∷ 0 ∷ []) $
    use2 𝓛 (‵ (owns_bytes_at b o xs)) (put_in 𝓛 b h.bytes byte o (at + o) (sym here)) $ move ! (1 ∷ []) $
    rewrite ! 0 (λ (n : ℕ). ‵ (froom (bytes_type k) b n)) next refl $ move ! (1 ∷ 0 ∷ []) $ fjoin ! $ flt_i ! (length xs + k) (2 ^ 63) fits $ fjoin ! $
    rewrite ! 0 (λ (p : Ptr). ‵ (bytes_own p xs k)) (sym e) refl $ move ! (1 ∷ 0 ∷ []) $ fjoin ! $ move ! (1 ∷ 0 ∷ []) $
    let new = record h { bytes = xs; room = k } in
    closes ! tt R new us rb ro $ returns ! (look_at ! 0 refl) $ free_all ! refl $ move ! (3 ∷ []) $
    suffices ! _ (ends_at 𝓛 f.ended stayed c y vunit tt (new, (tt, (tt, (tt, tt)))) (tt, (tt, (tt, (tt, tt))))) $ says ! (refl, refl, omega (arith, one)) $
    group ! 3 $ nothing ! $ nothing ! $ join ! $ nothing ! $ join ! $ nothing ! $ join ! $ move ! (1 ∷ 0 ∷ []) $ join ! $ nothing ! $ move ! (2 ∷ 0 ∷ []) $ join ! $ frame ! $ frame ! $
    feq_i ! _ (vunit ∷ []) _ refl $ done !))))))
