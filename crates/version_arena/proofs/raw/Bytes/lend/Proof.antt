-- `lend` lends the written bytes in their place. Assumes `Logic`.
use Rattle.std.proofs.Common.{◌≡◌, ℕ, ◌*◌, ◌<◌, ◌^◌, List, [], ◌∷◌, length, refl, ap, ◌∙◌, w64, arith}
use Rattle.std.proofs.raw_atomic.Walks.{proved}
use Rattle.std.proofs.RcSteps.{word, word-Good}
use Rattle.std.proofs.VecSteps.Shapes.{after}
use base.Fraction.{full_share}
use base.Fml.{ftrue, fat, flft}
use base.Logic.{id⊢}
use mir.Syntax.{named}
use mir.Val.{Val}
use contract.Monad.{fact}
use contract.Running.{tables}
use types.Kit.{‵, raw, ◌⊛◌, at_ret, ◌$◌, ◌∵◌, !, qed, move, keep, drop, split, join, fsplit, fjoin, feq_i, flt_l, flt_i, rewrite, suffices, frame, done}
use types.Part.{whole, sub, agg}
use types.Run.{enter, of_opd, stop, fld, and_then, no_more, first, blocks, exec, returns}
use types.ByLocal.{alloc_all, pass_all, free_all, look_at, get, get_in, sets, sets_last, env, take_at, give_at}
use denote.Builtin.{usize, RefOf}
use denote.Exit.{yes}
use denote.Opens.{hide, unhide}
use denote.Param.{layout}
use denote.Plain.{uint_vals, uint_Tells}
use denote.RawPtr.{Ptr, in_a_block}
use denote.RattleType.{owns}
use denote.Ref.{ShrRef, shr_vals, shr_Tells}
use denote.Signature.{plain}
use denote.Slice.{slice_val}
use denote.Steps.{nothing, heard}
use denote.Struct.Laws as struct_law
use denote.Triple.Walked.{Stays, walk_of, says, stay_dropped, Goes-dropped, ends_at}
use Rattle.version_arena.specs.Ownership.{bytes_lent}
use Rattle.version_arena.specs.contracts.raw.Bytes as bytes
use Rattle.version_arena.specs.contracts.raw.BaseAddress as base_type
use Rattle.version_arena.proofs.raw.BaseAddress.TheLaws as base_laws
use Rattle.version_arena.specs.contracts.raw.Bytes.lend as f
use Rattle.version_arena.proofs.raw.Bytes.lend.Statement.{statement}
use Rattle.version_arena.proofs.raw.Bytes.lend.Code as code

abbrev stayed : Stays f.ended.signature.params f.ended.kept
stayed = (stay_dropped _ yes, (stay_dropped _ yes, (stay_dropped _ yes, tt)))

pub lend_spec : {M : Type 1} → statement M
lend_spec 𝓤 𝓛 𝓜 𝓡 wired =
    let R = bytes.the_row in let B = base_type.the_row in
    let c = f.clauses 𝓛 𝓜.mem 𝓡.returns in let W = walk_of 𝓛 f.ended stayed c in let 𝓣 = tables 𝓤 𝓛.H 𝓜 𝓡 𝓡.env in
    proved 𝓛 f.ended stayed c 𝓜 𝓡
    (Goes-dropped 𝓛 1 (RefOf (0 ∷ []) tt (plain (λ _. R)) (λ _. tt)) yes (λ κs x w. refl), (Goes-dropped 𝓛 1 (plain (λ _. B)) yes (λ κs x w. refl), (Goes-dropped 𝓛 1 (plain (λ _. usize)) yes (λ κs x w. refl), tt)))
    f.Key.name code.function (code.unfolded 𝓤 𝓛.H 𝓜 𝓡 wired)
    (λ κs. (shr_vals, (struct_law.vals base_type.the_type base_laws.the_laws, (uint_vals w64, tt))))
    (λ κs. (shr_Tells (named 0) κs.0 R, (struct_law.tells base_type.the_type base_laws.the_laws, (uint_Tells w64, tt))))
    (λ κs qs bounds a _ are.
    let h = a.0.now in let base = a.1.0 in let len = a.1.1.0 in let fits = are.1.1.0.1 in
    let y : W.Ghost = ((κs, qs, bounds, a, (shr_vals a.0, (struct_law.vals base_type.the_type base_laws.the_laws base, (uint_vals w64 len, tt)))), tt) in
    let Post = W.post y in
    let Asked : Type 0 = (base.ptr ≡ h.at) × (len ≡ length h.bytes) in
    qed 𝓛 (((‵ (flft κs.0 qs.0) ⊛ ‵ ftrue) ⊛ ‵ ((ShrRef (named 0) κs.0 R).own_val a.0 (shr_vals a.0)) ⊛ ‵ (owns (B ∷ usize ∷ []) a.1 y.0.4.1)) ∷ raw (fact 𝓤 Asked) ∷ []) ∵
    move ! (1 ∷ []) $ heard ! Asked (λ asked.
    split ! $ split ! $ move ! (2 ∷ []) $ split ! $ keep ! (0 ∷ 2 ∷ []) $ fsplit ! $ drop ! $
    enter ! _ _ _ _ _ $ alloc_all ! (λ l. pass_all ! refl ((tt, tt), (word-Good [] base.ptr, ((tt, record { fits = fits }), tt))) $
    let En = env code.function.locals l in
    unhide ! $ fsplit ! $ drop ! $ in_a_block ! h.at (λ p. bytes_lent p h.bytes h.room κs.0) (id⊢ 𝓤 _) (λ b o e. fsplit ! $ flt_l ! (λ small.
    take_at ! 2 $ rewrite ! 0 (λ (p : Ptr). ‵ (fat full_share (layout B) (l 2) 0 (word p))) (asked.0 ∙ e) refl $ give_at ! 2 $ first ! $ blocks ! $ hide ! $
    sets_last ! (agg ! (and_then ! (get_in ! (fld ! refl (stop !)) (sub ! 0 refl (whole !))) (and_then ! (get ! refl) (no_more !)))) refl (tt, (tt, (record { fits = fits }, tt))) $
    exec ! 𝓣.C 𝓣.Λ En (after 1 code.function.body) (at_ret En Post) $ sets ! (of_opd ! (get ! refl)) refl (tt, (tt, (record { fits = fits }, tt))) $
    let xs = h.bytes in let at : ℕ × ℕ = (b, o) in
    let bytes_fit : length xs * 1 < 2 ^ 63 = omega (arith, small) in let len_fits : length xs < 2 ^ 64 = omega (arith, small) in
    flt_i ! (length xs * 1) (2 ^ 63) bytes_fit $ flt_i ! (length xs) (2 ^ 64) len_fits $ fjoin ! $
    feq_i ! (List Val) (slice_val at len ∷ []) (slice_val at (length xs) ∷ []) (ap (λ k. slice_val at k ∷ []) asked.1) $ fjoin ! $ fjoin ! $
    returns ! (look_at ! 0 refl) $ free_all ! refl $ keep ! (1 ∷ 0 ∷ []) $
    suffices ! _ (ends_at 𝓛 f.ended stayed c y (slice_val at len) (record { ref_ptr = at; now = xs }) (tt, (tt, (tt, tt))) (tt, (tt, (tt, tt)))) $ says ! refl $
    nothing ! $ move ! (1 ∷ 0 ∷ []) $ join ! $ frame ! $ nothing ! $ nothing ! $ fjoin ! $ nothing ! $ fjoin ! $ nothing ! $ fjoin ! $ done !)))))
