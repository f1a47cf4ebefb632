-- `is_full` reads the flag, which the handle's fact ties to its value.
use Rattle.std.proofs.Common.{◌≡◌, ℕ, List, [], ◌∷◌, refl, sym, subst, ◌++◌}
use Rattle.std.proofs.raw_atomic.Walks.{proved_at, leaves}
use base.Fml.{ftrue, flft}
use base.Fraction.{full_share}
use base.Logic.{SProp, ent, emp, id⊢}
use prog.Wp.{WpFn}
use mir.Val.{Val, vbool, vptr}
use contract.Monad.{fact, fact_i}
use contract.Running.{tables}
use types.Kit.{‵, raw, ◌⊛◌, ◌$◌, ◌∵◌, !, qed, by, move, keep, split, join, fsplit, fsplit3, fjoin, fjoin3, rewrite, suffices, feq_i, use0}
use types.Part.{whole, sub, look_in}
use types.Run.{enter, of_opd, load, stop, fld, returns}
use types.ByLocal.{alloc_all, pass_all, free_all, look_at, through, sets}
use denote.Memory.{cell_at}
use denote.RattleType.{owns}
use denote.Signature.{plain, types_at}
use denote.Steps.{nothing, opens, closes}
use denote.Triple.Walked.{Stays, walk_of, stay_ref, Goes-ref}
use Rattle.std.specs.Prelude.{is_some}
use Rattle.rvstm_c.specs.contracts.block_handle.is_full as f
use Rattle.rvstm_c.proofs.block_handle.is_full.Statement.{statement}
use Rattle.rvstm_c.proofs.block_handle.is_full.Code as code
use Rattle.rvstm_c.proofs.BlockHandles.{Hd, word, handle_any, handle_in}

abbrev stayed : Stays f.ended.signature.params f.ended.kept
stayed = (stay_ref (0 ∷ []) tt (plain (λ _. Hd)), tt)

pub is_full_spec : {M : Type 1} → statement M
is_full_spec 𝓤 𝓛 𝓜 𝓡 wired =
    let H = 𝓛.H in let c = f.clauses 𝓛 𝓜.mem 𝓡.returns in let 𝓣 = tables 𝓤 H 𝓜 𝓡 𝓡.env in let fn = code.function in let En = f.ended in
    proved_at 𝓛 En stayed c 𝓜 𝓡 (Goes-ref 𝓛 1 0 tt (plain (λ _. Hd)), tt) f.Key.name fn (code.unfolded 𝓤 H 𝓜 𝓡 wired) (λ z are.
    let κs = z.0.0 in let qs = z.0.1 in let Post : Val → SProp 𝓤 = (walk_of 𝓛 En stayed c).post z in let Run : List Val → SProp 𝓤 = λ ws. WpFn 𝓤 H 𝓣.C 𝓣.Λ fn ws Post in
    let r = z.0.3.0 in let b : ℕ = r.ref_ptr.0 in let o : ℕ = r.ref_ptr.1 in let h = r.now in
    qed 𝓛 (((‵ (flft κs.0 qs.0) ⊛ ‵ ftrue) ⊛ ‵ (owns (types_at En.signature.params κs) z.0.3 z.0.4)) ∷ raw ((c κs z.0.3).requires z.1) ∷ []) ∵
    keep ! (0 ∷ []) $ split ! $ split ! $ move ! (2 ∷ []) $ fsplit ! $ keep ! (0 ∷ 2 ∷ []) $
    let ins : List Val = vptr b o ∷ [] in
    suffices ! (Run ins) (subst (λ (us : List Val). ent 𝓤 (Run ins) (Run (us ++ []))) (sym are.0.0) (id⊢ 𝓤 (Run ins))) $
    enter ! 𝓣.C 𝓣.Λ fn ins Post $ alloc_all ! (λ l. pass_all ! refl ((tt, tt), tt) $
    fsplit3 ! $ move ! (1 ∷ 2 ∷ 3 ∷ []) $ opens ! tt Hd b o (λ us. move ! (1 ∷ []) $
    handle_any ! h us (λ ev.
    let Cell = λ (ws : List Val). ‵ (cell_at full_share Hd.mir ws b o) in
    rewrite ! 1 Cell ev refl $
    sets ! (of_opd ! (load ! (through ! refl (fld ! refl (stop !))) (look_in ! 1 (sub ! 1 refl (whole !))))) refl (tt, tt) $
    handle_in ! h.at h.full h.value h.flagged $
    move ! (1 ∷ 0 ∷ 2 ∷ 3 ∷ 4 ∷ []) $ closes ! tt Hd h (word h.at h.full ∷ []) b o $
    feq_i ! (List Val) z.0.4.0 (vptr b o ∷ []) are.0.0 $ fjoin3 ! $ nothing ! $ move ! (1 ∷ 0 ∷ []) $ fjoin ! $
    nothing ! $ move ! (2 ∷ 0 ∷ []) $ join ! $
    use0 𝓛 (raw (fact 𝓤 (h.full ≡ is_some h.value))) (fact_i 𝓤 (h.full ≡ is_some h.value) (emp 𝓤) h.flagged) $ use0 𝓛 (raw (fact 𝓤 (h ≡ h))) (fact_i 𝓤 (h ≡ h) (emp 𝓤) refl) $ join ! $
    feq_i ! (List Val) (vbool h.full ∷ []) (vbool h.full ∷ []) refl $
    returns ! (look_at ! 0 refl) $ free_all ! refl $ keep ! (2 ∷ 3 ∷ 0 ∷ 1 ∷ []) $
    by ! (leaves 𝓛 En stayed c z (vbool h.full) h.full (h, tt) (tt, tt))))))
