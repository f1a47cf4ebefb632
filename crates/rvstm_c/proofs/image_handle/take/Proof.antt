-- `take` moves what the handle owns into the loose box. The pointer stays in the handle, which owns nothing by it.
use Rattle.std.proofs.Common.{◌≡◌, ℕ, List, [], ◌∷◌, refl, sym, ap, subst, ◌∙◌, ◌++◌}
use Rattle.std.proofs.raw_atomic.Walks.{proved_at, leaves}
use base.Fml.{ftrue, flft}
use base.Fraction.{full_share}
use base.Logic.{SProp, ent, emp, id⊢}
use prog.Wp.{WpFn}
use mir.Val.{Val, vptr}
use contract.Monad.{fact, fact_i}
use contract.Running.{tables}
use types.Kit.{‵, raw, ◌⊛◌, ◌$◌, ◌∵◌, !, qed, by, move, keep, split, join, fsplit, fsplit3, fjoin, fjoin3, rewrite, suffices, feq_i, use0}
use types.Part.{whole, sub, look_in, store_in, agg}
use types.Run.{enter, of_opd, false_lit, load, stop, fld, no_more, and_then, assigns, returns}
use types.ByLocal.{alloc_all, pass_all, free_all, look_at, get, through, sets}
use denote.Exit.{yes}
use denote.Memory.{cell_at}
use denote.RawPtr.{Ptr, block_ptr}
use denote.RattleType.{owns}
use denote.Signature.{plain, types_at}
use denote.Steps.{nothing, opens, closes, heard}
use denote.Triple.Walked.{Stays, walk_of, stay_ref, stay_dropped, Goes-ref, Goes-dropped}
use Rattle.std.specs.Prelude.{Some, None, IsSome, false}
use Rattle.std.proofs.alloc.Global.TheLaws as heap_laws
use Rattle.std.specs.contracts.impls.GlobalAllocator.TheImpl.{ghosts}
use Rattle.rvstm_c.specs.contracts.image_handle.take as f
use Rattle.rvstm_c.proofs.image_handle.take.Statement.{statement}
use Rattle.rvstm_c.proofs.image_handle.take.Code as code
use Rattle.std.proofs.alloc.Calls.{handle_tells}
use Rattle.rvstm_c.proofs.Values.{Loose, al, both, loose_good, loose_in}
use Rattle.rvstm_c.proofs.ImageHandles.{R, Z, Hd, some_of, word, handle_out, handle_in}

abbrev stayed : Stays f.ended.signature.params f.ended.kept
stayed = (stay_ref (0 ∷ []) tt (plain (λ _. Hd)), (stay_dropped (plain (λ _. Z)) yes, tt))

pub take_spec : {M : Type 1} → statement M
take_spec 𝓤 𝓛 𝓜 𝓡 wired =
    let H = 𝓛.H in let c = f.clauses 𝓛 𝓜.mem 𝓡.returns in let 𝓣 = tables 𝓤 H 𝓜 𝓡 𝓡.env in let fn = code.function in let LZ = heap_laws.the_row_laws in let En = f.ended in
    proved_at 𝓛 En stayed c 𝓜 𝓡 (Goes-ref 𝓛 1 0 tt (plain (λ _. Hd)), (Goes-dropped 𝓛 1 (plain (λ _. Z)) yes (λ κs x f. refl), tt)) f.Key.name fn (code.unfolded 𝓤 H 𝓜 𝓡 wired) (λ z are.
    let κs = z.0.0 in let qs = z.0.1 in let Post : Val → SProp 𝓤 = (walk_of 𝓛 En stayed c).post z in let Run : List Val → SProp 𝓤 = λ ws. WpFn 𝓤 H 𝓣.C 𝓣.Λ fn ws Post in
    let r = z.0.3.0 in let b : ℕ = r.ref_ptr.0 in let o : ℕ = r.ref_ptr.1 in let h = r.now in let a = z.0.3.1.0 in
    qed 𝓛 (((‵ (flft κs.0 qs.0) ⊛ ‵ ftrue) ⊛ ‵ (owns (types_at En.signature.params κs) z.0.3 z.0.4)) ∷ raw (fact 𝓤 (IsSome h.value)) ∷ []) ∵
    move ! (1 ∷ []) $ heard ! (IsSome h.value) (λ full. let in_it = some_of h.value full in let x = in_it.0 in
    split ! $ split ! $ move ! (2 ∷ []) $ fsplit ! $ move ! (1 ∷ []) $ fsplit ! $
    handle_tells (al R Z LZ ghosts) ! a z.0.4.1.0 (λ hv ea fits. keep ! (2 ∷ 3 ∷ 0 ∷ []) $
    let ins : List Val = vptr b o ∷ hv ∷ [] in
    suffices ! (Run ins) (subst (λ (us : List Val × List Val). ent 𝓤 (Run ins) (Run (us.0 ++ (us.1 ++ [])))) (λ j. (sym are.0.0 j, sym ea j)) (id⊢ 𝓤 (Run ins))) $
    enter ! 𝓣.C 𝓣.Λ fn ins Post $ alloc_all ! (λ l. pass_all ! refl ((tt, tt), (fits, tt)) $
    fsplit3 ! $ move ! (1 ∷ 2 ∷ 3 ∷ []) $ opens ! tt Hd b o (λ us. move ! (1 ∷ []) $
    handle_out ! h x in_it.1 us (λ b' o' e ev.
    let Cell = λ (ws : List Val). ‵ (cell_at full_share Hd.mir ws b o) in let p : Ptr = block_ptr b' o' in
    rewrite ! 1 Cell (ev ∙ ap (λ (q : Ptr). word q h.full ∷ []) e) refl $
    assigns ! (of_opd ! (false_lit !)) (through ! refl (fld ! refl (stop !))) (store_in ! 1 (sub ! 1 refl (whole !)) (tt, tt)) $
    sets ! (of_opd ! (load ! (through ! refl (fld ! refl (stop !))) (look_in ! 1 (sub ! 0 refl (whole !))))) refl (tt, tt) $
    sets ! (of_opd ! (get ! refl)) refl (tt, tt) $
    sets ! (agg ! (and_then ! (get ! refl) (and_then ! (get ! refl) (no_more !)))) refl (loose_good R Z LZ ghosts b' o' hv fits) $
    let emptied : Hd.Denot = record { at = p; full = false; value = None; flagged = refl } in let loose : (Loose R Z LZ ghosts).Denot = record { at = p; alloc = a; value = x } in
    move ! (0 ∷ 6 ∷ []) $ loose_in R Z LZ ghosts ! b' o' hv a x $ nothing ! $ handle_in ! p false None refl $
    move ! (2 ∷ 0 ∷ 3 ∷ 4 ∷ 5 ∷ []) $ closes ! tt Hd emptied (word p false ∷ []) b o $
    feq_i ! (List Val) z.0.4.0 (vptr b o ∷ []) are.0.0 $ fjoin3 ! $ nothing ! $ nothing ! $ fjoin ! $ move ! (1 ∷ 0 ∷ []) $ fjoin ! $
    nothing ! $ move ! (2 ∷ 0 ∷ []) $ join ! $
    use0 𝓛 (raw (fact 𝓤 (emptied.value ≡ None))) (fact_i 𝓤 (emptied.value ≡ None) (emp 𝓤) refl) $ use0 𝓛 (raw (fact 𝓤 (h.value ≡ Some x))) (fact_i 𝓤 (h.value ≡ Some x) (emp 𝓤) in_it.1) $ join ! $
    returns ! (look_at ! 0 refl) $ free_all ! refl $ keep ! (1 ∷ 2 ∷ 3 ∷ 0 ∷ []) $
    by ! (leaves 𝓛 En stayed c z (both (vptr b' o') hv) loose (emptied, (tt, tt)) (tt, (tt, tt)))))))))
