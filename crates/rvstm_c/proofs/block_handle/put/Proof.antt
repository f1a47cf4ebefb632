-- `put` writes the pointer of the loose box into the handle, which then owns what the box owned.
use Rattle.std.proofs.Common.{◌≡◌, ℕ, List, [], ◌∷◌, refl, sym, subst, ◌++◌}
use Rattle.std.proofs.raw_atomic.Walks.{proved_at, leaves}
use base.Fml.{ftrue, flft}
use base.Fraction.{full_share}
use base.Logic.{SProp, ent, emp, id⊢}
use prog.Wp.{WpFn}
use mir.Val.{Val, vptr, vunit}
use contract.Monad.{fact, fact_i}
use contract.Running.{tables}
use types.Kit.{‵, raw, ◌⊛◌, ◌$◌, ◌∵◌, !, qed, by, move, keep, drop, split, join, fsplit, fsplit3, fjoin, fjoin3, rewrite, suffices, feq_i, use0}
use types.Part.{whole, sub, store_in}
use types.Run.{enter, of_opd, true_lit, unit_lit, stop, fld, assigns, returns}
use types.ByLocal.{alloc_all, pass_all, free_all, look_at, get, get_in, through, sets}
use denote.Exit.{yes}
use denote.Memory.{cell_at}
use denote.RawPtr.{Ptr, block_ptr}
use denote.RattleType.{owns}
use denote.Signature.{plain, types_at}
use denote.Steps.{nothing, opens, closes}
use denote.Triple.Walked.{Stays, walk_of, stay_ref, stay_dropped, Goes-ref, Goes-dropped}
use Rattle.std.specs.Prelude.{Some, true}
use Rattle.std.proofs.alloc.Global.TheLaws as heap_laws
use Rattle.std.specs.contracts.impls.GlobalAllocator.TheImpl.{ghosts}
use Rattle.rvstm_c.specs.contracts.block_handle.put as f
use Rattle.rvstm_c.proofs.block_handle.put.Statement.{statement}
use Rattle.rvstm_c.proofs.block_handle.put.Code as code
use Rattle.rvstm_c.proofs.Values.{Loose, both, loose_good, loose_out}
use Rattle.rvstm_c.proofs.BlockHandles.{R, Z, Hd, word, handle_any, handle_in}

abbrev stayed : Stays f.ended.signature.params f.ended.kept
stayed = (stay_ref (0 ∷ []) tt (plain (λ _. Hd)), (stay_dropped (plain (λ _. Loose R Z heap_laws.the_row_laws ghosts)) yes, tt))

pub put_spec : {M : Type 1} → statement M
put_spec 𝓤 𝓛 𝓜 𝓡 wired =
    let H = 𝓛.H in let c = f.clauses 𝓛 𝓜.mem 𝓡.returns in let 𝓣 = tables 𝓤 H 𝓜 𝓡 𝓡.env in let fn = code.function in let LZ = heap_laws.the_row_laws in let En = f.ended in
    proved_at 𝓛 En stayed c 𝓜 𝓡 (Goes-ref 𝓛 1 0 tt (plain (λ _. Hd)), (Goes-dropped 𝓛 1 (plain (λ _. Loose R Z LZ ghosts)) yes (λ κs x f. refl), tt)) f.Key.name fn (code.unfolded 𝓤 H 𝓜 𝓡 wired) (λ z are.
    let κs = z.0.0 in let qs = z.0.1 in let Post : Val → SProp 𝓤 = (walk_of 𝓛 En stayed c).post z in let Run : List Val → SProp 𝓤 = λ ws. WpFn 𝓤 H 𝓣.C 𝓣.Λ fn ws Post in
    let r = z.0.3.0 in let b : ℕ = r.ref_ptr.0 in let o : ℕ = r.ref_ptr.1 in let h = r.now in let l = z.0.3.1.0 in
    qed 𝓛 (((‵ (flft κs.0 qs.0) ⊛ ‵ ftrue) ⊛ ‵ (owns (types_at En.signature.params κs) z.0.3 z.0.4)) ∷ raw ((c κs z.0.3).requires z.1) ∷ []) ∵
    keep ! (0 ∷ []) $ split ! $ split ! $ move ! (2 ∷ []) $ fsplit ! $ move ! (1 ∷ []) $ fsplit ! $
    loose_out R Z LZ ghosts ! l z.0.4.1.0 (λ b' o' hv e ws fits. keep ! (0 ∷ 3 ∷ 4 ∷ []) $
    let ins : List Val = vptr b o ∷ both (vptr b' o') hv ∷ [] in
    suffices ! (Run ins) (subst (λ (us : List Val × List Val). ent 𝓤 (Run ins) (Run (us.0 ++ (us.1 ++ [])))) (λ j. (sym are.0.0 j, sym ws j)) (id⊢ 𝓤 (Run ins))) $
    enter ! 𝓣.C 𝓣.Λ fn ins Post $ alloc_all ! (λ l'. pass_all ! refl ((tt, tt), (loose_good R Z LZ ghosts b' o' hv fits, tt)) $
    move ! (1 ∷ []) $ fsplit3 ! $ move ! (1 ∷ 2 ∷ 4 ∷ []) $ opens ! tt Hd b o (λ us. move ! (1 ∷ []) $
    handle_any ! h us (λ ev.
    let Cell = λ (vs : List Val). ‵ (cell_at full_share Hd.mir vs b o) in let p : Ptr = block_ptr b' o' in let filled : Hd.Denot = record { at = p; full = true; value = Some l.value; flagged = refl } in
    drop ! $ rewrite ! 0 Cell ev refl $
    sets ! (of_opd ! (get_in ! (fld ! refl (stop !)) (sub ! 0 refl (whole !)))) refl (tt, tt) $
    sets ! (of_opd ! (get ! refl)) refl (tt, tt) $
    assigns ! (of_opd ! (get ! refl)) (through ! refl (fld ! refl (stop !))) (store_in ! 0 (sub ! 0 refl (whole !)) (tt, tt)) $
    assigns ! (of_opd ! (true_lit !)) (through ! refl (fld ! refl (stop !))) (store_in ! 0 (sub ! 1 refl (whole !)) (tt, tt)) $
    sets ! (of_opd ! (unit_lit !)) refl (tt, tt) $
    -- [the cell; three of the open borrow; the reference's word; the box]
    move ! (5 ∷ []) $ handle_in ! p true (Some l.value) refl $ move ! (1 ∷ 0 ∷ 2 ∷ 3 ∷ 4 ∷ []) $ closes ! tt Hd filled (word p true ∷ []) b o $
    feq_i ! (List Val) z.0.4.0 (vptr b o ∷ []) are.0.0 $ fjoin3 ! $ nothing ! $ nothing ! $ fjoin ! $ move ! (1 ∷ 0 ∷ []) $ fjoin ! $
    nothing ! $ move ! (2 ∷ 0 ∷ []) $ join ! $
    use0 𝓛 (raw (fact 𝓤 (filled.value ≡ Some l.value))) (fact_i 𝓤 (filled.value ≡ Some l.value) (emp 𝓤) refl) $ feq_i ! (List Val) (vunit ∷ []) (vunit ∷ []) refl $
    returns ! (look_at ! 0 refl) $ free_all ! refl $ keep ! (2 ∷ 3 ∷ 0 ∷ 1 ∷ []) $
    by ! (leaves 𝓛 En stayed c z vunit tt (filled, (tt, tt)) (tt, (tt, tt))))))))
