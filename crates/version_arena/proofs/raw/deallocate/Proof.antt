-- `deallocate` returns the block to the allocator, with the right to free it. Assumes `Logic`.
use Rattle.std.proofs.Common.{◌≡◌, ℕ, ◌*◌, ◌+◌, ◌<◌, ◌^◌, List, [], ◌∷◌, ◌++◌, length, refl, ap, ◌∙◌, arith, lit<, w64}
use Rattle.std.proofs.raw_atomic.Walks.{proved_at, leaves}
use Rattle.std.proofs.alloc.Calls.{Al, seen, Goes-blank, Gives, at_gives, Gives-goes, Gives-Gives}
use Rattle.std.proofs.alloc.Shapes.{after}
use mir.Syntax.{Ty, Fn, Args, a_type, dcons, dnil, place}
use mir.Val.{Val, vint, vptr, vunit}
use mir.MapTy.{inst_fn}
use base.Logic.{SProp, never, id⊢}
use base.Fml.{Lft, Share, ftrue, flft, froom}
use prog.Capped.{capped_is}
use prog.Wp.{Env, WpFn}
use contract.BorrowLft.{◌⊑◌, ⊑_trans}
use contract.Monad.{fact}
use contract.Running.{tables}
use types.Kit.{‵, raw, ◌⊛◌, given, later, prop, settles, at_ret, ◌$◌, ◌∵◌, !, qed, by, move, drop, use1, use3, split, join, learn, rewrite, regoal, fsplit, fjoin, feq_i, flt_l, await}
use types.Part.{whole, sub}
use types.Run.{stop, fld, lit, unit_lit, of_opd, no_more, and_then, first, blocks, exec, returns, enter}
use types.ByLocal.{alloc_all, pass_all, free_all, look_at, get, get_in, sets, lands_last, env}
use denote.RattleType.{owns}
use denote.RawPtr.{Ptr, block_ptr, in_a_block}
use denote.Param.{bounded}
use denote.Signature.{types_at}
use denote.Steps.{nothing, heard}
use denote.Struct.Laws as struct_law
use denote.Triple.Call.{calls_at_last}
use denote.Triple.Entry.{alive}
use denote.Triple.Table.{framed}
use denote.Triple.Walked.{Stays, stay_dropped, walk_of, Goes-dropped}
use Rattle.version_arena.specs.Ownership.{bytes_type, bytes_own}
use Rattle.version_arena.proofs.Walks.{slot_at, then_runs, out_of_block, base_val, bytes_val, bytes_told, deed_val, deed_told}
use Rattle.version_arena.specs.contracts.raw.BaseAddress as base_type
use Rattle.version_arena.proofs.raw.BaseAddress.TheLaws as base_laws
use Rattle.version_arena.specs.contracts.raw.deallocate.{ended, clauses}
use Rattle.version_arena.specs.contracts.raw.deallocate.Key.{name as #self}
use Rattle.version_arena.proofs.raw.deallocate.Statement.{statement}
use Rattle.version_arena.proofs.raw.deallocate.Code as compiled

pub deallocate_spec : {M : Type 1} → statement M
deallocate_spec 𝓤 𝓛 𝓜 𝓡 wired A L g d dd met md =
    let H = 𝓛.H in
    let T = ended A g d dd in
    let c = clauses A g d dd 𝓛 𝓜.mem 𝓡.returns in
    let args : Args = bounded (a_type ∷ []) (A, tt) (dcons d (dcons dd dnil)) in
    let fn : Fn = inst_fn args compiled.function in
    let stays : Stays T.signature.params T.kept = (
      stay_dropped (slot_at 0 T.signature.params) T.kept.0,
      (
        stay_dropped (slot_at 1 T.signature.params) T.kept.1.0,
        (stay_dropped (slot_at 2 T.signature.params) T.kept.1.1.0, (stay_dropped (slot_at 3 T.signature.params) T.kept.1.1.1.0, (stay_dropped (slot_at 4 T.signature.params) T.kept.1.1.1.1.0, tt))),
      ),
    ) in
    let 𝓣 = tables 𝓤 H 𝓜 𝓡 𝓡.env in
    let C = 𝓣.C in
    let Λ = 𝓣.Λ in
    proved_at 𝓛 T stays c 𝓜 𝓡 (
      Goes-dropped 𝓛 2 (slot_at 0 T.signature.params) T.kept.0 (λ κs x f. refl),
      (
        Goes-dropped 𝓛 2 (slot_at 1 T.signature.params) T.kept.1.0 (λ κs x f. refl),
        (
          Goes-dropped 𝓛 2 (slot_at 2 T.signature.params) T.kept.1.1.0 (λ κs x f. refl),
          (
            Goes-blank 𝓛 2 (slot_at 3 T.signature.params) T.kept.1.1.1.0 (λ κs x f. tt),
            (Goes-blank 𝓛 2 (slot_at 4 T.signature.params) T.kept.1.1.1.1.0 (λ κs x f. tt), tt),
          ),
        ),
      ),
    ) (#self args) fn (compiled.unfolded 𝓤 H 𝓜 𝓡 wired (A, tt) d dd) (λ z are.
    let Post : Val → SProp 𝓤 = (walk_of 𝓛 T stays c).post z in
    let a = z.0.3 in
    let vss = z.0.4 in
    let Y : Al = record { row = A; laws = L; g = g; d = d; drops = dd } in
    let κ : Lft = z.0.0.0 in
    let q : Share = z.0.1.0 in
    let h = a.0.now in
    let handle = a.0.ref_ptr in
    let base = a.1.0 in
    let n = a.1.1.0 in
    let bytes = a.1.1.1.0 in
    let allocation = a.1.1.1.1.0 in
    let fits : n < 2 ^ 64 = are.1.1.0.1 in
    let τ : Ty = bytes_type n in
    let none : List ℕ = [] in
    let Asked : Type 0 = (bytes.at ≡ base.ptr) × (bytes.bytes ≡ none) × (bytes.room ≡ n) × (allocation.at ≡ base.ptr) × (allocation.size ≡ n) × (allocation.alloc ≡ h) in
    qed 𝓛 ((raw (alive 𝓛 T.signature z.0.0 z.0.1) ⊛ ‵ (owns (types_at T.signature.params z.0.0) a vss)) ∷ (raw (fact 𝓤 (z.0.0.1.0 ⊑ A.lives)) ⊛ raw (fact 𝓤 Asked)) ∷ []) ∵
    move ! (1 ∷ []) $ split ! $ heard ! (z.0.0.1.0 ⊑ A.lives) (λ le. heard ! Asked (λ asked. split ! $ move ! (1 ∷ []) $
    fsplit ! $ fsplit ! $ drop ! $ use1 𝓛 (‵ (seen Y κ handle h)) (id⊢ 𝓤 _) $ move ! (1 ∷ []) $
    fsplit ! $ drop ! $ fsplit ! $ drop ! $ fsplit ! $ fsplit ! $ drop ! $
    -- [the bytes; the allocation; the handle; what is alive]
    rewrite ! 0 (λ (u : Ptr × List ℕ × ℕ). ‵ (bytes_own u.0 u.1 u.2)) (λ i. (asked.0 i, asked.1 i, asked.2 i)) refl $
    in_a_block ! base.ptr (λ p. bytes_own p none n) (id⊢ 𝓤 (never 𝓤)) (λ b o e. fsplit ! $ flt_l ! (λ small. fsplit ! $ drop ! $
    let start : o + length none ≡ o = omega arith in
    rewrite ! 0 (λ (k : ℕ). ‵ (froom τ b k)) start refl $ move ! (1 ∷ []) $ fsplit ! $ fsplit ! $ drop ! $
    rewrite ! 0 (λ (u : A.Denot × ℕ × Ptr). ‵ (g.dealloc_token u.0 (bytes_type u.1) u.2)) (λ i. (asked.5 i, asked.4 i, (asked.3 ∙ e) i)) refl $ move ! (1 ∷ []) $ drop ! $
    -- [the token; the room; the handle; what is alive]
    move ! (3 ∷ []) $ use1 𝓛 (‵ (flft κ q) ⊛ ‵ (flft z.0.0.1.0 z.0.1.1.0) ⊛ ‵ ftrue) (id⊢ 𝓤 _) $ split ! $ move ! (4 ∷ 0 ∷ []) $ join ! $ move ! (3 ∷ 2 ∷ []) $
    let y = at_gives Y 𝓛 𝓜.mem 𝓡.returns κ q handle h b o n 1 τ in
    regoal ! (λ (us : List Val). prop (WpFn 𝓤 H C Λ fn us Post)) (λ i. are.0.0 i ++ ((struct_law.tells base_type.the_type base_laws.the_laws base vss.1.0 are.1.0 ∙ ap (λ (p : Ptr). base_val p ∷ []) e) i
    ++ (are.1.1.0.0 i ++ (bytes_told vss.1.1.1.0 are.1.1.1.0.0 i ++ (deed_told vss.1.1.1.1.0 are.1.1.1.1.0.0 i ++ []))))) refl $
    enter ! C Λ fn (vptr handle.0 handle.1 ∷ base_val (block_ptr b o) ∷ vint w64 n ∷ bytes_val ∷ deed_val ∷ []) Post $
    alloc_all ! (λ l. pass_all ! refl ((tt, tt), ((tt, (tt, tt)), ((tt, record { fits = fits }), ((tt, tt), ((tt, (tt, tt)), tt))))) $ let E : Env 𝓤 𝓛.H = env fn.locals l in
    first ! $ blocks ! $
    let sized : n * 1 < 2 ^ 64 = omega (arith, fits) in let same : n * 1 ≡ n = omega arith in
    use3 𝓛 (raw ((Gives Y 𝓛 𝓜.mem 𝓡.returns).pre y)) (Gives-goes Y 𝓛 𝓜.mem 𝓡.returns κ q handle h (⊑_trans κ z.0.0.1.0 A.lives z.0.2.0 le) b o n 1 τ (capped_is (n * 1) sized ∙ same) refl fits (lit< tt)) $
    calls_at_last ! (framed 𝓤 H 𝓜 𝓣) (Gives Y 𝓛 𝓜.mem 𝓡.returns) (met.deallocate dd) y
    (and_then ! (get ! refl) (and_then ! (get_in ! (fld ! refl (stop !)) (sub ! 0 refl (whole !))) (and_then ! (get ! refl) (and_then ! (lit ! tt) (no_more !))))) (λ v.
    use1 𝓛 (later (given (v ≡ vunit) (‵ (flft κ q)))) (Gives-Gives Y 𝓛 𝓜.mem 𝓡.returns κ q handle h b o n 1 τ v) $ await ! tt $ learn ! (λ e. join ! $
    regoal ! (λ (u : Val). settles E (place 6 []) u (out_of_block 𝓛 (then_runs 𝓛 C Λ E (after 1 fn.body) (at_ret E Post)))) e refl $ lands_last ! refl (tt, tt) $
    exec ! C Λ E (after 1 fn.body) (at_ret E Post) $ sets ! (of_opd ! (unit_lit !)) refl (tt, tt) $ returns ! (look_at ! 0 refl) $ free_all ! refl $
    feq_i ! (List Val) (vunit ∷ []) (vunit ∷ []) refl $ nothing ! $ nothing ! $ nothing ! $ fjoin ! $ nothing ! $ fjoin ! $ nothing ! $ fjoin ! $ nothing ! $ fjoin ! $ nothing ! $ fjoin ! $ move ! (3 ∷ 0 ∷ 2 ∷ 1 ∷ []) $
    by ! (leaves 𝓛 T stays c z vunit tt (tt, (tt, (tt, (tt, (tt, tt))))) (tt, (tt, (tt, (tt, (tt, tt))))))))))))))
