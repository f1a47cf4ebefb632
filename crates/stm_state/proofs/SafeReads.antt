-- Reads that stand or must still be met keep that state.
use Rattle.std.proofs.Common.{◌≡◌, ◌<◌, ◌≤◌, ◌+◌, ◌≢◌, ◌⊎◌, ℕ, Bool, true, false, List, length, slice_get, None, Some, arith, sym, ap, subst, ◌∙◌, inl, inr}
use Rattle.std.proofs.lemmas.Bool.{cases_eq}
use Rattle.read_set.specs.declared.Read.{Read}
use Rattle.mvmap.specs.Versions.{Estimate}
use Rattle.mvmap.specs.Reading.{visible_below, is_origin, stands_among}
use Rattle.mvmap.proofs.Readings.{seen_same, seen_kept, origin_shown}
use Rattle.stm_state.specs.declared.state.Status.TheVariants.{Executed}
use Rattle.stm_state.specs.declared.state.CallState.{CallState}
use Rattle.stm_state.specs.declared.state.Task.{Task}
use Rattle.stm_state.specs.declared.state.Task.TheVariants.{Moving, Validating, Marking}
use Rattle.stm_state.specs.Steps.{Block, recorded_reads}
use Rattle.stm_state.proofs.Invariant.{View, ViewInvariant, AreSafe, IsToBeLowered, IsCovered, validated, ahead, lowered_by, owned_by}
use Rattle.stm_state.proofs.OneCallChanges.{Frame, had_own, frame_kept}

-- the reads of a call that stand still stand
abbrev pub StandsOn : View → View → ℕ → Type 0
StandsOn v u i = (read : Read) → stands_among v.entries i read ≡ true → stands_among u.entries i read ≡ true

-- this holds if the entries of lower calls stay
pub on_below : (v u : View) (i : ℕ) → ((key : List ℕ) (w : ℕ) → w < i → u.entries key w ≡ v.entries key w) → StandsOn v u i
on_below v u i same read h = ap (is_origin read.origin) (seen_same (u.entries read.key) (v.entries read.key) i (λ w l. same read.key w l)) ∙ h

-- this holds if entries change only at places that had an estimate
pub on_estimates : (v u : View) (i : ℕ) → ((key : List ℕ) (w : ℕ) → (u.entries key w ≡ v.entries key w) ⊎ (v.entries key w ≡ Some Estimate)) → StandsOn v u i
on_estimates v u i same read h =
    ap (is_origin read.origin) (seen_kept (v.entries read.key) (u.entries read.key) i (λ w. same read.key w) (origin_shown read.origin (visible_below (v.entries read.key) i) h)) ∙ h

-- a task that lowers the validation index for a call owns that call
lowered_owned : (t : Task) (j : ℕ) → lowered_by t ≡ Some j → owned_by t ≡ Some j
lowered_owned (Moving i keys true) j h = h
lowered_owned (Marking i keys) j h = h
lowered_owned task j h = cc

-- the reads of a call that stays are safe, if its reads that stand still stand, and each read that had to be met stands or must
-- still be met
pub safe_still : (v u : View) (j : ℕ) → u.calls j ≡ v.calls j → StandsOn v u j
    → ((place : ℕ) (read : Read) → slice_get (recorded_reads (v.calls j).last) place ≡ Some read → IsCovered v j place → (stands_among u.entries j read ≡ true) ⊎ IsCovered u j place) → AreSafe v j → AreSafe u j
safe_still v u j same stood cover h place read at =
    let was : slice_get (recorded_reads (v.calls j).last) place ≡ Some read = ap (λ (call : CallState). slice_get (recorded_reads call.last) place) (sym same) ∙ at in
    elim (h place read was) [ inl stand ↦ inl (stood read stand) | inr covered ↦ cover place read was covered ]

-- all reads of a call must still be met, if an unfinished task of a lower call is ahead of it, or if its validation begins
pub safe_ahead : (v : View) (j : ℕ) → IsToBeLowered v.tasks j → AreSafe v j
safe_ahead v j h place read at = inr (ahead h)

pub safe_begun : (v : View) (j w : ℕ) → v.tasks w ≡ Validating j (v.calls j).incarnation (length (recorded_reads (v.calls j).last)) false → AreSafe v j
safe_begun v j w h place read at = inr (validated w (length (recorded_reads (v.calls j).last)) false h (inr (omega arith)))

-- a validation of a call continues in another view, if the call and the task stay
pub checked_on : (v u : View) (j x left place : ℕ) (failed : Bool) → u.calls j ≡ v.calls j → u.tasks x ≡ Validating j (v.calls j).incarnation left failed → (failed ≡ true) ⊎ (length (recorded_reads (v.calls j).last) ≤ place + left) → IsCovered u j place
checked_on v u j x left place failed same task meets = validated x left failed (task ∙ ap (λ (call : CallState). Validating j call.incarnation left failed) (sym same))
    (subst (λ (call : CallState). (failed ≡ true) ⊎ (length (recorded_reads call.last) ≤ place + left)) (sym same) meets)

-- each read of a call that must still be met still must be, if all tasks stay
pub cover_same : (v u : View) (j : ℕ) → u.calls j ≡ v.calls j → ((x : ℕ) → u.tasks x ≡ v.tasks x) → (place : ℕ) → IsCovered v j place → IsCovered u j place
cover_same v u j same tasks place (validated x left failed task meets) = checked_on v u j x left place failed same (tasks x ∙ task) meets
cover_same v u j same tasks place (ahead q) = ahead (record { worker = q.worker; call = q.call; task = ap lowered_by (tasks q.worker) ∙ q.task; lower = q.lower })

module _ (block : Block) (v u : View) (i w : ℕ) (c : CallState) (t : Task) (m : Frame block v u i w c t) (f : ViewInvariant block v) where
  -- a read of another call that must be met still must be, if worker w did not validate that call. If worker w's task was ahead
  -- of the call, some task must still be ahead of it
  cover_other : (j : ℕ) → j ≢ i → ((left : ℕ) (failed : Bool) → v.tasks w ≢ Validating j (v.calls j).incarnation left failed) → (lowered_by (v.tasks w) ≡ Some i → i < j → IsToBeLowered u.tasks j) → (place : ℕ) → IsCovered v j place → IsCovered u j place
  cover_other j ne free goes_on place (validated x left failed task meets) = elim (cases_eq x w) [
    | inl e ↦ absurd (free left failed (ap v.tasks (sym e) ∙ task))
    | inr other ↦ checked_on v u j x left place failed (m.calls.other j ne) (m.tasks.other x other ∙ task) meets
  ]
  cover_other j ne free goes_on place (ahead q) = elim (cases_eq q.worker w) [
    | inl e ↦
        let here : lowered_by (v.tasks w) ≡ Some q.call = ap (λ y. lowered_by (v.tasks y)) (sym e) ∙ q.task in
        let one : q.call ≡ i = had_own block v u i w c t m f q.call (lowered_owned (v.tasks w) q.call here) in
        ahead (goes_on (here ∙ ap Some one) (subst (λ y. y < j) one q.lower))
    | inr other ↦ ahead (record { worker = q.worker; call = q.call; task = ap lowered_by (m.tasks.other q.worker other) ∙ q.task; lower = q.lower })
  ]

  -- so a frame keeps the reads of another call safe
  pub safe_other : (j : ℕ) → j ≢ i → ((left : ℕ) (failed : Bool) → v.tasks w ≢ Validating j (v.calls j).incarnation left failed) → (lowered_by (v.tasks w) ≡ Some i → i < j → IsToBeLowered u.tasks j) → StandsOn v u j → AreSafe v j → AreSafe u j
  safe_other j ne free goes_on stood h = safe_still v u j (m.calls.other j ne) stood (λ place read at covered. inr (cover_other j ne free goes_on place covered)) h

  -- a call other than i that is below the validation index was below it before
  was_below : (j : ℕ) → j ≢ i → j < u.validation → j < v.validation
  was_below j ne l = elim m.validation [ inl less ↦ omega (arith, l, less) | inr q ↦ let at = q.0 in let next = q.1 in omega (arith, l, ne, at, next) ]

  -- a frame keeps the invariant on four conditions. The reads of call i are safe. Reads that stand still stand. The worker
  -- validated no other call. Its task did not lower the validation index, or the index is at most the call after call i
  pub others_kept : (c.status ≡ Executed → i < u.validation → AreSafe u i) → ((j left : ℕ) (failed : Bool) → j ≢ i → v.tasks w ≢ Validating j (v.calls j).incarnation left failed)
      → (lowered_by (v.tasks w) ≡ None) ⊎ (u.validation ≤ i + 1) → ((j : ℕ) → StandsOn v u j) → ViewInvariant block u
  others_kept own free lowers stood = frame_kept block v u i w c t m f own (λ j ne done l.
      safe_other j ne (λ left failed. free j left failed ne) (λ h above. elim lowers [ inl none ↦ cc | inr low ↦ absurd (omega (arith, low, l, above)) ]) (stood j) (f.safe j done (was_below j ne l)))
