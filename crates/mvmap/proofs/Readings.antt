-- What a call sees of the entries of one key, and of a changed map.
use Rattle.std.proofs.Common.{◌≡◌, ◌<◌, ◌≤◌, ◌⊎◌, ◌&&◌, ℕ, suc, zero, Bool, true, false, List, [], ◌∷◌, Option, None, Some, is_some, arith, refl, sym, ap, ◌∙◌, inl, inr}
use Rattle.std.specs.List.{AllByRecursion}
use Rattle.std.proofs.lemmas.Bool.{cases_eq}
use Rattle.std.proofs.lemmas.Bool.Decides.{nat_tests}
use Rattle.rv_ledger.specs.Change.{Content, ContentChange, apply_change}
use Rattle.rv_ledger.specs.declared.change.Change.TheVariants as change
use Rattle.read_set.specs.Origin.{Origin, named}
use Rattle.read_set.specs.declared.origin.Version.{Version}
use Rattle.mvmap.specs.Versions.{Entry, Stands, Estimate}
use Rattle.mvmap.specs.Reading.{Visible, Base, Found, Blocked, Passed, blocker, bottom_in, is_origin, is_version, is_walk, origin_in, passed_in, visible_over, visible_below}

-- entries that agree below a call are seen the same way
pub seen_same : (e f : ℕ → Option Entry) (i : ℕ) → ((w : ℕ) → w < i → e w ≡ f w) → visible_below e i ≡ visible_below f i
unfolding visible_below
seen_same e f zero h = refl
seen_same e f (suc i) h =
    ap (λ x. visible_over i x (visible_below e i)) (h i (omega arith)) ∙ ap (visible_over i (f i)) (seen_same e f i (λ w l. h w (omega arith)))

-- with no entry from w on a call sees what call w does
pub seen_down : (e : ℕ → Option Entry) (i w : ℕ) → w ≤ i → ((x : ℕ) → w ≤ x → x < i → e x ≡ None) → visible_below e i ≡ visible_below e w
unfolding visible_below
seen_down e zero w l h = let p : zero ≡ w = omega arith in ap (visible_below e) p
seen_down e (suc i) w l h = elim (cases_eq w (suc i)) [
  | inl p ↦ ap (visible_below e) (sym p)
  | inr ne ↦ ap (λ x. visible_over i x (visible_below e i)) (h i (omega arith) (omega arith)) ∙ seen_down e i w (omega arith) (λ x a b. h x a (omega arith))
]

-- with no entry below it a call sees the storage before the block
pub seen_none : (e : ℕ → Option Entry) (i : ℕ) → ((x : ℕ) → x < i → e x ≡ None) → visible_below e i ≡ Base
unfolding visible_below
seen_none e i h = seen_down e i zero (omega arith) (λ x a b. h x b)

-- with no entry above w and below a call, the call sees the entry of w over what w sees
pub seen_at : (e : ℕ → Option Entry) (i w : ℕ) → w < i → ((x : ℕ) → w < x → x < i → e x ≡ None) → visible_below e i ≡ visible_over w (e w) (visible_below e w)
unfolding visible_below
seen_at e i w l h = seen_down e i (suc w) (omega arith) (λ x a b. h x (omega arith) b)

-- each entry that is seen is that of a lower writer
abbrev pub IsThere : (ℕ → Option Entry) → ℕ → Visible → Type 0
IsThere e i Base = Unit {0}
IsThere e i (Found w n content) = (w < i) × ((c : ContentChange) × (e w ≡ Some (Stands n c)) × ((below : Content) → apply_change c below ≡ content))
IsThere e i (Blocked w) = (w < i) × (e w ≡ Some Estimate)
IsThere e i (Passed w n amount below) = (w < i) × (e w ≡ Some (Stands n (change.Sum amount))) × IsThere e i below

there_up : (e : ℕ → Option Entry) (i : ℕ) (seen : Visible) → IsThere e i seen → IsThere e (suc i) seen
there_up e i Base h = tt
there_up e i (Found w n content) h = (omega (arith, h.0), h.1)
there_up e i (Blocked w) h = (omega (arith, h.0), h.1)
there_up e i (Passed w n amount below) h = (omega (arith, h.0), h.1, there_up e i below h.2)

there_over : (e : ℕ → Option Entry) (i : ℕ) (o : Option Entry) (below : Visible) → e i ≡ o → IsThere e i below → IsThere e (suc i) (visible_over i o below)
there_over e i None below at h = there_up e i below h
there_over e i (Some (Stands n (change.Value value))) below at h = (omega arith, (change.Value value, at, λ _. refl))
there_over e i (Some (Stands n change.Gone)) below at h = (omega arith, (change.Gone, at, λ _. refl))
there_over e i (Some (Stands n (change.Sum amount))) below at h = (omega arith, at, there_up e i below h)
there_over e i (Some Estimate) below at h = (omega arith, at)

pub seen_there : (e : ℕ → Option Entry) (i : ℕ) → IsThere e i (visible_below e i)
unfolding visible_below
seen_there e zero = tt
seen_there e (suc i) = there_over e i (e i) (visible_below e i) refl (seen_there e i)

blocker_there : (e : ℕ → Option Entry) (i w : ℕ) (seen : Visible) → IsThere e i seen → blocker seen ≡ Some w → (w < i) × (e w ≡ Some Estimate)
blocker_there e i w Base h b = cc
blocker_there e i w (Found v n content) h b = cc
blocker_there e i w (Blocked v) h b = let same : v ≡ w = cc in (omega (arith, h.0, same), ap e (sym same) ∙ h.1)
blocker_there e i w (Passed v n amount below) h b = blocker_there e i w below h.2 b

-- what blocks a call is a lower writer's estimate
pub blocked_at : (e : ℕ → Option Entry) (i w : ℕ) → blocker (visible_below e i) ≡ Some w → (w < i) × (e w ≡ Some Estimate)
blocked_at e i w b = blocker_there e i w (visible_below e i) (seen_there e i) b

-- a version is among the entries of a key, of a writer below call i
abbrev pub StandsAmong : (ℕ → Option Entry) → ℕ → Version → Type 0
StandsAmong e i version = (version.writer < i) × ((c : ContentChange) × (e version.writer ≡ Some (Stands version.incarnation c)))

named_there : (e : ℕ → Option Entry) (i : ℕ) (seen : Visible) → IsThere e i seen → AllByRecursion (StandsAmong e i) (named (origin_in seen))
named_there e i Base h = tt
named_there e i (Found w n content) h = ((h.0, (h.1.0, h.1.1)), tt)
named_there e i (Blocked w) h = tt
named_there e i (Passed w n amount below) h = ((h.0, (change.Sum amount, h.1)), named_there e i below h.2)

-- each version that is seen is among the entries, of a writer below the call
pub named_stand : (e : ℕ → Option Entry) (i : ℕ) → AllByRecursion (StandsAmong e i) (named (origin_in (visible_below e i)))
named_stand e i = named_there e i (visible_below e i) (seen_there e i)

-- whether an estimate is met
abbrev pub is_blocked : Visible → Bool
is_blocked seen = is_some (blocker seen)

kept_in : (i : ℕ) (o : Option Entry) (s t : Visible) → (is_blocked s ≡ false → t ≡ s) → is_blocked (visible_over i o s) ≡ false → visible_over i o t ≡ visible_over i o s
kept_in i None s t rest h = rest h
kept_in i (Some (Stands m (change.Value value))) s t rest h = refl
kept_in i (Some (Stands m change.Gone)) s t rest h = refl
kept_in i (Some (Stands m (change.Sum amount))) s t rest h = ap (Passed i m amount) (rest h)
kept_in i (Some Estimate) s t rest h = refl

not_blocked : (i : ℕ) (o : Option Entry) (s : Visible) → o ≡ Some Estimate → is_blocked (visible_over i o s) ≡ false → ⊥
not_blocked i None s p h = cc
not_blocked i (Some (Stands m d)) s p h = cc
not_blocked i (Some Estimate) s p h = cc

-- if entries differ only at estimates, a call that isn't blocked sees what it saw
pub seen_kept : (e f : ℕ → Option Entry) (i : ℕ) → ((w : ℕ) → (f w ≡ e w) ⊎ (e w ≡ Some Estimate)) → is_blocked (visible_below e i) ≡ false → visible_below f i ≡ visible_below e i
unfolding visible_below
seen_kept e f zero same h = refl
seen_kept e f (suc i) same h = elim (same i) [
  | inl p ↦ ap (λ x. visible_over i x (visible_below f i)) p ∙ kept_in i (e i) (visible_below e i) (visible_below f i) (seen_kept e f i same) h
  | inr p ↦ absurd (not_blocked i (e i) (visible_below e i) p h)
]

same_version : (version : Version) (w n : ℕ) → is_version version w n ≡ true → version ≡ record { writer = w; incarnation = n }
same_version version w n h =
    let writer : version.writer ≡ w = grind (arith, nat_tests) in let incarnation : version.incarnation ≡ n = grind (arith, nat_tests) in
    λ i. record { writer = writer i; incarnation = incarnation i }

both_hold : (a b : Bool) → (a && b) ≡ true → (a ≡ true) × (b ≡ true)
both_hold true b h = (refl, h)
both_hold false b h = cc

-- what is seen of some origin isn't blocked, and has that origin
pub walk_shown : (passed : List Version) (bottom : Option Version) (s : Visible) → is_walk passed bottom s ≡ true → (blocker s ≡ None) × (passed_in s ≡ passed) × (bottom_in s ≡ bottom)
walk_shown [] None Base h = (refl, refl, refl)
walk_shown (version ∷ passed) bottom Base h = cc
walk_shown [] (Some version) Base h = cc
walk_shown [] (Some version) (Found w n content) h = (refl, refl, ap Some (sym (same_version version w n h)))
walk_shown [] None (Found w n content) h = cc
walk_shown (version ∷ passed) bottom (Found w n content) h = cc
walk_shown passed bottom (Blocked w) h = cc
walk_shown (version ∷ passed) bottom (Passed w n amount below) h =
    let both = both_hold (is_version version w n) (is_walk passed bottom below) h in
    let rest = walk_shown passed bottom below both.1 in
    (rest.0, (λ i. sym (same_version version w n both.0) i ∷ rest.1 i), rest.2)
walk_shown [] bottom (Passed w n amount below) h = cc

pub origin_shown : (o : Origin) (s : Visible) → is_origin o s ≡ true → is_blocked s ≡ false
origin_shown o s h = ap is_some (walk_shown o.passed o.bottom s h).0

pub origin_seen : (o : Origin) (s : Visible) → is_origin o s ≡ true → origin_in s ≡ o
origin_seen o s h = let shown = walk_shown o.passed o.bottom s h in λ i. record { passed = shown.1 i; bottom = shown.2 i }
