-- The shares that the threads of a block give back, by what each thread promised.
use Rattle.std.proofs.Common.{◌≡◌, ◌+◌, ℕ, zero, suc, List, [], ◌∷◌, ◌++◌, All, Option, Some, Result, Ok, Err, IfOk, length, map, slice_get, add-one, arith, ap, refl, sym, subst, inl, inr, ◌∙◌}
use lib.ListN.{length-map}
use Rattle.std.proofs.lemmas.List.{length_push}
use Rattle.std.proofs.lemmas.List.Elements.{All-cons, All-nil}
use Rattle.std.specs.Global.{Vec}
use Rattle.workers.specs.declared.book.share.Share.{Share}
use Rattle.workers.specs.declared.fault.RunFault.{RunFault}
use Rattle.workers.specs.Book.{KeepsLimit, ShareCounts, counts_of_share, zero_counts, zero_counts_of_all}
use Rattle.workers.specs.Settle.{AreLeft, IsGivenBack}
use Rattle.workers.specs.Work.{AreGivenBy, HasPromised, HoldFrom, IsGivenBy, Started}
use Rattle.workers.proofs.Zeros.{no_shares, one_zero_more}

-- ---- a fact of each element

module _ {X : Type 0} (Holds : ℕ → X → Type 0) where
  -- it holds of one element more
  pub hold_push : (n : ℕ) (xs : List X) (x : X) → HoldFrom Holds n xs → Holds (n + length xs) x → HoldFrom Holds n (xs ++ x ∷ [])
  hold_push n [] x all h = (subst (λ (k : ℕ). Holds k x) (omega arith) h, tt)
  hold_push n (y ∷ ys) x all h = (all.0, hold_push (n + 1) ys x all.1 (subst (λ (k : ℕ). Holds k x) (omega arith) h))

  -- it holds of the element at an index
  hold_at : (n : ℕ) (xs : List X) (w : ℕ) (x : X) → HoldFrom Holds n xs → slice_get xs w ≡ Some x → Holds (n + w) x
  hold_at n [] w x all at = cc
  hold_at n (y ∷ ys) zero x all at = subst (λ (k : ℕ). Holds k x) (omega arith) (subst (Holds n) (cc at) all.0)
  hold_at n (y ∷ ys) (suc w) x all at = subst (λ (k : ℕ). Holds k x) (omega arith) (hold_at (n + 1) ys w x all.1 at)

-- ---- shares at the start

length_zeros : (n : ℕ) → length (zero_counts_of_all n) ≡ n
length_zeros zero = ap length no_shares
length_zeros (suc n) =
    let before = length_zeros n in
    let longer = length_push (zero_counts_of_all n) (zero_counts n) in
    ap (λ (k : ℕ). length (zero_counts_of_all k)) (sym (add-one n)) ∙ ap length (one_zero_more n) ∙ omega (arith, longer, before)

-- a share of a worker that has done nothing yet
abbrev pub IsNew : ℕ → Share → Type 0
IsNew w share = counts_of_share share ≡ zero_counts w

zeros_hold : (n : ℕ) → HoldFrom (λ (w : ℕ) (one : ShareCounts). one ≡ zero_counts w) 0 (zero_counts_of_all n)
zeros_hold zero = subst (HoldFrom (λ (w : ℕ) (one : ShareCounts). one ≡ zero_counts w) 0) (sym no_shares) tt
zeros_hold (suc n) =
    let Is : ℕ → ShareCounts → Type 0 = λ w one. one ≡ zero_counts w in
    let long = length_zeros n in
    let here : n ≡ 0 + length (zero_counts_of_all n) = omega (arith, long) in
    subst (λ (k : ℕ). HoldFrom Is 0 (zero_counts_of_all k)) (add-one n)
    (subst (HoldFrom Is 0) (sym (one_zero_more n)) (hold_push Is 0 (zero_counts_of_all n) (zero_counts n) (zeros_hold n) (ap zero_counts here)))

hold_unmap : {X Y : Type 0} (f : X → Y) (Holds : ℕ → Y → Type 0) (n : ℕ) (xs : List X) → HoldFrom Holds n (map f xs) → HoldFrom (λ w x. Holds w (f x)) n xs
hold_unmap f Holds n [] all = tt
hold_unmap f Holds n (x ∷ xs) all = (all.0, hold_unmap f Holds (n + 1) xs all.1)

-- the shares of a block at its start are those of workers that have done nothing yet
pub all_new : (shares : List Share) → map counts_of_share shares ≡ zero_counts_of_all (length shares) → HoldFrom IsNew 0 shares
all_new shares new =
    let Is : ℕ → ShareCounts → Type 0 = λ w one. one ≡ zero_counts w in
    hold_unmap counts_of_share Is 0 shares (subst (HoldFrom Is 0) (sym new) (zeros_hold (length shares)))

pub new_count : (workers : ℕ) (shares : List Share) → map counts_of_share shares ≡ zero_counts_of_all workers → length shares ≡ workers
new_count workers shares new = sym (length-map shares counts_of_share) ∙ ap length new ∙ length_zeros workers

-- ---- threads and their shares

-- a thread more, and the share that it gives
pub given_push : (limit : Option ℕ) (threads : List Started) (back : List Share) (thread : Started) (share : Share) → AreGivenBy limit threads back → IsGivenBy limit thread share
    → AreGivenBy limit (threads ++ thread ∷ []) (back ++ share ∷ [])
given_push limit [] [] thread share all given = (given, tt)
given_push limit [] (b ∷ bs) thread share all given = absurd all
given_push limit (t ∷ ts) [] thread share all given = absurd all
given_push limit (t ∷ ts) (b ∷ bs) thread share all given = (all.0, given_push limit ts bs thread share all.1 given)

given_count : (limit : Option ℕ) (threads : List Started) (back : List Share) → AreGivenBy limit threads back → length back ≡ length threads
given_count limit [] [] all = refl
given_count limit [] (b ∷ bs) all = absurd all
given_count limit (t ∷ ts) [] all = absurd all
given_count limit (t ∷ ts) (b ∷ bs) all = let rest = given_count limit ts bs all.1 in omega (arith, rest)

given_hold : (limit : Option ℕ) (n : ℕ) (threads : List Started) (back : List Share) → HoldFrom HasPromised n threads → AreGivenBy limit threads back
    → HoldFrom (IsGivenBack limit) n back
given_hold limit n [] [] promised all = tt
given_hold limit n [] (b ∷ bs) promised all = absurd all
given_hold limit n (t ∷ ts) [] promised all = absurd all
given_hold limit n (Err met ∷ ts) (b ∷ bs) promised all = absurd all.0
given_hold limit n (Ok started ∷ ts) (b ∷ bs) promised all = (
  subst (λ (w : ℕ). IsGivenBack limit w b) promised.0 all.0,
  given_hold limit (n + 1) ts bs promised.1 all.1,
)

-- if each thread promised the share of its worker, those are the shares that come back
pub all_given : (limit : Option ℕ) (count : ℕ) (threads : List Started) (answer : Result (Vec Share) RunFault) → HoldFrom HasPromised 0 threads → length threads ≡ count
    → IfOk answer (λ back. AreGivenBy limit threads back.items) → IfOk answer (λ back. (length back.items ≡ count) × HoldFrom (IsGivenBack limit) 0 back.items)
all_given limit count threads (Ok back) promised long all = (given_count limit threads back.items all ∙ long, given_hold limit 0 threads back.items promised all)
all_given limit count threads (Err fault) promised long all = tt

-- ---- what a block leaves

pub none_left : (limit : Option ℕ) (workers : ℕ) → AreLeft limit workers []
none_left limit workers = inl refl

pub all_left : (limit : Option ℕ) (workers : ℕ) (shares : List Share) → HoldFrom (IsGivenBack limit) 0 shares → length shares ≡ workers → AreLeft limit workers shares
all_left limit workers shares all long = inr (record { count = long; each = λ w share at. subst (λ (k : ℕ). IsGivenBack limit k share) (omega arith) (hold_at (IsGivenBack limit) 0 shares w share all at) })

keep_from : (limit : Option ℕ) (n : ℕ) (shares : List Share) → HoldFrom (IsGivenBack limit) n shares → All (λ share. KeepsLimit limit share.counts) shares
keep_from limit n [] all = All-nil _
keep_from limit n (share ∷ shares) all = All-cons (λ (x : Share). KeepsLimit limit x.counts) share shares all.0.2 (keep_from limit (n + 1) shares all.1)

pub all_keep : (limit : Option ℕ) (shares : List Share) → HoldFrom (IsGivenBack limit) 0 shares → All (λ share. KeepsLimit limit share.counts) shares
all_keep limit shares all = keep_from limit 0 shares all
