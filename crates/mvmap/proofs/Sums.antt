-- Amounts that are added in turn, and a walk over the versions that add them.
use Rattle.std.proofs.Common.{◌≡◌, ◌+◌, ◌<◌, ◌≤◌, ◌++◌, ℕ, List, [], ◌∷◌, length, Option, None, Some, refl, sym, ap, ◌∙◌, arith}
use Rattle.std.proofs.lemmas.List.{append_assoc, append-nil, length-append}
use Rattle.std.specs.Int.{w64, to_le_bytes}
use Rattle.std.proofs.lemmas.Nat.{from_le_bytes-to_le_bytes_8}
use Rattle.rv_ledger.specs.Change.{Content, add, number_in, wrapping_sum}
use Rattle.read_set.specs.declared.origin.Version.{Version}
use Rattle.mvmap.specs.Answers.{Tells, with_amount}
use Rattle.mvmap.specs.declared.answer.Answer.TheVariants as answer
use Rattle.mvmap.specs.Laws.{SumsAddUp, amount_passed, total_amount, content_below}
use Rattle.mvmap.specs.Reading.{Visible, Base, Found, Blocked, Passed, blocker, bottom_in, passed_in, value_seen}

-- the number in a value that a sum made is that sum
number_of_sum : (content : Content) (amount : ℕ) → number_in (Some (add content amount)) ≡ wrapping_sum (number_in content) amount
unfolding number_in add
number_of_sum content amount = from_le_bytes-to_le_bytes_8 (wrapping_sum (number_in content) amount) (omega arith)

wraps : (n a s : ℕ) → wrapping_sum (wrapping_sum n a) s ≡ wrapping_sum n (wrapping_sum a s)
wraps n a s = omega arith

-- an amount that is added to a sum
pub add_twice : (content : Content) (a s : ℕ) → add (Some (add content a)) s ≡ add content (wrapping_sum a s)
unfolding add
add_twice content a s = ap (λ n. to_le_bytes w64 (wrapping_sum n s)) (number_of_sum content a) ∙ ap (to_le_bytes w64) (wraps (number_in content) a s)

-- an amount, and those that were passed before it
pub more_passed : (content : Content) (a : ℕ) (sum : Option ℕ) → with_amount (Some (add content a)) sum ≡ with_amount content (Some (total_amount a sum))
more_passed content a None = refl
more_passed content a (Some s) = ap Some (add_twice content a s)

before_it : (content : Content) (a : ℕ) (sum : Option ℕ) → Some (add (with_amount content sum) a) ≡ with_amount content (Some (total_amount a sum))
before_it content a None = refl
before_it content a (Some s) = ap Some (add_twice content s a ∙ ap (add content) (swapped s a))
  where
    swapped : (s a : ℕ) → wrapping_sum s a ≡ wrapping_sum a s
    swapped s a = omega arith

pub sums_add_up : SumsAddUp
sums_add_up base Base = refl
sums_add_up base (Found w n content) = refl
sums_add_up base (Blocked w) = refl
sums_add_up base (Passed w n amount below) = ap (λ c. Some (add c amount)) (sums_add_up base below) ∙ before_it (content_below base below) amount (amount_passed below)

-- ---- a walk

-- a walk from call i down to call `below` passed these versions, whose amounts have this sum
pub record HasPassed (seen : ℕ → Visible) (i below : ℕ) (passed : List Version) (sum : Option ℕ) : Type 0 where
  pub count : length passed + below ≤ i
  pub blocked : blocker (seen i) ≡ blocker (seen below)
  pub versions : passed_in (seen i) ≡ passed ++ passed_in (seen below)
  pub bottom : bottom_in (seen i) ≡ bottom_in (seen below)
  pub value : (base : Content) → value_seen base (seen i) ≡ with_amount (value_seen base (seen below)) sum

module _ (seen : ℕ → Visible) (i below : ℕ) (passed : List Version) (sum : Option ℕ) (h : HasPassed seen i below passed sum) where
  -- past one more version
  pub walk_passes : (version : Version) (amount : ℕ) → version.writer < below → seen below ≡ Passed version.writer version.incarnation amount (seen version.writer)
      → HasPassed seen i version.writer (passed ++ version ∷ []) (Some (total_amount amount sum))
  walk_passes version amount lower is = record {
    count = omega (arith, h.count, length-append passed (version ∷ []));
    blocked = h.blocked ∙ ap blocker is;
    versions = h.versions ∙ ap (λ s. passed ++ passed_in s) is ∙ sym (append_assoc passed (version ∷ []) (passed_in (seen version.writer)));
    bottom = h.bottom ∙ ap bottom_in is;
    value = λ base. h.value base ∙ ap (λ s. with_amount (value_seen base s) sum) is ∙ more_passed (value_seen base (seen version.writer)) amount sum;
  }
