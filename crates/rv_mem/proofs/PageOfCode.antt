-- The instructions of a page of code, and that a store does not change such a page.
use Rattle.std.proofs.Common.{◌≡◌, ℕ, ◌+◌, ◌-◌, ◌/◌, ◌%◌, ◌<◌, ◌≤◌, Bool, true, false, List, [], ◌∷◌, ◌++◌, length, take, drop, Ok, Err, refl, sym, ap, ◌∙◌, arith, ◌==◌, if◌then◌else◌, length-append, length-drop, append_assoc}
use native.Mathlib.Decide.{dec_lt}
use Rattle.std.proofs.lemmas.Bool.Decides.{nat_tests}
use Rattle.std.proofs.Math.Seq.{drop-append-add}
use Rattle.std.proofs.lemmas.List.{take-append-le, drop-append-le, take-append-drop, drop-drop, length-take-le, drop-take}
use Rattle.byteorder.specs.Endian.{little_bytes, little_number}
use Rattle.byteorder.specs.Numbers.{little_from-take, length-bytes_low_first}
use Rattle.elf32.specs.Pages.{overwritten_at}
use Rattle.rv_mem.specs.Code.{IsCode}
use Rattle.rv_mem.specs.Space.{Misaligned, MemoryFault, Space, allows_at, allows_range, copied, from_place, loaded, stored, written}
use Rattle.rv_mem.specs.declared.access.Access.TheVariants.{Write, Execute}
use Rattle.rv_mem.proofs.Copied.{over_nothing}
use Rattle.rv_mem.proofs.Each.{each_aligned, each_of, may_same}

-- ---- the words of a page

rest : (bytes : List ℕ) (f o : ℕ) → o ≤ 4092 → little_number 4 (drop o (take 4096 (drop f bytes))) ≡ little_number 4 (drop (f + o) bytes)
rest bytes f o fits =
    let all : 4096 ≡ o + (4096 - o) = omega arith in
    ap (λ (n : ℕ). little_number 4 (drop o (take n (drop f bytes)))) all
    ∙ ap (little_number 4) (drop-take o (4096 - o) (drop f bytes))
    ∙ little_from-take 0 4 (4096 - o) (drop o (drop f bytes)) (omega arith)
    ∙ ap (little_number 4) (drop-drop o f bytes)

-- an aligned word of a page of code is an instruction
pub code_word : (memory : Space) (first : ℕ) (code : List ℕ) (a : ℕ) → IsCode memory first code → a % 4 ≡ 0 → first ≤ a → a < first + 4096 → loaded 4 Execute memory a ≡ Ok (little_number 4 (drop (a - first) code))
code_word memory first code a h even from below =
    let start = h.start in
    let page : first / 4096 ≡ a / 4096 = omega arith in
    let here : allows_at Execute memory.rights a ≡ true = sym (may_same Execute memory.rights first a page) ∙ h.executable in
    let all : allows_range Execute memory.rights a 4 ≡ true = each_aligned Execute memory.rights a 4 refl even ∙ here in
    let inside : 65536 ≤ first = grind (arith, nat_tests, h.executable) in
    let place : first - 65536 + (a - first) ≡ a - 65536 = omega arith in
    let word : little_number 4 (drop (a - first) code) ≡ little_number 4 (drop (a - 65536) memory.bytes) =
    ap (λ (l : List ℕ). little_number 4 (drop (a - first) l)) h.bytes
    ∙ rest memory.bytes (first - 65536) (a - first) (omega arith)
    ∙ ap (λ (k : ℕ). little_number 4 (drop k memory.bytes)) place in
    rw (even, all) (ap Ok (sym word))

-- ---- a write beside a part of a list

-- the part is in the first of two lists
in_first : (xs ys : List ℕ) (f n : ℕ) → f + n ≤ length xs → take n (drop f (xs ++ ys)) ≡ take n (drop f xs)
in_first xs ys f n h =
    ap (take n) (drop-append-le f xs ys (omega arith))
    ∙ take-append-le n (drop f xs) ys (omega (arith, length-drop f xs))

pub write_after : (bytes new : List ℕ) (f n at : ℕ) → f + n ≤ at → at ≤ length bytes → take n (drop f (overwritten_at bytes at new)) ≡ take n (drop f bytes)
unfolding overwritten_at
write_after bytes new f n at h inside =
    let size : length (take at bytes) ≡ at = length-take-le at bytes inside in
    let fits : f + n ≤ length (take at bytes) = omega arith in
    ap (λ (l : List ℕ). take n (drop f l)) (append_assoc (take at bytes) new (drop (at + length new) bytes))
    ∙ in_first (take at bytes) (new ++ drop (at + length new) bytes) f n fits
    ∙ sym (in_first (take at bytes) (drop at bytes) f n fits)
    ∙ ap (λ (l : List ℕ). take n (drop f l)) (take-append-drop at bytes)

pub write_before : (bytes new : List ℕ) (f n at : ℕ) → at + length new ≤ f → at ≤ length bytes → take n (drop f (overwritten_at bytes at new)) ≡ take n (drop f bytes)
unfolding overwritten_at
write_before bytes new f n at h inside =
    let size : length (take at bytes) ≡ at = length-take-le at bytes inside in
    let front = take at bytes ++ new in
    let long : length front ≡ at + length new = omega (arith, length-append (take at bytes) new) in
    let place : f ≡ length front + (f - (at + length new)) = omega arith in
    let same : (at + length new) + (f - (at + length new)) ≡ f = omega arith in
    ap (λ (k : ℕ). take n (drop k (front ++ drop (at + length new) bytes))) place
    ∙ ap (take n) (drop-append-add front (drop (at + length new) bytes) (f - (at + length new)))
    ∙ ap (take n) (drop-drop (f - (at + length new)) (at + length new) bytes)
    ∙ ap (λ (k : ℕ). take n (drop k bytes)) same

-- ---- a write beside a page

-- memory has no fewer bytes after a write
pub length_written : (bytes new : List ℕ) (at : ℕ) → at ≤ length bytes → length bytes ≤ length (overwritten_at bytes at new)
unfolding overwritten_at
length_written bytes new at h =
    let size : length (take at bytes) ≡ at = length-take-le at bytes h in
    omega (arith, length-append (take at bytes ++ new) (drop (at + length new) bytes), length-append (take at bytes) new, length-drop (at + length new) bytes)

-- a write keeps a page of code if it does not change its bytes
beside : (memory : Space) (first place : ℕ) (new code : List ℕ) → place ≤ length memory.bytes → IsCode memory first code → take 4096 (drop (first - 65536) (overwritten_at memory.bytes place new)) ≡ take 4096 (drop (first - 65536) memory.bytes) → IsCode (written memory new place) first code
beside memory first place new code inside is same =
    let long : 1048576 ≤ length memory.bytes = is.size in
    let more = length_written memory.bytes new place inside in
    record {
      size = omega (arith, long, more);
      start = is.start;
      executable = is.executable;
      fixed = is.fixed;
      bytes = is.bytes ∙ sym same;
    }

-- so does a write to bytes that may all be stored to
pub write_stays : (memory : Space) (a first : ℕ) (new code : List ℕ) → allows_range Write memory.rights a (length new) ≡ true → IsCode memory first code → IsCode (written memory new (a - 65536)) first code
write_stays memory a first [] code may is = rw (over_nothing memory.bytes (a - 65536) [] refl) is
write_stays memory a first (x ∷ xs) code may is =
    let new : List ℕ = x ∷ xs in
    let start = is.start in
    let inside : 65536 ≤ first = grind (arith, nat_tests, is.executable) in
    let each : (i : ℕ) → i < length new → allows_at Write memory.rights (a + i) ≡ true = each_of Write memory.rights a (length new) may in
    let begin : a + 0 ≡ a = omega arith in
    let here : allows_at Write memory.rights a ≡ true = rw begin at (each 0 (omega arith)) in
    let low : 65536 ≤ a = grind (arith, nat_tests, here) in
    let high : a < 1114112 = grind (arith, nat_tests, here) in
    let long : 1048576 ≤ length memory.bytes = is.size in
    elim (dec_lt a first) [
      | yes below ↦ elim (dec_lt first (a + length new)) [
        | yes over ↦
            let place : a + (first - a) ≡ first = omega arith in
            absurd (cc (rw place at (each (first - a) (omega arith)), is.fixed))
        | no under ↦ beside memory first (a - 65536) new code (omega arith) is (write_before memory.bytes new (first - 65536) 4096 (a - 65536) (omega arith) (omega arith))
      ]
      | no above ↦ elim (dec_lt a (first + 4096)) [
        | yes in_page ↦
            let page : a / 4096 ≡ first / 4096 = omega arith in
            absurd (cc (sym (may_same Write memory.rights a first page) ∙ here, is.fixed))
        | no past ↦ beside memory first (a - 65536) new code (omega arith) is (write_after memory.bytes new (first - 65536) 4096 (a - 65536) (omega arith) (omega arith))
      ]
    ]

-- ---- stores and copies

-- memory after a change that keeps its rights and its pages of code
pub record Keeps (memory after : Space) : Type 0 where
  pub rights : after.rights ≡ memory.rights
  pub code : (first : ℕ) (code : List ℕ) → IsCode memory first code → IsCode after first code

pub keeps_written : (memory : Space) (a : ℕ) (new : List ℕ) → allows_range Write memory.rights a (length new) ≡ true → Keeps memory (written memory new (a - 65536))
keeps_written memory a new may = record { rights = refl; code = λ first code is. write_stays memory a first new code may is }

-- a store that is not refused
stored_cases : (memory after : Space) (a : ℕ) (new : List ℕ) (aligned allowed : Bool) → allows_range Write memory.rights a (length new) ≡ allowed → from_place (written memory new) (if aligned then (if allowed then Ok (a - 65536) else Err MemoryFault) else Err Misaligned) ≡ Ok after → Keeps memory after
stored_cases memory after a new true true may e = let is : after ≡ written memory new (a - 65536) = cc in rw is (keeps_written memory a new may)
stored_cases memory after a new true false may e = absurd (cc)
stored_cases memory after a new false allowed may e = absurd (cc)

pub keeps_stored : (n : ℕ) (memory after : Space) (a value : ℕ) → stored n memory a value ≡ Ok after → Keeps memory after
keeps_stored n memory after a value e =
    let size : length (little_bytes n value) ≡ n = length-bytes_low_first 0 n value in
    stored_cases memory after a (little_bytes n value) (a % n == 0) (allows_range Write memory.rights a n) (rw size refl) e

-- a copy that is not refused
copied_cases : (memory after : Space) (a : ℕ) (new : List ℕ) (allowed : Bool) → allows_range Write memory.rights a (length new) ≡ allowed → copied memory a new ≡ Ok after → Keeps memory after
copied_cases memory after a new true may e =
    let done : Ok (written memory new (a - 65536)) ≡ Ok after = rw may at e in
    let is : after ≡ written memory new (a - 65536) = cc in
    rw is (keeps_written memory a new may)
copied_cases memory after a new false may e =
    let refused : Err MemoryFault ≡ Ok after = rw may at e in
    absurd (cc)

pub keeps_copied : (memory after : Space) (a : ℕ) (new : List ℕ) → copied memory a new ≡ Ok after → Keeps memory after
keeps_copied memory after a new e = copied_cases memory after a new (allows_range Write memory.rights a (length new)) refl e
