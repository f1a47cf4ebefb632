-- What reads of single bytes and of pieces give.
use Rattle.std.proofs.Common.{◌≡◌, ◌<◌, ◌≤◌, ◌+◌, ◌-◌, ◌==◌, ℕ, zero, suc, true, false, List, [], ◌∷◌, ◌++◌, length, get_or, take, set, Option, Some, None, refl, sym, ap, ◌∙◌, arith, append_assoc, append-nil, length-append}
use Rattle.std.specs.Prelude.{⊤, OnSome}
use Rattle.std.specs.Option.{option_map}
use Rattle.std.specs.Io.KnownBytes.{Consumes, IsAtEnd}
use Rattle.std.proofs.lemmas.List.{length-take, take_more_set}
use Rattle.session_requests.specs.Requests.{first_part}
use Rattle.session_requests.specs.Reading.{KeepingGoesOn, AreBytesKept, WhereKnown}
use Rattle.session_requests.specs.declared.reading.Keeping.{Keeping}
use Rattle.session_requests.specs.declared.reading.Keeping.TheVariants.{Kept, Passed, OutOfMemory}
use Rattle.session_requests.proofs.Parts.{before, no_front, none_left, scan_end, scan_hit, scan_on}

-- two such facts, one after the other
pub known_then : (P Q S : List ℕ → List ℕ → Type 0) (a b c : Option (List ℕ)) → WhereKnown a b P → WhereKnown b c Q → ((xs ys zs : List ℕ) → P xs ys → Q ys zs → S xs zs) → WhereKnown a c S
known_then P Q S None b c p q f = tt
known_then P Q S (Some xs) None c p q f = absurd p
known_then P Q S (Some xs) (Some ys) None p q f = absurd q
known_then P Q S (Some xs) (Some ys) (Some zs) p q f = f xs ys zs p q

pub known_map : (P Q : List ℕ → List ℕ → Type 0) (a b : Option (List ℕ)) → WhereKnown a b P → ((xs ys : List ℕ) → P xs ys → Q xs ys) → WhereKnown a b Q
known_map P Q None b p f = tt
known_map P Q (Some xs) None p f = absurd p
known_map P Q (Some xs) (Some ys) p f = f xs ys p

pub took : (bytes : List ℕ) (b c : Option (List ℕ)) → Consumes b c bytes → WhereKnown b c (λ ys zs. ys ≡ bytes ++ zs)
took bytes None c h = tt
took bytes (Some ys) None h = h
took bytes (Some ys) (Some zs) h = h

pub took_last : (bytes : List ℕ) (b c : Option (List ℕ)) → Consumes b c bytes → OnSome b (IsAtEnd c) → WhereKnown b c (λ ys zs. ys ≡ bytes)
took_last bytes None c h e = tt
took_last bytes (Some ys) None h e = h
took_last bytes (Some ys) (Some zs) h e = h ∙ ap (λ (l : List ℕ). bytes ++ l) e ∙ append-nil bytes

-- ---- a line

-- `count` bytes of the room were read, and no LF is among them
pub record Scans (room : List ℕ) (count : ℕ) (xs ys : List ℕ) : Type 0 where
  pub whole : xs ≡ take count room ++ ys
  pub seen : first_part 10 128 xs ≡ option_map (before (take count room)) (first_part 10 (128 - count) ys)

pub scans_none : (room : List ℕ) (a : Option (List ℕ)) → WhereKnown a a (Scans room 0)
scans_none room None = tt
scans_none room (Some xs) = record { whole = refl; seen = no_front (first_part 10 128 xs) }

one_less : (i : ℕ) → i < 128 → 128 - i ≡ suc (128 - (i + 1))
one_less i h = omega (arith, h)

pub scans_more : (room : List ℕ) (count byte : ℕ) (a b c : Option (List ℕ)) → count < 128 → count < length room → WhereKnown a b (Scans room count) → Consumes b c (byte ∷ []) → (byte == 10) ≡ false
    → WhereKnown a c (Scans (set room count byte) (count + 1))
scans_more room count byte a b c few fits so read other = known_then (Scans room count) _ (Scans (set room count byte) (count + 1)) a b c so (took (byte ∷ []) b c read) (λ xs ys zs s e.
    let longer : take (count + 1) (set room count byte) ≡ take count room ++ byte ∷ [] = take_more_set room count byte fits in record {
      whole = s.whole ∙ ap (λ (l : List ℕ). take count room ++ l) e ∙ sym (append_assoc (take count room) (byte ∷ []) zs) ∙ ap (λ (l : List ℕ). l ++ zs) (sym longer);
      seen = s.seen ∙ ap (λ (l : List ℕ). option_map (before (take count room)) (first_part 10 (128 - count) l)) e
          ∙ ap (λ (n : ℕ). option_map (before (take count room)) (first_part 10 n (byte ∷ zs))) (one_less count few)
          ∙ scan_on 10 (128 - (count + 1)) (take count room) byte zs other
          ∙ ap (λ (l : List ℕ). option_map (before l) (first_part 10 (128 - (count + 1)) zs)) (sym longer);
    })

pub scans_hit : (room : List ℕ) (count byte : ℕ) (a b c : Option (List ℕ)) → count < 128 → WhereKnown a b (Scans room count) → Consumes b c (byte ∷ []) → (byte == 10) ≡ true
    → WhereKnown a c (λ xs ys. first_part 10 128 xs ≡ Some (take count room, ys))
scans_hit room count byte a b c few so read here = known_then (Scans room count) _ (λ xs ys. first_part 10 128 xs ≡ Some (take count room, ys)) a b c so (took (byte ∷ []) b c read) (λ xs ys zs s e.
    s.seen ∙ ap (λ (l : List ℕ). option_map (before (take count room)) (first_part 10 (128 - count) l)) e
    ∙ ap (λ (n : ℕ). option_map (before (take count room)) (first_part 10 n (byte ∷ zs))) (one_less count few)
    ∙ scan_hit 10 (128 - (count + 1)) (take count room) byte zs here)

nothing_taken : (room : List ℕ) (count : ℕ) → count ≡ 0 → take count room ≡ []
nothing_taken room zero h = refl
nothing_taken room (suc count) h = absurd (omega (arith, h))

pub scans_nothing : (room : List ℕ) (count : ℕ) (a b c : Option (List ℕ)) → count ≡ 0 → WhereKnown a b (Scans room count) → Consumes b c [] → OnSome b (IsAtEnd c) → WhereKnown a c (λ xs ys. xs ≡ [])
scans_nothing room count a b c none so read end = known_then (Scans room count) _ (λ xs ys. xs ≡ []) a b c so (took_last [] b c read end) (λ xs ys zs s e.
    s.whole ∙ ap (λ (l : List ℕ). l ++ ys) (nothing_taken room count none) ∙ e)

abbrev pub IsBroken : List ℕ → List ℕ → Type 0
IsBroken xs ys = (first_part 10 128 xs ≡ None) × (0 < length xs)

some_read : (room : List ℕ) (count : ℕ) (xs ys : List ℕ) → 0 < count → count ≤ length room → xs ≡ take count room ++ ys → 0 < length xs
some_read room count xs ys some fits e = omega (arith, some, ap length e, length-append (take count room) ys, length-take count room, fits)

pub scans_cut : (room : List ℕ) (count : ℕ) (a b c : Option (List ℕ)) → 0 < count → count ≤ length room → WhereKnown a b (Scans room count) → Consumes b c [] → OnSome b (IsAtEnd c) → WhereKnown a c IsBroken
scans_cut room count a b c some fits so read end = known_then (Scans room count) _ IsBroken a b c so (took_last [] b c read end) (λ xs ys zs s e. (
  s.seen ∙ ap (λ (l : List ℕ). option_map (before (take count room)) (first_part 10 (128 - count) l)) e ∙ scan_end 10 (128 - count) (take count room),
  some_read room count xs ys some fits s.whole,
))

pub scans_full : (room : List ℕ) (count : ℕ) (a b : Option (List ℕ)) → 128 ≤ count → count ≤ length room → WhereKnown a b (Scans room count) → WhereKnown a b IsBroken
scans_full room count a b full fits so = known_map (Scans room count) IsBroken a b so (λ xs ys s. (
  s.seen ∙ none_left 10 (128 - count) (take count room) ys (omega (arith, full)),
  some_read room count xs ys (omega (arith, full)) fits s.whole,
))

-- ---- a body

-- all except `left` of `size` bytes were read; if bytes are kept, they are these
abbrev pub Passes : ℕ → ℕ → Keeping → List ℕ → List ℕ → Type 0
Passes size left kept xs ys = (bs : List ℕ) × (xs ≡ bs ++ ys) × (length bs + left ≡ size) × AreBytesKept kept bs

pub passes_none : (size : ℕ) (kept : Keeping) (a : Option (List ℕ)) → AreBytesKept kept [] → WhereKnown a a (Passes size size kept)
passes_none size kept None h = tt
passes_none size kept (Some xs) h = ([], refl, omega arith, h)

pub passes_more : (size left count : ℕ) (kept longer : Keeping) (bytes : List ℕ) (a b c : Option (List ℕ)) → WhereKnown a b (Passes size left kept) → Consumes b c bytes → length bytes ≡ count → count ≤ left
    → ((whole : List ℕ) → AreBytesKept kept whole → AreBytesKept longer (whole ++ bytes)) → WhereKnown a c (Passes size (left - count) longer)
passes_more size left count kept longer bytes a b c so read long few keeps = known_then (Passes size left kept) _ (Passes size (left - count) longer) a b c so (took bytes b c read) (λ xs ys zs (bs, whole, sum, is) e. (
  bs ++ bytes,
  whole ∙ ap (λ (l : List ℕ). bs ++ l) e ∙ sym (append_assoc bs bytes zs),
  omega (arith, length-append bs bytes, sum, long, few),
  keeps bs is,
))

-- bytes that were kept are not passed over; if memory for them ran out, there was at least one
abbrev pub IsLost : Keeping → Keeping → ℕ → Type 0
IsLost (Kept before) Passed size = ⊥
IsLost (Kept before) OutOfMemory size = 0 < size
IsLost before now size = ⊤

pub none_lost : (kept : Keeping) (size : ℕ) → IsLost kept kept size
none_lost (Kept bytes) size = tt
none_lost Passed size = tt
none_lost OutOfMemory size = tt

pub some_lost : (before now more : Keeping) (size : ℕ) → 0 < size → IsLost before now size → KeepingGoesOn now more → IsLost before more size
some_lost (Kept bytes) (Kept now) (Kept more) size some lost on = tt
some_lost (Kept bytes) (Kept now) Passed size some lost on = absurd on
some_lost (Kept bytes) (Kept now) OutOfMemory size some lost on = some
some_lost (Kept bytes) Passed more size some lost on = absurd lost
some_lost (Kept bytes) OutOfMemory more size some lost on = rw on some
some_lost Passed now more size some lost on = tt
some_lost OutOfMemory now more size some lost on = tt

-- ---- what a buffer shows

pub first_of : (shown : List ℕ) → 0 < length shown → take 1 shown ≡ get_or shown 0 0 ∷ []
first_of [] h = absurd (omega (arith, h))
first_of (x ∷ xs) h = refl
