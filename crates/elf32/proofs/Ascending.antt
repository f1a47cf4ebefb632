-- The addresses of the words of a file without fault ascend.
use Rattle.std.proofs.Common.{◌≡◌, ℕ, suc, ◌+◌, ◌-◌, ◌/◌, ◌<◌, ◌≤◌, Bool, true, false, cond, ◌&&◌, List, [], ◌∷◌, ◌++◌, length, map, Option, Some, None, Ok, All, nat_lt, nat_le, refl, arith, length-take, zero-add}
use Rattle.std.specs.Prelude.{flat_map, AllPairs}
use Rattle.std.specs.List.{list_any, range_with_len}
use Rattle.std.proofs.lemmas.Bool.Decides.{nat_tests}
use Rattle.std.proofs.lemmas.List.Elements.{All-append, All-cons}
use Rattle.std.proofs.lemmas.List.Kept.{AllPairs-cons}
use Rattle.std.proofs.lemmas.List.FromFn.{length-map-range_with_len, get_or-map-range_with_len}
use Rattle.elf32.specs.declared.error.ElfError.{ElfError}
use Rattle.elf32.specs.declared.error.ElfError.TheVariants.{Truncated, BadMagic, BadClassOrData, BadVersion, NotExec, NotRiscv, BadFlags, BadHeaderSize, BadCount, BadType, SegmentRange, SegmentOrder, PageShared, WriteExecute, BadEntry}
use Rattle.elf32.specs.declared.header.ProgramHeader.{ProgramHeader}
use Rattle.elf32.specs.declared.segment.Segment.{Segment}
use Rattle.elf32.specs.declared.words.PlacedWord.{PlacedWord}
use Rattle.elf32.specs.Faults as f
use Rattle.elf32.specs.Faults.{is_below, share_a_page, some_pair, is_out_of_range, has_bad_range, is_out_of_order, shares_page, least_fault, loads}
use Rattle.elf32.specs.Layout.{Layout}
use Rattle.elf32.specs.Image.{segment_of, image_of, layout_of}
use Rattle.elf32.specs.Readable.{IsInRange}
use Rattle.elf32.specs.Words.{word_count, word_of_segment, words_of_segment, words_of}
use Rattle.elf32.proofs.Sound.{in_range, neither}

-- ---- words of one segment

abbrev Below : PlacedWord → PlacedWord → Type 0
Below v w = v.address < w.address

abbrev Lies : Segment → PlacedWord → Type 0
Lies s w = (s.address ≤ w.address) × (w.address < s.address + length s.content)

lies_by : (s : Segment) (b : Bool) → All (Lies s) (cond b (map (word_of_segment s) (range_with_len 0 (word_count s))) [])
lies_by s true = λ k d h.
    let below : k < word_count s = omega (arith, length-map-range_with_len (word_of_segment s) 0 (word_count s)) in
    rw (get_or-map-range_with_len (word_of_segment s) 0 (word_count s) k k d below (zero-add k)) (omega arith, omega arith)
lies_by s false = λ k d h. absurd (omega arith)

each_lies : (s : Segment) → All (Lies s) (words_of_segment s)
unfolding words_of_segment
each_lies s = lies_by s s.rights.executable

pair_by : (s : Segment) (b : Bool) → AllPairs Below (cond b (map (word_of_segment s) (range_with_len 0 (word_count s))) [])
pair_by s true = λ i j d less h.
    let below : j < word_count s = omega (arith, length-map-range_with_len (word_of_segment s) 0 (word_count s)) in
    let first : i < word_count s = omega arith in
    rw (get_or-map-range_with_len (word_of_segment s) 0 (word_count s) i i d first (zero-add i), get_or-map-range_with_len (word_of_segment s) 0 (word_count s) j j d below (zero-add j)) (omega arith)
pair_by s false = λ i j d less h. absurd (omega arith)

each_pair : (s : Segment) → AllPairs Below (words_of_segment s)
unfolding words_of_segment
each_pair s = pair_by s s.rights.executable

-- ---- words of segments

-- if both have file bytes, those of s lie below t
abbrev Before : Segment → Segment → Type 0
Before s t = 0 < length s.content → 0 < length t.content → s.address + length s.content ≤ t.address

abbrev Chain : List Segment → Type 0
Chain [] = Unit {0}
Chain (s ∷ ss) = All (Before s) ss × Chain ss

abbrev After : Segment → PlacedWord → Type 0
After s w = s.address + length s.content ≤ w.address

All-weaker : {X : Type 0} (P Q : X → Type 0) → ((x : X) → P x → Q x) → (xs : List X) → All P xs → All Q xs
All-weaker P Q f xs h = λ k d b. f _ (h k d b)

All-first : {X : Type 0} (P : X → Type 0) (x : X) (xs : List X) → All P (x ∷ xs) → P x
All-first P x xs h = h 0 x (omega arith)

All-rest : {X : Type 0} (P : X → Type 0) (x : X) (xs : List X) → All P (x ∷ xs) → All P xs
All-rest P x xs h = λ k d b. h (suc k) d (omega arith)

all_after : (s : Segment) (ts : List Segment) → 0 < length s.content → All (Before s) ts → All (After s) (flat_map words_of_segment ts)
all_after s [] some h = λ k d b. absurd (omega arith)
all_after s (t ∷ ts) some h =
    let first = All-first (Before s) t ts h in
    All-append (After s) (words_of_segment t) (flat_map words_of_segment ts)
    (All-weaker (Lies t) (After s) (λ w lies. omega (arith, first some (omega arith))) (words_of_segment t) (each_lies t))
    (all_after s ts some (All-rest (Before s) t ts h))

pairs_append : {X : Type 0} (R : X → X → Type 0) (xs ys : List X) → AllPairs R xs → AllPairs R ys → All (λ x. All (R x) ys) xs → AllPairs R (xs ++ ys)
pairs_append R [] ys p q cross = q
pairs_append R (x ∷ xs) ys p q cross =
    AllPairs-cons R x (xs ++ ys)
    (All-append (R x) xs ys (λ k d b. p 0 (suc k) d (omega arith) (omega arith)) (All-first (λ z. All (R z) ys) x xs cross))
    (pairs_append R xs ys (λ i j d less b. p (suc i) (suc j) d (omega arith) (omega arith)) q (All-rest (λ z. All (R z) ys) x xs cross))

chain_ascends : (ss : List Segment) → Chain ss → AllPairs Below (flat_map words_of_segment ss)
chain_ascends [] h = λ i j d less b. absurd (omega arith)
chain_ascends (s ∷ ss) h =
    pairs_append Below (words_of_segment s) (flat_map words_of_segment ss) (each_pair s) (chain_ascends ss h.1)
    (All-weaker (Lies s) (λ v. All (Below v) (flat_map words_of_segment ss))
    (λ v lies. All-weaker (After s) (Below v) (λ w later. omega arith) (flat_map words_of_segment ss) (all_after s ss (omega arith) h.0))
    (words_of_segment s) (each_lies s))

-- ---- a file without fault

apart : (v m w n a b : ℕ) → nat_lt w v ≡ false → (nat_lt 0 m && nat_lt 0 n && nat_le (v / 4096) ((w + n - 1) / 4096) && nat_le (w / 4096) ((v + m - 1) / 4096)) ≡ false → a ≤ m → b ≤ n → 0 < a → 0 < b → v + a ≤ w
apart v m w n a b order page am bn some other = grind (arith, nat_tests)

one_before : (bytes : List ℕ) (p q : ProgramHeader) → IsInRange (length bytes) p → IsInRange (length bytes) q → is_below p q ≡ false → share_a_page p q ≡ false → Before (segment_of bytes p) (segment_of bytes q)
one_before bytes p q inp inq order page = λ some other.
    apart p.p_vaddr p.p_memsz q.p_vaddr q.p_memsz _ _ order page
    (simp length-take (omega (arith, inp.filled))) (simp length-take (omega (arith, inq.filled))) some other

all_before : (bytes : List ℕ) (p : ProgramHeader) (qs : List ProgramHeader) → IsInRange (length bytes) p → list_any (is_out_of_range (length bytes)) qs ≡ false → list_any (is_below p) qs ≡ false → list_any (share_a_page p) qs ≡ false → All (Before (segment_of bytes p)) (map (segment_of bytes) qs)
all_before bytes p [] inp range order page = λ k d b. absurd (omega arith)
all_before bytes p (q ∷ qs) inp range order page =
    let ranges = neither (is_out_of_range (length bytes) q) (list_any (is_out_of_range (length bytes)) qs) range in
    let orders = neither (is_below p q) (list_any (is_below p) qs) order in
    let pages = neither (share_a_page p q) (list_any (share_a_page p) qs) page in
    All-cons (Before (segment_of bytes p)) (segment_of bytes q) (map (segment_of bytes) qs)
    (one_before bytes p q inp (in_range (length bytes) q ranges.0) orders.0 pages.0)
    (all_before bytes p qs inp ranges.1 orders.1 pages.1)

chain : (bytes : List ℕ) (ps : List ProgramHeader) → list_any (is_out_of_range (length bytes)) ps ≡ false → some_pair is_below ps ≡ false → some_pair share_a_page ps ≡ false → Chain (map (segment_of bytes) ps)
chain bytes [] range order page = tt
chain bytes (p ∷ ps) range order page =
    let ranges = neither (is_out_of_range (length bytes) p) (list_any (is_out_of_range (length bytes)) ps) range in
    let orders = neither (list_any (is_below p) ps) (some_pair is_below ps) order in
    let pages = neither (list_any (share_a_page p) ps) (some_pair share_a_page ps) page in
    (all_before bytes p ps (in_range (length bytes) p ranges.0) ranges.1 orders.0 pages.0, chain bytes ps ranges.1 orders.1 pages.1)

-- the faults as a list of tests
abbrev first_of : List (Bool × ElfError) → Option ElfError
first_of [] = None
first_of (t ∷ ts) = cond t.0 (Some t.1) (first_of ts)

abbrev Clear : List (Bool × ElfError) → Type 0
Clear [] = Unit {0}
Clear (t ∷ ts) = (t.0 ≡ false) × Clear ts

passed : (b : Bool) (fault : ElfError) (rest : Option ElfError) → cond b (Some fault) rest ≡ None → (b ≡ false) × (rest ≡ None)
passed true fault rest h = cc
passed false fault rest h = (refl, h)

clear : (ts : List (Bool × ElfError)) → first_of ts ≡ None → Clear ts
clear [] h = tt
clear (t ∷ ts) h = let both = passed t.0 t.1 (first_of ts) h in (both.0, clear ts both.1)

abbrev tests : List ℕ → List (Bool × ElfError)
tests bytes =
    (f.is_truncated bytes, Truncated) ∷ (f.has_bad_magic bytes, BadMagic) ∷ (f.has_bad_class_or_data bytes, BadClassOrData)
    ∷ (f.has_bad_version bytes, BadVersion) ∷ (f.is_not_exec bytes, NotExec) ∷ (f.is_not_riscv bytes, NotRiscv)
    ∷ (f.has_bad_flags bytes, BadFlags) ∷ (f.has_bad_header_size bytes, BadHeaderSize) ∷ (f.has_bad_count bytes, BadCount)
    ∷ (f.has_bad_type bytes, BadType) ∷ (f.has_bad_range bytes, SegmentRange) ∷ (f.is_out_of_order bytes, SegmentOrder)
    ∷ (f.shares_page bytes, PageShared) ∷ (f.is_write_execute bytes, WriteExecute) ∷ (f.has_bad_entry bytes, BadEntry) ∷ []

none_holds : (bytes : List ℕ) → least_fault bytes ≡ None → Clear (tests bytes)
unfolding least_fault
none_holds bytes h = clear (tests bytes) h

chain_of : (bytes : List ℕ) → has_bad_range bytes ≡ false → is_out_of_order bytes ≡ false → shares_page bytes ≡ false → Chain (map (segment_of bytes) (loads bytes))
unfolding has_bad_range is_out_of_order shares_page
chain_of bytes range order page = chain bytes (loads bytes) range order page

faultless : (bytes : List ℕ) (layout : Layout) (o : Option ElfError) → least_fault bytes ≡ o → image_of bytes ≡ Ok layout → (least_fault bytes ≡ None) × (layout ≡ layout_of bytes)
unfolding image_of
faultless bytes layout (Some e) is h = cc
faultless bytes layout None is h = let e = rw is at h in (is, cc)

pub ascending : (bytes : List ℕ) (layout : Layout) → image_of bytes ≡ Ok layout → AllPairs (λ v w. v.address < w.address) (words_of layout)
ascending bytes layout h =
    let fine = faultless bytes layout (least_fault bytes) refl h in
    let all = none_holds bytes fine.0 in
    let range : has_bad_range bytes ≡ false = all.1.1.1.1.1.1.1.1.1.1.0 in
    let order : is_out_of_order bytes ≡ false = all.1.1.1.1.1.1.1.1.1.1.1.0 in
    let page : shares_page bytes ≡ false = all.1.1.1.1.1.1.1.1.1.1.1.1.0 in
    rw fine.1 (chain_ascends (map (segment_of bytes) (loads bytes)) (chain_of bytes range order page))
