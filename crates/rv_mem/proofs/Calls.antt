-- The pages of a call under its steps.
use Rattle.std.proofs.Common.{◌≡◌, ℕ, ◌+◌, ◌-◌, ◌*◌, ◌/◌, ◌%◌, ◌<◌, ◌≤◌, List, [], ◌∷◌, ◌++◌, length, get_or, set, replicate, All, refl, sym, ap, ◌∙◌, arith, inl, inr, length-append, append_assoc}
use native.Mathlib.Decide.{dec_lt}
use Rattle.std.proofs.lemmas.List.{append-nil, get_or_append_left, get_or-append_right, get_or_default, get_or_past, get_or_read, get_or-set_other, length-replicate, length_push, length-set, set-append_right}
use Rattle.std.proofs.lemmas.Bool.{cases_eq}
use Rattle.std.proofs.lemmas.List.Elements.{All-append, All-push, All-replicate, All-set}
use Rattle.elf32.specs.declared.segment.Segment.{Segment}
use Rattle.elf32.specs.Pages.{overwritten_at, page_at, segment_bytes, zeros, ArePages, HoldSegments}
use Rattle.rv_mem.specs.declared.pages.Pages.TheInside.{Inside}
use Rattle.rv_mem.specs.Paged.{IsPaged, IsWritable, all_pages, base_of, base_pages, memory_bytes, space_of}
use Rattle.rv_mem.specs.Space.{written}
use Rattle.rv_mem.proofs.Flat.{length_pages}
use Rattle.rv_mem.proofs.Placed.{placed_none, placed_more}
use Rattle.rv_mem.proofs.Pools.{copied_bytes, put_bytes, same_flat, sized}

-- the pages of the program fill 512 places
padded_length : (pages : List (List ℕ)) → length pages ≤ 512 → length (pages ++ replicate (512 - length pages) (zeros 4096)) ≡ 512
padded_length pages few =
    omega (arith, length-append pages (replicate (512 - length pages) (zeros 4096)), length-replicate (512 - length pages) (zeros 4096))

length_zeros : (n : ℕ) → length (zeros n) ≡ n
unfolding zeros
length_zeros n = length-replicate n 0

padded_sized : (pages : List (List ℕ)) (n : ℕ) → ArePages (λ q. q) pages → ArePages (λ q. q) (pages ++ replicate n (zeros 4096))
padded_sized pages n h =
    All-append (λ (q : List ℕ). length q ≡ 4096) pages (replicate n (zeros 4096)) h (All-replicate (λ (q : List ℕ). length q ≡ 4096) n (zeros 4096) (length_zeros 4096))

-- if each page is the program's, none is the call's own
none_own : (count : ℕ) (index : List ℕ) (k : ℕ) → All (λ i. i < count) index → count ≤ 512 → 512 ≤ get_or index k 0 → ⊥
none_own count index k low few own = elim (dec_lt k (length index)) [
  | yes inside ↦ let below = low k 0 inside in omega arith
  | no past ↦ let none = get_or_past index k 0 (omega arith) in omega arith
]

-- the pages of a call that has written none: each is the program's
pub paged_none : (p : Inside) (segments : List Segment) → HoldSegments (base_of p) segments → p.own.items ≡ [] → p.index.items ≡ (base_of p).index → IsPaged p
paged_none p segments h none same =
    let count = h.count in
    record {
      sizes = rw (none, append-nil (base_pages p)) (padded_sized (base_of p).pages.items _ h.sizes);
      placed = rw (none, same) (placed_none (length (base_of p).pages.items) 512 (base_of p).index h.count (omega arith) h.index_len h.places);
      rights = h.rights_len;
      writable = λ k own. absurd (none_own (length (base_of p).pages.items) p.index.items k (rw same h.places) (omega (arith, h.count)) own);
    }

-- the bytes in them are those of the segments
pub bytes_none : (p : Inside) (segments : List Segment) → HoldSegments (base_of p) segments → p.own.items ≡ [] → p.index.items ≡ (base_of p).index → memory_bytes p ≡ segment_bytes segments
bytes_none p segments h none same =
    rw (none, same, append-nil (base_pages p))
    (same_flat (page_at (base_pages p)) (page_at (base_of p).pages.items) (base_of p).index (base_of p).index refl (λ i d e b.
    get_or_append_left (base_of p).pages.items (replicate (512 - length (base_of p).pages.items) (zeros 4096)) [] (get_or (base_of p).index i d) (h.places i d b)
    ∙ ap (page_at (base_of p).pages.items) (get_or_default (base_of p).index i d e b))
    ∙ h.bytes)

module _ (p : Inside) (h : IsPaged p) where
  pub base_length : length (base_pages p) ≡ 512
  base_length = let few = h.placed.few in padded_length (base_of p).pages.items (omega arith)

  pub all_places : All (λ k. k < length (all_pages p)) p.index.items
  all_places = λ k d b. omega (arith, base_length, h.placed.places k d b, length-append (base_pages p) p.own.items)

  pub all_sized : ArePages (page_at (all_pages p)) p.index.items
  all_sized = sized (all_pages p) p.index.items h.sizes all_places

  pub memory_length : length (memory_bytes p) ≡ 1048576
  memory_length =
      let len = h.placed.len in
      length_pages (page_at (all_pages p)) p.index.items all_sized ∙ ap (λ (n : ℕ). 4096 * n) len

  pub page_is : (place : ℕ) (x : List ℕ) → (place < 512 → place < length (base_of p).pages.items) → (place < 512 → x ≡ page_at (base_of p).pages.items place) → (512 ≤ place → x ≡ page_at p.own.items (place - 512)) → x ≡ page_at (all_pages p) place
  page_is place x inside shared own = elim (dec_lt place 512) [
    | yes low ↦
        let size = base_length in
        shared low
        ∙ sym (get_or_append_left (base_pages p) p.own.items [] place (omega arith)
        ∙ get_or_append_left (base_of p).pages.items (replicate (512 - length (base_of p).pages.items) (zeros 4096)) [] place (inside low))
    | no high ↦
        let from : 512 ≤ place = omega arith in
        own from ∙ sym (get_or-append_right (base_pages p) p.own.items 512 place [] base_length from)
  ]

  pub own_is : (place : ℕ) (x : List ℕ) → place < length p.own.items → x ≡ get_or p.own.items place x → x ≡ page_at (all_pages p) (512 + place)
  own_is place x inside read =
      let e : 512 + place - 512 ≡ place = omega arith in
      get_or_read p.own.items place x inside read []
      ∙ sym (get_or-append_right (base_pages p) p.own.items 512 (512 + place) [] base_length (omega arith)
      ∙ ap (λ (k : ℕ). get_or p.own.items k []) e)

  pub own_sized : (place : ℕ) (x : List ℕ) → place < length p.own.items → x ≡ get_or p.own.items place x → length x ≡ 4096
  own_sized place x inside read =
      ap length (own_is place x inside read)
      ∙ h.sizes (512 + place) [] (omega (arith, base_length, length-append (base_pages p) p.own.items))

-- a page that is copied to the call's own
module _ (p q : Inside) (page : ℕ) (x : List ℕ) (h : IsPaged p) (below : page < 256) (shared : get_or p.index.items page 0 < 512) (base : base_of q ≡ base_of p) (items : q.own.items ≡ p.own.items ++ x ∷ []) (index : q.index.items ≡ set p.index.items page (512 + length p.own.items)) (read : x ≡ get_or (base_of p).pages.items (get_or p.index.items page 0) x) (open_ : IsWritable (base_of p).rights page) where
  is_page : x ≡ page_at (all_pages p) (get_or p.index.items page 0)
  is_page =
      let len = h.placed.len in
      let place = get_or p.index.items page 0 in
      let inside = h.placed.inside page 0 (omega arith) in
      page_is p h place x inside (λ low. get_or_read (base_of p).pages.items place x (inside low) read []) (λ high. absurd (omega arith))

  size : length x ≡ 4096
  size =
      let len = h.placed.len in
      ap length is_page ∙ all_sized p h page 0 (omega arith)

  all_more : all_pages q ≡ all_pages p ++ x ∷ []
  all_more = rw (base, items) (sym (append_assoc (base_pages p) p.own.items (x ∷ [])))

  pub paged_more : IsPaged q
  paged_more =
      let count : length q.own.items ≡ length p.own.items + 1 = ap length items ∙ length_push p.own.items x in
      record {
        sizes = rw all_more (All-push (λ q. length q ≡ 4096) (all_pages p) x h.sizes size);
        placed = rw (base, count, index) (placed_more (length (base_of p).pages.items) 512 (length p.own.items) page p.index.items h.placed below shared);
        rights = rw base h.rights;
        writable = λ k own. elim (cases_eq k page) [
          | inl here ↦ rw (base, here) open_
          | inr other ↦ rw base (h.writable k (let was = get_or-set_other p.index.items page k (512 + length p.own.items) 0 other in let now = rw index at own in omega arith))
        ];
      }

  pub space_more : space_of q ≡ space_of p
  space_more =
      let len = h.placed.len in
      let end : 512 + length p.own.items ≡ length (all_pages p) = omega (arith, base_length p h, length-append (base_pages p) p.own.items) in
      rw (all_more, index, end, is_page, base)
      (ap (λ bytes. record (space_of p) { bytes = bytes }) (copied_bytes (all_pages p) p.index.items page (all_places p h) (omega arith)))

-- a write to a page of the call's own
module _ (p q : Inside) (place : ℕ) (x : List ℕ) (h : IsPaged p) (inside : place < length p.own.items) (base : base_of q ≡ base_of p) (items : q.own.items ≡ set p.own.items place x) (index : q.index.items ≡ p.index.items) where
  all_put : all_pages q ≡ set (all_pages p) (512 + place) x
  all_put =
      let e : 512 + place - 512 ≡ place = omega arith in
      rw (base, items)
      (sym (set-append_right (base_pages p) p.own.items 512 (512 + place) x (base_length p h) (omega arith)
      ∙ ap (λ (k : ℕ). (base_pages p) ++ set p.own.items k x) e))

  pub paged_put : length x ≡ 4096 → IsPaged q
  paged_put size =
      let count : length q.own.items ≡ length p.own.items = ap length items ∙ length-set p.own.items place x in
      record {
        sizes = rw all_put (All-set (λ q. length q ≡ 4096) (all_pages p) (512 + place) x size h.sizes);
        placed = rw (base, count, index) h.placed;
        rights = rw base h.rights;
        writable = λ k own. rw base (h.writable k (rw index at own));
      }

  pub space_put : (old new : List ℕ) (at : ℕ) → at < 1048576 → get_or p.index.items (at / 4096) 0 ≡ 512 + place → at % 4096 + length new ≤ 4096 → old ≡ get_or p.own.items place old → x ≡ overwritten_at old (at % 4096) new → space_of q ≡ written (space_of p) new at
  space_put old new at first here room read is =
      let len = h.placed.len in
      let was = own_is p h place old inside read in
      rw (all_put, index, base)
      (ap (λ bytes. record (space_of p) { bytes = bytes }) (put_bytes (all_pages p) p.index.items new x at (512 + place) h.sizes len (all_places p h) first here (λ j b same.
      sym (h.placed.alone (at / 4096) j (omega arith) b (omega arith) (here ∙ sym same))) room (is ∙ ap (λ (l : List ℕ). overwritten_at l (at % 4096) new) was)))
