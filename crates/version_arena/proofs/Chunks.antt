-- What the chunks of a pool hold, and have room for, as one of them changes or one is added.
use Rattle.std.proofs.Common.{◌≡◌, ℕ, zero, suc, ◌+◌, ◌-◌, ◌<◌, ◌≤◌, List, [], ◌∷◌, ◌++◌, length, take, drop, map, get_or, set, refl, sym, ap, ◌∙◌, arith}
use Rattle.std.proofs.lemmas.List.{append-nil, length-append, length-set}
use Rattle.version_arena.specs.Chunks.{ChunkState, KeepsBytes, capacity_of, chunk_bytes, empty_chunk, spare}

abbrev emptied : ChunkState → ChunkState
emptied c = empty_chunk c.size

-- the first i chunks rewound
abbrev front : ℕ → List ChunkState → List ChunkState
front i cs = map emptied (take i cs) ++ drop i cs

length-front : (i : ℕ) (cs : List ChunkState) → length (front i cs) ≡ length cs
length-front zero cs = refl
length-front (suc i) [] = refl
length-front (suc i) (c ∷ cs) = ap suc (length-front i cs)

get_or-front : (i : ℕ) (cs : List ChunkState) (d : ChunkState) → get_or (front i cs) i d ≡ get_or cs i d
get_or-front zero cs d = refl
get_or-front (suc i) [] d = refl
get_or-front (suc i) (c ∷ cs) d = get_or-front i cs d

set-front : (i : ℕ) (cs : List ChunkState) (d y : ChunkState) → i < length cs → y ≡ emptied (get_or cs i d) → set (front i cs) i y ≡ front (i + 1) cs
set-front i [] d y within e = absurd (omega (arith, within))
set-front zero (c ∷ cs) d y within e = ap (λ z. z ∷ cs) e
set-front (suc i) (c ∷ cs) d y within e =
    let inside : i < length cs = omega (arith, within) in let next : suc (i + 1) ≡ suc i + 1 = omega arith in
    ap (λ zs. emptied c ∷ zs) (set-front i cs d y inside e) ∙ ap (λ k. front k (c ∷ cs)) next

pub capacity-front : (i : ℕ) (cs : List ChunkState) → capacity_of (front i cs) ≡ capacity_of cs
capacity-front zero cs = refl
capacity-front (suc i) [] = refl
capacity-front (suc i) (c ∷ cs) = ap (λ k. (c.size - 255) + k) (capacity-front i cs)

-- one more chunk is rewound
pub rewind_more : (i : ℕ) (cs ds : List ChunkState) (x y : ChunkState) → i < length ds → ds ≡ front i cs → x ≡ get_or ds i x → y ≡ emptied x → set ds i y ≡ front (i + 1) cs
rewind_more i cs ds x y within e at is =
    let inside : i < length cs = omega (arith, within, ap length e, length-front i cs) in
    ap (λ zs. set zs i y) e ∙ set-front i cs x y inside (is ∙ ap emptied (at ∙ ap (λ zs. get_or zs i x) e ∙ get_or-front i cs x))

pub capacity-append : (cs ds : List ChunkState) → capacity_of (cs ++ ds) ≡ capacity_of cs + capacity_of ds
capacity-append [] ds = omega arith
capacity-append (c ∷ cs) ds = omega (arith, capacity-append cs ds)

pub capacity-set : (cs : List ChunkState) (i : ℕ) (x y : ChunkState) → i < length cs → x ≡ get_or cs i x → y.size ≡ x.size → capacity_of (set cs i y) ≡ capacity_of cs
capacity-set [] i x y within at e = refl
capacity-set (c ∷ cs) zero x y within at e = ap (λ k. (k - 255) + capacity_of cs) (e ∙ ap (λ (z : ChunkState). z.size) at)
capacity-set (c ∷ cs) (suc i) x y within at e = let inside : i < length cs = omega (arith, within) in ap (λ k. (c.size - 255) + k) (capacity-set cs i x y inside at e)

-- rewound chunks have room for all that they can hold
pub spare-rewound : (cs : List ChunkState) → spare (map emptied cs) ≡ capacity_of cs
spare-rewound [] = refl
spare-rewound (c ∷ cs) =
    let none : List ℕ = [] in let all : c.size - length none ≡ c.size = omega arith in
    ap (λ k. (k - 255) + spare (map emptied cs)) all ∙ ap (λ k. (c.size - 255) + k) (spare-rewound cs)

spare-append : (cs ds : List ChunkState) → spare (cs ++ ds) ≡ spare cs + spare ds
spare-append [] ds = omega arith
spare-append (c ∷ cs) ds = omega (arith, spare-append cs ds)

-- one more chunk adds as much room as it promises
pub spare-more : (cs : List ChunkState) (i n : ℕ) → i ≤ length cs → spare (drop i (cs ++ empty_chunk n ∷ [])) ≡ spare (drop i cs) + (n - 255)
spare-more cs zero n within =
    let none : List ℕ = [] in let all : n - length none ≡ n = omega arith in
    spare-append cs (empty_chunk n ∷ []) ∙ ap (λ k. spare cs + ((k - 255) + 0)) all ∙ ap (λ k. spare cs + k) {y = n - 255} (omega arith)
spare-more [] (suc i) n within = absurd (omega (arith, within))
spare-more (c ∷ cs) (suc i) n within = let inside : i ≤ length cs = omega (arith, within) in spare-more cs i n inside

-- chunks have no more room than when they are empty
pub spare-within : (cs : List ChunkState) (i : ℕ) → spare (drop i cs) ≤ capacity_of cs
spare-within [] zero = omega arith
spare-within [] (suc i) = omega arith
spare-within (c ∷ cs) zero = omega (arith, spare-within cs zero)
spare-within (c ∷ cs) (suc i) = omega (arith, spare-within cs i)

-- n bytes in a chunk take no more than n bytes of room
pub spare-set : (cs : List ChunkState) (i n : ℕ) (x y : ChunkState) → i < length cs → x ≡ get_or cs i x → y.size ≡ x.size → length y.bytes ≡ length x.bytes + n → spare (drop i cs) ≤ spare (drop i (set cs i y)) + n
spare-set [] i n x y within at size long = absurd (omega (arith, within))
spare-set (c ∷ cs) zero n x y within at size long =
    omega (arith, size, long, ap (λ (z : ChunkState). z.size) at, ap (λ (z : ChunkState). length z.bytes) at)
spare-set (c ∷ cs) (suc i) n x y within at size long = let inside : i < length cs = omega (arith, within) in spare-set cs i n x y inside at size long

begins-set : (cs : List ChunkState) (i : ℕ) (x y : ChunkState) (more : List ℕ) → i < length cs → x ≡ get_or cs i x → y.bytes ≡ x.bytes ++ more → (j : ℕ) → (rest : List ℕ) × (chunk_bytes (set cs i y) j ≡ chunk_bytes cs j ++ rest)
begins-set [] i x y more within at e j = absurd (omega (arith, within))
begins-set (c ∷ cs) zero x y more within at e zero = (more, e ∙ ap (λ (z : ChunkState). z.bytes ++ more) at)
begins-set (c ∷ cs) zero x y more within at e (suc j) = ([], sym (append-nil (chunk_bytes cs j)))
begins-set (c ∷ cs) (suc i) x y more within at e zero = ([], sym (append-nil c.bytes))
begins-set (c ∷ cs) (suc i) x y more within at e (suc j) = let inside : i < length cs = omega (arith, within) in begins-set cs i x y more inside at e j

-- a chunk to which bytes are appended keeps those that it had
pub keeps-set : (cs : List ChunkState) (i : ℕ) (x y : ChunkState) (more : List ℕ) → i < length cs → x ≡ get_or cs i x → y.bytes ≡ x.bytes ++ more → KeepsBytes cs (set cs i y)
keeps-set cs i x y more within at e = (omega (arith, length-set cs i y), begins-set cs i x y more within at e)
