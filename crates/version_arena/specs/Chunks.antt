-- The chunks of a pool: which of their bytes are in use, and for how many bytes of values they have room.
use Rattle.std.specs.Prelude.{◌≡◌, ℕ, ◌+◌, ◌-◌, ◌<◌, ◌≤◌, max, nat_lt, if◌then◌else◌, List, [], ◌∷◌, ◌++◌, length, take, drop, get_or, map}
use Rattle.version_arena.specs.declared.pool.Span.{Span}

-- a chunk: its bytes in use, and its size in bytes
pub record ChunkState : Type 0 where
  pub bytes : List ℕ
  pub size : ℕ

-- a chunk of n bytes, none of them in use
abbrev pub empty_chunk : ℕ → ChunkState
empty_chunk n = record { bytes = []; size = n }

-- the number of bytes of a chunk that are not in use
abbrev pub free : ChunkState → ℕ
free c = c.size - length c.bytes

-- the number of bytes that chunks promise to values of at most 256: `capacity_of` when they are empty, `spare` as they are now.
-- The last 255 bytes of a chunk are left out, since they might be too few for one value
abbrev pub capacity_of : List ChunkState → ℕ
capacity_of [] = 0
capacity_of (c ∷ cs) = (c.size - 255) + capacity_of cs

abbrev pub spare : List ChunkState → ℕ
spare [] = 0
spare (c ∷ cs) = (free c - 255) + spare cs

-- the chunks, which of them is being filled, and for how many bytes of values there is room
pub record PoolState : Type 0 where
  pub chunks : List ChunkState
  pub current : ℕ
  pub room : ℕ

-- the bytes in use of the i-th chunk
abbrev pub chunk_bytes : List ChunkState → ℕ → List ℕ
chunk_bytes cs i = (get_or cs i (empty_chunk 0)).bytes

-- the bytes of a span; if it lies within the chunks, each of them is in use
abbrev pub part : List ChunkState → Span → List ℕ
part cs s = take s.len (drop s.start (chunk_bytes cs s.chunk))

abbrev pub LiesWithin : List ChunkState → Span → Type 0
LiesWithin cs s = (s.chunk < length cs) × (s.start + s.len ≤ length (chunk_bytes cs s.chunk))

-- each chunk is still there, and begins with the bytes that it had
abbrev pub KeepsBytes : List ChunkState → List ChunkState → Type 0
KeepsBytes cs ds = (length cs ≤ length ds) × ((i : ℕ) → (more : List ℕ) × (chunk_bytes ds i ≡ chunk_bytes cs i ++ more))

-- the size of the chunk that a pool with this room needs to have room for more than n bytes, at least 65,536
abbrev pub size_for : ℕ → ℕ → ℕ
size_for n room = max (n - room + 256) 65536

-- a pool with room for more than n bytes: the same pool, or one with a further chunk
abbrev pub with_room : ℕ → PoolState → PoolState
with_room n p =
    if nat_lt n p.room then p
    else record { chunks = p.chunks ++ empty_chunk (size_for n p.room) ∷ []; current = p.current; room = p.room + (size_for n p.room - 255) }

-- a pool with the same chunks, all of them empty; the first is filled next
abbrev pub rewound : PoolState → PoolState
rewound p = record { chunks = map (λ c. empty_chunk c.size) p.chunks; current = 0; room = capacity_of p.chunks }
