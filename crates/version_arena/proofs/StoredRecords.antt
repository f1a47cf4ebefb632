-- The records of an arena do not change if the chunks keep their bytes.
use Rattle.std.proofs.Common.{◌≡◌, ◌≤◌, List, [], ◌∷◌, ◌++◌, All, Result, Ok, Err, OnErr, length, take, drop, map, refl, ap, ◌∙◌, arith}
use Rattle.std.proofs.lemmas.List.{length-append, take-append-le, drop-append-le, length-drop}
use Rattle.std.proofs.lemmas.List.Elements.{All-nil, All-cons, All-head, All-tail}
use Rattle.rv_ledger.specs.Change.{IfValue, change_map}
use Rattle.rv_ledger.specs.declared.change.Change.{Change}
use Rattle.rv_ledger.specs.declared.change.Change.TheVariants as change
use Rattle.version_arena.specs.Chunks.{ChunkState, KeepsBytes, LiesWithin, chunk_bytes, part}
use Rattle.version_arena.specs.StoredRecords.{IsShortSpan, IsStored, record_of}
use Rattle.version_arena.specs.declared.pool.Span.{Span}
use Rattle.version_arena.specs.declared.stored_record.StoredRecord.{StoredRecord}
use Rattle.version_arena.specs.ArenaState.{ArenaState}

module _ (cs ds : List ChunkState) (keeps : KeepsBytes cs ds) where
  within_same : (s : Span) → LiesWithin cs s → LiesWithin ds s
  within_same s h =
      let kept = keeps.1 s.chunk in
      (omega (arith, h.0, keeps.0), omega (arith, h.1, ap length kept.1, length-append (chunk_bytes cs s.chunk) kept.0))

  part_same : (s : Span) → LiesWithin cs s → part ds s ≡ part cs s
  part_same s h =
      let old = chunk_bytes cs s.chunk in let kept = keeps.1 s.chunk in
      let begins : s.start ≤ length old = omega (arith, h.1) in let ends : s.len ≤ length (drop s.start old) = omega (arith, h.1, length-drop s.start old) in
      ap (λ xs. take s.len (drop s.start xs)) kept.1 ∙ ap (take s.len) (drop-append-le s.start old kept.0 begins) ∙ take-append-le s.len (drop s.start old) kept.0 ends

  change_same : (c : Change Span) → IfValue c (IsShortSpan cs) → change_map (part ds) c ≡ change_map (part cs) c
  change_same (change.Value s) h = ap change.Value (part_same s h.0)
  change_same change.Gone h = refl
  change_same (change.Sum amount) h = refl

  short_same : (c : Change Span) → IfValue c (IsShortSpan cs) → IfValue c (IsShortSpan ds)
  short_same (change.Value s) h = (within_same s h.0, h.1)
  short_same change.Gone h = tt
  short_same (change.Sum amount) h = tt

  record_same : (s : StoredRecord) → IsStored cs s → record_of ds s ≡ record_of cs s
  record_same s h = ap (λ c. record { writer = s.writer; incarnation = s.incarnation; change = c }) (change_same s.change h)

  pub records_same : (ss : List StoredRecord) → All (IsStored cs) ss → map (record_of ds) ss ≡ map (record_of cs) ss
  records_same [] h = refl
  records_same (s ∷ ss) h =
      ap (λ r. r ∷ map (record_of ds) ss) (record_same s (All-head (IsStored cs) s ss h)) ∙ ap (λ rs. record_of cs s ∷ rs) (records_same ss (All-tail (IsStored cs) s ss h))

  pub all_stored : (ss : List StoredRecord) → All (IsStored cs) ss → All (IsStored ds) ss
  all_stored [] h = All-nil (IsStored ds)
  all_stored (s ∷ ss) h = All-cons (IsStored ds) s ss (short_same s.change (All-head (IsStored cs) s ss h)) (all_stored ss (All-tail (IsStored cs) s ss h))

pub map_push : {X Y : Type 0} (f : X → Y) (xs : List X) (x : X) → map f (xs ++ x ∷ []) ≡ map f xs ++ f x ∷ []
map_push f [] x = refl
map_push f (y ∷ ys) x = ap (λ zs. f y ∷ zs) (map_push f ys x)

pub state_is : (a b : ArenaState) → a.records ≡ b.records → a.room ≡ b.room → a.bytes ≡ b.bytes → a ≡ b
state_is a b records room bytes = λ i. record { records = records i; room = room i; bytes = bytes i }

pub on_err : {X E : Type 0} (r : Result X E) (P : Type 0) → P → OnErr r P
on_err (Ok x) P p = tt
on_err (Err e) P p = p
