-- A result's `store` lines between the programs and the calls of a block file.
use Rattle.std.proofs.Common.{◌≡◌, ◌<◌, ◌==◌, ◌+◌, ℕ, Bool, true, false, List, [], ◌∷◌, ◌++◌, length, map, All, Option, Some, None, Result, Ok, Err, ◌⊎◌, inl, inr, append_assoc, refl, sym, ap, subst, ◌∙◌, arith, if◌then◌else◌}
use Rattle.std.specs.Prelude.{codes}
use Rattle.std.specs.Option.{ok_or}
use Rattle.std.specs.Result.{result_map_both}
use Rattle.std.specs.Str.{bytes_eq}
use Rattle.std.specs.FinMap.{entries, entries_sorted, empty}
use Rattle.std.proofs.lemmas.Bool.Decides.{nat_tests}
use Rattle.rv_ledger.specs.Key.{Storage}
use Rattle.rv_ledger.specs.declared.rules.Rules.{Rules}
use Rattle.rv_ledger.specs.declared.rules.Rules.TheVariants.{One}
use Rattle.block_file.specs.declared.fault.Cause.TheVariants.{BadHeader, BadLine}
use Rattle.block_file.specs.declared.fault.BlockFault.{BlockFault}
use Rattle.block_file.specs.Line.{cut, on_line, read_parts}
use Rattle.block_file.specs.Block.{Parsed, BlockValue, CallValue, nothing_parsed, with_line, rules_of, lines_from, parts_after, first_format, second_format, block_of_parts, parsed_block}
use Rattle.session_laws.specs.Chained.{IsEntry, IsReadInBlocks, store_lines}
use Rattle.session_laws.proofs.Sorted.{none, stored_again}
use Rattle.session_laws.proofs.Lines.{content}
use Rattle.session_laws.proofs.LineKinds.{state}
use Rattle.session_laws.proofs.Cuts.{join, cut_join, cut_some, join_some, reads_on, reads_split}
use Rattle.session_laws.proofs.Behind.{Filled, parts_later, calls_again}
use Rattle.session_laws.proofs.Chains.{lines_of, lines_read, starts, last_of}

abbrev block : Rules → List (List ℕ) → Storage → List CallValue → BlockValue
block rules programs store calls = record { rules = rules; programs = programs; store = store; calls = calls }

abbrev with_last : BlockValue → Option (List ℕ) → Parsed
with_last b last = record { block = b; last = last }

-- ---- the last line before the body, and the body

abbrev whole : ℕ → Bool → Result Parsed BlockFault → Result BlockValue BlockFault
whole n alone body =
    if alone then Err (record { line = n; cause = BadLine }) else
    result_map_both (λ s. s.block) (λ fault. fault) body

record Opened (alone : Bool) (body : Result Parsed BlockFault) (value : BlockValue) : Type 0 where
  goes_on : alone ≡ false
  last : Parsed
  read : body ≡ Ok last
  says : last.block ≡ value

opened : (n : ℕ) (alone : Bool) (body : Result Parsed BlockFault) (value : BlockValue) → whole n alone body ≡ Ok value → Opened alone body value
opened n true body value h = cc
opened n false (Ok s) value h = record { goes_on = refl; last = s; read = refl; says = cc }
opened n false (Err fault) value h = cc

closed : (n : ℕ) (alone : Bool) (body : Result Parsed BlockFault) (value : BlockValue) (s : Parsed) → alone ≡ false → body ≡ Ok s → s.block ≡ value → whole n alone body ≡ Ok value
closed n alone body value s b c d = ap (λ x. whole n x body) b ∙ ap (λ x. whole n false x) c ∙ ap (λ x. Ok x) d

no_part : (n : ℕ) → 0 < n → (n == 0) ≡ false
no_part n h = grind (arith, nat_tests)

-- ---- the lines

module _ (rules : Rules) (store : Storage) (h : All (IsEntry rules) (entries store)) (programs : List (List ℕ)) (calls : List CallValue) where
  abbrev lines : List (List ℕ)
  lines = map content (entries store) ++ [] ∷ []

  abbrev after : Option (List ℕ)
  after = last_of None (entries store)

  stored_lines : (n : ℕ) → read_parts with_line BadLine n (state rules programs empty [] None) lines ≡ Ok (state rules programs store [] after)
  stored_lines n =
      lines_read rules programs n empty None (entries store) h (entries_sorted store) (starts (entries store))
      ∙ ap (λ m. Ok (state rules programs m [] after)) (stored_again store)

  -- if no storage was read, no `store` line was
  fresh : (n : ℕ) (named : Rules) (f : Parsed) (rest : List (List ℕ)) → lines_from n named rest ≡ Ok f → f.block ≡ block rules programs empty [] → f ≡ state rules programs empty [] None
  fresh n named f rest e is = by ((parts_later n (nothing_parsed named) f rest e).fresh (inl refl))
    where
      by : (f.last ≡ None) ⊎ Filled f.block.store → f ≡ state rules programs empty [] None
      by (inl last) = ap (λ (b : BlockValue). with_last b f.last) is ∙ ap (λ l. state rules programs empty [] l) last
      by (inr filled) = absurd (filled (ap (λ b. entries b.store) is ∙ none))

  body_between : (n : ℕ) (named : Rules) (rest back : List (List ℕ)) (f g : Parsed) → 0 < length back → lines_from n named rest ≡ Ok f → f.block ≡ block rules programs empty [] → lines_from n named (join rest back) ≡ Ok g → g.block ≡ block rules programs empty calls
      → lines_from n named (join rest (join lines back)) ≡ Ok (state rules programs store calls after)
  body_between n named rest back f g some e is e2 is2 =
      let same = fresh n named f rest e is in
      let split = reads_split with_line BadLine n (nothing_parsed named) f g rest back some e e2 in
      let from : read_parts with_line BadLine split.0 (state rules programs empty [] None) back ≡ Ok g = subst (λ x. read_parts with_line BadLine split.0 x back ≡ Ok g) same split.1 in
      let empty_still : entries g.block.store ≡ [] = ap (λ b. entries b.store) is2 ∙ none in
      let few : length g.block.programs ≡ length programs = ap (λ b. length b.programs) is2 in
      let called = λ (j : ℕ). calls_again rules programs store after g empty_still (omega (arith, few)) split.0 j [] back from ∙ ap (λ b. Ok (state rules programs store b.calls after)) is2 in
      reads_on with_line BadLine n (nothing_parsed named) f (state rules programs store calls after) rest (join lines back) (join_some lines back some) e
      (λ k. subst (λ x. read_parts with_line BadLine k x (join lines back) ≡ Ok (state rules programs store calls after)) (sym same)
      (reads_on with_line BadLine k (state rules programs empty [] None) (state rules programs store [] after) (state rules programs store calls after) lines back some (stored_lines k) called))

  -- what three texts say: the front alone, the front and the back, and both with the lines between them
  abbrev Between : Result BlockValue BlockFault → Result BlockValue BlockFault → Result BlockValue BlockFault → Type 0
  Between front both all = front ≡ Ok (block rules programs empty []) → both ≡ Ok (block rules programs empty calls) → all ≡ Ok (block rules programs store calls)

  behind_between : (n : ℕ) (named : Rules) (parts back : List (List ℕ)) → 0 < length back → Between (parts_after n named parts) (parts_after n named (join parts back)) (parts_after n named (join parts (join lines back)))
  behind_between n named parts back some e e2 =
      let first = opened n (length parts == 0) (lines_from (n + 1) named parts) (block rules programs empty []) e in
      let second = opened n (length (join parts back) == 0) (lines_from (n + 1) named (join parts back)) (block rules programs empty calls) e2 in
      closed n (length (join parts (join lines back)) == 0) (lines_from (n + 1) named (join parts (join lines back))) (block rules programs store calls) (state rules programs store calls after)
      (no_part (length (join parts (join lines back))) (join_some parts (join lines back) (join_some lines back some)))
      (body_between (n + 1) named parts back first.last second.last some first.read first.says second.read second.says) refl

  second_between : (parts back : List (List ℕ)) → 0 < length back → Between (second_format parts) (second_format (join parts back)) (second_format (join parts (join lines back)))
  second_between [] back some e e2 = cc
  second_between (line ∷ []) back some e e2 = absurd (alone (rules_of line) e)
    where
      alone : (o : Option Rules) → on_line 2 (ok_or o BadLine) (λ named. parts_after 2 named []) ≡ Ok (block rules programs empty []) → ⊥
      alone (Some named) h = cc
      alone None h = cc
  second_between (line ∷ r ∷ rs) back some e e2 = by (rules_of line) e e2
    where
      by : (o : Option Rules) → Between (on_line 2 (ok_or o BadLine) (λ named. parts_after 2 named (r ∷ rs))) (on_line 2 (ok_or o BadLine) (λ named. parts_after 2 named (join (r ∷ rs) back))) (on_line 2 (ok_or o BadLine) (λ named. parts_after 2 named (join (r ∷ rs) (join lines back))))
      by (Some named) e e2 = behind_between 2 named (r ∷ rs) back some e e2
      by None e e2 = cc

  -- ---- the header

  abbrev by_header : Bool → Bool → Result BlockValue BlockFault → Result BlockValue BlockFault → Result BlockValue BlockFault
  by_header one two first second = if one then first else if two then second else Err (record { line = 1; cause = BadHeader })

  header_between : (one two : Bool) (a b c d e f : Result BlockValue BlockFault) → Between a b c → Between d e f → Between (by_header one two a d) (by_header one two b e) (by_header one two c f)
  header_between true two a b c d e f first second = first
  header_between false true a b c d e f first second = second
  header_between false false a b c d e f first second = λ h i. cc

  parts_between : (parts back : List (List ℕ)) → 0 < length back → Between (block_of_parts parts) (block_of_parts (join parts back)) (block_of_parts (join parts (join lines back)))
  parts_between [] back some e e2 = cc
  parts_between (header ∷ []) back some e e2 = absurd (alone (bytes_eq header (codes "rvblock 1")) (bytes_eq header (codes "rvblock 2")) e)
    where
      alone : (one two : Bool) → by_header one two (first_format []) (second_format []) ≡ Ok (block rules programs empty []) → ⊥
      alone true two h = cc
      alone false true h = cc
      alone false false h = cc
  parts_between (header ∷ r ∷ rs) back some e e2 =
      let parts = r ∷ rs in
      header_between (bytes_eq header (codes "rvblock 1")) (bytes_eq header (codes "rvblock 2"))
      (first_format parts) (first_format (join parts back)) (first_format (join parts (join lines back)))
      (second_format parts) (second_format (join parts back)) (second_format (join parts (join lines back)))
      (behind_between 1 One parts back some) (second_between parts back some) e e2

pub read_in_blocks : (rules : Rules) (store : Storage) → All (IsEntry rules) (entries store) → IsReadInBlocks rules store
read_in_blocks rules store h = λ front back programs calls e e2.
    let all : cut 10 (front ++ (store_lines store ++ back)) ≡ join (cut 10 front) (join (lines rules store h programs calls) (cut 10 back)) =
    cut_join 10 front (store_lines store ++ back) ∙ ap (join (cut 10 front)) (cut_join 10 (store_lines store) back ∙ ap (λ x. join x (cut 10 back)) (lines_of (entries store) h)) in
    let both : block_of_parts (join (cut 10 front) (cut 10 back)) ≡ Ok (block rules programs empty calls) = ap block_of_parts (sym (cut_join 10 front back)) ∙ e2 in
    ap parsed_block (append_assoc front (store_lines store) back) ∙ ap block_of_parts all ∙ parts_between rules store h programs calls (cut 10 front) (cut 10 back) (cut_some 10 back) e both
