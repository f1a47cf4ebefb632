-- A block file's storage, and the calls of a block over a storage, by the lengths that the rules allow.
use Rattle.std.proofs.Common.{◌≡◌, ◌≤◌, ◌+◌, ◌==◌, ℕ, not, ◌&&◌, nat_lt, List, [], ◌∷◌, length, map, Option, Some, None, Result, Ok, Err, refl}
use Rattle.std.specs.Prelude.{IfOk, fold, codes, is_none}
use Rattle.std.specs.List.{list_all}
use Rattle.std.specs.Option.{ok_or}
use Rattle.std.specs.Result.{result_map_both}
use Rattle.std.specs.Str.{bytes_eq}
use Rattle.std.specs.FinMap.{empty, entries, get, insert}
use Rattle.std.proofs.lemmas.Bool.{cond_both}
use Rattle.std.proofs.lemmas.List.Elements.{All-head, All-tail}
use Rattle.elf32.specs.Layout.{Layout}
use Rattle.rv_ledger.specs.Call.{Invocation}
use Rattle.rv_ledger.specs.Change.{ContentChange, add}
use Rattle.rv_ledger.specs.declared.change.Change.TheVariants as change
use Rattle.rv_ledger.specs.Key.{Storage}
use Rattle.rv_ledger.specs.Rules.{longest_value}
use Rattle.rv_ledger.specs.declared.rules.Rules.{Rules}
use Rattle.rv_ledger.specs.declared.rules.Rules.TheVariants.{One}
use Rattle.rv_step.specs.Chain.{ends}
use Rattle.rv_ledger.specs.Applied.{apply_each, apply_write, apply_writes}
use Rattle.rv_step.specs.Fold.{store_after, store_after_call}
use Rattle.programs.specs.Programs.{call_over}
use Rattle.block_file.specs.declared.fault.Cause.{Cause}
use Rattle.block_file.specs.declared.fault.Cause.TheVariants.{BadLine}
use Rattle.block_file.specs.declared.fault.BlockFault.{BlockFault}
use Rattle.block_file.specs.Line.{◌>>=◌, cut, field_bytes, field_key, on_line, read_parts}
use Rattle.block_file.specs.Block.{BlockValue, CallValue, Parsed, block_of_parts, is_above, line_call, lines_from, nothing_parsed, parsed_block, parts_after, program_path, rules_of, second_format, stored_of, with_call_line, with_kind, with_line, with_program_line, with_stored}
use Rattle.session_turns.specs.Turn.{put_over}
use Rattle.session_laws.proofs.Values.{EachEntry, EachValue, entries_from, insert_keeps, none_kept, remove_keeps}
use Rattle.session_laws.proofs.ShortCalls.{IsShortChange, ends_short, sum_short, within}

-- a value is no longer than some rules allow, and neither is any value of a storage
abbrev pub Fits : Rules → List ℕ → Type 0
Fits rules value = length value ≤ longest_value rules

abbrev pub IsShort : Rules → Storage → Type 0
IsShort rules store = EachValue (Fits rules) store

pub no_values : (rules : Rules) → IsShort rules empty
no_values rules = none_kept (Fits rules)

-- ---- calls

module _ (rules : Rules) where
  written_short : (store : Storage) (key : List ℕ) (c : ContentChange) → IsShortChange (longest_value rules) c → IsShort rules store → IsShort rules (apply_write store key c)
  written_short store key (change.Value value) new h = insert_keeps (Fits rules) store key value new h
  written_short store key change.Gone new h = remove_keeps (Fits rules) store key h
  written_short store key (change.Sum amount) new h = insert_keeps (Fits rules) store key (add (get store key) amount) (sum_short rules (get store key) amount) h

  each_written : (store : Storage) (writes : List (List ℕ × ContentChange)) → EachEntry (IsShortChange (longest_value rules)) writes → IsShort rules store → IsShort rules (apply_each store writes)
  each_written store [] new h = h
  each_written store (write ∷ writes) new h =
      each_written (apply_write store write.0 write.1) writes (All-tail (λ entry. IsShortChange (longest_value rules) entry.1) write writes new)
      (written_short store write.0 write.1 (All-head (λ entry. IsShortChange (longest_value rules) entry.1) write writes new) h)

  pub call_short : (invocation : Invocation) (store : Storage) → invocation.rules ≡ rules → IsShort rules store → IsShort rules (store_after_call invocation store)
  unfolding apply_writes
  call_short invocation store same h =
      let own = (ends invocation store).writes in
      each_written store (entries own) (entries_from (IsShortChange (longest_value rules)) own (ends_short rules invocation store same)) h

  pub calls_short : (images : List Layout) (lines : List CallValue) (store : Storage) → IsShort rules store → IsShort rules (store_after (map (call_over rules images) lines) store)
  unfolding store_after
  calls_short images [] store h = h
  calls_short images (line ∷ lines) store h =
      let one = call_over rules images line in calls_short images lines (store_after_call one store) (call_short one store refl h)

  -- ---- entries put over a storage

  each_put : (store : Storage) (es : List (List ℕ × List ℕ)) → EachEntry (Fits rules) es → IsShort rules store → IsShort rules (fold (λ s e. insert s e.0 e.1) store es)
  each_put store [] new h = h
  each_put store (e ∷ es) new h =
      each_put (insert store e.0 e.1) es (All-tail (λ entry. Fits rules entry.1) e es new) (insert_keeps (Fits rules) store e.0 e.1 (All-head (λ entry. Fits rules entry.1) e es new) h)

  pub put_short : (store own : Storage) → IsShort rules own → IsShort rules store → IsShort rules (put_over store own)
  put_short store own new h = each_put store (entries own) (entries_from (Fits rules) own new) h

-- ---- block files

-- the lines so far name no value that is too long
abbrev HasShortStore : Parsed → Type 0
HasShortStore s = IsShort s.block.rules s.block.store

-- the second step of two keeps it
next_if : {A B : Type 0} (P : A → Type 0) (Q : B → Type 0) (r : Result A Cause) (f : A → Result B Cause) → IfOk r P → ((a : A) → P a → IfOk (f a) Q) → IfOk (r >>= f) Q
next_if P Q (Ok a) f h k = k a h
next_if P Q (Err cause) f h k = tt

any : {A : Type 0} (r : Result A Cause) → IfOk r (λ _. Unit {0})
any (Ok a) = tt
any (Err cause) = tt

abbrev HasShortValue : Rules → List ℕ × List ℕ → Type 0
HasShortValue rules entry = Fits rules entry.1

entry_short : (rules : Rules) (last : Option (List ℕ)) (key value : List ℕ) → IfOk (stored_of rules last key value) (HasShortValue rules)
entry_short rules last key value =
    next_if (λ _. Unit {0}) (HasShortValue rules) (field_key key) _ (any (field_key key)) (λ k _.
    next_if (λ _. Unit {0}) (HasShortValue rules) (field_bytes value) _ (any (field_bytes value)) (λ v _.
    cond_both (not (is_above last k)) _ _ (λ r. IfOk r (HasShortValue rules)) (λ _. tt) (λ _.
    cond_both (nat_lt (longest_value rules) (length v)) _ _ (λ r. IfOk r (HasShortValue rules)) (λ _. tt) (λ short. within (longest_value rules) (length v) short))))

module _ (s : Parsed) (h : HasShortStore s) where
  program_short : (number path : List ℕ) → IfOk (with_program_line s number path) HasShortStore
  program_short number path = next_if (λ _. Unit {0}) HasShortStore (program_path (length s.block.programs) number path) _ (any (program_path (length s.block.programs) number path)) (λ p _. h)

  stored_short : (key value : List ℕ) → IfOk (with_stored s key value) HasShortStore
  stored_short key value =
      next_if (HasShortValue s.block.rules) HasShortStore (stored_of s.block.rules s.last key value) _ (entry_short s.block.rules s.last key value)
      (λ entry new. insert_keeps (Fits s.block.rules) s.block.store entry.0 entry.1 new h)

  line_short : (program gas input : List ℕ) → IfOk (with_call_line s program gas input) HasShortStore
  line_short program gas input =
      let line = line_call (length s.block.programs) (length s.block.calls) program gas input in
      next_if (λ _. Unit {0}) HasShortStore line _ (any line) (λ c _. h)

  kind_short : (fields : List (List ℕ)) → IfOk (with_kind s fields) HasShortStore
  kind_short (kind ∷ a ∷ b ∷ []) =
      cond_both (bytes_eq kind (codes "program") && is_none s.last && length s.block.calls == 0) _ _ (λ r. IfOk r HasShortStore) (λ _. program_short a b) (λ _.
      cond_both (bytes_eq kind (codes "store") && length s.block.calls == 0) _ _ (λ r. IfOk r HasShortStore) (λ _. stored_short a b) (λ _. tt))
  kind_short (kind ∷ a ∷ b ∷ c ∷ []) = cond_both (bytes_eq kind (codes "call")) _ _ (λ r. IfOk r HasShortStore) (λ _. line_short a b c) (λ _. tt)
  kind_short fields = tt

  fields_short : (line : List ℕ) → IfOk (with_line s line) HasShortStore
  fields_short line =
      cond_both (list_all (λ field. not (length field == 0)) (cut 32 line)) _ _ (λ r. IfOk r HasShortStore) (λ _. kind_short (cut 32 line)) (λ _. tt)

lines_short : (n : ℕ) (s : Parsed) (parts : List (List ℕ)) → HasShortStore s → IfOk (read_parts with_line BadLine n s parts) HasShortStore
lines_short n s [] h = h
lines_short n s (rest ∷ []) h = cond_both (length rest == 0) _ _ (λ r. IfOk r HasShortStore) (λ _. h) (λ _. tt)
lines_short n s (line ∷ next ∷ more) h = by (with_line s line) (fields_short s h line) (λ t k. lines_short (n + 1) t (next ∷ more) k)
  where
    by : (r : Result Parsed Cause) → IfOk r HasShortStore → ((t : Parsed) → HasShortStore t → IfOk (read_parts with_line BadLine (n + 1) t (next ∷ more)) HasShortStore)
        → IfOk (on_line n r (λ t. read_parts with_line BadLine (n + 1) t (next ∷ more))) HasShortStore
    by (Ok t) k rest = rest t k
    by (Err cause) k rest = tt

-- a block file's storage
abbrev IsShortBlock : BlockValue → Type 0
IsShortBlock block = IsShort block.rules block.store

behind_short : (n : ℕ) (rules : Rules) (parts : List (List ℕ)) → IfOk (parts_after n rules parts) IsShortBlock
behind_short n rules parts =
    cond_both (length parts == 0) _ _ (λ r. IfOk r IsShortBlock) (λ _. tt) (λ _. by (lines_from (n + 1) rules parts) (lines_short (n + 1) (nothing_parsed rules) parts (no_values rules)))
  where
    by : (r : Result Parsed BlockFault) → IfOk r HasShortStore → IfOk (result_map_both (λ s. s.block) (λ fault. fault) r) IsShortBlock
    by (Ok s) k = k
    by (Err fault) k = tt

second_short : (parts : List (List ℕ)) → IfOk (second_format parts) IsShortBlock
second_short [] = tt
second_short (line ∷ rest) = by (rules_of line)
  where
    by : (o : Option Rules) → IfOk (on_line 2 (ok_or o BadLine) (λ rules. parts_after 2 rules rest)) IsShortBlock
    by (Some rules) = behind_short 2 rules rest
    by None = tt

parts_short : (parts : List (List ℕ)) → IfOk (block_of_parts parts) IsShortBlock
parts_short [] = tt
parts_short (header ∷ rest) =
    cond_both (bytes_eq header (codes "rvblock 1")) _ _ (λ r. IfOk r IsShortBlock) (λ _. behind_short 1 One rest) (λ _.
    cond_both (bytes_eq header (codes "rvblock 2")) _ _ (λ r. IfOk r IsShortBlock) (λ _. second_short rest) (λ _. tt))

pub file_short : (bytes : List ℕ) → IfOk (parsed_block bytes) IsShortBlock
file_short bytes = parts_short (cut 10 bytes)
