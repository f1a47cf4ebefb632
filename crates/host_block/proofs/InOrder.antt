-- Each step of a block's run keeps its calls in order.
use Rattle.std.proofs.Common.{◌≡◌, ◌<◌, ◌≤◌, ◌+◌, ◌⊎◌, inl, inr, ℕ, suc, Bool, true, false, cond, is_some, List, [], ◌∷◌, ◌++◌, length, drop, slice_get, Option, Some, None, Result, Ok, Err, OnOk, OnErr, IfSome, IsSome, refl, sym, ap, subst, ◌∙◌, arith}
use Rattle.std.specs.FinMap.{contains_key, empty, entries, get, get-empty, get-insert, insert}
use Rattle.std.specs.Cmp.Lexicographic.{nat_list_cmp_total}
use Rattle.std.specs.Global.{Vec}
use Rattle.std.specs.List.{Contains}
use Rattle.std.specs.Map.{keys_of}
use Rattle.std.specs.Option.{option_map}
use Rattle.std.specs.Ordering.{eq_by_cmp}
use Rattle.std.proofs.Math.Seq.{drop-length}
use Rattle.std.proofs.lemmas.List.{append-nil, append_assoc, length-append}
use Rattle.std.proofs.lemmas.Option.{slice_get_within}
use Rattle.overlay.proofs.WithChanges.{same_at_all}
use Rattle.overlay.specs.Overlay.{Changes, with_contents}
use Rattle.rv_ledger.specs.Applied.{apply_writes}
use Rattle.rv_ledger.specs.Call.{Invocation}
use Rattle.rv_ledger.specs.Change.{Content, ContentChange}
use Rattle.rv_ledger.specs.Entries.{AreAscending}
use Rattle.rv_ledger.specs.Key.{Storage, WriteMap, key_cmp}
use Rattle.std.specs.declared.alloc.AllocError.{AllocError}
use Rattle.rv_ledger.specs.declared.receipt.Receipt.{Receipt}
use Rattle.rv_step.specs.Chain.{AreFrom, HasOneReceipt}
use Rattle.rv_step.specs.Fold.{receipts_of, store_after}
use Rattle.rv_step.specs.Replies.{replies_of}
use Rattle.rv_step.specs.Run.{RunView, run_at_start}
use Rattle.rv_step.specs.declared.answer.StorageAnswer.{StorageAnswer}
use Rattle.rv_step.specs.declared.ended_run.EndedRun.{EndedRun}
use Rattle.rv_step.specs.declared.spare_run.SpareRun.{SpareRun}
use Rattle.stm_state.proofs.Writes.{applied_get, content_after}
use Rattle.host_block.specs.Changes.{Agrees, listed_changes}
use Rattle.host_block.specs.Known.{KeepsAnswers}
use Rattle.host_block.specs.Ordered.{AreSums, AreSumsKnown, IsInOrder, IsListed, IsRestOf, IsResult, AreCallsSerial, IsUnderWay, IsWritten, KeepsReceipts, OrderedView, now_with, receipts_with, ordered_view}
use Rattle.host_block.specs.Slots.{TouchedView}
use Rattle.host_block.specs.declared.parts.Current.{Current}
use Rattle.host_block.specs.declared.parts.Current.TheVariants as current
use Rattle.host_block.specs.declared.parts.Parts.{Parts}
use Rattle.host_block.proofs.Changing.{same_key}
use Rattle.host_block.proofs.Serials.{one_ended, one_kept, written_before, written_last}
use Rattle.host_block.proofs.Settling.{listed_ascends, listed_is_changed, listed_leads, sums_known}

-- what holds once all calls have ended does not matter while some are left
none_yet : {X : Type 0} (o : Option X) (P Q : X → Type 0) (n m : ℕ) → IfSome o P → ((x : X) → P x → n ≡ m) → n < m → IfSome o Q
none_yet None P Q n m h ended less = tt
none_yet (Some x) P Q n m h ended less = absurd (let same : n ≡ m = ended x h in omega (arith, same, less))

no_sums : (p q : Parts) → IsInOrder p → length p.receipts.items < length p.calls.items → IfSome p.sums (λ keys. AreSums q keys.items)
no_sums p q h less = none_yet p.sums (λ keys. AreSums p keys.items) (λ keys. AreSums q keys.items) _ _ h.sums (λ x s. s.ended) less

no_list : (p q : Parts) → IsInOrder p → length p.receipts.items < length p.calls.items → IfSome p.listed (λ list. IsListed q list.items)
no_list p q h less = none_yet p.listed (λ list. IsListed p list.items) (λ list. IsListed q list.items) _ _ h.listed (λ x l. l.ended) less

-- ---- the start

without : (store : Storage) → apply_writes store empty ≡ store
without store = same_at_all _ _ (λ q. applied_get store empty q ∙ ap (λ o. content_after o (get store q)) (get-empty key_cmp q))

start_rest : (calls : List Invocation) (store : Storage) → IsRestOf calls store [] (drop 0 calls) (apply_writes store empty)
start_rest calls store = (ap (receipts_of calls) (without store), ap (store_after calls) (without store))

nothing_written : (changes : WriteMap) (key : List ℕ) → changes ≡ empty → contains_key changes key ≡ true → ⊥
nothing_written changes key is has = let none : contains_key changes key ≡ false = ap (λ (m : WriteMap). contains_key m key) is ∙ ap (λ (o : Option ContentChange). is_some o) (get-empty key_cmp key) in cc

pub starts : (p : Parts) → p.receipts.items ≡ [] → p.current ≡ current.Next → p.touched.changes ≡ empty → p.sums ≡ None → p.listed ≡ None → IsInOrder p
starts p none next unchanged no_keys unlisted = record {
  serial = λ store agrees. subst (λ (k : Current). AreCallsSerial p.calls.items p.receipts.items k p.touched.changes store) (sym next)
      (subst (λ (m : WriteMap). IsRestOf p.calls.items store p.receipts.items (drop (length p.receipts.items) p.calls.items) (apply_writes store m)) (sym unchanged)
      (subst (λ (rs : List Receipt). IsRestOf p.calls.items store rs (drop (length rs) p.calls.items) (apply_writes store empty)) (sym none) (start_rest p.calls.items store)));
  under_way = subst (λ (k : Current). IsUnderWay p.calls.items p.receipts.items k p.touched.changes p.touched.bases) (sym next) (subst (λ (rs : List Receipt). length rs ≤ length p.calls.items) (sym none) (omega arith));
  written = λ key has. absurd (nothing_written p.touched.changes key unchanged has);
  sums = subst (λ o. IfSome o (λ keys. AreSums p keys.items)) (sym no_keys) tt;
  listed = subst (λ o. IfSome o (λ list. IsListed p list.items)) (sym unlisted) tt;
}

-- ---- a call

pub begins : (p : Parts) (run : RunView) (call : Invocation) (spare : SpareRun) → IsInOrder p → length p.receipts.items < length p.calls.items → p.current ≡ current.Next
    → slice_get p.calls.items (length p.receipts.items) ≡ Some call → run ≡ run_at_start call → IsInOrder (record p { current = current.Run run; spare = spare })
begins p run call spare h less next at is = record {
  serial = λ store agrees. subst (λ (k : Current). AreCallsSerial p.calls.items p.receipts.items k p.touched.changes store) next (h.serial store agrees);
  under_way = (at ∙ ap Some (sym (ap (λ (r : RunView). r.call) is)), λ store agrees. subst (λ (r : RunView). AreFrom (apply_writes store p.touched.changes) (replies_of r.answers)) (sym is) tt);
  written = λ key has. subst (λ (k : Current). IsWritten (receipts_with p.receipts.items k) key) next (h.written key has);
  sums = no_sums p _ h less;
  listed = no_list p _ h less;
}

run_goes : (p : Parts) (run after : RunView) → IsInOrder p → length p.receipts.items < length p.calls.items → p.current ≡ current.Run run
    → after.call ≡ run.call → KeepsAnswers p.touched.bases p.touched.changes run after → IsInOrder (record p { current = current.Run after })
run_goes p run after h less is call from =
    let was : IsUnderWay p.calls.items p.receipts.items (current.Run run) p.touched.changes p.touched.bases = subst (λ (k : Current). IsUnderWay p.calls.items p.receipts.items k p.touched.changes p.touched.bases) is h.under_way in
    record {
      serial = λ store agrees. subst (λ (k : Current). AreCallsSerial p.calls.items p.receipts.items k p.touched.changes store) is (h.serial store agrees);
      under_way = (was.0 ∙ ap Some (sym call), λ store agrees. from store agrees (was.1 store agrees));
      written = λ key has. subst (λ (k : Current). IsWritten (receipts_with p.receipts.items k) key) is (h.written key has);
      sums = no_sums p _ h less;
      listed = no_list p _ h less;
    }

pub runs_on : (p : Parts) (run after : RunView) (touched : TouchedView) → IsInOrder p → length p.receipts.items < length p.calls.items → p.current ≡ current.Run run
    → touched ≡ p.touched → after.call ≡ run.call → KeepsAnswers p.touched.bases p.touched.changes run after → IsInOrder (record p { current = current.Run after; touched = touched })
runs_on p run after touched h less is same call from = subst (λ (t : TouchedView). IsInOrder (record p { current = current.Run after; touched = t })) (sym same) (run_goes p run after h less is call from)

pub call_ends : (p : Parts) (run : RunView) (ended : EndedRun) (spare : SpareRun) → IsInOrder p → length p.receipts.items < length p.calls.items → p.current ≡ current.Run run
    → ended.call ≡ run.call → ended.answers.items ≡ run.answers → ((call : Invocation) (store : Storage) → HasOneReceipt call store)
    → IsInOrder (record p { current = current.Ended ended.receipt 0; spare = spare })
call_ends p run ended spare h less is call answers one =
    let was : IsUnderWay p.calls.items p.receipts.items (current.Run run) p.touched.changes p.touched.bases = subst (λ (k : Current). IsUnderWay p.calls.items p.receipts.items k p.touched.changes p.touched.bases) is h.under_way in
    record {
      serial = λ store agrees.
          let from : AreFrom (apply_writes store p.touched.changes) (replies_of ended.answers.items) = subst (λ (answers : List StorageAnswer). AreFrom (apply_writes store p.touched.changes) (replies_of answers)) (sym answers) (was.1 store agrees) in
          one_ended p.calls.items store p.receipts.items p.touched.changes ended.call ended.receipt (was.0 ∙ ap Some (sym call))
          ((one ended.call (apply_writes store p.touched.changes)).no_other (replies_of ended.answers.items) ended.receipt from ended.borne_out)
          (subst (λ (k : Current). AreCallsSerial p.calls.items p.receipts.items k p.touched.changes store) is (h.serial store agrees));
      under_way = less;
      written = λ key has. written_before p.receipts.items ended.receipt key (subst (λ (k : Current). IsWritten (receipts_with p.receipts.items k) key) is (h.written key has));
      sums = no_sums p _ h less;
      listed = no_list p _ h less;
    }

either_written : (receipts : List Receipt) (receipt : Receipt) (key : List ℕ) → (contains_key receipt.writes key ≡ true) ⊎ IsWritten (receipts ++ receipt ∷ []) key → IsWritten (receipts ++ receipt ∷ []) key
either_written receipts receipt key (inl by) = written_last receipts receipt key by
either_written receipts receipt key (inr was) = was

swapped : (A B : Type 0) → A ⊎ B → B ⊎ A
swapped A B (inl a) = inr a
swapped A B (inr b) = inl b

mapped : (A B C : Type 0) → (B → C) → A ⊎ B → A ⊎ C
mapped A B C f (inl a) = inl a
mapped A B C f (inr b) = inr (f b)

changes_join : (p : Parts) (receipts : Vec Receipt) (receipt : Receipt) (count after : ℕ) (changes : WriteMap) → IsInOrder p → p.current ≡ current.Ended receipt count
    → receipts.items ≡ p.receipts.items
    → ((store : Storage) → now_with changes receipt.writes after store ≡ now_with p.touched.changes receipt.writes count store)
    → ((key : List ℕ) → contains_key changes key ≡ true → (contains_key p.touched.changes key ≡ true) ⊎ (contains_key receipt.writes key ≡ true))
    → IsInOrder (record p { receipts = receipts; current = current.Ended receipt after; touched = record { bases = p.touched.bases; changes = changes } })
changes_join p receipts receipt count after changes h is same now written =
    let less : length p.receipts.items < length p.calls.items = subst (λ (k : Current). IsUnderWay p.calls.items p.receipts.items k p.touched.changes p.touched.bases) is h.under_way in
    record {
      serial = λ store agrees. subst (λ (rs : List Receipt). IsRestOf p.calls.items store (rs ++ receipt ∷ []) (drop (suc (length rs)) p.calls.items) (now_with changes receipt.writes after store)) (sym same)
          (subst (λ (s : Storage). IsRestOf p.calls.items store (p.receipts.items ++ receipt ∷ []) (drop (suc (length p.receipts.items)) p.calls.items) s) (sym (now store))
          (subst (λ (k : Current). AreCallsSerial p.calls.items p.receipts.items k p.touched.changes store) is (h.serial store agrees)));
      under_way = subst (λ (rs : List Receipt). length rs < length p.calls.items) (sym same) less;
      written = λ key has. subst (λ (rs : List Receipt). IsWritten (rs ++ receipt ∷ []) key) (sym same)
          (either_written p.receipts.items receipt key (mapped _ _ _ (λ was. subst (λ (k : Current). IsWritten (receipts_with p.receipts.items k) key) is (h.written key was)) (swapped _ _ (written key has))));
      sums = no_sums p _ h less;
      listed = no_list p _ h less;
    }

pub writes_join : (p : Parts) (receipts : Vec Receipt) (receipt : Receipt) (count after : ℕ) (touched : TouchedView) → IsInOrder p → p.current ≡ current.Ended receipt count
    → receipts.items ≡ p.receipts.items → touched.bases ≡ p.touched.bases
    → ((store : Storage) → now_with touched.changes receipt.writes after store ≡ now_with p.touched.changes receipt.writes count store)
    → ((key : List ℕ) → contains_key touched.changes key ≡ true → (contains_key p.touched.changes key ≡ true) ⊎ (contains_key receipt.writes key ≡ true))
    → IsInOrder (record p { receipts = receipts; current = current.Ended receipt after; touched = touched })
writes_join p receipts receipt count after touched h is same bases now written =
    subst (λ (bs : Changes). IsInOrder (record p { receipts = receipts; current = current.Ended receipt after; touched = record { bases = bs; changes = touched.changes } })) (sym bases)
    (changes_join p receipts receipt count after touched.changes h is same now written)

-- only the room of the receipts changes
pub room_made : (p : Parts) (receipts : Vec Receipt) (receipt : Receipt) (count : ℕ) → IsInOrder p → p.current ≡ current.Ended receipt count
    → receipts.items ≡ p.receipts.items → IsInOrder (record p { receipts = receipts; current = current.Ended receipt count })
room_made p receipts receipt count h is same = writes_join p receipts receipt count count p.touched h is same refl (λ store. refl) (λ key has. inl has)

pub receipt_kept : (p : Parts) (receipts : Vec Receipt) (receipt : Receipt) (count : ℕ) → IsInOrder p → p.current ≡ current.Ended receipt count → drop count (entries receipt.writes) ≡ []
    → receipts.items ≡ p.receipts.items ++ receipt ∷ [] → IsInOrder (record p { receipts = receipts; current = current.Next })
receipt_kept p receipts receipt count h is none more =
    let less : length p.receipts.items < length p.calls.items = subst (λ (k : Current). IsUnderWay p.calls.items p.receipts.items k p.touched.changes p.touched.bases) is h.under_way in
    record {
      serial = λ store agrees. subst (λ (rs : List Receipt). IsRestOf p.calls.items store rs (drop (length rs) p.calls.items) (apply_writes store p.touched.changes)) (sym more)
          (one_kept p.calls.items store p.receipts.items p.touched.changes receipt count none (subst (λ (k : Current). AreCallsSerial p.calls.items p.receipts.items k p.touched.changes store) is (h.serial store agrees)));
      under_way = (let more_by : length receipts.items ≡ length p.receipts.items + 1 = ap (λ (rs : List Receipt). length rs) more ∙ length-append p.receipts.items (receipt ∷ []) in omega (arith, less, more_by));
      written = λ key has. subst (λ (rs : List Receipt). IsWritten rs key) (sym more) (subst (λ (k : Current). IsWritten (receipts_with p.receipts.items k) key) is (h.written key has));
      sums = no_sums p _ h less;
      listed = no_list p _ h less;
    }

-- ---- after the last call

unlisted_still : (p q : Parts) → p.listed ≡ None → IfSome p.listed (λ list. IsListed q list.items)
unlisted_still p q unlisted = subst (λ o. IfSome o (λ list. IsListed q list.items)) (sym unlisted) tt

sums_still : (o : Option (Vec (List ℕ))) (p q : Parts) → ((keys : List (List ℕ)) → AreSums p keys → AreSums q keys) → IfSome o (λ keys. AreSums p keys.items) → IfSome o (λ keys. AreSums q keys.items)
sums_still None p q f h = tt
sums_still (Some keys) p q f h = f keys.items h

-- the sums of a run, as far as they were found
pub sums_in : (p : Parts) (keys : Vec (List ℕ)) → IsInOrder p → p.sums ≡ Some keys → AreSums p keys.items
sums_in p keys h is = subst (λ o. IfSome o (λ (ks : Vec (List ℕ)). AreSums p ks.items)) is h.sums

below_or_from : (k n : ℕ) → (k < n) ⊎ (n ≤ k)
below_or_from k n = grind arith

-- all sums are known once none of their keys is left
pub all_known : (p : Parts) (keys : Vec (List ℕ)) (count : ℕ) → IsInOrder p → p.sums ≡ Some keys → length keys.items ≤ count
    → ((k : ℕ) (key : List ℕ) → p.known_sums ≤ k → k < count → slice_get keys.items k ≡ Some key → IsSome (get p.touched.bases key)) → AreSumsKnown p.touched.changes p.touched.bases
all_known p keys count h is past known =
    let s = sums_in p keys h is in
    sums_known p.touched.bases p.touched.changes keys.items count s.of_sums past (λ k key below at. by k key below at (below_or_from k p.known_sums) s)
  where
    by : (k : ℕ) (key : List ℕ) → k < count → slice_get keys.items k ≡ Some key → (k < p.known_sums) ⊎ (p.known_sums ≤ k) → AreSums p keys.items → IsSome (get p.touched.bases key)
    by k key below at (inl less) s = s.known k key less at
    by k key below at (inr more) s = known k key more below at

-- ---- an answer of the host

-- what was known before an answer is known after it
still_known : (bases : Changes) (key : List ℕ) (content : Content) (q : List ℕ) → IsSome (get bases q) → IsSome (get (insert bases key content) q)
still_known bases key content q h = by (eq_by_cmp key_cmp q key) (get-insert nat_list_cmp_total bases key content q)
  where
    by : (b : Bool) → get (insert bases key content) q ≡ cond b (Some content) (get bases q) → IsSome (get (insert bases key content) q)
    by true e = ap (λ (o : Option Content). is_some o) e
    by false e = ap (λ (o : Option Content). is_some o) e ∙ h

-- a storage that has the answers after one more has those before
agreed_before : (bases : Changes) (key : List ℕ) (content : Content) (store : Storage) → get bases key ≡ None → Agrees (insert bases key content) store → Agrees bases store
agreed_before bases key content store unknown agrees q c has = agrees q c (by (eq_by_cmp key_cmp q key) refl)
  where
    by : (b : Bool) → eq_by_cmp key_cmp q key ≡ b → get (insert bases key content) q ≡ Some c
    by true e = let none : get bases q ≡ None = ap (get bases) (same_key q key e) ∙ unknown in cc
    by false e = get-insert nat_list_cmp_total bases key content q ∙ ap (λ b. cond b (Some content) (get bases q)) e ∙ has

pub base_kept : (p : Parts) (key : List ℕ) (content : Content) (bases : Changes) → IsInOrder p → get p.touched.bases key ≡ None → p.listed ≡ None
    → bases ≡ insert p.touched.bases key content → IsInOrder (record p { touched = record p.touched { bases = bases } })
base_kept p key content bases h unknown unlisted is = record {
  serial = λ store agrees. h.serial store (before store agrees);
  under_way = under p.current h.under_way;
  written = h.written;
  sums = sums_still p.sums p (record p { touched = record p.touched { bases = bases } })
      (λ keys s. record { ended = s.ended; of_sums = s.of_sums; known = λ k q below at. subst (λ (m : Changes). IsSome (get m q)) (sym is) (still_known p.touched.bases key content q (s.known k q below at)) }) h.sums;
  listed = unlisted_still p _ unlisted;
}
  where
    before : (store : Storage) → Agrees bases store → Agrees p.touched.bases store
    before store agrees = agreed_before p.touched.bases key content store unknown (subst (λ (m : Changes). Agrees m store) is agrees)

    under : (k : Current) → IsUnderWay p.calls.items p.receipts.items k p.touched.changes p.touched.bases → IsUnderWay p.calls.items p.receipts.items k p.touched.changes bases
    under current.Next u = u
    under (current.Run run) u = (u.0, λ store agrees. u.1 store (agreed_before p.touched.bases key content store unknown (subst (λ (m : Changes). Agrees m store) is agrees)))
    under (current.Ended receipt count) u = u

-- the same for an answer that may be refused, and then nothing changes
pub base_tried : (p : Parts) (key : List ℕ) (content : Content) (touched : TouchedView) (tried : Result (Unit {0}) AllocError) → IsInOrder p → get p.touched.bases key ≡ None → p.listed ≡ None
    → OnOk tried (touched ≡ record p.touched { bases = insert p.touched.bases key content }) → OnErr tried (touched ≡ p.touched) → IsInOrder (record p { touched = touched })
base_tried p key content touched (Ok done) h unknown unlisted kept stays =
    subst (λ (t : TouchedView). IsInOrder (record p { touched = t })) (sym kept) (base_kept p key content (insert p.touched.bases key content) h unknown unlisted refl)
base_tried p key content touched (Err error) h unknown unlisted kept stays = subst (λ (t : TouchedView). IsInOrder (record p { touched = t })) (sym stays) h

-- ---- the end

none_left : (calls : List Invocation) (receipts : List Receipt) (now store : Storage) → IsRestOf calls store receipts [] now → (receipts ≡ receipts_of calls store) × (now ≡ store_after calls store)
unfolding receipts_of store_after
none_left calls receipts now store rest = (sym (append-nil receipts) ∙ rest.0, rest.1)

all_ended : (calls : List Invocation) (receipts : List Receipt) (k : Current) (changes : WriteMap) (bases : Changes) (store : Storage)
    → AreCallsSerial calls receipts k changes store → IsUnderWay calls receipts k changes bases → length receipts ≡ length calls
    → (receipts ≡ receipts_of calls store) × (apply_writes store changes ≡ store_after calls store)
all_ended calls receipts current.Next changes bases store serial under ended =
    none_left calls receipts (apply_writes store changes) store (subst (λ n. IsRestOf calls store receipts n (apply_writes store changes)) (ap (λ n. drop n calls) ended ∙ drop-length calls) serial)
all_ended calls receipts (current.Run run) changes bases store serial under ended = absurd (let less : length receipts < length calls = slice_get_within calls (length receipts) run.call under.0 in omega (arith, less, ended))
all_ended calls receipts (current.Ended receipt count) changes bases store serial under ended = absurd (omega (arith, under, ended))

receipts_at_end : (calls : List Invocation) (receipts : List Receipt) (k : Current) (changes : WriteMap) (bases : Changes) → IsUnderWay calls receipts k changes bases → length receipts ≡ length calls → receipts_with receipts k ≡ receipts
receipts_at_end calls receipts current.Next changes bases under ended = refl
receipts_at_end calls receipts (current.Run run) changes bases under ended = refl
receipts_at_end calls receipts (current.Ended receipt count) changes bases under ended = absurd (omega (arith, under, ended))

-- what the result of a run in order says
pub are_results : (p : Parts) (asked : Option (List ℕ)) (v : OrderedView) (list : Vec (List ℕ × Content)) (receipts : List Receipt) (changes : List (List ℕ × Content))
    → IsInOrder p → ordered_view p asked ≡ v → p.listed ≡ Some list → receipts ≡ p.receipts.items → changes ≡ list.items
    → (v.result ≡ Some changes) × (receipts ≡ v.receipts) × IsResult v.calls v.bases receipts changes × AreAscending changes
    × ((key : List ℕ) → Contains (keys_of changes) key → IsWritten receipts key)
are_results p asked v list receipts changes h view is rs cs =
    let l : IsListed p list.items = subst (λ o. IfSome o (λ (x : Vec (List ℕ × Content)). IsListed p x.items)) is h.listed in
    let all : changes ≡ listed_changes p.touched.bases p.touched.changes = cs ∙ l.of_changes in
    subst (λ (w : OrderedView). (w.result ≡ Some changes) × (receipts ≡ w.receipts) × IsResult w.calls w.bases receipts changes × AreAscending changes
    × ((key : List ℕ) → Contains (keys_of changes) key → IsWritten receipts key)) view (
      ap (λ o. option_map (λ (x : Vec (List ℕ × Content)). x.items) o) is ∙ ap Some (sym cs),
      rs,
      (λ store agrees.
          let both = all_ended p.calls.items p.receipts.items p.current p.touched.changes p.touched.bases store (h.serial store agrees) h.under_way l.ended in
          (rs ∙ both.0, ap (with_contents store) all ∙ listed_leads p.touched.bases p.touched.changes store agrees l.known ∙ both.1)),
      subst AreAscending (sym all) (listed_ascends p.touched.bases p.touched.changes),
      (λ key has. subst (λ (xs : List Receipt). IsWritten xs key) (receipts_at_end p.calls.items p.receipts.items p.current p.touched.changes p.touched.bases h.under_way l.ended ∙ sym rs)
          (h.written key (listed_is_changed p.touched.bases p.touched.changes key (subst (λ (xs : List (List ℕ × Content)). Contains (keys_of xs) key) all has)))),
    )

-- no more calls have receipts than there are
pub within : (calls : List Invocation) (receipts : List Receipt) (k : Current) (changes : WriteMap) (bases : Changes) → IsUnderWay calls receipts k changes bases → length receipts ≤ length calls
within calls receipts current.Next changes bases under = under
within calls receipts (current.Run run) changes bases under = let less : length receipts < length calls = slice_get_within calls (length receipts) run.call under.0 in omega (arith, less)
within calls receipts (current.Ended receipt count) changes bases under = omega (arith, under)

-- ---- the receipts stay

pub same_receipts : (before after : List Receipt) → after ≡ before → KeepsReceipts before after
same_receipts before after is = ([], is ∙ sym (append-nil before))

pub more_receipts : (first before after : List Receipt) → KeepsReceipts first before → KeepsReceipts before after → KeepsReceipts first after
more_receipts first before after earlier later = (earlier.0 ++ later.0, later.1 ∙ ap (λ (rs : List Receipt). rs ++ later.0) earlier.1 ∙ append_assoc first earlier.0 later.0)
