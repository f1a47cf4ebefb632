-- A call over a storage has exactly one receipt.
use Rattle.std.proofs.Common.{◌≡◌, ℕ, zero, suc, ◌≤◌, inl, inr, Bool, true, false, if◌then◌else◌, List, [], ◌∷◌, ◌++◌, Some, None, refl, sym, ap, subst, ◌∙◌, arith}
use Rattle.std.specs.FinMap as map
use Rattle.std.specs.Str.{bytes_eq}
use Rattle.std.proofs.lemmas.Slice.Eq.{bytes_eq-Decides}
use Rattle.rv_ledger.specs.Change.{Content}
use Rattle.rv_ledger.specs.Call.{Invocation}
use Rattle.rv_ledger.specs.Key.{Storage}
use Rattle.rv_ledger.specs.declared.receipt.Receipt.{Receipt}
use Rattle.rv_step.specs.declared.machine.Machine.{Machine}
use Rattle.rv_step.specs.Step.{Progress, Going, Over, StepResult, Leads, Asks, step, answered, delivered}
use Rattle.rv_step.specs.Moment.{Reply, advance, from_replies, from_storage, is_over, machine_of, moment_from, moment_over, moment_with, start}
use Rattle.rv_step.specs.Chain.{AreFrom, HasOneReceipt, borne_out, ends, enough_steps, receipt_at, receipt_with}
use Rattle.rv_step.proofs.Falls.{IsFalling, answered_falls, less_gas, step_falls}
use Rattle.rv_step.proofs.Moments.{IsLast, IsNear, advance_leads, advance_told, kept, last_after_gas, last_is, near_at, no_more, one_more}

-- ---- replies

same_key : (key : List ℕ) → bytes_eq key key ≡ true
same_key key = (bytes_eq-Decides key key).1 refl

-- a reply to the key that is asked for
pub reply_told : (key : List ℕ) (content : Content) (rest : List Reply) → from_replies ((key, content) ∷ rest) key ≡ Some (content, rest)
reply_told key content rest = ap (λ (b : Bool). if b then Some (content, rest) else None) (same_key key)

none_some : (x : Content × List Reply) → None ≡ Some x → ⊥
none_some x e = cc

pair_is : {A : Type 0} (x y : Content × A) → Some x ≡ Some y → (x.0 ≡ y.0) × (x.1 ≡ y.1)
pair_is x y e = let same : x ≡ y = cc in (ap (λ p. p.0) same, ap (λ p. p.1) same)

-- the reply that was taken
pub reply_taken : (reply : Reply) (left : List Reply) (key : List ℕ) (content : Content) (rest : List Reply) → from_replies (reply ∷ left) key ≡ Some (content, rest) → (bytes_eq reply.0 key ≡ true) × (reply.1 ≡ content) × (left ≡ rest)
reply_taken reply left key content rest e = by_test (bytes_eq reply.0 key) refl
  where
    by_test : (b : Bool) → bytes_eq reply.0 key ≡ b → (bytes_eq reply.0 key ≡ true) × (reply.1 ≡ content) × (left ≡ rest)
    by_test true same = let both = pair_is (reply.1, left) (content, rest) (sym (ap (λ (b : Bool). if b then Some (reply.1, left) else None) same) ∙ e) in (same, both.0, both.1)
    by_test false other = absurd (none_some (content, rest) (sym (ap (λ (b : Bool). if b then Some (reply.1, left) else None) other) ∙ e))

-- the reply is taken whatever follows it
told_before : (more left : List Reply) (key : List ℕ) (content : Content) (rest : List Reply) → from_replies left key ≡ Some (content, rest) → from_replies (left ++ more) key ≡ Some (content, rest ++ more)
told_before more [] key content rest e = cc
told_before more (reply ∷ left) key content rest e =
    let taken = reply_taken reply left key content rest e in
    ap (λ (b : Bool). if b then Some (reply.1, left ++ more) else None) taken.0
    ∙ ap (λ (c : Content). Some (c, left ++ more)) taken.1
    ∙ ap (λ (l : List Reply). Some (content, l ++ more)) taken.2

-- with further replies after these, the call makes the same steps
module _ (replies more : List Reply) (first : Progress) where
  abbrev Comes : Progress × List Reply → Type 0
  Comes at = (m : ℕ) × (moment_from from_replies m (first, replies ++ more) ≡ (at.0, at.1 ++ more))

  comes_on : (at next : Progress × List Reply) → Comes at → advance from_replies (at.0, at.1 ++ more) ≡ (next.0, next.1 ++ more) → Comes next
  comes_on at next comes e = (suc comes.0, one_more from_replies comes.0 (first, replies ++ more) ∙ ap (advance from_replies) comes.1 ∙ e)

  pub with_more : (n : ℕ) → Comes (moment_from from_replies n (first, replies))
  with_more n = kept from_replies Comes
      (λ s left progress comes e. comes_on (Going s, left) (progress, left) comes (advance_leads from_replies s (left ++ more) progress e))
      (λ s left key content rest comes e told. comes_on (Going s, left) (answered s (delivered s key content), rest) comes (advance_told from_replies s (left ++ more) key content (rest ++ more) e (told_before more left key content rest told)))
      n (first, replies) (zero, no_more from_replies (first, replies ++ more))

-- ---- a storage

-- a step that takes gas changes something
pub takes_something : {A : Type 0} (s : Machine) (progress : Progress) (rest left : A) → IsFalling s.gas progress → ◌≡◌ {A = Progress × A} (progress, rest) (Going s, left) → ⊥
takes_something s (Going t) rest left falls e = let less = less_gas s.gas t falls in let same : t.gas ≡ s.gas = ap (λ at. (machine_of at.0).gas) e in omega (arith, less, same)
takes_something s (Over end out t) rest left falls e = let other : true ≡ false = ap (λ at. is_over at.0) e in cc

-- a storage answers all keys, so only the end is the last moment
never_last : (store : Storage) (s : Machine) (o : StepResult) → step s ≡ o → IsLast from_storage (Going s, store) → ⊥
never_last store s (Leads progress) e last = takes_something s progress store store (step_falls s progress e) (sym (advance_leads from_storage s store progress e) ∙ last)
never_last store s (Asks key) e last =
    let content : Content = map.get store key in
    takes_something s (answered s (delivered s key content)) store store (answered_falls s (delivered s key content)) (sym (advance_told from_storage s store key content store e refl) ∙ last)

last_over : (progress : Progress) (store : Storage) → IsLast from_storage (progress, store) → is_over progress ≡ true
last_over (Going s) store last = absurd (never_last store s (step s) refl last)
last_over (Over end out s) store last = refl

-- so a chain over a storage reaches its end
pub over_from : (store : Storage) (limit : ℕ) (progress : Progress) → (machine_of progress).gas ≤ limit → is_over (moment_from from_storage (suc limit) (progress, store)).0 ≡ true
over_from store limit progress h =
    let at = moment_from from_storage (suc limit) (progress, store) in last_over at.0 at.1 (last_after_gas from_storage limit (progress, store) h)

pub start_gas : (call : Invocation) → (start call).gas ≤ call.gas
unfolding start
start_gas call = omega arith

pub over_after_gas : (call : Invocation) (store : Storage) → is_over (moment_over call store (enough_steps call)) ≡ true
over_after_gas call store = over_from store call.gas (Going (start call)) (start_gas call)

-- ---- replies of a storage

-- with replies of a storage the same steps are made as over it
module _ (store : Storage) (first : Progress) where
  abbrev IsOver : Progress × List Reply → Type 0
  IsOver at = AreFrom store at.1 × ((m : ℕ) × (moment_from from_storage m (first, store) ≡ (at.0, store)))

  over_on : (s : Machine) (left : List Reply) (next : Progress) (rest : List Reply) → IsOver (Going s, left) → AreFrom store rest → advance from_storage (Going s, store) ≡ (next, store) → IsOver (next, rest)
  over_on s left next rest over from e = (from, (suc over.1.0, one_more from_storage over.1.0 (first, store) ∙ ap (advance from_storage) over.1.1 ∙ e))

  told_over : (s : Machine) (left : List Reply) (key : List ℕ) (content : Content) (rest : List Reply) → IsOver (Going s, left) → step s ≡ Asks key → from_replies left key ≡ Some (content, rest) → IsOver (answered s (delivered s key content), rest)
  told_over s [] key content rest over e told = cc
  told_over s (reply ∷ left) key content rest over e told =
      let taken = reply_taken reply left key content rest told in
      let there : map.get store key ≡ content = ap (map.get store) (sym ((bytes_eq-Decides reply.0 key).0 taken.0)) ∙ sym over.0.0 ∙ taken.1 in
      over_on s (reply ∷ left) (answered s (delivered s key content)) rest over (subst (AreFrom store) taken.2 over.0.1)
      (advance_told from_storage s store key content store e (ap (λ (c : Content). Some (c, store)) there))

  pub with_is_over : (replies : List Reply) → AreFrom store replies → (n : ℕ) → IsOver (moment_from from_replies n (first, replies))
  with_is_over replies from n = kept from_replies IsOver
      (λ s left progress over e. over_on s left progress left over over.0 (advance_leads from_storage s store progress e))
      (λ s left key content rest over e told. told_over s left key content rest over e told)
      n (first, replies) (from, (zero, no_more from_storage (first, store)))

one_more_from : (store : Storage) (replies : List Reply) (reply : Reply) → AreFrom store replies → reply.1 ≡ map.get store reply.0 → AreFrom store (replies ++ reply ∷ [])
one_more_from store [] reply from e = (e, tt)
one_more_from store (first ∷ replies) reply from e = (from.0, one_more_from store replies reply from.1 e)

-- some replies of the storage lead to the same state as the storage, all of them used
pub record IsLedTo (store : Storage) (first : Progress) (at : Progress × Storage) : Type 0 where
  pub same : at.1 ≡ store
  pub replies : List Reply
  pub from : AreFrom store replies
  pub count : ℕ
  pub comes : moment_from from_replies count (first, replies) ≡ (at.0, [])

module _ (store : Storage) (first : Progress) where
  leads_led : (s : Machine) (left : Storage) (progress : Progress) → IsLedTo store first (Going s, left) → step s ≡ Leads progress → IsLedTo store first (progress, left)
  leads_led s left progress led e = record {
    same = led.same;
    replies = led.replies;
    from = led.from;
    count = suc led.count;
    comes = one_more from_replies led.count (first, led.replies) ∙ ap (advance from_replies) led.comes ∙ advance_leads from_replies s [] progress e;
  }

  told_led : (s : Machine) (left : Storage) (key : List ℕ) (content : Content) (rest : Storage) → IsLedTo store first (Going s, left) → step s ≡ Asks key → from_storage left key ≡ Some (content, rest) → IsLedTo store first (answered s (delivered s key content), rest)
  told_led s left key content rest led e told =
      let given = pair_is (map.get left key, left) (content, rest) told in
      let reply : Reply = (key, content) in
      let comes = with_more led.replies (reply ∷ []) first led.count in
      let stands : moment_from from_replies comes.0 (first, led.replies ++ reply ∷ []) ≡ (Going s, reply ∷ []) = comes.1 ∙ ap (λ (at : Progress × List Reply). (at.0, at.1 ++ reply ∷ [])) led.comes in
      record {
        same = sym given.1 ∙ led.same;
        replies = led.replies ++ reply ∷ [];
        from = one_more_from store led.replies reply led.from (sym given.0 ∙ ap (λ (x : Storage). map.get x key) led.same);
        count = suc comes.0;
        comes = one_more from_replies comes.0 (first, led.replies ++ reply ∷ []) ∙ ap (advance from_replies) stands ∙ advance_told from_replies s (reply ∷ []) key content [] e (reply_told key content []);
      }

  pub led_to : (n : ℕ) → IsLedTo store first (moment_from from_storage n (first, store))
  led_to n = kept from_storage (IsLedTo store first) leads_led told_led
      n (first, store) (record { same = refl; replies = []; from = tt; count = zero; comes = no_more from_replies (first, []) })

-- ---- the receipt

-- if a call is over, nothing changes any more
pub over_last : (progress : Progress) (left : List Reply) → is_over progress ≡ true → IsLast from_replies (progress, left)
over_last (Going s) left over = cc
over_last (Over end out s) left over = refl

-- a moment at which nothing changes any more is the one that gives the receipt
pub last_with : (call : Invocation) (replies : List Reply) (n : ℕ) (at : Progress × List Reply) → moment_with call replies n ≡ at → IsLast from_replies at → moment_with call replies (enough_steps call) ≡ at
last_with call replies n at e last =
    last_is from_replies call.gas n (Going (start call), replies) (start_gas call) (rw e last) ∙ e

receipt_with_all : (limit : ℕ) (progress : Progress) → is_over progress ≡ true → receipt_with limit (progress, []) ≡ Some (receipt_at limit progress)
receipt_with_all limit (Going s) over = cc
receipt_with_all limit (Over end out s) over = refl

-- a call that is over with its replies used gives the receipt
pub over_bears : (call : Invocation) (replies : List Reply) (n : ℕ) (progress : Progress) → moment_with call replies n ≡ (progress, []) → is_over progress ≡ true → borne_out call replies ≡ Some (receipt_at call.gas progress)
over_bears call replies n progress e over =
    ap (receipt_with call.gas) (last_with call replies n (progress, []) e (over_last progress [] over)) ∙ receipt_with_all call.gas progress over

-- if there is a receipt, the call is over and its replies are used
pub bears_over : (limit : ℕ) (progress : Progress) (left : List Reply) (r : Receipt) → receipt_with limit (progress, left) ≡ Some r → (is_over progress ≡ true) × (left ≡ []) × (r ≡ receipt_at limit progress)
bears_over limit (Going s) left r e = cc
bears_over limit (Over end out s) [] r e = (refl, refl, cc)
bears_over limit (Over end out s) (reply ∷ left) r e = cc

over_last_storage : (progress : Progress) (store : Storage) → is_over progress ≡ true → IsLast from_storage (progress, store)
over_last_storage (Going s) store over = cc
over_last_storage (Over end out s) store over = refl

-- a call that has ended over a storage has its receipt
pub over_ends : (call : Invocation) (store : Storage) (n : ℕ) (at : Progress × Storage) → moment_from from_storage n (Going (start call), store) ≡ at → is_over at.0 ≡ true → receipt_at call.gas at.0 ≡ ends call store
unfolding ends
over_ends call store n at e over =
    ap (λ (x : Progress × Storage). receipt_at call.gas x.0)
    (sym (last_is from_storage call.gas n (Going (start call), store) (start_gas call) (rw e (over_last_storage at.0 at.1 over)) ∙ e))

-- for each call and storage there is exactly one receipt
some_bear : (call : Invocation) (store : Storage) → (replies : List Reply) × AreFrom store replies × (borne_out call replies ≡ Some (ends call store))
unfolding ends
some_bear call store =
    let led = led_to store (Going (start call)) (enough_steps call) in
    (led.replies, led.from, over_bears call led.replies led.count (moment_over call store (enough_steps call)) led.comes (over_after_gas call store))

no_other_bears : (call : Invocation) (store : Storage) (replies : List Reply) (receipt : Receipt) → AreFrom store replies → borne_out call replies ≡ Some receipt → receipt ≡ ends call store
no_other_bears call store replies receipt from e =
    let at : Progress × List Reply = moment_with call replies (enough_steps call) in
    let over = with_is_over store (Going (start call)) replies from (enough_steps call) in
    let told = bears_over call.gas at.0 at.1 receipt e in
    told.2 ∙ over_ends call store over.1.0 (at.0, store) over.1.1 told.0

pub one_receipt_lem : (call : Invocation) (store : Storage) → HasOneReceipt call store
one_receipt_lem call store = record { some_answers = some_bear call store; no_other = no_other_bears call store }

-- ---- moments over a storage

-- the storage does not change
pub keeps_storage : (store : Storage) (first : Progress) (n : ℕ) → moment_from from_storage n (first, store) ≡ ((moment_from from_storage n (first, store)).0, store)
keeps_storage store first n = ap (λ (x : Storage). ((moment_from from_storage n (first, store)).0, x)) (led_to store first n).same

-- a call that is not over has made no more steps than it had gas
going_near : (limit n : ℕ) (at : Progress × Storage) → IsNear from_storage limit n at → is_over at.0 ≡ false → n ≤ limit
going_near limit n at (inl last) going = let over = last_over at.0 at.1 last in cc
going_near limit n at (inr near) going = omega (arith, near)

pub going_within : (call : Invocation) (store : Storage) (n : ℕ) → is_over (moment_over call store n) ≡ false → n ≤ call.gas
going_within call store n going =
    let at : Progress × Storage = moment_from from_storage n (Going (start call), store) in
    going_near call.gas n at (near_at from_storage call.gas n (Going (start call), store) (start_gas call)) going
