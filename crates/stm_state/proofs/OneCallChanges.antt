-- A change of one call, of its entries and of one worker's task keeps the invariant, if the change meets what `Frame` lists.
use Rattle.std.proofs.Common.{◌≡◌, ◌<◌, ◌≤◌, ◌+◌, ◌-◌, ◌≢◌, ◌⊎◌, ℕ, Bool, true, List, [], ◌∷◌, Option, None, Some, arith, refl, sym, ap, subst, ◌∙◌, inl, inr}
use Rattle.std.specs.List.{AllByRecursion}
use Rattle.std.proofs.lemmas.Bool.{cases_eq}
use Rattle.rv_ledger.specs.Change.{Content, ContentChange}
use Rattle.read_set.specs.Origin.{Origin, named}
use Rattle.read_set.specs.declared.origin.Version.{Version}
use Rattle.rv_step.specs.declared.answer.StorageAnswer.{StorageAnswer}
use Rattle.mvmap.specs.Versions.{Entry, Stands}
use Rattle.stm_state.specs.declared.state.Status.{Status}
use Rattle.stm_state.specs.declared.state.Status.TheVariants.{Ready, Executing, Executed, Aborting}
use Rattle.stm_state.specs.declared.state.CallState.{CallState}
use Rattle.stm_state.specs.declared.state.Recorded.{Recorded}
use Rattle.stm_state.specs.declared.state.Task.{Task}
use Rattle.stm_state.specs.declared.state.Task.TheVariants.{Idle, Running, Moving, Validating, Marking}
use Rattle.stm_state.specs.Limits.{incarnation_limit}
use Rattle.stm_state.specs.Steps.{Block, version_of}
use Rattle.stm_state.specs.Parts.{IsPast, StandWith, has_key}
use Rattle.stm_state.proofs.Invariant.{View, ViewInvariant, AreSafe, IsChecked, IsMarked, IsMoved, IsUnmarkedEntry, IsUnmovedEntry, IsUnturned, IsWaiting, IsKnown, IsRight, IsRightAnswer, IsBorneOut, entry_of, estimate_of, marked_by, named_by, owned_by, run_by, turned_by}
use Rattle.stm_state.proofs.Lists.{ChangesAt, each_at}

-- ---- answers stay right

-- a version is new at a key: no version of its incarnation was there, and none may be gone
abbrev pub IsNew : View → List ℕ → ℕ → ℕ → Type 0
IsNew v key i n = ((c : ContentChange) → v.entries key i ≢ Some (Stands n c)) × (IsPast (v.calls i) n → ⊥)

-- incarnations do not fall, and a version that may be gone still may be. A version that stood still stands or may be gone, and
-- one that stands now stood before or is new
pub record Grows (v u : View) : Type 0 where
  pub incarnations : (i : ℕ) → (v.calls i).incarnation ≤ (u.calls i).incarnation
  pub past : (i n : ℕ) → IsPast (v.calls i) n → IsPast (u.calls i) n
  pub versions : (key : List ℕ) (i n : ℕ) (c : ContentChange) → v.entries key i ≡ Some (Stands n c) → (u.entries key i ≡ Some (Stands n c)) ⊎ IsPast (u.calls i) n
  pub known : (key : List ℕ) (i n : ℕ) (c : ContentChange) → u.entries key i ≡ Some (Stands n c) → (v.entries key i ≡ Some (Stands n c)) ⊎ IsNew v key i n

module _ (v u : View) (g : Grows v u) (i : ℕ) (key : List ℕ) where
  -- a known version stays known
  known_still : (version : Version) → IsKnown v i key version → IsKnown u i key version
  known_still version h = (
    h.0,
    elim h.1 [
      | inl there ↦ elim (g.versions key version.writer version.incarnation there.0 there.1) [ inl on ↦ inl (there.0, on) | inr past ↦ inr past ]
      | inr past ↦ inr (g.past version.writer version.incarnation past)
    ],
  )

  -- a known version that stands now stood before, with the same change
  stood : (version : Version) (c : ContentChange) → IsKnown v i key version → u.entries key version.writer ≡ Some (Stands version.incarnation c) → v.entries key version.writer ≡ Some (Stands version.incarnation c)
  stood version c h now = elim (g.known key version.writer version.incarnation c now) [
    | inl was ↦ was
    | inr new ↦ elim h.1 [ inl there ↦ absurd (new.0 there.0 there.1) | inr past ↦ absurd (new.1 past) ]
  ]

  -- the same for all versions of a list
  all_known : (versions : List Version) → AllByRecursion (IsKnown v i key) versions → AllByRecursion (IsKnown u i key) versions
  all_known [] h = tt
  all_known (version ∷ versions) h = (known_still version h.0, all_known versions h.1)

  all_stood : (versions : List Version) (changes : List ContentChange) → AllByRecursion (IsKnown v i key) versions → StandWith (u.entries key) versions changes → StandWith (v.entries key) versions changes
  all_stood [] [] h stand = tt
  all_stood [] (c ∷ changes) h stand = stand
  all_stood (version ∷ versions) [] h stand = stand
  all_stood (version ∷ versions) (c ∷ changes) h stand = (stood version c h.0 stand.0, all_stood versions changes h.1 stand.1)

-- an answer stays right
right_origin : (block : Block) (v u : View) (g : Grows v u) (i : ℕ) (key : List ℕ) (value : Content) (o : Origin) → IsRight block v i key value o → IsRight block u i key value o
right_origin block v u g i key value o h = record {
  known = all_known v u g i key (named o) h.known;
  value_is = λ changes stand. h.value_is changes (all_stood v u g i key (named o) changes h.known stand);
}

-- right answers stay right
pub right_all : (block : Block) (v u : View) (g : Grows v u) (i : ℕ) (answers : List StorageAnswer) → AllByRecursion (IsRightAnswer block v i) answers → AllByRecursion (IsRightAnswer block u i) answers
right_all block v u g i [] h = tt
right_all block v u g i (x ∷ xs) h = (right_origin block v u g i x.key x.value x.origin h.0, right_all block v u g i xs h.1)

-- a recorded run stays borne out by right answers
pub borne_still : (block : Block) (v u : View) (g : Grows v u) (i : ℕ) (run : Recorded) → IsBorneOut block v i run → IsBorneOut block u i run
borne_still block v u g i run h = record { answers = h.answers; reads = h.reads; borne_out = h.borne_out; right = right_all block v u g i h.answers h.right }

-- ---- calls that a worker owns

-- a task owns the call whose keys it turns, the call that it runs, and the call that it marks
pub turned_owned : (t : Task) (j : ℕ) → turned_by t ≡ Some j → owned_by t ≡ Some j
turned_owned Idle j h = cc
turned_owned task j h = cc

pub run_owned : (t : Task) (j : ℕ) → run_by t ≡ Some j → owned_by t ≡ Some j
run_owned Idle j h = cc
run_owned task j h = cc

pub marked_owned : (t : Task) (j : ℕ) → marked_by t ≡ Some j → owned_by t ≡ Some j
marked_owned Idle j h = cc
marked_owned task j h = cc

-- a task names the call that it owns
owned_named : (t : Task) (j : ℕ) → owned_by t ≡ Some j → named_by t ≡ Some j
owned_named Idle j h = cc
owned_named task j h = cc

-- a call that a worker owns is EXECUTING, or ABORTING and not parked
pub owned_status : (block : Block) (v : View) → ViewInvariant block v → (w i : ℕ) (t : Task) → v.tasks w ≡ t → owned_by t ≡ Some i → ((v.calls i).status ≡ Executing) ⊎ (((v.calls i).status ≡ Aborting) × ((v.calls i).parked ≡ None))
owned_status block v f w i (Running j answers blocked) at h = inl (f.running w i (ap run_by at ∙ h))
owned_status block v f w i (Moving j keys new) at h = inl (f.running w i (ap run_by at ∙ h))
owned_status block v f w i (Marking j keys) at h =
    let same : j ≡ i = cc in
    let is = f.marking w i keys (at ∙ ap (λ x. Marking x keys) same) in inr (is.aborting, is.unparked)
owned_status block v f w i task at h = cc

-- no worker owns a call that is neither EXECUTING nor ABORTING
pub unowned : (block : Block) (v : View) → ViewInvariant block v → (i : ℕ) → (v.calls i).status ≢ Executing → (v.calls i).status ≢ Aborting → (w : ℕ) → owned_by (v.tasks w) ≢ Some i
unowned block v f i not_executing not_aborting w h = elim (owned_status block v f w i (v.tasks w) refl h) [ inl r ↦ not_executing r | inr r ↦ not_aborting r.0 ]

-- so no worker turns its keys
pub unturned : (block : Block) (v : View) → ViewInvariant block v → (i : ℕ) → (v.calls i).status ≢ Executing → (v.calls i).status ≢ Aborting → IsUnturned v i
unturned block v f i not_executing not_aborting w h = unowned block v f i not_executing not_aborting w (turned_owned (v.tasks w) i h)

-- no worker turns the keys of a call that a worker owns, if that worker's task turns none
pub unturned_run : (block : Block) (v : View) → ViewInvariant block v → (i w : ℕ) → owned_by (v.tasks w) ≡ Some i → turned_by (v.tasks w) ≡ None → IsUnturned v i
unturned_run block v f i w has none x h =
    let one : x ≡ w = f.alone x w i (turned_owned (v.tasks x) i h) has in
    let here : turned_by (v.tasks w) ≡ Some i = ap (λ y. turned_by (v.tasks y)) (sym one) ∙ h in cc

-- no ABORTING call waits for one that is EXECUTED
pub none_waits : (block : Block) (v : View) → ViewInvariant block v → (i : ℕ) → (v.calls i).status ≡ Executed → (j : ℕ) → (v.calls j).status ≡ Aborting → (v.calls j).parked ≢ Some i
none_waits block v f i done j h k = elim (f.aborting j h) [
  | inl wait ↦ let same : Some wait.on ≡ Some i = sym wait.parked ∙ k in let one : wait.on ≡ i = cc in wait.not_done (ap (λ x. (v.calls x).status) one ∙ done)
  | inr marks ↦ elim (owned_status block v f marks.0 j (v.tasks marks.0) refl (marked_owned (v.tasks marks.0) j marks.1)) [ inl runs ↦ cc | inr none ↦ let is = none.1 in cc ]
]

-- `IsMoved` and `IsMarked` still hold if the entries of the call stay the same
moved_same : (c : CallState) (a b : List ℕ → Option Entry) (keys : List (List ℕ)) (new : Bool) → ((key : List ℕ) → b key ≡ a key) → IsMoved c a keys new → IsMoved c b keys new
moved_same c a b keys new same h = record {
  run = h.run;
  below = h.below;
  amid = λ key. subst (λ o. (o ≡ version_of c key) ⊎ ((has_key key keys ≡ true) × IsUnmovedEntry new o)) (sym (same key)) (h.amid key);
  distinct = h.distinct;
  unmoved = λ key left. subst (λ o. IsUnmovedEntry new o) (sym (same key)) (h.unmoved key left);
}

marked_same : (c : CallState) (a b : List ℕ → Option Entry) (keys : List (List ℕ)) → ((key : List ℕ) → b key ≡ a key) → IsMarked c a keys → IsMarked c b keys
marked_same c a b keys same h = record {
  aborting = h.aborting;
  unparked = h.unparked;
  written = h.written;
  amid = λ key. subst (λ o. (o ≡ estimate_of c key) ⊎ ((has_key key keys ≡ true) × IsUnmarkedEntry c.incarnation o)) (sym (same key)) (h.amid key);
}

-- ---- one call and one task change

-- an index stays, is lowered, or passes call i
abbrev pub PassesAtMost : ℕ → ℕ → ℕ → Type 0
PassesAtMost i before after = (after ≤ before) ⊎ ((before ≡ i) × (after ≡ i + 1))

-- a call keeps its incarnation. A version of it that may be gone still may be, and validations of it continue
pub record Keeps (before after : CallState) : Type 0 where
  pub same : before.incarnation ≡ after.incarnation
  pub aborting : before.status ≡ Aborting → after.status ≡ Aborting
  pub checked : (left : ℕ) → IsChecked before left → IsChecked after left

-- `Keeps` holds if a call stays as it is, or if it was neither EXECUTED nor ABORTING and keeps its incarnation
pub keeps_itself : (call : CallState) → Keeps call call
keeps_itself call = record { same = refl; aborting = λ h. h; checked = λ left h. h }

pub keeps_unchecked : (before after : CallState) → before.status ≢ Executed → before.status ≢ Aborting → before.incarnation ≡ after.incarnation → Keeps before after
keeps_unchecked before after not_executed not_aborting same = record {
  same = same;
  aborting = λ h. absurd (not_aborting h);
  checked = λ left h. elim h [ inl q ↦ absurd (not_executed q.0) | inr q ↦ absurd (not_aborting q.0) ];
}

-- other calls keep their entries. A version of call i still stands or may be gone, and one that stands now stood before or is new
pub record EntriesOwe (v : View) (entries : List ℕ → ℕ → Option Entry) (i : ℕ) (c : CallState) : Type 0 where
  pub others : (j : ℕ) (key : List ℕ) → j ≢ i → entries key j ≡ v.entries key j
  pub versions : (key : List ℕ) (n : ℕ) (x : ContentChange) → v.entries key i ≡ Some (Stands n x) → (entries key i ≡ Some (Stands n x)) ⊎ IsPast c n
  pub known : (key : List ℕ) (n : ℕ) (x : ContentChange) → entries key i ≡ Some (Stands n x) → (v.entries key i ≡ Some (Stands n x)) ⊎ IsNew v key i n

-- this holds if all entries of a view stay
pub entries_stay : (v : View) (i : ℕ) (c : CallState) → EntriesOwe v v.entries i c
entries_stay v i c = record { others = λ j key ne. refl; versions = λ key n x h. inl h; known = λ key n x h. inl h }

-- what the task afterwards owes. It is of call i, and it runs the call or moves its keys exactly if c is EXECUTING. Its answers
-- are right, the keys that it turns are on their way, and a validation is of c's incarnation
abbrev pub TaskOwes : Block → View → (List ℕ → ℕ → Option Entry) → ℕ → CallState → Task → Type 0
TaskOwes block v entries i c Idle = c.status ≢ Executing
TaskOwes block v entries i c (Running j answers blocked) = (j ≡ i) × (c.status ≡ Executing) × ((b : ℕ) → blocked ≡ Some b → b < i) × AllByRecursion (IsRightAnswer block v i) answers
TaskOwes block v entries i c (Moving j keys new) = (j ≡ i) × (c.status ≡ Executing) × IsMoved c (λ key. entries key i) keys new
TaskOwes block v entries i c (Validating j n left failed) = (j ≡ i) × (c.status ≢ Executing) × (n ≡ c.incarnation) × IsChecked c left
TaskOwes block v entries i c (Marking j keys) = (j ≡ i) × IsMarked c (λ key. entries key i) keys

-- what c owes by its status, with an execution index and the task afterwards. If c is EXECUTED, no call waits for it. If c is
-- ABORTING, it waits for a lower call or the task marks it
abbrev pub StatusOwes : View → ℕ → ℕ → CallState → Task → Status → Type 0
StatusOwes v execution i c t Ready = (execution ≤ i) × (c.parked ≡ None) × (c.incarnation ≤ incarnation_limit)
StatusOwes v execution i c t Executing = (c.parked ≡ None) × (c.incarnation ≤ incarnation_limit)
StatusOwes v execution i c t Executed = (c.parked ≡ None) × (c.incarnation ≤ incarnation_limit - 1) × ((run : Recorded) × (c.last ≡ Some run)) × ((j : ℕ) → (v.calls j).status ≡ Aborting → (v.calls j).parked ≢ Some i)
StatusOwes v execution i c t Aborting = (c.incarnation ≤ incarnation_limit - 1) × (((b : ℕ) × (c.parked ≡ Some b) × (b < i) × ((v.calls b).status ≢ Executed)) ⊎ (marked_by t ≡ Some i))

-- a call that stays EXECUTED still meets `StatusOwes`, and so does one that stays EXECUTING
pub still_executed : (block : Block) (v : View) → ViewInvariant block v → (i : ℕ) (t : Task) → (v.calls i).status ≡ Executed → StatusOwes v v.execution i (v.calls i) t (v.calls i).status
still_executed block v f i t done = subst (StatusOwes v v.execution i (v.calls i) t) (sym done) (f.unparked i (λ h. cc), f.executed_limit i done, f.executed i done, none_waits block v f i done)

pub still_executing : (block : Block) (v : View) → ViewInvariant block v → (i : ℕ) (t : Task) → (v.calls i).status ≡ Executing → StatusOwes v v.execution i (v.calls i) t (v.calls i).status
still_executing block v f i t runs = subst (StatusOwes v v.execution i (v.calls i) t) (sym runs) (f.unparked i (λ h. cc), f.limit i)

-- call i becomes c and worker w's task becomes t. Only the entries of call i and the indices may change as well
pub record Frame (block : Block) (v u : View) (i w : ℕ) (c : CallState) (t : Task) : Type 0 where
  pub calls : ChangesAt v.calls u.calls i c
  pub tasks : ChangesAt v.tasks u.tasks w t
  pub entries : EntriesOwe v u.entries i c
  pub execution : PassesAtMost i v.execution u.execution
  pub validation : PassesAtMost i v.validation u.validation
  pub within : i < block.count
  -- worker w owned call i, or it owned no call and no worker owned call i
  pub owner : (owned_by (v.tasks w) ≡ Some i) ⊎ ((owned_by (v.tasks w) ≡ None) × ((v.calls i).status ≢ Executing) × ((v.calls i).status ≢ Aborting))
  pub by_task : TaskOwes block v u.entries i c t
  pub by_status : StatusOwes v u.execution i c t c.status
  -- the incarnation grows, or stays the same
  pub grows : ((v.calls i).incarnation < c.incarnation) ⊎ Keeps (v.calls i) c
  -- the entries of call i are those of c, unless the task turns its keys
  pub own_entries : turned_by t ≢ Some i → (key : List ℕ) → u.entries key i ≡ entry_of c key
  pub recorded : (run : Recorded) → c.last ≡ Some run → IsBorneOut block v i run

module _ (block : Block) (v u : View) (i w : ℕ) (c : CallState) (t : Task) (m : Frame block v u i w c t) (f : ViewInvariant block v) where
  -- worker w owned no other call, and no other worker owned call i
  pub had_own : (j : ℕ) → owned_by (v.tasks w) ≡ Some j → j ≡ i
  had_own j h = elim m.owner [ inl has ↦ cc | inr none ↦ let nothing = none.0 in cc ]

  had_alone : (x : ℕ) → owned_by (v.tasks x) ≡ Some i → x ≡ w
  had_alone x h = elim m.owner [ inl has ↦ f.alone x w i h has | inr none ↦ absurd (unowned block v f i none.1 none.2 x h) ]

  -- what the task owes if the task is known, and what c owes if its status is known
  task_owes : {task : Task} → t ≡ task → TaskOwes block v u.entries i c task
  task_owes h = subst (TaskOwes block v u.entries i c) h m.by_task

  status_owes : {status : Status} → c.status ≡ status → StatusOwes v u.execution i c t status
  status_owes h = subst (StatusOwes v u.execution i c t) h m.by_status

  -- the task names no call except i
  names_own : (j : ℕ) → named_by t ≡ Some j → j ≡ i
  names_own = go t m.by_task
    where
      go : (task : Task) → TaskOwes block v u.entries i c task → (j : ℕ) → named_by task ≡ Some j → j ≡ i
      go Idle h j k = cc
      go task h j k = let same = h.0 in cc

  -- the task owns no call except i
  owns_now : (j : ℕ) → owned_by t ≡ Some j → j ≡ i
  owns_now j h = names_own j (owned_named t j h)

  -- if the task runs a call or moves its keys, c is EXECUTING
  runs_now : (j : ℕ) → run_by t ≡ Some j → c.status ≡ Executing
  runs_now = go t m.by_task
    where
      go : (task : Task) → TaskOwes block v u.entries i c task → (j : ℕ) → run_by task ≡ Some j → c.status ≡ Executing
      go (Running x answers blocked) h j k = h.1
      go (Moving x keys new) h j k = h.1
      go task h j k = cc

  -- if c is EXECUTING, the task runs call i or moves its keys
  runs_own : c.status ≡ Executing → run_by t ≡ Some i
  runs_own = go t m.by_task
    where
      go : (task : Task) → TaskOwes block v u.entries i c task → c.status ≡ Executing → run_by task ≡ Some i
      go Idle h is = absurd (h is)
      go (Running x answers blocked) h is = ap Some h.0
      go (Moving x keys new) h is = ap Some h.0
      go (Validating x n left failed) h is = absurd (h.1 is)
      go (Marking x keys) h is = let aborting = h.1.aborting in cc

  -- c is not parked unless it is ABORTING, and its incarnation is at most 65,535
  own_unparked : c.status ≢ Aborting → c.parked ≡ None
  own_unparked = go c.status m.by_status
    where
      go : (status : Status) → StatusOwes v u.execution i c t status → status ≢ Aborting → c.parked ≡ None
      go Ready h ne = h.1
      go Aborting h ne = absurd (ne refl)
      go status h ne = h.0

  own_limit : c.incarnation ≤ incarnation_limit
  own_limit = go c.status m.by_status
    where
      go : (status : Status) → StatusOwes v u.execution i c t status → c.incarnation ≤ incarnation_limit
      go Ready h = h.2
      go Executing h = h.1
      go Executed h = let below = h.1 in omega (arith, below)
      go Aborting h = let below = h.0 in omega (arith, below)

  -- the incarnation of call i does not fall, and a version of it that may be gone still may be
  own_grows : (v.calls i).incarnation ≤ c.incarnation
  own_grows = elim m.grows [ inl more ↦ omega (arith, more) | inr keeps ↦ let same = keeps.same in omega (arith, same) ]

  own_past : (n : ℕ) → IsPast (v.calls i) n → IsPast c n
  own_past n h = elim m.grows [
    | inl more ↦ inl (elim h [ inl old ↦ omega (arith, more, old) | inr q ↦ let at = q.0 in omega (arith, more, at) ])
    | inr keeps ↦ let same = keeps.same in elim h [ inl old ↦ inl (omega (arith, old, same)) | inr q ↦ inr (q.0 ∙ same, keeps.aborting q.1) ]
  ]

  -- validations of call i at c's incarnation continue
  own_current : (x left : ℕ) (failed : Bool) → v.tasks x ≡ Validating i c.incarnation left failed → IsChecked c left
  own_current x left failed h = elim m.grows [
    | inl more ↦ let over = f.validating x i c.incarnation left failed h in absurd (omega (arith, more, over))
    | inr keeps ↦ keeps.checked left (f.current x i left failed (h ∙ ap (λ n. Validating i n left failed) (sym keeps.same)))
  ]

  -- an index stays in range
  index_within : (before after : ℕ) → PassesAtMost i before after → before ≤ block.count → after ≤ block.count
  index_within before after h low = let within = m.within in elim h [ inl less ↦ omega (arith, low, less) | inr q ↦ let next = q.1 in omega (arith, within, next) ]

  -- what holds of c and of each other call as it was holds of each call now; the same for tasks
  moved_calls : (j : ℕ) (P : CallState → Type 0) → (j ≡ i → P c) → (j ≢ i → P (v.calls j)) → P (u.calls j)
  moved_calls = each_at v.calls u.calls i c m.calls

  moved_tasks : (x : ℕ) (P : Task → Type 0) → (x ≡ w → P t) → (x ≢ w → P (v.tasks x)) → P (u.tasks x)
  moved_tasks = each_at v.tasks u.tasks w t m.tasks

  -- ---- each part of the invariant after the move

  -- tasks name calls of the block
  moved_named : (x j : ℕ) → named_by (u.tasks x) ≡ Some j → j < block.count
  moved_named x j = moved_tasks x (λ task. named_by task ≡ Some j → j < block.count) (λ e h. let same = names_own j h in let within = m.within in omega (arith, same, within)) (λ ne. f.named x j)

  -- READY calls are at or above the execution index
  moved_ready : (j : ℕ) → (u.calls j).status ≡ Ready → u.execution ≤ j
  moved_ready j = moved_calls j (λ call. call.status ≡ Ready → u.execution ≤ j)
      (λ e h. let low = (status_owes h).0 in omega (arith, e, low))
      (λ ne h. let low = f.ready j h in elim m.execution [ inl less ↦ omega (arith, low, less) | inr q ↦ let at = q.0 in let next = q.1 in omega (arith, low, at, next, ne) ])

  -- calls that a worker runs are EXECUTING
  moved_running : (x j : ℕ) → run_by (u.tasks x) ≡ Some j → (u.calls j).status ≡ Executing
  moved_running x j = moved_tasks x (λ task. run_by task ≡ Some j → (u.calls j).status ≡ Executing)
      (λ e h. let same : u.calls j ≡ c = ap u.calls (owns_now j (run_owned t j h)) ∙ m.calls.there in ap (λ (call : CallState). call.status) same ∙ runs_now j h)
      (λ ne h. moved_calls j (λ call. call.status ≡ Executing) (λ e. absurd (ne (had_alone x (run_owned (v.tasks x) i (h ∙ ap Some e))))) (λ other. f.running x j h))

  -- no two workers own one call
  moved_alone : (x y j : ℕ) → owned_by (u.tasks x) ≡ Some j → owned_by (u.tasks y) ≡ Some j → x ≡ y
  moved_alone x y j = moved_tasks x (λ task. owned_by task ≡ Some j → owned_by (u.tasks y) ≡ Some j → x ≡ y)
      (λ e h. moved_tasks y (λ task. owned_by task ≡ Some j → x ≡ y) (λ e2 _. e ∙ sym e2) (λ ne k. absurd (ne (had_alone y (k ∙ ap Some (owns_now j h))))))
      (λ ne h. moved_tasks y (λ task. owned_by task ≡ Some j → x ≡ y) (λ e2 k. absurd (ne (had_alone x (h ∙ ap Some (owns_now j k))))) (λ ne2 k. f.alone x y j h k))

  -- a worker that owned a call other than i keeps its task
  keeps_task : (x j : ℕ) → j ≢ i → owned_by (v.tasks x) ≡ Some j → u.tasks x ≡ v.tasks x
  keeps_task x j ne h = elim (cases_eq x w) [
    | inl e ↦ absurd (ne (had_own j (ap (λ y. owned_by (v.tasks y)) (sym e) ∙ h)))
    | inr other ↦ m.tasks.other x other
  ]

  -- some worker runs each EXECUTING call
  moved_executing : (j : ℕ) → (u.calls j).status ≡ Executing → (x : ℕ) × (run_by (u.tasks x) ≡ Some j)
  moved_executing j = moved_calls j (λ call. call.status ≡ Executing → (x : ℕ) × (run_by (u.tasks x) ≡ Some j))
      (λ e h. (w, ap run_by m.tasks.there ∙ runs_own h ∙ ap Some (sym e)))
      (λ ne h. let old = f.executing j h in (old.0, ap run_by (keeps_task old.0 j ne (run_owned (v.tasks old.0) j old.1)) ∙ old.1))

  -- runs are blocked on lower calls
  moved_blocked : (x j b : ℕ) (answers : List StorageAnswer) → u.tasks x ≡ Running j answers (Some b) → b < j
  moved_blocked x j b answers = moved_tasks x (λ task. task ≡ Running j answers (Some b) → b < j) (λ e h. let owes = task_owes h in let same = owes.0 in let low = owes.2 b refl in omega (arith, same, low)) (λ ne h. f.blocked x j b answers h)

  -- calls that waited still wait
  still_waiting : (j : ℕ) → j ≢ i → (v.calls j).status ≡ Aborting → IsWaiting v j → IsWaiting u j
  still_waiting j ne was wait = record {
    on = wait.on;
    parked = ap (λ (call : CallState). call.parked) (m.calls.other j ne) ∙ wait.parked;
    lower = wait.lower;
    not_done = moved_calls wait.on (λ call. call.status ≢ Executed) (λ e done. (status_owes done).3 j was (wait.parked ∙ ap Some e)) (λ _. wait.not_done);
  }

  -- ABORTING calls wait or are marked
  moved_aborting : (j : ℕ) → (u.calls j).status ≡ Aborting → IsWaiting u j ⊎ ((x : ℕ) × (marked_by (u.tasks x) ≡ Some j))
  moved_aborting j h = elim (cases_eq j i) [
    | inl e ↦ let same : u.calls j ≡ c = ap u.calls e ∙ m.calls.there in elim (status_owes (ap (λ (call : CallState). call.status) (sym same) ∙ h)).1 [
      | inl wait ↦ inl (record {
        on = wait.0;
        parked = ap (λ (call : CallState). call.parked) same ∙ wait.1;
        lower = let less = wait.2 in omega (arith, e, less);
        not_done = λ done. wait.3 (ap (λ (call : CallState). call.status) (sym (m.calls.other wait.0 (let less = wait.2 in omega (arith, less)))) ∙ done);
      })
      | inr marks ↦ inr (w, ap marked_by m.tasks.there ∙ marks ∙ ap Some (sym e))
    ]
    | inr ne ↦ let was : (v.calls j).status ≡ Aborting = ap (λ (call : CallState). call.status) (sym (m.calls.other j ne)) ∙ h in elim (f.aborting j was) [
      | inl wait ↦ inl (still_waiting j ne was wait)
      | inr marks ↦ inr (marks.0, ap marked_by (keeps_task marks.0 j ne (marked_owned (v.tasks marks.0) j marks.1)) ∙ marks.1)
    ]
  ]

  -- only ABORTING calls are parked
  moved_unparked : (j : ℕ) → (u.calls j).status ≢ Aborting → (u.calls j).parked ≡ None
  moved_unparked j = moved_calls j (λ call. call.status ≢ Aborting → call.parked ≡ None) (λ e. own_unparked) (λ ne. f.unparked j)

  -- incarnations are at most 65,535
  moved_limit : (j : ℕ) → (u.calls j).incarnation ≤ incarnation_limit
  moved_limit j = moved_calls j (λ call. call.incarnation ≤ incarnation_limit) (λ e. own_limit) (λ ne. f.limit j)

  -- those of EXECUTED calls are at most 65,534
  moved_executed_limit : (j : ℕ) → (u.calls j).status ≡ Executed → (u.calls j).incarnation ≤ incarnation_limit - 1
  moved_executed_limit j = moved_calls j (λ call. call.status ≡ Executed → call.incarnation ≤ incarnation_limit - 1) (λ e h. (status_owes h).1) (λ ne. f.executed_limit j)

  -- those of ABORTING calls are at most 65,534
  moved_aborting_limit : (j : ℕ) → (u.calls j).status ≡ Aborting → (u.calls j).incarnation ≤ incarnation_limit - 1
  moved_aborting_limit j = moved_calls j (λ call. call.status ≡ Aborting → call.incarnation ≤ incarnation_limit - 1) (λ e h. (status_owes h).0) (λ ne. f.aborting_limit j)

  -- if no worker turns another call's keys now, no worker did before
  was_unturned : (j : ℕ) → j ≢ i → IsUnturned u j → IsUnturned v j
  was_unturned j ne free x h = free x (ap turned_by (keeps_task x j ne (turned_owned (v.tasks x) j h)) ∙ h)

  -- entries are those of the calls, if no worker turns their keys
  moved_entries : (j : ℕ) (key : List ℕ) → IsUnturned u j → u.entries key j ≡ entry_of (u.calls j) key
  moved_entries j key free = moved_calls j (λ call. u.entries key j ≡ entry_of call key)
      (λ e. ap (u.entries key) e ∙ m.own_entries (λ h. free w (ap turned_by m.tasks.there ∙ h ∙ ap Some (sym e))) key)
      (λ ne. m.entries.others j key ne ∙ f.entries j key (was_unturned j ne free))

  -- entries of a call whose keys are moved are on their way to versions
  moved_moving : (x j : ℕ) (keys : List (List ℕ)) (new : Bool) → u.tasks x ≡ Moving j keys new → IsMoved (u.calls j) (λ key. u.entries key j) keys new
  moved_moving x j keys new = moved_tasks x (λ task. task ≡ Moving j keys new → IsMoved (u.calls j) (λ key. u.entries key j) keys new)
      (λ e h. let own = task_owes h in
      subst (λ y. IsMoved (u.calls y) (λ key. u.entries key y) keys new) (sym own.0) (subst (λ call. IsMoved call (λ key. u.entries key i) keys new) (sym m.calls.there) own.2))
      (λ ne h. let other : j ≢ i = λ e. ne (had_alone x (ap owned_by h ∙ ap Some e)) in
      subst (λ call. IsMoved call (λ key. u.entries key j) keys new) (sym (m.calls.other j other))
      (moved_same (v.calls j) (λ key. v.entries key j) (λ key. u.entries key j) keys new (λ key. m.entries.others j key other) (f.moving x j keys new h)))

  -- entries of a call whose keys are marked are on their way to estimates
  moved_marking : (x j : ℕ) (keys : List (List ℕ)) → u.tasks x ≡ Marking j keys → IsMarked (u.calls j) (λ key. u.entries key j) keys
  moved_marking x j keys = moved_tasks x (λ task. task ≡ Marking j keys → IsMarked (u.calls j) (λ key. u.entries key j) keys)
      (λ e h. let own = task_owes h in
      subst (λ y. IsMarked (u.calls y) (λ key. u.entries key y) keys) (sym own.0) (subst (λ call. IsMarked call (λ key. u.entries key i) keys) (sym m.calls.there) own.1))
      (λ ne h. let other : j ≢ i = λ e. ne (had_alone x (ap owned_by h ∙ ap Some e)) in
      subst (λ call. IsMarked call (λ key. u.entries key j) keys) (sym (m.calls.other j other))
      (marked_same (v.calls j) (λ key. v.entries key j) (λ key. u.entries key j) keys (λ key. m.entries.others j key other) (f.marking x j keys h)))

  -- incarnations do not fall, and a version still stands or may be gone
  moved_grows : Grows v u
  moved_grows = record {
    incarnations = λ j. moved_calls j (λ call. (v.calls j).incarnation ≤ call.incarnation) (λ e. subst (λ x. (v.calls x).incarnation ≤ c.incarnation) (sym e) own_grows) (λ ne. omega arith);
    past = λ j n h. moved_calls j (λ call. IsPast call n) (λ e. own_past n (subst (λ y. IsPast (v.calls y) n) e h)) (λ ne. h);
    versions = λ key j n x h. moved_calls j (λ call. (u.entries key j ≡ Some (Stands n x)) ⊎ IsPast call n)
        (λ e. subst (λ y. (u.entries key y ≡ Some (Stands n x)) ⊎ IsPast c n) (sym e) (m.entries.versions key n x (ap (v.entries key) (sym e) ∙ h)))
        (λ ne. inl (m.entries.others j key ne ∙ h));
    known = λ key j n x h. elim (cases_eq j i) [
      | inl e ↦ subst (λ y. (v.entries key y ≡ Some (Stands n x)) ⊎ IsNew v key y n) (sym e) (m.entries.known key n x (ap (u.entries key) (sym e) ∙ h))
      | inr ne ↦ inl (sym (m.entries.others j key ne) ∙ h)
    ];
  }

  -- EXECUTED calls have a recorded run
  moved_executed : (j : ℕ) → (u.calls j).status ≡ Executed → (run : Recorded) × ((u.calls j).last ≡ Some run)
  moved_executed j = moved_calls j (λ call. call.status ≡ Executed → (run : Recorded) × (call.last ≡ Some run)) (λ e h. (status_owes h).2) (λ ne. f.executed j)

  -- recorded runs are borne out
  moved_recorded : (j : ℕ) (run : Recorded) → (u.calls j).last ≡ Some run → IsBorneOut block u j run
  moved_recorded j run h = borne_still block v u moved_grows j run
      (moved_calls j (λ call. call.last ≡ Some run → IsBorneOut block v j run) (λ e k. subst (λ x. IsBorneOut block v x run) (sym e) (m.recorded run k)) (λ ne k. f.recorded j run k) h)

  -- answers of runs are right
  moved_answered : (x j : ℕ) (answers : List StorageAnswer) (waits : Option ℕ) → u.tasks x ≡ Running j answers waits → AllByRecursion (IsRightAnswer block u j) answers
  moved_answered x j answers waits h = right_all block v u moved_grows j answers
      (moved_tasks x (λ task. task ≡ Running j answers waits → AllByRecursion (IsRightAnswer block v j) answers) (λ e k. let owes = task_owes k in subst (λ y. AllByRecursion (IsRightAnswer block v y) answers) (sym owes.0) owes.3) (λ ne k. f.answered x j answers waits k) h)

  -- validations are of incarnations that the calls had
  moved_validating : (x j n left : ℕ) (failed : Bool) → u.tasks x ≡ Validating j n left failed → n ≤ (u.calls j).incarnation
  moved_validating x j n left failed = moved_tasks x (λ task. task ≡ Validating j n left failed → n ≤ (u.calls j).incarnation)
      (λ e h. let owes = task_owes h in subst (λ (call : CallState). n ≤ call.incarnation) (sym (ap u.calls owes.0 ∙ m.calls.there)) (let same = owes.2 in omega (arith, same)))
      (λ ne h. let old = f.validating x j n left failed h in let more = moved_grows.incarnations j in omega (arith, old, more))

  -- if a validation is at its call's present incarnation, the call is EXECUTED with enough reads, or ABORTING and not parked
  moved_current : (x j left : ℕ) (failed : Bool) → u.tasks x ≡ Validating j (u.calls j).incarnation left failed → IsChecked (u.calls j) left
  moved_current x j left failed = moved_calls j (λ call. u.tasks x ≡ Validating j call.incarnation left failed → IsChecked call left)
      (λ e. moved_tasks x (λ task. task ≡ Validating j c.incarnation left failed → IsChecked c left)
      (λ e2 h. (task_owes h).3)
      (λ ne h. own_current x left failed (h ∙ ap (λ y. Validating y c.incarnation left failed) e)))
      (λ ne. moved_tasks x (λ task. task ≡ Validating j (v.calls j).incarnation left failed → IsChecked (v.calls j) left)
      (λ e2 h. absurd (ne (task_owes h).0))
      (λ ne2 h. f.current x j left failed h))

  -- all reads are safe, if those of call i and those of the other calls are
  moved_safe : (c.status ≡ Executed → i < u.validation → AreSafe u i) → ((j : ℕ) → j ≢ i → (v.calls j).status ≡ Executed → j < u.validation → AreSafe u j)
      → (j : ℕ) → (u.calls j).status ≡ Executed → j < u.validation → AreSafe u j
  moved_safe own others j = elim (cases_eq j i) [
    | inl e ↦ λ h l. subst (λ x. AreSafe u x) (sym e) (own (ap (λ (call : CallState). call.status) (sym (ap u.calls e ∙ m.calls.there)) ∙ h) (omega (arith, e, l)))
    | inr ne ↦ λ h. others j ne (ap (λ (call : CallState). call.status) (sym (m.calls.other j ne)) ∙ h)
  ]

  -- the invariant is kept, if the reads are safe
  pub frame_kept : (c.status ≡ Executed → i < u.validation → AreSafe u i) → ((j : ℕ) → j ≢ i → (v.calls j).status ≡ Executed → j < u.validation → AreSafe u j) → ViewInvariant block u
  frame_kept own others = record {
    execution_within = index_within v.execution u.execution m.execution f.execution_within;
    validation_within = index_within v.validation u.validation m.validation f.validation_within;
    named = moved_named;
    ready = moved_ready;
    executing = moved_executing;
    running = moved_running;
    alone = moved_alone;
    blocked = moved_blocked;
    aborting = moved_aborting;
    unparked = moved_unparked;
    limit = moved_limit;
    executed_limit = moved_executed_limit;
    aborting_limit = moved_aborting_limit;
    entries = moved_entries;
    moving = moved_moving;
    marking = moved_marking;
    executed = moved_executed;
    recorded = moved_recorded;
    answered = moved_answered;
    validating = moved_validating;
    current = moved_current;
    safe = moved_safe own others;
  }
