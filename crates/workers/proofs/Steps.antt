-- What a worker's step leaves of its share, and why the worker ends.
use Rattle.std.proofs.Common.{◌≡◌, Option, ℕ, List, Result, Ok, Err, IfOk, IfErr, OnOk, Some, inl, inr, refl, sym, ap, subst, ◌∙◌}
use Rattle.std.specs.Bool.{⊤}
use Rattle.rv_ledger.specs.declared.job.Job.{Job}
use Rattle.rv_step.specs.declared.ended_run.EndedRun.{EndedRun}
use Rattle.stm_state.specs.State.{task_at}
use Rattle.stm_state.specs.Steps.{Ask, ReadKey, Record}
use Rattle.stm_core.specs.CoreState.{IsOwn, IsTaken, next_step_of, step_of}
use Rattle.stm_core.specs.declared.next_step.NextStep.{NextStep}
use Rattle.stm_core.specs.declared.next_step.NextStep.TheVariants as next_step
use Rattle.stm_core.specs.declared.next_step.ReadResult.{ReadResult}
use Rattle.stm_core.specs.declared.next_step.StepKind.{StepKind}
use Rattle.workers.specs.declared.book.asked.Asked.{Asked}
use Rattle.workers.specs.declared.book.asked.Asked.TheVariants as asks
use Rattle.workers.specs.declared.book.share.Share.{Share}
use Rattle.workers.specs.declared.fault.RunFault.{RunFault}
use Rattle.workers.specs.declared.worker.ended.WorkFault.{WorkFault}
use Rattle.workers.specs.Book.{BookState, IsAsked, IsCause, IsMade, LeavesWritten, Owes, owed_by}
use Rattle.workers.specs.Work.{IsAskAnswer, IsBookOf, IsLeftShare, IsMakeAnswer, IsNext, IsReadAnswer, IsRecordAnswer, IsRefusedBy, IsStepAnswer, IsStepFault, IsWorkersEnd, Looks, Steps, after_step, asks_first, dones_by, run_fault_of}
use Rattle.workers.proofs.Askings.{no_asking}
use Rattle.workers.proofs.Limits.{asking_made, step_made}

-- ---- a call that is answered, by its clauses

-- an asking
pub is_ask_answer : (job : Job) (limit : Option ℕ) (before after : BookState) (share counted : Share) (result : Result Asked RunFault) → IsBookOf job limit before
    → OnOk result (IsMade next_step.Ask Ask before after share counted) → IfOk result (λ asked. IsAsked asked before.core after.core share counted)
    → IfErr result (λ e. LeavesWritten e before after share counted) → IfErr result (λ e. IsCause next_step.Ask share ⊤ ⊥ Ask before e)
    → IsAskAnswer job limit share counted result
is_ask_answer job limit before after share counted (Ok asked) of made is left cause = (before, after, of, (made, is))
is_ask_answer job limit before after share counted (Err fault) of made is left cause = (before, after, of, (left, cause))

-- a record
pub is_record_answer : (job : Job) (limit : Option ℕ) (call n : ℕ) (run : EndedRun) (before after : BookState) (share counted : Share) (result : Result NextStep RunFault) → IsBookOf job limit before
    → OnOk result (IsMade (next_step.Run call n) Record before after share counted)
    → IfOk result (λ next. next ≡ next_step_of after.core.state (task_at after.core.state counted.worker)) → OnOk result (counted.dones ≡ share.dones)
    → IfErr result (λ e. LeavesWritten e before after share counted)
    → IfErr result (λ e. IsCause (next_step.Run call n) share (IsOwn share.worker run before.core) (IsTaken share.worker Record before.core) Record before e)
    → IsRecordAnswer job limit call n share counted result
is_record_answer job limit call n run before after share counted (Ok next) of made is dones left cause = (run, before, after, of, (made, (is, dones)))
is_record_answer job limit call n run before after share counted (Err fault) of made is dones left cause = (run, before, after, of, (left, cause))

-- ---- what an answer leaves of the share

-- a call that is refused leaves it
refused_same : (fault : RunFault) (before after : BookState) (share left : Share) → LeavesWritten fault before after share left → left.worker ≡ share.worker
refused_same fault before after share left h = ap (λ (x : Share). x.worker) h.kept

pub make_leaves : (job : Job) (limit : Option ℕ) (kind : StepKind) (call n : ℕ) (share left : Share) (answer : Result NextStep RunFault) → IsMakeAnswer job limit kind call n share left answer → Steps limit share left answer
make_leaves job limit kind call n share left (Ok next) h = record {
  worker = h.3.0.worker;
  dones = h.3.1.1;
  keeps = λ _. step_made job limit h.0 h.1 share left h.2 (next_step.Make kind call n) (step_of kind) (no_asking kind) h.3.0 h.3.0.may.0;
}
make_leaves job limit kind call n share left (Err fault) h = refused_same fault h.0 h.1 share left h.3.0

pub read_leaves : (job : Job) (limit : Option ℕ) (key : List ℕ) (call n : ℕ) (share left : Share) (answer : Result ReadResult RunFault) → IsReadAnswer job limit key call n share left answer → Steps limit share left answer
read_leaves job limit key call n share left (Ok read) h = record {
  worker = h.3.0.worker;
  dones = h.3.1.1;
  keeps = λ _. step_made job limit h.0 h.1 share left h.2 (next_step.Run call n) (ReadKey key) (λ e. cc) h.3.0 h.3.0.may.0;
}
read_leaves job limit key call n share left (Err fault) h = refused_same fault h.0 h.1 share left h.3.0

pub record_leaves : (job : Job) (limit : Option ℕ) (call n : ℕ) (share left : Share) (answer : Result NextStep RunFault) → IsRecordAnswer job limit call n share left answer → Steps limit share left answer
record_leaves job limit call n share left (Ok next) h = record {
  worker = h.4.0.worker;
  dones = h.4.1.1;
  keeps = λ _. step_made job limit h.1 h.2 share left h.3 (next_step.Run call n) Record (λ e. cc) h.4.0 h.4.0.may.0;
}
record_leaves job limit call n share left (Err fault) h = refused_same fault h.1 h.2 share left h.4.0

asked_dones : (job : Job) (limit : Option ℕ) (share left : Share) (asked : Asked) → IsAskAnswer job limit share left (Ok asked) → left.dones ≡ dones_by share.dones (owed_by asked)
asked_dones job limit share left (asks.Done all) h = h.3.1.2
asked_dones job limit share left (asks.Owes next) h = h.3.1.1

ask_leaves : (job : Job) (limit : Option ℕ) (share left : Share) (asked : Asked) → IsAskAnswer job limit share left (Ok asked) → IsLeftShare limit (dones_by share.dones (owed_by asked)) share left
ask_leaves job limit share left asked h = record {
  worker = h.3.0.worker;
  dones = asked_dones job limit share left asked h;
  keeps = asking_made job limit h.0 h.1 share left h.2 _ h.3.0;
}

-- ---- an ask between two looks at the cell

look_kept : (limit : Option ℕ) (share left : Share) → Looks share left → IsLeftShare limit share.dones share left
look_kept limit share left h = subst (λ (x : Share). IsLeftShare limit share.dones share x) (sym h) (record { worker = refl; dones = refl; keeps = λ kept. kept })

kept_after : (limit : Option ℕ) (n : ℕ) (share mid left : Share) → IsLeftShare limit share.dones share mid → IsLeftShare limit n mid left → IsLeftShare limit n share left
kept_after limit n share mid left before after = record {
  worker = after.worker ∙ before.worker;
  dones = after.dones;
  keeps = λ kept. after.keeps (before.keeps kept);
}

module _ (job : Job) (limit : Option ℕ) (share asking told left : Share) (asked : Asked) (before : Looks share asking) (h : IsAskAnswer job limit asking told (Ok asked)) (after : Looks told left) where
  pub asking_leaves : IsLeftShare limit (dones_by share.dones (owed_by asked)) share left
  asking_leaves =
      let n = dones_by asking.dones (owed_by asked) in
      let first = look_kept limit share asking before in
      let last : IsLeftShare limit told.dones told left = look_kept limit told left after in
      let step = ask_leaves job limit asking told asked h in
      let both : IsLeftShare limit n asking left = record {
        worker = last.worker ∙ step.worker;
        dones = last.dones ∙ step.dones;
        keeps = λ kept. last.keeps (step.keeps kept);
      } in
      subst (λ (d : ℕ). IsLeftShare limit (dones_by d (owed_by asked)) share left) first.dones (kept_after limit n share asking left first both)

-- ---- a call that is refused

pub ask_refused : (job : Job) (limit : Option ℕ) (share left : Share) (fault : RunFault) → IsAskAnswer job limit share left (Err fault) → IsRefusedBy job limit next_step.Ask left fault
ask_refused job limit share left fault h = subst (λ (x : Share). IsAskAnswer job limit x left (Err fault)) (sym h.3.0.kept) h

pub make_refused : (job : Job) (limit : Option ℕ) (kind : StepKind) (call n : ℕ) (share left : Share) (fault : RunFault) → IsMakeAnswer job limit kind call n share left (Err fault)
    → IsRefusedBy job limit (next_step.Make kind call n) left fault
make_refused job limit kind call n share left fault h = subst (λ (x : Share). IsMakeAnswer job limit kind call n x left (Err fault)) (sym h.3.0.kept) h

pub read_refused : (job : Job) (limit : Option ℕ) (key : List ℕ) (call n : ℕ) (share left : Share) (fault : RunFault) → IsReadAnswer job limit key call n share left (Err fault)
    → IsRefusedBy job limit (next_step.Run call n) left fault
read_refused job limit key call n share left fault h = inl (key, subst (λ (x : Share). IsReadAnswer job limit key call n x left (Err fault)) (sym h.3.0.kept) h)

pub record_refused : (job : Job) (limit : Option ℕ) (call n : ℕ) (share left : Share) (fault : RunFault) → IsRecordAnswer job limit call n share left (Err fault)
    → IsRefusedBy job limit (next_step.Run call n) left fault
record_refused job limit call n share left fault h = inr (subst (λ (x : Share). IsRecordAnswer job limit call n x left (Err fault)) (sym h.4.0.kept) h)

-- ---- the steps of a worker, and how it ends

pub first_step : (job : Job) (limit : Option ℕ) (first : Share) → IsNext job limit first first next_step.Ask
first_step job limit first = asks_first

pub step_after : (job : Job) (limit : Option ℕ) (first share counted : Share) (step next : NextStep) → IsNext job limit first share step → IsStepAnswer job limit step share counted (Some next) → IsNext job limit first counted next
step_after job limit first share counted step next before answer = after_step before answer

pub workers_end : (job : Job) (limit : Option ℕ) (first before left : Share) (step : NextStep) (met : WorkFault) → IsNext job limit first before step → before.worker ≡ first.worker → left.worker ≡ before.worker
    → IsStepFault job limit step left met → IsWorkersEnd job limit first (run_fault_of met)
workers_end job limit first before left step met next was stays ends = record {
  step = step;
  before = before;
  next = next;
  left = left;
  worker = stays ∙ was;
  met = met;
  is = refl;
  ends = ends;
}
