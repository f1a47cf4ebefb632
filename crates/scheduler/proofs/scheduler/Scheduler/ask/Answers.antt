use Rattle.std.proofs.Common.{◌≡◌, nat_lt, true, false, length, sym, ap, ◌∙◌}
use Rattle.stm_state.specs.State.{is_done}
use Rattle.stm_state.specs.Steps.{ask_execution, ask_validation, counted, one_asking, count_done}
use Rattle.scheduler.specs.Schedule.{Schedule, state_of}
use Rattle.scheduler.proofs.Cases.{asked_done, asked_validation, asked_execution, asked_nothing}
use Rattle.scheduler.proofs.Counted.{done_counted, counted_validation, counted_execution}
use Rattle.scheduler.proofs.scheduler.Scheduler.ask.Goals as goal

pub returns-then-done-clause-state : goal.returns-then-done-clause-state
returns-then-done-clause-state c = λ v p.
    let s = state_of v p c.args.self.now in
    let done : is_done s ≡ true = sym (done_counted one_asking c.args.worker s) ∙ ap (λ (t : Schedule). is_done (state_of v p t)) (sym c.count_asking.ensures) ∙ sym (c.done.ensures v p) ∙ c.if-done.true in
    ap (state_of v p) c.count_done.ensures
    ∙ ap (λ (t : Schedule). count_done c.args.worker (state_of v p t)) c.count_asking.ensures
    ∙ ap (counted one_asking c.args.worker) (asked_done c.args.worker s done)

pub returns-then-is_validation_behind-clause-state : goal.returns-then-is_validation_behind-clause-state
returns-then-is_validation_behind-clause-state c = λ v p.
    let s = state_of v p c.args.self.now in
    let done : is_done s ≡ false = sym (done_counted one_asking c.args.worker s) ∙ ap (λ (t : Schedule). is_done (state_of v p t)) (sym c.count_asking.ensures) ∙ sym (c.done.ensures v p) ∙ c.if-done.false in
    let behind : nat_lt s.validation s.execution ≡ true = ap (λ (t : Schedule). nat_lt t.validation t.execution) (sym c.count_asking.ensures) ∙ sym c.is_validation_behind.ensures ∙ c.if-is_validation_behind.true in
    c.ask_validation.ensures.state v p
    ∙ ap (λ (t : Schedule). ask_validation c.args.worker (state_of v p t)) c.count_asking.ensures
    ∙ counted_validation one_asking c.args.worker s
    ∙ ap (counted one_asking c.args.worker) (asked_validation c.args.worker s done behind)

pub returns-then-is_execution_behind-clause-state : goal.returns-then-is_execution_behind-clause-state
returns-then-is_execution_behind-clause-state c = λ v p.
    let s = state_of v p c.args.self.now in
    let done : is_done s ≡ false = sym (done_counted one_asking c.args.worker s) ∙ ap (λ (t : Schedule). is_done (state_of v p t)) (sym c.count_asking.ensures) ∙ sym (c.done.ensures v p) ∙ c.if-done.false in
    let behind : nat_lt s.validation s.execution ≡ false = ap (λ (t : Schedule). nat_lt t.validation t.execution) (sym c.count_asking.ensures) ∙ sym c.is_validation_behind.ensures ∙ c.if-is_validation_behind.false in
    let more : nat_lt s.execution (length s.calls) ≡ true = ap (λ (t : Schedule). nat_lt t.execution (length t.calls)) (sym c.count_asking.ensures) ∙ sym c.is_execution_behind.ensures ∙ c.if-is_execution_behind.true in
    c.ask_execution.ensures.state v p
    ∙ ap (λ (t : Schedule). ask_execution c.args.worker (state_of v p t)) c.count_asking.ensures
    ∙ counted_execution one_asking c.args.worker s
    ∙ ap (counted one_asking c.args.worker) (asked_execution c.args.worker s done behind more)

pub returns-else-is_execution_behind-clause-state : goal.returns-else-is_execution_behind-clause-state
returns-else-is_execution_behind-clause-state c = λ v p.
    let s = state_of v p c.args.self.now in
    let done : is_done s ≡ false = sym (done_counted one_asking c.args.worker s) ∙ ap (λ (t : Schedule). is_done (state_of v p t)) (sym c.count_asking.ensures) ∙ sym (c.done.ensures v p) ∙ c.if-done.false in
    let behind : nat_lt s.validation s.execution ≡ false = ap (λ (t : Schedule). nat_lt t.validation t.execution) (sym c.count_asking.ensures) ∙ sym c.is_validation_behind.ensures ∙ c.if-is_validation_behind.false in
    let more : nat_lt s.execution (length s.calls) ≡ false = ap (λ (t : Schedule). nat_lt t.execution (length t.calls)) (sym c.count_asking.ensures) ∙ sym c.is_execution_behind.ensures ∙ c.if-is_execution_behind.false in
    ap (state_of v p) c.count_asking.ensures
    ∙ ap (counted one_asking c.args.worker) (asked_nothing c.args.worker s done behind more)
