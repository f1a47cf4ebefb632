-- A chain of blocks, and one more block.
use Rattle.std.proofs.Common.{◌≡◌, ◌≢◌, ◌<◌, ◌≤◌, ◌⊎◌, ap, length, IfErr, inl, inr, arith, ℕ, List, [], ◌∷◌, ◌++◌, None, Result, Ok, Err, sym, subst, refl, ◌∙◌}
use Rattle.std.specs.Global.{Vec}
use Rattle.rv_ledger.specs.Key.{Storage}
use Rattle.rv_ledger.specs.Call.{Invocation}
use Rattle.rv_ledger.specs.declared.receipt.Receipt.{Receipt}
use Rattle.rv_step.proofs.CallsInOrder.{after_append}
use Rattle.rv_step.specs.Fold.{store_after}
use Rattle.rv_ledger.specs.declared.job.Job.{Job}
use Rattle.stm_state.specs.Steps as steps
use Rattle.workers.specs.History.{HasLimit, HasStepLimit}
use Rattle.workers.specs.declared.chain.ChainFault.{ChainFault}
use Rattle.workers.specs.declared.chain.ChainFault.TheVariants.{Run}
use Rattle.workers.specs.declared.fault.RunFault.{RunFault}
use Rattle.workers.specs.declared.fault.RunFault.TheVariants as faults
use Rattle.workers.specs.Chain.{IsBlockAnswer, IsChain, calls_run, store_left}

-- no block leaves the storage
pub no_blocks : (store : Storage) → IsChain store [] [] store
unfolding IsChain
no_blocks store = refl

run_is : (a b : RunFault) → Run a ≡ Run b → a ≡ b
run_is a b e = cc

-- the answer to a block whose run was refused
pub refused_block : {X : Type 0} (job : Job) (workers : ℕ) (answer : Result X RunFault) (fault : RunFault) → answer ≡ Err fault → length job.block ≤ 1024 → 1 ≤ workers → workers ≤ 32
    → ((answer ≡ Err faults.BadCount) → (workers ≡ 0) ⊎ (32 < workers)) → IfErr answer (λ e. e ≡ faults.ArenaFull → HasLimit job workers steps.ArenaFull)
    → IfErr answer (λ e. e ≡ faults.IncarnationLimit → HasLimit job workers steps.IncarnationLimit) → IfErr answer (λ e. e ≡ faults.StepLimit → HasStepLimit job workers None)
    → IsBlockAnswer job.store job.block workers (Err (Run fault))
refused_block {X} job workers answer fault is short some few bad_count full limit step_limit =
    let not_bad : fault ≢ faults.BadCount = λ e. elim (bad_count (is ∙ ap Err e)) [ inl none ↦ omega (arith, none, some) | inr many ↦ omega (arith, many, few) ] in (
      ((λ e. cc), (λ long. absurd (omega (arith, short, long)))),
      ((λ e. absurd (not_bad (run_is fault faults.BadCount e))), (λ bad. absurd (elim bad.1 [ inl none ↦ omega (arith, none, some) | inr many ↦ omega (arith, many, few) ]))),
      (λ e. subst (λ (r : Result X RunFault). IfErr r (λ f. f ≡ faults.ArenaFull → HasLimit job workers steps.ArenaFull)) is full (run_is fault faults.ArenaFull e)),
      (λ e. subst (λ (r : Result X RunFault). IfErr r (λ f. f ≡ faults.IncarnationLimit → HasLimit job workers steps.IncarnationLimit)) is limit (run_is fault faults.IncarnationLimit e)),
      (λ e. subst (λ (r : Result X RunFault). IfErr r (λ f. f ≡ faults.StepLimit → HasStepLimit job workers None)) is step_limit (run_is fault faults.StepLimit e)),
    )

-- blocks after blocks
chain_append : (blocks more : List (Vec Invocation × ℕ)) (answers others : List (Result (Vec Receipt) ChainFault)) (store middle last : Storage)
    → IsChain store blocks answers middle → IsChain middle more others last → IsChain store (blocks ++ more) (answers ++ others) last
unfolding IsChain
chain_append [] more [] others store middle last first then = subst (λ (s : Storage). IsChain s more others last) first then
chain_append [] more (answer ∷ answers) others store middle last first then = absurd first
chain_append (block ∷ blocks) more [] others store middle last first then = absurd first
chain_append (block ∷ blocks) more (answer ∷ answers) others store middle last first then =
    (first.0, chain_append blocks more answers others (store_left store block.0.items answer) middle last first.1 then)

-- one block more
pub one_block_more : (blocks : List (Vec Invocation × ℕ)) (answers : List (Result (Vec Receipt) ChainFault)) (store middle last : Storage) (calls : Vec Invocation) (workers : ℕ)
    (answer : Result (Vec Receipt) ChainFault) → IsChain store blocks answers middle → IsBlockAnswer middle calls.items workers answer
    → last ≡ store_left middle calls.items answer → IsChain store (blocks ++ (calls, workers) ∷ []) (answers ++ answer ∷ []) last
unfolding IsChain
one_block_more blocks answers store middle last calls workers answer first fits left =
    chain_append blocks ((calls, workers) ∷ []) answers (answer ∷ []) store middle last first (fits, left)

-- the last storage is the one after all calls of the blocks answered Ok
pub chain_store : (blocks : List (Vec Invocation × ℕ)) (answers : List (Result (Vec Receipt) ChainFault)) (store last : Storage)
    → IsChain store blocks answers last → last ≡ store_after (calls_run blocks answers) store
unfolding IsChain calls_run store_after
chain_store [] [] store last chain = chain
chain_store [] (answer ∷ answers) store last chain = absurd chain
chain_store (block ∷ blocks) [] store last chain = absurd chain
chain_store (block ∷ blocks) (Ok receipts ∷ answers) store last chain =
    chain_store blocks answers (store_after block.0.items store) last chain.1 ∙ sym (after_append block.0.items (calls_run blocks answers) store)
chain_store (block ∷ blocks) (Err fault ∷ answers) store last chain = chain_store blocks answers store last chain.1
