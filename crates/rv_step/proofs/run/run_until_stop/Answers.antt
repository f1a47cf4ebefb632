use Rattle.std.proofs.Common.{Ok, Err}
use Rattle.std.proofs.lemmas.Result.{err_from_is_err_and}
use Rattle.rv_step.proofs.Stops.{ecall_stops, end_stops, refused_stops}
use Rattle.rv_step.proofs.run.run_until_stop.Goals as goal

pub returns-in_err-execute_until_stop : goal.returns-in_err-execute_until_stop
returns-in_err-execute_until_stop c =
    let refused = err_from_is_err_and c.from_residual.result c.from_residual.ensures.1 in
    rw (refused.1, c.requires.running) (refused_stops _ _ _ c.in_err-execute_until_stop.ensures.did)

pub returns-in_err-execute_ecall-in-StorageCall : goal.returns-in_err-execute_ecall-in-StorageCall
returns-in_err-execute_ecall-in-StorageCall c =
    let refused = err_from_is_err_and c.from_residual-in_err-execute_ecall-in-StorageCall.result c.from_residual-in_err-execute_ecall-in-StorageCall.ensures.1 in
    rw refused.1
    (ecall_stops _ _ _ (rw c.in-StorageCall.is at c.in_ok-execute_until_stop.ensures.did) (Err _) _ c.in_err-execute_ecall-in-StorageCall.ensures)

pub returns-in_ok-execute_ecall-in-StorageCall : goal.returns-in_ok-execute_ecall-in-StorageCall
returns-in_ok-execute_ecall-in-StorageCall c =
    ecall_stops _ _ _ (rw c.in-StorageCall.is at c.in_ok-execute_until_stop.ensures.did) (Ok tt) _ c.in_ok-execute_ecall-in-StorageCall.ensures

pub returns-in-End : goal.returns-in-End
returns-in-End c = rw c.end_with.ensures (end_stops _ _ _ (rw c.in-End.is at c.in_ok-execute_until_stop.ensures.did))
