use Rattle.receipts.proofs.Buffers.{appended_then}
use Rattle.conflicts.proofs.text.push_conflicts.Goals as goal

pub returns : goal.returns
returns g c =
    rw (c.gas_of_all.ensures, c.greatest_path.ensures, c.as_slice-calls.ensures.value, c.as_slice-paths.ensures.value, c.as_slice-keys.ensures.value) at
    (appended_then (appended_then (appended_then c.push_all_writers.ensures c.push_calls.ensures) c.push_hot_keys.ensures) c.push_sums.ensures)
