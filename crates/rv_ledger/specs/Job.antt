-- A job: a block and the storage that it starts from.
use Rattle.std.specs.Prelude.{List, Result, Ok, Err, nat_lt, length, if◌then◌else◌}
use Rattle.rv_ledger.specs.Key.{Storage}
use Rattle.rv_ledger.specs.Call.{Invocation}
use Rattle.rv_ledger.specs.declared.job.Job.{Job}
use Rattle.rv_ledger.specs.declared.job.JobFault.{JobFault}
use Rattle.rv_ledger.specs.declared.job.JobFault.TheVariants.{TooManyCalls}

-- the job of some calls and a storage; TooManyCalls if there are more than 1,024 calls
abbrev pub job_of : List Invocation → Storage → Result Job JobFault
job_of calls store = if nat_lt 1024 (length calls) then Err TooManyCalls else Ok (record { block = calls; store = store })
