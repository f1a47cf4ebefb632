-- What the run of one call asks the storage for.
use Rattle.std.specs.Prelude.{ℕ, List, [], Option, Some, None}
use Rattle.rv_ledger.specs.Call.{Invocation}
use Rattle.rv_step.specs.declared.run.Pause.{Pause}
use Rattle.rv_step.specs.declared.run.Pause.TheVariants as pause
use Rattle.rv_step.specs.Step.{Progress, Going, StepResult, Leads, Asks, step}
use Rattle.rv_step.specs.Moment.{Reply, moment_with}
use Rattle.rv_step.specs.Chain.{enough_steps}

-- the key that a step asks for
abbrev pub key_of : StepResult → Option (List ℕ)
key_of (Asks key) = Some key
key_of (Leads progress) = None

-- the key that a call asks for at this moment, if no reply is left
abbrev pub key_asked : Progress × List Reply → Option (List ℕ)
key_asked (Going s, []) = key_of (step s)
key_asked _ = None

-- the key that a call asks for after these replies. None if it has ended with them or before them, and if one of them is to
-- another key than the one that the call asks for at that point
abbrev pub asked_by : Invocation → List Reply → Option (List ℕ)
asked_by call replies = key_asked (moment_with call replies (enough_steps call))

-- the key that a stopped run asks for; None if it has ended
abbrev pub asked_of : Pause → Option (List ℕ)
asked_of (pause.Ask key) = Some key
asked_of pause.Ended = None
