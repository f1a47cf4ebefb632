-- Private help of proofs; no public clause cites it. The greatest path of the calls that are waited for.
use Rattle.std.specs.Prelude.{ℕ, nat_lt, if◌then◌else◌, List, fold}
use Rattle.std.specs.List.{slice_get}
use Rattle.std.specs.Option.{unwrap_or}
use Rattle.conflicts.specs.Waits.{Wait}

abbrev pub greater : ℕ → ℕ → ℕ
greater a b = if nat_lt a b then b else a

abbrev pub path_at : List ℕ → ℕ → ℕ
path_at paths i = unwrap_or (slice_get paths i) 0

abbrev pub greatest_from : List ℕ → ℕ → List Wait → ℕ
greatest_from paths least waits = fold (λ g wait. greater g (path_at paths wait.writer)) least waits
