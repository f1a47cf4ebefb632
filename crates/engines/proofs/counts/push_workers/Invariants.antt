use Rattle.std.proofs.Common.{◌≡◌, ◌++◌, drop}
use Rattle.std.specs.String.{string_bytes}
use Rattle.engines.specs.Counts.{worker_lines}
use Rattle.engines.proofs.counts.push_workers.Given as goal

-- the text so far, and the lines of the workers that are left, make the text
abbrev pub invariant-loop-worker : goal.invariant-loop-worker
invariant-loop-worker l =
    string_bytes l.text ++ worker_lines l.worker (drop l.worker l.counts)
    ≡ string_bytes l.fn.text ++ worker_lines 0 l.counts
