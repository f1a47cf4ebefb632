-- What is written of the conflicts of a job.
use Rattle.std.proofs.Common.{◌≡◌, ℕ, List, length, ap, ◌∙◌}
use Rattle.conflicts.specs.Paths.{ArePaths}
use Rattle.conflicts.specs.ByKey.{CallByKey, calls_by_key}
use Rattle.conflicts.specs.Sums.{HotKeyView, keys_of_calls}
use Rattle.conflicts.specs.Text.{conflicts_text}
use Rattle.conflicts.specs.Waits.{calls_of}
use Rattle.rv_ledger.specs.declared.job.Job.{Job}
use Rattle.engines.specs.Conflicts.{IsConflictsText}

-- the text of what was found is that of the job
pub is_text : (job : Job) (calls : List CallByKey) (paths : List ℕ) (keys : List HotKeyView) → calls ≡ calls_by_key job.block job.store → ArePaths (calls_of job.block job.store) paths → length paths ≡ length job.block → keys ≡ keys_of_calls job.block job.store → IsConflictsText job (conflicts_text calls paths keys)
is_text job calls paths keys calls_are are_paths count keys_are = record {
  paths = paths;
  are_paths = are_paths;
  count = count;
  is = ap (λ (l : List CallByKey). conflicts_text l paths keys) calls_are ∙ ap (λ (l : List HotKeyView). conflicts_text (calls_by_key job.block job.store) paths l) keys_are;
}
