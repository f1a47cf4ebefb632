-- What is removed of a log that an open made.
use Rattle.std.proofs.Common.{ℕ, Bool, true, false, if◌then◌else◌, List, [], Option, Some, None, inl, inr, sym, ap, subst}
use Rattle.std.proofs.lemmas.List.{append-nil}
use Rattle.session_disk.specs.Logs.{FolderView, IsLogBeside, Removes, RemovesOwn, paths_of}
use Rattle.session_disk.specs.declared.new_log.NewLog.{NewLog}

pub removes_none : (v : Option FolderView) → Removes v v []
removes_none None = tt
removes_none (Some old) = ap (λ (l : List (List ℕ)). record old { removed = l }) (sym (append-nil old.removed))

-- what a refused open removes is its own
pub removes_own : (before after : Option FolderView) (path : List ℕ) (log : NewLog) (is_idle : Bool) → IsLogBeside before path log → Removes before after (if is_idle then paths_of log.path else []) → RemovesOwn before after path
removes_own None after path log is_idle beside removes = tt
removes_own (Some old) after path log false beside removes = inl removes
removes_own (Some old) after path log true (inl (free, is)) removes = inr (free, subst (λ (paths : List (List ℕ)). Removes (Some old) after paths) is removes)
removes_own (Some old) after path log true (inr (there, none)) removes = inl (subst (λ (paths : List (List ℕ)). Removes (Some old) after paths) (ap paths_of none) removes)
