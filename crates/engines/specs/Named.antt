-- A file by its path, which is opened when it is first read. Private help of proofs; no public clause cites it.
use Rattle.std.specs.Prelude.{◌≡◌, ℕ, List, Option, Some, None}

-- the bytes that are left: of the open file, or those at its path if it is not open yet
abbrev pub bytes_left : {F : Type 0} → (F → Option (List ℕ)) → Option (List ℕ) → Option F → Option (List ℕ)
bytes_left remaining content None = content
bytes_left remaining content (Some file) = remaining file

-- a read may fail: one of the open file may, or, if it is not open yet, what is at its path is not known
abbrev pub may_fail_of : {F : Type 0} → (F → Type 0) → Option (List ℕ) → Option F → Type 0
may_fail_of may_fail content None = content ≡ None
may_fail_of may_fail content (Some file) = may_fail file
