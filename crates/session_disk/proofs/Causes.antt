-- Why files are refused, from the calls below to an open.
use Rattle.std.proofs.Common.{ℕ, ◌≤◌, inl, inr, arith}
use Rattle.sqlite_wal.specs.declared.error.Error as log
use Rattle.sqlite_wal.specs.declared.error.Error.TheVariants as wal
use Rattle.sqlite_wal.specs.Files.{IsHuge}
use Rattle.sqlite_wal.specs.Opening.{RefusesLog}
use Rattle.sqlite_wal.specs.Outcome.{HasCause, OnlyIf}
use Rattle.sqlite_wal.specs.Recovery as raw
use Rattle.sqlite_wal.specs.Recovery.{Image, IsLogFor}
use Rattle.sqlite_store.specs.declared.error.OpenError.{OpenError}
use Rattle.sqlite_store.specs.declared.error.OpenError.TheVariants as opening
use Rattle.sqlite_store.specs.Opening.{FailsToOpen}
use Rattle.session_disk.specs.Faults.{probe_fault, store_fault}
use Rattle.session_disk.specs.Opening.{MayOpenFail}
use Rattle.session_disk.specs.declared.fault.OpenFault.{OpenFault}
use Rattle.session_disk.specs.declared.fault.OpenFault.TheVariants.{Busy, HotJournal, Unreadable, NotASession, Full, Memory}

pub from_store : (a b c : ℕ) (L L' P Q : Type 0) (e : OpenError) → a ≤ b → (L → L') → (Q → P) → FailsToOpen b c L P e → MayOpenFail a c L' Q (store_fault e)
from_store a b c L L' P Q opening.OutOfMemory up limit so h = tt
from_store a b c L L' P Q opening.Io up limit so h = omega (arith, h)
from_store a b c L L' P Q opening.Full up limit so h = limit h
from_store a b c L L' P Q opening.Refused up limit so h = λ w. h (so w)

pub wider : (a b c : ℕ) (L L' P Q : Type 0) (e : OpenFault) → a ≤ b → (L → L') → (Q → P) → MayOpenFail b c L P e → MayOpenFail a c L' Q e
wider a b c L L' P Q Memory up limit so h = tt
wider a b c L L' P Q Unreadable up limit so h = omega (arith, h)
wider a b c L L' P Q Full up limit so h = limit h
wider a b c L L' P Q NotASession up limit so h = λ w. h (so w)
wider a b c L L' P Q Busy up limit so h = h
wider a b c L L' P Q HotJournal up limit so h = h

-- why the probe for no database fails
pub blank_cause : (a b size : ℕ) (image : Image) (Wanted : Type 0) (e : log.Error) → HasCause a b (OnlyIf wal.Full (IsLogFor size image.log × IsHuge size image)) e → MayOpenFail a b (IsHuge size image) Wanted (probe_fault e)
blank_cause a b size image Wanted (wal.Io x) cause = cause
blank_cause a b size image Wanted wal.OutOfMemory cause = tt
blank_cause a b size image Wanted wal.Full cause = cause.1.1
blank_cause a b size image Wanted error cause = let e = cause.0 in absurd (cc)

-- why the probe for a first page fails
pub log_cause : (a b size : ℕ) (image : Image) (Wanted : Type 0) (e : log.Error) → HasCause a b (RefusesLog size image.log) e → (Wanted → (k : ℕ) × raw.Replays size image.log k)
    → MayOpenFail a b (IsHuge size image) Wanted (probe_fault e)
log_cause a b size image Wanted (wal.Io x) cause reads = cause
log_cause a b size image Wanted wal.OutOfMemory cause reads = tt
log_cause a b size image Wanted wal.Full cause reads = elim cause [ inl bad ↦ let e = bad.0 in absurd (cc) | inr huge ↦ inl huge.1 ]
log_cause a b size image Wanted wal.Corrupt cause reads = λ w. elim cause [ inl bad ↦ bad.1 (reads w).0 (reads w).1 | inr huge ↦ let e = huge.0 in cc ]
log_cause a b size image Wanted error cause reads = λ w. elim cause [ inl bad ↦ let e = bad.0 in cc | inr huge ↦ let e = huge.0 in cc ]
