-- What a handle owns may go to another thread if what it holds may.
use base.Fraction.{full_share}
use base.Shift.{Keyless}
use mir.Raw.{raw}
use denote.Exit.{Exit, hidden, leaves, unchanged, under}
use denote.Memory.{lone}
use denote.RattleType.{RattleType}
use denote.RawPtr.{Ptr, block_ptr, lies_at, null_ptr}
use denote.Param.Send.{IsSend, Quiet, part_keyless}
use Rattle.std.specs.Prelude.{Option, Some, None}
use Rattle.std.proofs.Crossing as crossing
use Rattle.rvstm_c.specs.Held.{heap, held, on_heap}

-- a value that lies at a pointer
lies : (R : RattleType) → IsSend R → (p : Ptr) (x : R.Denot) → Keyless (lies_at R full_share p x)
lies R sent (block_ptr b o) x = part_keyless R sent full_share x b o
lies R sent null_ptr x = tt

-- a handle's end, by that of its fields
pub quiet : {D X : Type 0} (to : D → X) (e : Exit X) → Quiet e → Quiet (hidden (under to e))
quiet to unchanged q = λ x w. tt
quiet to (leaves L l S s r₀) q = λ d. q (to d)

pub held_keyless : (R : RattleType) → IsSend R → (p : Ptr) (value : Option R.Denot) → Keyless (held on_heap R p value)
held_keyless R sent p None = tt
held_keyless R sent p (Some x) = (lies R sent p x, crossing.frees.frees heap (raw (lone R.mir)) p)
