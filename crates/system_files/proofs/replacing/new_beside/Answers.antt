use Rattle.std.proofs.Common.{◌≡◌, sym, subst}
use Rattle.std.specs.String.{string_bytes}
use Rattle.system_files.specs.Entries.{IsBeside, KeepsBut}
use Rattle.system_files.specs.Orders.{Follow, MakesLast, Clears}
use Rattle.system_files.proofs.OrderLists.{cleared_then, is_beside, kept_then, then_made}
use Rattle.system_files.proofs.replacing.new_beside.Goals.{then-ne+in-Err, else-ne}
use Rattle.system_files.proofs.replacing.new_beside.Goals as goal

pub loop-number-preserved : goal.loop-number-preserved
loop-number-preserved g c = elim c.if-ne.branch [
  | then-ne+in-Err w ↦ record {
    others = subst (λ d. KeepsBut (IsBeside c.args.path.now) (g.D.OutputDisk.entries c.args.disk.now) (g.D.OutputDisk.entries d)) (sym w.disk-is)
        (kept_then (IsBeside c.args.path.now) w.as_str-then-ne.result.now (g.D.OutputDisk.entries c.args.disk.now) (g.D.OutputDisk.entries c.loop-number.disk) (g.D.OutputDisk.entries w.new_file.new.disk)
        (is_beside c.args.path.now (string_bytes c.in_ok-name.name) c.as_str.result.now w.as_str-then-ne.result.now c.in_ok-name.ensures (cc) (cc) w.if-ne.ensures)
        c.loop-number.invariant.others w.new_file.ensures.others);
    asks = subst (λ d. Follow Clears (g.D.OutputDisk.asked c.args.disk.now) (g.D.OutputDisk.asked d)) (sym w.disk-is)
        (cleared_then (g.D.OutputDisk.asked c.args.disk.now) (g.D.OutputDisk.asked c.loop-number.disk) (g.D.OutputDisk.asked w.new_file.new.disk) c.loop-number.invariant.asks w.in-Err.ensures.makes_none);
  }
  | else-ne w ↦ record {
    others = subst (λ d. KeepsBut (IsBeside c.args.path.now) (g.D.OutputDisk.entries c.args.disk.now) (g.D.OutputDisk.entries d)) (sym w.disk-is) c.loop-number.invariant.others;
    asks = subst (λ d. Follow Clears (g.D.OutputDisk.asked c.args.disk.now) (g.D.OutputDisk.asked d)) (sym w.disk-is) c.loop-number.invariant.asks;
  }
]

pub returns-in-Ok-clause-makes : goal.returns-in-Ok-clause-makes
returns-in-Ok-clause-makes g c = let same : string_bytes c.in_ok-name.name ≡ c.as_str-then-ne.result.now = cc in
    then_made (string_bytes c.in_ok-name.name) (g.D.OutputDisk.asked c.args.disk.now) (g.D.OutputDisk.asked c.loop-number.disk) (g.D.OutputDisk.asked c.new_file.new.disk) c.loop-number.invariant.asks
    (subst (λ name. Follow (MakesLast name) (g.D.OutputDisk.asked c.loop-number.disk) (g.D.OutputDisk.asked c.new_file.new.disk)) (sym same) c.in-Ok.ensures.makes)

pub returns-in-Err-2-clause-makes_none : goal.returns-in-Err-2-clause-makes_none
returns-in-Err-2-clause-makes_none g c = cleared_then (g.D.OutputDisk.asked c.args.disk.now) (g.D.OutputDisk.asked c.loop-number.disk) (g.D.OutputDisk.asked c.new_file.new.disk) c.loop-number.invariant.asks c.in-Err.ensures.makes_none

pub returns-in-Ok-clause-others : goal.returns-in-Ok-clause-others
returns-in-Ok-clause-others g c = kept_then (IsBeside c.args.path.now) c.as_str-then-ne.result.now (g.D.OutputDisk.entries c.args.disk.now) (g.D.OutputDisk.entries c.loop-number.disk) (g.D.OutputDisk.entries c.new_file.new.disk)
    (is_beside c.args.path.now (string_bytes c.in_ok-name.name) c.as_str.result.now c.as_str-then-ne.result.now c.in_ok-name.ensures (cc) (cc) c.if-ne.ensures)
    c.loop-number.invariant.others c.new_file.ensures.others

pub returns-in-Err-2-clause-others : goal.returns-in-Err-2-clause-others
returns-in-Err-2-clause-others g c = kept_then (IsBeside c.args.path.now) c.as_str-then-ne.result.now (g.D.OutputDisk.entries c.args.disk.now) (g.D.OutputDisk.entries c.loop-number.disk) (g.D.OutputDisk.entries c.new_file.new.disk)
    (is_beside c.args.path.now (string_bytes c.in_ok-name.name) c.as_str.result.now c.as_str-then-ne.result.now c.in_ok-name.ensures (cc) (cc) c.if-ne.ensures)
    c.loop-number.invariant.others c.new_file.ensures.others
