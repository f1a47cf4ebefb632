use Rattle.std.proofs.Common.{◌-◌, arith, length, ltb, rules}
use Rattle.std.proofs.lemmas.List.Sorted.{IsPartitionPoint-from_clause}
use Rattle.mvmap.proofs.Searches.{lower_up_to}
use Rattle.mvmap.proofs.Walks.{cut_at, cut_there, parted}
use Rattle.mvmap.proofs.seek.count_below.Goals as goal

pub returns-in-len1-up-clause-below : goal.returns-in-len1-up-clause-below
returns-in-len1-up-clause-below c = λ place within.
    let ws = c.args.at_key.now in
    lower_up_to ws c.requires c.args.i (length ws - 1) c.last-item.result (omega (arith, within)) c.last-item.is c.if-last-i.true place (omega (arith, within))

pub returns-in-len2-up-clause-below : goal.returns-in-len2-up-clause-below
returns-in-len2-up-clause-below c = λ place within.
    let ws = c.args.at_key.now in
    lower_up_to ws c.requires c.args.i (length ws - 2) c.before-item.result (omega (arith, within)) c.before-item.is c.if-before-i.true place (omega (arith, within))

pub returns-in_default : goal.returns-in_default
returns-in_default c =
    let cut = c.if-is_cut.true in
    cut_at c.args.at_key.now c.args.i c.args.hint c.requires (c.is_cut.ensures.bound cut) (c.is_cut.ensures.below cut) (c.is_cut.ensures.above cut)

pub returns-in_default-2 : goal.returns-in_default-2
returns-in_default-2 c =
    let ws = c.args.at_key.now in
    cut_there ws c.args.i c.partition_point.result c.partition_point.ensures.bound
    (IsPartitionPoint-from_clause (λ e. ltb e.0 c.args.i) ws _ c.partition_point.ensures.partitioned (parted ws c.args.i c.requires) (λ a r q k. search rules))
