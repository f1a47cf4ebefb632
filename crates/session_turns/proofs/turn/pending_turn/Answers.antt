use Rattle.std.proofs.Common.{rules}
use Rattle.session_turns.proofs.turn.pending_turn.Goals as goal

pub returns-in-Program-clause-pending : goal.returns-in-Program-clause-pending
returns-in-Program-clause-pending g c = let is = c.hand_in.ensures c.args.settings in search (rules, is)

pub returns-in-Forget-clause-pending : goal.returns-in-Forget-clause-pending
returns-in-Forget-clause-pending g c = let is = c.forget.ensures c.args.settings in search (rules, is)

pub returns-in-Begin-clause-pending : goal.returns-in-Begin-clause-pending
returns-in-Begin-clause-pending g c = let is = c.begin.ensures.pending c.args.settings in search (rules, is)
