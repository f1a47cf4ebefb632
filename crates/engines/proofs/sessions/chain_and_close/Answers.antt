use Rattle.std.proofs.Common.{inl, inr, subst}
use Rattle.std.proofs.lemmas.Result.{IfErr-weaker}
use Rattle.std.proofs.lemmas.Option.{IfSome_then}
use Rattle.std.specs.Prelude.{IfSome, OnOk}
use Rattle.engines.proofs.Orders.{if_any, if_done, of_session}
use Rattle.engines.proofs.Held.{served_and_closed}
use Rattle.engines.specs.Stores.{HoldsCommitted}
use Rattle.engines.proofs.sessions.chain_and_close.Goals as goal

-- the session was ended by a fault
pub returns-clause-told : goal.returns-clause-told
returns-clause-told g c =
    let told = c.in-Err.ensures.err in of_session (g.R.BufferedSource.may_fail c.args.requests.now) c.args.settings told.0 _ _ (g.R.Read.remaining c.args.requests.now) _ _ c.in-Err.refusal told.1 told.2

-- or by its close
pub returns-in-Ok-clause-told : goal.returns-in-Ok-clause-told
returns-in-Ok-clause-told g c = IfErr-weaker c.close-closed.result _ _ (λ _ told. if_any (g.R.Read.remaining c.args.requests.now) _ told) c.close-closed.ensures.told

-- what was answered
pub returns-in-Ok-clause-printed : goal.returns-in-Ok-clause-printed
returns-in-Ok-clause-printed g c =
    if_done c.close-closed.result _ (IfSome_then (g.R.Read.remaining c.args.requests.now) c.in-Ok.ensures.ok (λ _ served. (_, _, served)))

-- how it was refused: as the session that a fault ended
pub returns-clause-refused : goal.returns-clause-refused
returns-clause-refused g c =
    let told = c.in-Err.ensures.err in IfSome_then (g.R.Read.remaining c.args.requests.now) told.2 (λ _ ended. inr (inl (told.0, _, _, told.1, ended)))

-- or by the close after all answers
pub returns-in-Ok-clause-refused : goal.returns-in-Ok-clause-refused
returns-in-Ok-clause-refused g c =
    IfErr-weaker c.close-closed.result _ _ (λ _ told. IfSome_then (g.R.Read.remaining c.args.requests.now) c.in-Ok.ensures.ok (λ _ served. inr (inr ((_, _, served), told)))) c.close-closed.ensures.refused

-- what the files hold then
pub returns-in-Ok-clause-kept : goal.returns-in-Ok-clause-kept
returns-in-Ok-clause-kept g c =
    let now = g.K.SessionStores.trees_at c.close-closed.new.stores c.args.path.now in
    served_and_closed c.close-closed.result c.args.settings _ _ (g.K.Kept.Store.view c.durable_chain_to-ended.new.session.file) _ now (g.R.Read.remaining c.args.requests.now) _ _ c.durable_chain_to-ended.ensures.kept
    (subst (λ store. OnOk c.close-closed.result (IfSome now (HoldsCommitted (g.K.Kept.Store.view store)))) c.into_store.ensures.store c.close-closed.ensures.kept) c.in-Ok.ensures.ok
