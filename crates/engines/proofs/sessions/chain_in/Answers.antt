use Rattle.std.proofs.Common.{inl, inr, true}
use Rattle.std.proofs.lemmas.Option.{IfSome_then}
use Rattle.std.proofs.lemmas.Result.{IfErr-weaker}
use Rattle.engines.proofs.Orders.{asks_then, ended, if_done, if_refused, not_opened, not_wanted}
use Rattle.engines.proofs.Held.{opened_and_kept}
use Rattle.session_durability.specs.Durable.{moment}
use Rattle.session_states.specs.States.{file_state}
use Rattle.engines.proofs.sessions.chain_in.Goals as goal

-- the store was not opened
pub returns-in-Err-clause-told : goal.returns-in-Err-clause-told
returns-in-Err-clause-told g c =
    not_opened (g.R.Read.remaining c.args.requests.now) c.in-Err.fault c.fault_of.result (g.K.SessionStores.asked c.args.stores.now) (g.K.SessionStores.asked c.open_store.new.self) c.args.path.now c.fault_of.ensures c.in-Err.ensures.asks_nothing

-- the store was opened and abandoned
pub returns-in-Err-open_durably-clause-err : goal.returns-in-Err-open_durably-clause-err
returns-in-Err-open_durably-clause-err g c =
    inr (inl (asks_then (g.K.SessionStores.asked c.args.stores.now) (g.K.SessionStores.asked c.open_store.new.self) (g.K.SessionStores.asked c.abandon_store.new.self) _ _ c.in-Ok.ensures.asks c.abandon_store.ensures.asks))

pub returns-in-Err-open_durably-clause-told : goal.returns-in-Err-open_durably-clause-told
returns-in-Err-open_durably-clause-told g c =
    not_wanted (g.R.Read.remaining c.args.requests.now) c.in-Err-open_durably.fault c.from.result (g.K.SessionStores.asked c.args.stores.now) (g.K.SessionStores.asked c.abandon_store.new.self) c.args.path.now c.from.ensures
    (asks_then (g.K.SessionStores.asked c.args.stores.now) (g.K.SessionStores.asked c.open_store.new.self) (g.K.SessionStores.asked c.abandon_store.new.self) _ _ c.in-Ok.ensures.asks c.abandon_store.ensures.asks)

-- it was opened and closed
pub returns-in-Ok-open_durably-clause-ok : goal.returns-in-Ok-open_durably-clause-ok
returns-in-Ok-open_durably-clause-ok g c =
    if_done c.chain_and_close.result _ (asks_then (g.K.SessionStores.asked c.args.stores.now) (g.K.SessionStores.asked c.open_store.new.self) (g.K.SessionStores.asked c.chain_and_close.new.stores) _ _ c.in-Ok.ensures.asks c.chain_and_close.ensures.asks)

pub returns-in-Ok-open_durably-clause-err : goal.returns-in-Ok-open_durably-clause-err
returns-in-Ok-open_durably-clause-err g c =
    if_refused c.chain_and_close.result _ (inr (inr (asks_then (g.K.SessionStores.asked c.args.stores.now) (g.K.SessionStores.asked c.open_store.new.self) (g.K.SessionStores.asked c.chain_and_close.new.stores) _ _ c.in-Ok.ensures.asks c.chain_and_close.ensures.asks)))

pub returns-in-Ok-open_durably-clause-told : goal.returns-in-Ok-open_durably-clause-told
returns-in-Ok-open_durably-clause-told g c =
    let asks = asks_then (g.K.SessionStores.asked c.args.stores.now) (g.K.SessionStores.asked c.open_store.new.self) (g.K.SessionStores.asked c.chain_and_close.new.stores) _ _ c.in-Ok.ensures.asks c.chain_and_close.ensures.asks in
    IfErr-weaker c.chain_and_close.result _ _ (λ e told. IfSome_then (g.R.Read.remaining c.args.requests.now) told (λ _ is. ended e (g.K.SessionStores.asked c.args.stores.now) (g.K.SessionStores.asked c.chain_and_close.new.stores) c.args.path.now is asks)) c.chain_and_close.ensures.told

-- what the files hold then, and what all others do
pub returns-in-Ok-open_durably-clause-kept : goal.returns-in-Ok-open_durably-clause-kept
returns-in-Ok-open_durably-clause-kept g c =
    let s = c.in-Ok-open_durably.session in
    opened_and_kept c.chain_and_close.result (record c.args.settings { keeps_digest = true }) (moment (file_state s.state s.found) (g.K.Kept.Store.view s.file) (g.K.Kept.Store.faults s.file)) _ (g.K.SessionStores.trees_at c.args.stores.now) (g.K.SessionStores.trees_at c.chain_and_close.new.stores) (g.K.SessionStores.trees_at c.open_store.new.self) c.args.path.now
    (g.R.Read.remaining c.args.requests.now) _ _ c.in-Ok.ensures.found c.open_store.ensures.others c.chain_and_close.ensures.others c.in-Ok-open_durably.ensures.opened c.chain_and_close.ensures.kept
