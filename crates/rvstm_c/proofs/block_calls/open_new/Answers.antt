use Rattle.std.proofs.Common.{◌≡◌, List, inl, refl, sym, ap, subst}
use Rattle.rv_ledger.specs.Call.{Invocation}
use Rattle.rv_ledger.specs.declared.rules.Rules.{Rules}
use Rattle.rvstm_c.specs.Blocks.{BlockView, Calls, block_view, new_block}
use Rattle.rvstm_c.specs.declared.block.EmbeddedBlock.{EmbeddedBlock}
use Rattle.rvstm_c.proofs.block_calls.open_new.Goals as goal

abbrev view_with : Rules → List Invocation → BlockView
view_with rules calls = record { rules = rules; stage = Calls calls }

pub returns-in-Ok : goal.returns-in-Ok
returns-in-Ok c =
    inl (
      refl,
      c.in-Ok.block.value,
      c.put_block.ensures,
      subst (λ (b : EmbeddedBlock). block_view b ≡ new_block c.args.rules) (sym c.in-Ok.ensures.ok) (ap (view_with c.args.rules) c.new.ensures.items),
    )
