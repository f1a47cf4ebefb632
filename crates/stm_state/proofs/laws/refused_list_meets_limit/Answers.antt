use Rattle.stm_state.proofs.Refusals.{refused_list_meets}
use Rattle.stm_state.proofs.laws.refused_list_meets_limit.Goals as goal

pub returns : goal.returns
returns c calls store workers schedule limit h = refused_list_meets calls store workers limit schedule h
