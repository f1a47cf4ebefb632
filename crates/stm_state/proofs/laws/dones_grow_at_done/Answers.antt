use Rattle.stm_state.proofs.Dones.{others_stay, dones_are_asked, dones_grow}
use Rattle.stm_state.proofs.laws.dones_grow_at_done.Goals as goal

pub returns : goal.returns
returns c = record { others = others_stay; other_steps = dones_are_asked; askings = dones_grow }
