use Rattle.stm_state.specs.Steps.{ReadKey}
use Rattle.block_driver.proofs.Leads.{led_in_room}
use Rattle.block_driver.proofs.stepping.read_base.Goals as goal

pub returns : goal.returns
returns g c = led_in_room c.args.worker (ReadKey c.args.key.now) c.args.core.now c.room_for_read.new.self c.read_sharing.new.self c.room_for_read.ensures.job c.room_for_read.ensures.state c.read_sharing.ensures.makes
