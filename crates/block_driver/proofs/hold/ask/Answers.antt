use Rattle.std.proofs.Common.{◌∙◌, inl, sym}
use Rattle.stm_state.specs.State.{is_done, task_at}
use Rattle.stm_state.specs.Steps.{Ask}
use Rattle.stm_core.specs.CoreState.{block_in}
use Rattle.block_driver.proofs.Ends.{done_where_done, idle_where_nothing}
use Rattle.block_driver.proofs.Leads.{led_by}
use Rattle.block_driver.proofs.hold.ask.Goals as goal

pub returns-in-Done : goal.returns-in-Done
returns-in-Done g c =
    let old = c.args.core.now in
    let new = c.ask.new.self in
    let done = done_where_done (is_done old.state) (task_at new.state c.args.worker) (sym c.in-Done.is ∙ c.ask.ensures.answer) in
    (inl (led_by c.args.worker Ask old new c.ask.ensures.makes), c.done_stays.ensures.done (block_in old) c.args.worker Ask old.state new.state done c.ask.ensures.makes.0)

pub returns-in-Nothing : goal.returns-in-Nothing
returns-in-Nothing g c =
    let old = c.args.core.now in
    let new = c.ask.new.self in
    let idle = idle_where_nothing (is_done old.state) (task_at new.state c.args.worker) (sym c.in-Nothing.is ∙ c.ask.ensures.answer) in
    (inl (led_by c.args.worker Ask old new c.ask.ensures.makes), record { before = old; asks = c.ask.ensures.makes; idle = idle })

pub returns-in-Task : goal.returns-in-Task
returns-in-Task g c = led_by c.args.worker Ask c.args.core.now c.ask.new.self c.ask.ensures.makes
