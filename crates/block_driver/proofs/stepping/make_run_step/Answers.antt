use Rattle.std.proofs.Common.{refl, subst, sym}
use Rattle.block_driver.specs.Led.{IsLed}
use Rattle.block_driver.proofs.Leads.{not_led}
use Rattle.block_driver.proofs.RunSteps.{no_run_step}
use Rattle.block_driver.proofs.stepping.make_run_step.Goals as goal

pub returns-in_default : goal.returns-in_default
returns-in_default g c =
    let b = c.args.core.now in
    let none = no_run_step c.args.progress c.in_default.not-Answered c.in_default.not-Ready in
    (subst (λ n. IsLed c.args.worker n b b) (sym none) (not_led c.args.worker b), none, λ e. refl)
