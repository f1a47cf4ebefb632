use Rattle.std.proofs.Common.{◌≡◌, ◌∙◌, ap, ap₂}
use Rattle.std.proofs.lemmas.Result.{IfOk-at_ok, IfOk-weaker}
use Rattle.clap.specs.Words.{App, app_of, with_subcommand}
use Rattle.clap.specs.declared.builder.command.Command.{Command}
use Rattle.cmdline.proofs.Lines.{third_is_false}
use Rattle.cmdline.proofs.commands.add.Goals as goal

pub returns : goal.returns
returns c = λ a b command_is subcommand_is plain.
    let parent_is : app_of c.in_ok-command.field-0 ≡ a = IfOk-at_ok (λ (x : Command). app_of x ≡ a) c.in_ok-command.was command_is in
    let child_is : app_of c.in_ok-subcommand.field-0 ≡ b = IfOk-at_ok (λ (x : Command). app_of x ≡ b) c.in_ok-subcommand.was subcommand_is in
    IfOk-weaker c.subcommand.result _ _
    (λ r h. h.shape (third_is_false _ _ _ _ (ap (λ (x : App). x.top.is_plain) child_is ∙ plain))
    ∙ ap₂ with_subcommand parent_is (ap (λ (x : App). x.top) child_is))
    c.subcommand.ensures
