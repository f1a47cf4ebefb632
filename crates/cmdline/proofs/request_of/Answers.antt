use Rattle.std.proofs.Common.{rules, ◌≡◌, ◌∙◌, ap, option_and_then}
use Rattle.clap.specs.Words.{kind_of, subcommand_of, takes}
use Rattle.clap.specs.declared.error.ErrorKind.TheVariants as kind
use Rattle.cmdline.specs.Line.{asked_in, rvstm_app}
use Rattle.cmdline.proofs.Lines.{is_plain}
use Rattle.cmdline.proofs.TypedLines.{each_is_accepted}
use Rattle.cmdline.proofs.request_of.Goals as goal

pub returns-clause-refused : goal.returns-clause-refused
returns-clause-refused c = c.in_ok-matches.ensures.refused

pub returns-in_err-matches-clause-accepted : goal.returns-in_err-matches-clause-accepted
returns-in_err-matches-clause-accepted c = λ program line words_are right.
    let kind_is : kind_of c.in_err-matches.field-0.0 ≡ kind.OutOfMemory =
    c.in_err-matches.ensures.passes (ap (takes rvstm_app) words_are ∙ (each_is_accepted line right).taken program) in
    search (rules, kind_is)

pub returns-clause-accepted : goal.returns-clause-accepted
returns-clause-accepted c = λ program line words_are right.
    c.request_in.ensures
    ∙ ap (option_and_then asked_in) ((c.in_ok-matches.ensures.found is_plain).1 ∙ ap (subcommand_of rvstm_app) words_are)
    ∙ (each_is_accepted line right).asks program
