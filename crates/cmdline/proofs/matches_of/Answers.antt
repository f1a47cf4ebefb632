use Rattle.std.proofs.Common.{IfOk, ◌∙◌, ap, map, subst}
use Rattle.std.specs.String.{string_bytes}
use Rattle.std.proofs.lemmas.Result.{IfErr-weaker}
use Rattle.clap.specs.Words.{App, HasMatchesOf, fault_of, FailsBy, is_simple_and_free, takes}
use Rattle.cmdline.proofs.Lines.{is_free}
use Rattle.cmdline.proofs.matches_of.Goals as goal

pub returns-clause-found : goal.returns-clause-found
returns-clause-found c =
    subst (λ (a : App). IfOk c.try_get_matches_from.result (HasMatchesOf a (map string_bytes c.args.words.now))) c.in_ok-rvstm.ensures c.try_get_matches_from.ensures.matches

pub returns-clause-passes : goal.returns-clause-passes
returns-clause-passes c = λ taken.
    IfErr-weaker c.try_get_matches_from.result _ _
    (λ e holds. holds (ap (λ (a : App). takes a (map string_bytes c.args.words.now)) c.in_ok-rvstm.ensures ∙ taken)) c.try_get_matches_from.ensures.passes

pub returns-clause-refused : goal.returns-clause-refused
returns-clause-refused c =
    subst (λ (a : App). FailsBy (fault_of a (map string_bytes c.args.words.now)) c.try_get_matches_from.result) c.in_ok-rvstm.ensures
    (c.try_get_matches_from.ensures.kinds (ap is_simple_and_free c.in_ok-rvstm.ensures ∙ is_free))
