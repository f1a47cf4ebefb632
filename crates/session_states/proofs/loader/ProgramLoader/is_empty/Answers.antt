use Rattle.std.proofs.Common.{◌≡◌, Some, ap, rules, sym, ◌∙◌}
use Rattle.std.proofs.lemmas.Bool.{eq-eqb, eqb-true}
use Rattle.std.specs.FinMap.{empty, len, len-empty}
use Rattle.elf32.specs.Layout.{Layout}
use Rattle.rv_ledger.specs.Key.{key_cmp}
use Rattle.session_turns.specs.Programs.{ProgramsByName}
use Rattle.session_states.proofs.Programs.{no_length}
use Rattle.session_states.proofs.loader.ProgramLoader.is_empty.Goals as goal

pub returns-in-Some-clause-same : goal.returns-in-Some-clause-same
returns-in-Some-clause-same c told =
    let is : c.args.self.now ≡ Some c.in-Some.programs = search rules in
    let none : c.len.result ≡ 0 = eqb-true c.len.result 0 told in
    is ∙ ap Some (no_length c.in-Some.programs (sym c.len.ensures ∙ none))

pub returns-in-Some-clause-other : goal.returns-in-Some-clause-other
returns-in-Some-clause-other c told nothing =
    let is : c.args.self.now ≡ Some c.in-Some.programs = search rules in
    let same : c.in-Some.programs ≡ empty = cc in
    let none : c.len.result ≡ 0 = c.len.ensures ∙ ap (λ (m : ProgramsByName). len m) same ∙ len-empty key_cmp Layout in
    let counts = eq-eqb c.len.result 0 none in
    let not_counts = told in cc
