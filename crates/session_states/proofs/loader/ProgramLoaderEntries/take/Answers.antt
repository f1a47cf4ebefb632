use Rattle.std.proofs.Common.{◌≡◌, Some, None, rules, subst}
use Rattle.std.specs.Arc.{arc_value}
use Rattle.elf32.specs.Layout.{Layout}
use Rattle.session_states.specs.States.{AreLoadedAs, AreLoadedFrom, IsLoadedFrom}
use Rattle.session_states.proofs.Programs.{none_after, none_still, one_loaded}
use Rattle.session_states.proofs.loader.ProgramLoaderEntries.take.Goals as goal

pub returns-in_ok-insert-in-Some-2-clause-taken : goal.returns-in_ok-insert-in-Some-2-clause-taken
returns-in_ok-insert-in-Some-2-clause-taken c taken before low all =
    let is : c.args.self.now ≡ Some c.in-Some.programs = search rules in
    let loaded : AreLoadedFrom before c.in-Some.programs = subst (AreLoadedAs before) is all in
    let this : IsLoadedFrom c.args.key (Some c.args.value.now) (Some (arc_value c.in-Some-2.image)) = search rules in
    rw c.in_ok-insert-in-Some-2.ensures.ok (one_loaded before c.in-Some.programs c.args.key c.args.value.now (arc_value c.in-Some-2.image) loaded this)

pub returns-in-None-clause-taken : goal.returns-in-None-clause-taken
returns-in-None-clause-taken c taken before low all =
    let none : (image : Layout) → ¬ IsLoadedFrom c.args.key (Some c.args.value.now) (Some image) = c.in_ok-image.ensures.none c.in-None.is in
    let gone : c.match-self-2.self ≡ None = search rules in
    rw gone (none_after before c.args.key c.args.value.now none)

pub returns-in_default-clause-taken : goal.returns-in_default-clause-taken
returns-in_default-clause-taken c taken before low all =
    let none : c.self.inside.programs ≡ None = search rules in
    let is : c.args.self.now ≡ None = search rules in
    rw none (none_still before c.args.key c.args.value.now low (subst (AreLoadedAs before) is all))
