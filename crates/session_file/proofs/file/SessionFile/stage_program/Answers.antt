use Rattle.std.proofs.lemmas.Result.{on_ok_weaker}
use Rattle.std.proofs.Common.{List, ℕ, OnOk, ap, length, ◌∙◌, subst}
use Rattle.std.specs.FinMap.{insert}
use Rattle.session_file.specs.Staging.{StagesKept}
use Rattle.session_file.proofs.Limits.{names_insert}
use Rattle.session_file.proofs.Staged.{program_ok, writes_still}
use Rattle.session_file.proofs.StagedIn.{stages_in}
use Rattle.session_file.proofs.file.SessionFile.stage_program.Goals as goal

pub returns : goal.returns
returns g c =
    let v = g.S.Store.view in
    let name = c.bytes.result.now in
    let staged : OnOk c.set_key-result.result (StagesKept (λ next. record next { programs = insert next.programs name c.args.file.now }) (v c.self.inside.store) (v c.set_key-result.new.store)) =
    program_ok c.set_key-result.result _ _ (g.met.S.Store.shut_if_dirty c.set_key-result.new.store) (λ m. insert m name c.args.file.now) c.set_key-result.ensures.ok c.set_key-result.ensures.frame
    (λ m all. names_insert m name c.args.file.now (ap length c.bytes.ensures.value ∙ c.bytes.ensures.count) all) in
    let named = subst (λ (n : List ℕ). OnOk c.set_key-result.result (StagesKept (λ next. record next { programs = insert next.programs n c.args.file.now }) (v c.self.inside.store) (v c.set_key-result.new.store))) c.bytes.ensures.value staged in
    rw (← c.self.view_is, c.settled.ensures.given)
    (stages_in g.S.Store _ _ _ c.self.inside.store c.set_key-result.new.store c.settled.new.store c.set_key-result.result (g.met.S.Store.shut_if_dirty c.settled.new.store) (λ long. rw c.bytes.ensures.value at long)
    named
    (on_ok_weaker c.set_key-result.result (λ only clean. writes_still (v c.self.inside.store) (v c.set_key-result.new.store) (only clean)) c.set_key-result.ensures.frame)
    c.set_key-result.ensures.tries c.settled.ensures.ok c.settled.ensures.err c.settled.ensures.told c.settled.ensures.quiet)
