use Rattle.std.proofs.Common.{◌≡◌, ap, ◌∙◌, rules}
use Rattle.std.specs.FinMap.{insert}
use Rattle.session_tree.specs.Entries.{ByteMap}
use Rattle.session_file.proofs.entries.StoreBuilderEntries.take.Goals as goal

pub returns-clause-taken : goal.returns-clause-taken
returns-clause-taken c taken before low made =
    let is : c.insert.new.self ≡ insert c.args.self.now c.args.key c.args.value.now = search rules in
    is ∙ ap (λ (m : ByteMap). insert m c.args.key c.args.value.now) made
