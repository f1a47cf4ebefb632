use Rattle.std.proofs.Common.{rules}
use Rattle.std.proofs.lemmas.Fn.{always_returns_same}
use Rattle.std.specs.Cmp.Lexicographic.{nat_list_cmp_total}
use Rattle.rv_ledger.proofs.Entries.{key_cmp-IsAntisymmetric}
use Rattle.rv_ledger.proofs.Searches.{searched}
use Rattle.rv_ledger.specs.Key.{key_cmp}
use Rattle.rv_ledger.proofs.writes.search.Goals as goal

pub returns : goal.returns
returns c =
    let facts = c.binary_search_by.ensures in
    let by_key = facts.position (λ e. key_cmp e.0 c.args.key.now) (always_returns_same _ _ _ (λ a r g called. (search rules, search rules))) in
    searched nat_list_cmp_total key_cmp-IsAntisymmetric c.args.entries.now c.args.key.now c.requires _ facts.bound by_key
