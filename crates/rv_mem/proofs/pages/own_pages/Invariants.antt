use Rattle.std.proofs.Common.{◌≡◌}
use Rattle.rv_mem.specs.Paged.{AreOwn}
use Rattle.rv_mem.proofs.pages.own_pages.Given as goal

abbrev pub invariant-loop-page : goal.invariant-loop-page
invariant-loop-page l = record {
  space : l.pages.space ≡ l.fn.pages.space;
  own : AreOwn l.pages.places l.first l.page;
}
