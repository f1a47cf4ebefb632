use Rattle.std.proofs.Common.{◌∙◌, refl, sym, Some, None, []}
use Rattle.session_disk.proofs.Missing.{other_number}
use Rattle.session_disk.specs.Looks.{look}
use Rattle.session_disk.proofs.names.finds.Goals as goal

pub returns-in-Ok-clause-no : goal.returns-in-Ok-clause-no
returns-in-Ok-clause-no g c not = record {
  found = [];
  missed = look c.args.path.now c.args.links (Some c.args.wanted);
  rest = [];
  other = Some c.in-Ok.found;
  wanted_is = refl;
  sees = c.in-Ok.ensures c.requires;
  differs = other_number c.in-Ok.found c.args.wanted (sym c.eq.ensures ∙ not);
}

pub returns-in-Err-clause-no : goal.returns-in-Err-clause-no
returns-in-Err-clause-no g c not = record {
  found = [];
  missed = look c.args.path.now c.args.links (Some c.args.wanted);
  rest = [];
  other = None;
  wanted_is = refl;
  sees = c.in-Err.ensures c.requires;
  differs = λ same. cc;
}
