use Rattle.std.specs.String.{string_bytes}
use Rattle.system_files.proofs.NewPaths.{named, named_in, parted, unparted}
use Rattle.system_files.proofs.replacing.new_path.Goals as goal

pub returns-in-Some : goal.returns-in-Some
returns-in-Some c = let parts = parted c.args.path.now c.in-Some.folder.now c.rsplit_once.result c.rsplit_once.ensures.cases search in
    named_in string_bytes c.format.result c.args.path.now c.in-Some.folder.now parts.0 c.args.number c.requires parts.1 parts.2 c.format.ensures.ok

pub returns-in-None : goal.returns-in-None
returns-in-None c = named string_bytes c.format-in-None.result c.args.path.now c.args.number c.requires (unparted c.args.path.now c.rsplit_once.result c.rsplit_once.ensures.cases search) c.format-in-None.ensures.ok
