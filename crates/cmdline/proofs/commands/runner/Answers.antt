use Rattle.std.proofs.Common.{refl}
use Rattle.cmdline.specs.Line.{conflicts_app, drive_app, run_app, seq_app, top_app}
use Rattle.cmdline.proofs.commands.runner.Goals as goal

pub returns : goal.returns
returns c =
    let run_is = c.add-command.ensures top_app run_app c.program.ensures c.run.ensures refl in
    let seq_is = c.add-command-2.ensures _ seq_app run_is c.seq.ensures refl in
    let conflicts_is = c.add-command-3.ensures _ conflicts_app seq_is c.conflicts.ensures refl in
    c.add.ensures _ drive_app conflicts_is c.drive.ensures refl
