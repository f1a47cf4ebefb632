use Rattle.std.proofs.Common.{refl}
use Rattle.cmdline.specs.Line.{asm_app, chain_app, debug_app, dis_app, migrate_app}
use Rattle.cmdline.proofs.commands.rvstm.Goals as goal

pub returns : goal.returns
returns c =
    let asm_is = c.add-command.ensures _ asm_app c.runner.ensures c.asm.ensures refl in
    let dis_is = c.add-command-2.ensures _ dis_app asm_is c.dis.ensures refl in
    let debug_is = c.add-command-3.ensures _ debug_app dis_is c.debug.ensures refl in
    let migrate_is = c.add-command-4.ensures _ migrate_app debug_is c.migrate.ensures refl in
    c.add.ensures _ chain_app migrate_is c.chain.ensures refl
