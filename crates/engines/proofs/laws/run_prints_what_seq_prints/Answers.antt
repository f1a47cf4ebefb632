use Rattle.engines.proofs.SameFiles.{drive_is_seq}
use Rattle.engines.proofs.laws.run_prints_what_seq_prints.Goals as goal

pub returns-clause-run : goal.returns-clause-run
returns-clause-run c content typed old new file workers counts h = h

pub returns-clause-drive : goal.returns-clause-drive
returns-clause-drive c content typed old new file workers schedule counts known h = drive_is_seq content typed old new file workers schedule counts known h
