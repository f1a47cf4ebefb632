use Rattle.std.proofs.Common.{map, inr, subst, sym}
use Rattle.std.specs.Prelude.{Ok}
use Rattle.std.specs.String.{string_bytes}
use Rattle.block_file.specs.Block.{block_value}
use Rattle.programs.specs.Programs.{IsProgramFault, programs_of}
use Rattle.engines.specs.Engine.{IsJobFault, programs_in}
use Rattle.engines.proofs.ProgramFiles.{job_fault}
use Rattle.engines.proofs.loading.load_text.Goals as goal

pub returns-in-Err-clause-err : goal.returns-in-Err-clause-err
returns-in-Err-clause-err g c =
    let content = g.P.Programs.content c.args.programs.now in
    inr (subst (IsJobFault ⊥ content (Ok (block_value c.args.text))) (sym c.from.ensures) (job_fault content (block_value c.args.text) c.in-Err.fault
    (subst (λ paths. IsProgramFault (programs_of (programs_in content) (map string_bytes paths)) c.in-Err.fault) c.as_slice.ensures.value c.in-Err.ensures.err)))
