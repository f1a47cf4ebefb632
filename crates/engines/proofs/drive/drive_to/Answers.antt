use Rattle.std.proofs.Common.{◌≡◌, ◌∙◌, ap, refl, sym, inl, inr}
use Rattle.std.proofs.lemmas.Result.{IfErr-weaker}
use Rattle.std.specs.Prelude.{ℕ, List, Option, Some, None, Ok, IfSome}
use Rattle.std.specs.Option.{option_map}
use Rattle.block_file.specs.Schedule.{parsed_schedule}
use Rattle.engines.proofs.drive.drive_to.Goals as goal

-- a refusal met in the schedule file
pub returns-in-Err-clause-refused : goal.returns-in-Err-clause-refused
returns-in-Err-clause-refused g c = inr (c.in_ok-job.job, c.in_ok-job.ensures.ok, inl (refl, c.in-Err.ensures.err))

parsed : (bytes : Option (List ℕ)) (entries items : List ℕ) → entries ≡ items → IfSome bytes (λ b. parsed_schedule b ≡ Ok items) → IfSome (option_map parsed_schedule bytes) (λ wanted. wanted ≡ Ok entries)
parsed None entries items same is = tt
parsed (Some b) entries items same is = is ∙ ap Ok (sym same)

-- and one of the run along its list
pub returns-clause-refused : goal.returns-clause-refused
returns-clause-refused g c =
    let read = parsed (g.S.Read.remaining c.args.schedule.now) _ _ c.as_slice.ensures.value c.in-Ok.ensures.ok in
    IfErr-weaker c.drive_job.result _ _ (λ _ told. inr (c.in_ok-job.job, c.in_ok-job.ensures.ok, inr (c.as_slice.result.now, read, told))) c.drive_job.ensures.refused
