use Rattle.std.proofs.Common.{◌⊎◌, sym, subst, ◌∙◌, inl, inr, le_refl}
use Rattle.std.proofs.Math.Logic.{∥∥₁_map}
use Rattle.sqlite_pages.specs.PageMap.{PageMap}
use Rattle.sqlite_pool.specs.Opening.{IsBlankFile}
use Rattle.sqlite_pool.specs.Stored.{Recovers}
use Rattle.sqlite_trees.proofs.Doubt.{no_doubt}
use Rattle.sqlite_store.specs.Build.{CanBuild}
use Rattle.sqlite_store.specs.Opening.{IsEmptyFile}
use Rattle.sqlite_store.specs.Unopened.{image}
use Rattle.session_disk.proofs.Building.{can_build, few_tables}
use Rattle.session_disk.proofs.Causes.{from_store}
use Rattle.session_disk.proofs.Stores.{fresh, has_trees}
use Rattle.session_disk.proofs.opening.make.Goals as goal

pub returns-in-Ok-clause-ok : goal.returns-in-Ok-clause-ok
returns-in-Ok-clause-ok g c clean =
    let e = c.in-Ok.ensures in
    let store = c.in-Ok.store in
    let now = no_doubt _ clean in
    let size = c.requires.unopened.size (e.honest clean) in
    let schema = e.schema ∙ c.requires.unopened.schema in
    record {
      tables = record { size = (e.kept clean).size ∙ size; schema = schema; unaltered = e.ready.unaltered; numbered = e.numbered };
      fresh = fresh store e.ready now;
      is_open = e.ready.is_open now;
      trees = has_trees store schema;
      found = inr (
        ∥∥₁_map (e.started clean) (λ s. elim (subst (λ n. IsBlankFile n (image c.args.files) ⊎ ((pages : PageMap) × Recovers n (image c.args.files) pages × IsEmptyFile n pages)) size s) [
          | inl blank ↦ inl (blank, c.requires.whole (e.honest clean))
          | inr empty ↦ inr empty
        ]),
        e.empty clean,
      );
    }

pub returns-in-Err-clause-cause : goal.returns-in-Err-clause-cause
returns-in-Err-clause-cause g c clean =
    rw c.from.ensures (from_store _ _ _ _ _ _ _ c.in-Err.error (le_refl _) (λ stop. stop)
    (λ start. record { few = rw c.requires.unopened.schema few_tables; schema = subst CanBuild (sym c.requires.unopened.schema) can_build; files = start }) (c.in-Err.ensures.cause clean))
