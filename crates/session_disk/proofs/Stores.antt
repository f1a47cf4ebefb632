-- The store of a session.
use Rattle.std.proofs.Common.{◌≡◌, ◌+◌, IsTrue, [], refl, sym, ap, ap₂, subst, ◌∙◌}
use Rattle.std.proofs.Math.Logic.{∥∥₁_elim, ∥∥₁_map}
use Rattle.std.proofs.Math.Path.{subst₃}
use Rattle.std.proofs.lemmas.Bool.{cond-true}
use Rattle.sqlite_disk.specs.declared.Disk.{Ghosts}
use Rattle.sqlite_wal.specs.Recovery.{Image}
use Rattle.sqlite_wal.proofs.LogLemmas.{SeenMayStay}
use Rattle.sqlite_wal.proofs.StateLemmas.{clean_of}
use Rattle.sqlite_pool.specs.declared.pool.Pool.{Pool}
use Rattle.sqlite_pool.specs.Pool as pool
use Rattle.sqlite_pool.specs.Stored.{Recovers}
use Rattle.sqlite_pool.proofs.StateLemmas.{file_alone, settled}
use Rattle.sqlite_wal.specs.Files.{outcomes}
use Rattle.sqlite_wal.specs.Reads.{are_clean}
use Rattle.sqlite_trees.specs.Tree.{no_trees}
use Rattle.sqlite_trees.specs.View.{IsClean}
use Rattle.sqlite_store.specs.declared.store.FileStore.{FileStore}
use Rattle.sqlite_store.specs.FileStore.{IsReady, log_frames, schema_of, state, view}
use Rattle.sqlite_store.specs.Listing.{IsOurs, all_reals, all_shapes, file_trees}
use Rattle.sqlite_store.specs.Saved.{kept_schema}
use Rattle.sqlite_store.proofs.FileLemmas.{one_schema}
use Rattle.session_file.specs.Opening.{IsFresh}
use Rattle.session_file.specs.Staging.{HasTrees}
use Rattle.session_disk.specs.Tables.{session_schema}
use Rattle.session_disk.specs.Sessions.{database_page_size, HoldsRows, IsSessionFile}
use Rattle.session_disk.specs.Closing.{AreFolded, HoldsTrees}
use Rattle.session_disk.specs.Opening.{IsSessionStore}

-- a pool has the faults of its files, is clean exactly if they are, and leaves only what they may leave
pub pool_files : {D : Type 0} {g : Ghosts D} (it : Pool D g)
    → ((pool.state it).faults ≡ g.faults (pool.files it).0 + g.faults (pool.files it).1) × ((pool.state it).is_clean ≡ are_clean g (pool.files it).0 (pool.files it).1)
    × ((left : Image) → (pool.state it).may_leave left → outcomes g (pool.files it).0 (pool.files it).1 left)
unfolding pool.state pool.files
pool_files it = (refl, refl, λ left may. may.1)

module _ {D : Type 0} {g : Ghosts D} (it : FileStore D g) where
  pub fresh : IsReady it → IsClean (view it) → IsFresh (view it)
  fresh ready clean = record { sound = ready.sound clean; settled = ready.clean; shaped = ap (λ s. all_shapes (kept_schema s (schema_of it))) (sym ready.unaltered); typed = ap (λ s. all_reals (kept_schema s (schema_of it))) (sym ready.unaltered) }

  pub has_trees : schema_of it ≡ session_schema → HasTrees (view it)
  unfolding session_schema all_shapes all_reals
  has_trees same = record { storage = rw same refl; programs = rw same refl; session = rw same refl; answer = rw same refl; session_reals = rw same refl; answer_reals = rw same refl }

  -- whatever was done to it, a crash leaves a session's files
  pub leaves_session : IsSessionStore it → (now : Image) → (state it).may_leave now → ∥ IsSessionFile now ∥₁
  leaves_session tables now may = ∥∥₁_elim it.safe squash₁ (λ all.
      let found = all now may in
      ∥∥₁_map found.2 (λ ours. record {
        pages = found.0;
        found = subst (λ n. Recovers n now found.0) tables.size found.1;
        ours = subst₃ (λ n b s. IsOurs n b s found.0) tables.size tables.numbered (one_schema it tables.unaltered found.0 ∙ tables.schema) ours;
      }))

  -- what is committed is in the rows that are shown
  pub rows_are : IsSessionStore it → IsTrue (view it).is_clean → (view it).committed ≡ file_trees database_page_size session_schema (state it).committed
  rows_are tables clean =
      cond-true _ (file_trees (state it).page_size (kept_schema it.saved it.schema.items) (state it).committed) no_trees clean
      ∙ ap₂ (λ n s. file_trees n s (state it).committed) tables.size (ap (λ o. kept_schema o it.schema.items) tables.unaltered ∙ tables.schema)

  pub holds_rows : IsSessionStore it → IsTrue (view it).is_clean → IsTrue (view it).is_open → (image : Image) → Recovers database_page_size image (state it).committed → ∥ HoldsRows image (view it).committed ∥₁
  holds_rows tables clean on image found = ∥∥₁_map (it.stored on) (λ stored. record {
    file = record {
      pages = (state it).committed;
      found = found;
      ours = subst₃ (λ n b s. IsOurs n b s (state it).committed) tables.size tables.numbered (ap (λ o. kept_schema o it.schema.items) tables.unaltered ∙ tables.schema) stored.ours;
    };
    rows = rows_are tables clean;
  })

  holds_trees : IsTrue (view it).is_open → IsTrue (view it).is_numbered → (image : Image) → Recovers (state it).page_size image (state it).committed → ∥ HoldsTrees image (view it).committed ∥₁
  holds_trees on numbered image found = ∥∥₁_map (it.stored on) (λ stored. record {
    size = (state it).page_size;
    tables = kept_schema it.saved it.schema.items;
    pages = (state it).committed;
    found = found;
    ours = subst (λ b. IsOurs (state it).page_size b (kept_schema it.saved it.schema.items) (state it).committed) numbered stored.ours;
    rows = rw (clean_of (state it) on) refl;
  })

  -- with an empty log the database file alone has the last commit
  pub folded : SeenMayStay g → IsTrue (view it).is_open → IsTrue (view it).is_numbered → log_frames it ≡ 0 → (now : Image) → (state it).may_leave now → AreFolded now (view it).committed
  folded stays on numbered empty now may = record {
    both = holds_trees on numbered now ((settled it.pool stays on).durable now may);
    alone = holds_trees on numbered (record now { log = [] }) (file_alone it.pool stays on empty now may);
  }
