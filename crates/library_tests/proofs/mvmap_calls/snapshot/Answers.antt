use Rattle.library_tests.proofs.mvmap_calls.snapshot.Goals as goal

pub snapshot_into-requires : goal.snapshot_into-requires
snapshot_into-requires c = c.in_ok-set_four.ensures c.empty-map.ensures
