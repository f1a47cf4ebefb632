use Rattle.library_tests.proofs.mvmap_calls.set_four.Goals as goal

pub returns : goal.returns
returns c = λ none. c.in_ok-set-4.ensures (c.in_ok-set-3.ensures (c.in_ok-set-2.ensures (c.in_ok-set.ensures none)))
