use Rattle.std.proofs.Common.{arith}
use Rattle.std.specs.FinMap.{entries}
use Rattle.std.proofs.lemmas.Result.{err_from_is_err_and}
use Rattle.sqlite_trees.specs.View.{IsClean}
use Rattle.session_file.specs.Kept.{program_tree}
use Rattle.session_file.specs.Opening.{IsOpenRefused}
use Rattle.session_file.specs.Rows.{HasNoAnswer, HasNoEntries, HasNoSession, HasNoStorage}
use Rattle.session_file.proofs.Lists.{all_named, programs_fit}
use Rattle.session_file.proofs.Opens.{loaded, this_version}
use Rattle.session_file.proofs.Readings.{read_nothing, read_then, refused_then}
use Rattle.session_file.proofs.opening.load.Goals as goal

pub returns-in_err-session-clause-reads : goal.returns-in_err-session-clause-reads
returns-in_err-session-clause-reads g c =
    let p = err_from_is_err_and c.from_residual.result c.from_residual.ensures.1 in
    rw (p.1, p.2) (refused_then g.S.Store IsOpenRefused HasNoSession c.args.store.now c.args.store.now c.read_session.new.store _ (read_nothing g.S.Store IsOpenRefused c.args.store.now (tt {0}))
    (λ clean none. (none.0, λ k h. none.1 k.session h.limits.session h.session)) c.in_err-session.ensures.reads)

pub returns-in_err-answer-clause-reads : goal.returns-in_err-answer-clause-reads
returns-in_err-answer-clause-reads g c =
    let v = g.S.Store.view in
    let p = err_from_is_err_and c.from_residual-in_err-answer.result c.from_residual-in_err-answer.ensures.1 in
    rw (p.1, p.2) (refused_then g.S.Store _ HasNoAnswer c.args.store.now c.read_session.new.store c.read_answer.new.store _ c.in_ok-session.ensures.reads
    (λ clean none. (this_version (v c.args.store.now) (v c.read_session.new.store) _ (c.in_ok-session.ensures.reads.same clean) (c.in_ok-session.ensures.ok clean), λ k h. none k.answer h.answer)) c.in_err-answer.ensures.reads)

pub returns-in_err-read_entries-clause-reads : goal.returns-in_err-read_entries-clause-reads
returns-in_err-read_entries-clause-reads g c =
    let v = g.S.Store.view in
    let p = err_from_is_err_and c.from_residual-in_err-read_entries.result c.from_residual-in_err-read_entries.ensures.1 in
    let both = read_then g.S.Store _ _ IsOpenRefused c.args.store.now c.read_session.new.store c.read_answer.new.store {z = tt {0}} c.in_ok-session.ensures.reads c.in_ok-answer.ensures.reads in
    rw (p.1, p.2) (refused_then g.S.Store IsOpenRefused (HasNoEntries g.P.Entries.fits program_tree) c.args.store.now c.read_answer.new.store c.read_entries.new.store _ both
    (λ clean none.
    let at1 : IsClean (v c.read_session.new.store) = omega (arith, c.in_ok-answer.ensures.reads.quiet.clean, clean) in
    (this_version (v c.args.store.now) (v c.read_answer.new.store) _ (both.same clean) (c.in_ok-session.ensures.ok at1), λ k h. none k.programs (programs_fit _ (entries k.programs) c.requires.takes h.limits.programs) h.programs)) c.in_err-read_entries.ensures.reads)

pub returns-in_err-storage-clause-reads : goal.returns-in_err-storage-clause-reads
returns-in_err-storage-clause-reads g c =
    let v = g.S.Store.view in
    let p = err_from_is_err_and c.from_residual-in_err-storage.result c.from_residual-in_err-storage.ensures.1 in
    let both = read_then g.S.Store _ _ IsOpenRefused c.args.store.now c.read_session.new.store c.read_answer.new.store {z = tt {0}} c.in_ok-session.ensures.reads c.in_ok-answer.ensures.reads in
    let three = read_then g.S.Store IsOpenRefused _ IsOpenRefused c.args.store.now c.read_answer.new.store c.read_entries.new.store {z = tt {0}} both c.in_ok-read_entries.ensures.reads in
    rw (p.1, p.2) (refused_then g.S.Store IsOpenRefused HasNoStorage c.args.store.now c.read_entries.new.store c.load_storage.new.store _ three
    (λ clean none.
    let at1 : IsClean (v c.read_session.new.store) = omega (arith, c.in_ok-read_entries.ensures.reads.quiet.clean, c.in_ok-answer.ensures.reads.quiet.clean, clean) in
    (this_version (v c.args.store.now) (v c.read_entries.new.store) _ (three.same clean) (c.in_ok-session.ensures.ok at1), λ k h. none k.storage h.limits.storage h.storage)) c.in_err-storage.ensures.reads)

pub returns-clause-reads : goal.returns-clause-reads
returns-clause-reads g c =
    let both = read_then g.S.Store _ _ IsOpenRefused c.args.store.now c.read_session.new.store c.read_answer.new.store {z = tt {0}} c.in_ok-session.ensures.reads c.in_ok-answer.ensures.reads in
    let three = read_then g.S.Store IsOpenRefused _ IsOpenRefused c.args.store.now c.read_answer.new.store c.read_entries.new.store {z = tt {0}} both c.in_ok-read_entries.ensures.reads in
    read_then g.S.Store IsOpenRefused _ IsOpenRefused c.args.store.now c.read_entries.new.store c.load_storage.new.store three c.in_ok-storage.ensures.reads

pub returns-clause-ok : goal.returns-clause-ok
returns-clause-ok g c =
    let v = g.S.Store.view in
    let read = c.in_ok-read_entries.ensures.ok in (
      read.taken,
      read.made,
      λ clean.
          let at3 : IsClean (v c.read_entries.new.store) = omega (arith, c.load_storage.ensures.reads.quiet.clean, clean) in
          let at2 : IsClean (v c.read_answer.new.store) = omega (arith, c.load_storage.ensures.reads.quiet.clean, c.read_entries.ensures.reads.quiet.clean, clean) in
          let at1 : IsClean (v c.read_session.new.store) = omega (arith, c.load_storage.ensures.reads.quiet.clean, c.read_entries.ensures.reads.quiet.clean, c.read_answer.ensures.reads.quiet.clean, clean) in
          loaded (v c.args.store.now) (v c.read_session.new.store) (v c.read_answer.new.store) (v c.read_entries.new.store) (v c.load_storage.new.store) _
          (c.in_ok-session.ensures.reads.same at1) (c.in_ok-answer.ensures.reads.same at2) (c.in_ok-read_entries.ensures.reads.same at3) (c.in_ok-storage.ensures.reads.same clean)
          (c.in_ok-session.ensures.ok at1) (c.in_ok-answer.ensures.ok at2) (read.are_all at3) (c.in_ok-storage.ensures.ok clean)
          (record { storage = c.in_ok-storage.ensures.limits; programs = all_named _ (entries read.taken) read.fit; session = c.in_ok-session.ensures.limits }),
    )
