use Rattle.std.proofs.Common.{◌≡◌, ◌++◌, ℕ, List, Err, rules, subst}
use Rattle.std.proofs.lemmas.Result.{err_from_is_err_and}
use Rattle.byte_streams.proofs.Writers.{writer_of}
use Rattle.session_serving.specs.Writing.{PrintsText}
use Rattle.session_serving.proofs.Writes.{cut, cut_before, printed, printed_behind}
use Rattle.session_turns.specs.Replies.{Done, answer_line}
use Rattle.session_turns.specs.Telling.{dump_text}
use Rattle.session_serving.proofs.writing.print_storage.Goals as goal

pub returns-in_err-write_whole : goal.returns-in_err-write_whole
returns-in_err-write_whole g c =
    let text = dump_text c.args.state.now.rules c.args.state.now.store in
    let line : c.as_bytes.result.now ≡ answer_line (Done text) = first_of (cc, search rules) in
    let p = err_from_is_err_and c.from_residual.result c.from_residual.ensures.1 in
    rw (p.1, p.2) (subst (λ (l : List ℕ). PrintsText {X = Unit {0}} (writer_of g.W.Write g.W.Destination) (Err c.in_err-write_whole.field-0.0) c.args.out.now c.write_whole.new.out (l ++ text)) line
    (cut_before text c.in_err-write_whole.ensures.writes))

pub returns : goal.returns
returns g c =
    let text = dump_text c.args.state.now.rules c.args.state.now.store in
    let line : c.as_bytes.result.now ≡ answer_line (Done text) = first_of (cc, search rules) in
    subst (λ (l : List ℕ). PrintsText (writer_of g.W.Write g.W.Destination) c.flush.result c.args.out.now c.flush.new.out (l ++ text)) line
    (printed_behind c.in_ok-write_whole.ensures.writes (printed c.flush.result c.in_ok-write_dump.ensures.writes c.flush.ensures.keeps c.flush.ensures.flushed c.flush.ensures.refused c.flush.ensures.no_worse))

pub returns-in_err-write_dump : goal.returns-in_err-write_dump
returns-in_err-write_dump g c =
    let text = dump_text c.args.state.now.rules c.args.state.now.store in
    let line : c.as_bytes.result.now ≡ answer_line (Done text) = first_of (cc, search rules) in
    let p = err_from_is_err_and c.from_residual-in_err-write_dump.result c.from_residual-in_err-write_dump.ensures.1 in
    rw (p.1, p.2) (subst (λ (l : List ℕ). PrintsText {X = Unit {0}} (writer_of g.W.Write g.W.Destination) (Err c.in_err-write_dump.field-0.0) c.args.out.now c.write_dump.new.out (l ++ text)) line
    (printed_behind c.in_ok-write_whole.ensures.writes (cut c.in_err-write_dump.ensures.writes)))
