use Rattle.std.proofs.Common.{◌≡◌, rules}
use Rattle.session_turns.specs.Replies.{answer_line, kept_reply}
use Rattle.session_durability.proofs.staging.stage_kept.Goals as goal

pub returns : goal.returns
returns g c =
    let line : c.as_bytes.result.now ≡ answer_line (kept_reply c.args.kept.now) = first_of (cc, search rules) in
    rw (← line, ← c.bytes_of_kept.ensures) c.stage_answer.ensures
