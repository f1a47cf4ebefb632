use Rattle.std.proofs.Common.{◌≡◌, ◌++◌, ◌∷◌, [], ℕ, List, append_assoc, subst, if◌then◌else◌}
use Rattle.std.specs.Prelude.{codes}
use Rattle.std.specs.FinMap.{len}
use Rattle.byte_streams.specs.Written.{Writer}
use Rattle.receipts.proofs.Buffers.{appended_then}
use Rattle.receipts.specs.Buffer.{Appended}
use Rattle.receipts.specs.declared.buffer.TextBuffer.{TextBuffer}
use Rattle.receipts.specs.Text.{printed_line}
use Rattle.rv_ledger.specs.Rules.{rules_number}
use Rattle.session_turns.specs.Telling.{digest_line, number_line, number_text_or_none}
use Rattle.session_turns.proofs.state_lines.push_state.Goals as goal

module _ {S : Type 0} {to : Writer S} where
  all_parts : {p q r t : TextBuffer} {k l m n : S} (a b c d e f g h : List ℕ)
      → Appended to p k q l (((a ++ b) ++ c) ++ d) → Appended to q l r m ((e ++ f) ++ g) → Appended to r m t n h
      → Appended to p k t n (((((((a ++ b) ++ c) ++ d) ++ e) ++ f) ++ g) ++ h)
  all_parts {p = p} {t = t} {k = k} {n = n} a b c d e f g h x y z =
      let same : ((((a ++ b) ++ c) ++ d) ++ ((e ++ f) ++ g)) ++ h ≡ ((((((a ++ b) ++ c) ++ d) ++ e) ++ f) ++ g) ++ h = simp append_assoc in
      subst (Appended to p k t n) same (appended_then (appended_then x y) z)

pub returns : goal.returns
returns g c = all_parts
    (number_line (codes "rules") (rules_number c.args.state.now.rules)) (number_line (codes "height") c.args.state.now.height) (number_line (codes "keys") (len c.args.state.now.store))
    (number_line (codes "programs") (len c.args.state.now.programs)) (number_line (codes "frame-limit") c.args.settings.frame_limit)
    (printed_line (codes "frame-gas") (number_text_or_none c.args.settings.frame_gas ∷ [])) (number_line (codes "brief") (if c.args.settings.is_brief then 1 else 0)) (digest_line c.args.state.now.digest)
    c.push_counts.ensures c.push_settings.ensures c.push_digest.ensures
