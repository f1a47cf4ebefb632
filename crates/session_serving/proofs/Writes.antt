-- How a text is written.
use Rattle.std.proofs.Common.{◌≡◌, ℕ, List, [], ◌++◌, take, drop, Option, Result, Ok, Err, sym, ap, ◌∙◌, append_assoc, append-nil}
use Rattle.std.proofs.lemmas.List.{take-append-drop}
use Rattle.std.proofs.KnownBytes.{Appends-kept, Appends-trans}
use Rattle.std.specs.Io.KnownBytes.{Appends, Keeps}
use Rattle.std.specs.Prelude.{IfErr, OnOk}
use Rattle.std.proofs.lemmas.Result.{IfErr-weaker}
use Rattle.byte_streams.specs.Written.{AppendsPart, AtMostAs, Writer, WritesText}
use Rattle.byte_streams.specs.declared.fault.WriteFault.{WriteFault}
use Rattle.session_serving.specs.Writing.{PrintsText, Says}

-- a part of a text is a beginning of it
part_of : (text : List ℕ) (before after : Option (List ℕ)) → AppendsPart before after text → (part : List ℕ) × (left : List ℕ) × (part ++ left ≡ text) × Appends before after part
part_of text before after (n, below, a) = (take n text, drop n text, take-append-drop n text, a)

-- a part of a text is also a beginning of that text with more after it
part_before : (line text : List ℕ) (before after : Option (List ℕ)) → AppendsPart before after line → (part : List ℕ) × (left : List ℕ) × (part ++ left ≡ line ++ text) × Appends before after part
part_before line text before after (n, below, a) = (
  take n line,
  drop n line ++ text,
  sym (append_assoc (take n line) (drop n line) text) ∙ ap (λ (t : List ℕ). t ++ text) (take-append-drop n line),
  a,
)

-- a text that was written, and then flushed
flushed : {X E : Type 0} (r : Result X E) (text : List ℕ) (before mid after : Option (List ℕ)) → Appends before mid text → Keeps mid after → Says r before after text
flushed (Ok x) text before mid after a k = Appends-kept before mid after text a k
flushed (Err e) text before mid after a k = (text, [], append-nil text, Appends-kept before mid after text a k)

-- a text after a line that was written
says_behind : {X E : Type 0} (r : Result X E) (line text : List ℕ) (before mid after : Option (List ℕ)) → Appends before mid line → Says r mid after text → Says r before after (line ++ text)
says_behind (Ok x) line text before mid after a s = Appends-trans before mid after line text a s
says_behind (Err e) line text before mid after a (part, left, whole, s) = (
  line ++ part,
  left,
  append_assoc line part left ∙ ap (λ (t : List ℕ). line ++ t) whole,
  Appends-trans before mid after line part a s,
)

module _ {S X : Type 0} {to : Writer S} where
  -- a part of a text was written
  pub cut : {Y : Type 0} {e : WriteFault} {old new : S} {text : List ℕ} → WritesText {X = Y} to (Err e) old new text → PrintsText {X = X} to (Err e) old new text
  cut {old = old} {new = new} {text = text} w = record { says = part_of text (to.contents old) (to.contents new) w.err; flushed = tt; refused = w.cause; no_worse = w.same }

  -- a part of a text with more after it was written
  pub cut_before : {Y : Type 0} {e : WriteFault} {old new : S} {line : List ℕ} (text : List ℕ) → WritesText {X = Y} to (Err e) old new line → PrintsText {X = X} to (Err e) old new (line ++ text)
  cut_before {old = old} {new = new} {line = line} text w = record { says = part_before line text (to.contents old) (to.contents new) w.err; flushed = tt; refused = w.cause; no_worse = w.same }

  -- a text after a line that was written
  pub printed_behind : {Y : Type 0} {y : Y} {r : Result X WriteFault} {old mid new : S} {line text : List ℕ} → WritesText to (Ok y) old mid line → PrintsText to r mid new text → PrintsText to r old new (line ++ text)
  printed_behind {r = r} {old = old} {mid = mid} {new = new} {line = line} {text = text} w p = record {
    says = says_behind r line text (to.contents old) (to.contents mid) (to.contents new) w.ok p.says;
    flushed = p.flushed;
    refused = IfErr-weaker r _ _ w.same p.refused;
    no_worse = λ fault h. w.same fault (p.no_worse fault h);
  }

  -- a text that was written, and then flushed
  pub printed : {Y : Type 0} {y : Y} (r : Result X WriteFault) {old mid new : S} {text : List ℕ} → WritesText to (Ok y) old mid text
      → Keeps (to.contents mid) (to.contents new) → OnOk r (to.is_flushed new) → IfErr r (to.may_refuse mid) → AtMostAs (to.may_refuse new) (to.may_refuse mid)
      → PrintsText to r old new text
  printed r {old = old} {mid = mid} {new = new} {text = text} w keeps ended cause same = record {
    says = flushed r text (to.contents old) (to.contents mid) (to.contents new) w.ok keeps;
    flushed = ended;
    refused = IfErr-weaker r _ _ w.same cause;
    no_worse = λ fault h. w.same fault (same fault h);
  }
