-- Text on its way to a writer: what appending to it and writing it leave.
use Rattle.std.proofs.Common.{◌≡◌, ℕ, suc, ◌+◌, ◌<◌, ◌≤◌, List, [], ◌∷◌, ◌++◌, get_or, add-one, drop-cons, Option, Some, None, Result, length, drop, refl, sym, ap, subst, ◌∙◌, arith, append-nil, append_assoc, length-append, length-drop}
use Rattle.std.specs.Prelude.{IfSome, MatchOption}
use Rattle.std.specs.Io.KnownBytes.{Appends, Keeps}
use Rattle.std.proofs.KnownBytes.{Appends-nil}
use Rattle.std.proofs.lemmas.List.{drop_all, take_all, take-append-le}
use Rattle.byte_streams.proofs.Taken.{written_more, written_part}
use Rattle.byte_streams.specs.Written.{AppendsPart, AtMostAs, IsWrittenBefore, Writer, WritesText}
use Rattle.byte_streams.specs.declared.fault.WriteFault.{WriteFault}
use Rattle.receipts.specs.Buffer.{Appended, FinishesText, Holds, IsKept}
use Rattle.receipts.specs.declared.buffer.TextBuffer.{TextBuffer}

-- some first bytes of a text were appended, and the rest follows them
abbrev pub IsAppendedBefore : {S : Type 0} → Writer S → TextBuffer → S → TextBuffer → S → List ℕ → List ℕ → Type 0
IsAppendedBefore to old before new after rest text = (done : List ℕ) × (done ++ rest ≡ text) × Appended to old before new after done

longer_part : (a b : Option (List ℕ)) (text bytes : List ℕ) → AppendsPart a b text → AppendsPart a b (text ++ bytes)
longer_part a b text bytes (n, less, appends) =
    let within : n ≤ length text = omega arith in
    (n, omega (arith, length-append text bytes), subst (Appends a b) (sym (take-append-le n text bytes within)) appends)

keeps_itself : (a : Option (List ℕ)) → Keeps a a
keeps_itself None = tt
keeps_itself (Some x) = refl

all_written : (start k l : Option (List ℕ)) (waiting text : List ℕ) → Appends k l waiting → IsWrittenBefore start k waiting text → IsWrittenBefore start l [] text
all_written start k l waiting text writes h =
    subst (λ w. IsWrittenBefore start l w text) (drop_all (length waiting) waiting (omega arith))
    (written_more start k l waiting text (length waiting) h (subst (Appends k l) (sym (take_all (length waiting) waiting (omega arith))) writes))

part_written : (start k l : Option (List ℕ)) (waiting text : List ℕ) → AppendsPart k l waiting → IsWrittenBefore start k waiting text → AppendsPart start l text
part_written start k l waiting text (n, less, writes) h =
    written_part start l l (drop n waiting) text (omega (arith, length-drop n waiting)) (written_more start k l waiting text n h writes) (keeps_itself l)

-- no text, and nothing of it was written
holds_nothing : {S : Type 0} (to : Writer S) (a : TextBuffer) (k : S) → a.refused ≡ None → a.waiting.items ≡ [] → Holds to a k k []
holds_nothing to a k none empty = ((λ fault f. f), rw (none, empty) ([], refl, Appends-nil (to.contents k)))

module _ {S : Type 0} {to : Writer S} where
  -- one after another
  pub appended_then : {a b c : TextBuffer} {k l m : S} {xs ys : List ℕ} → Appended to a k b l xs → Appended to b l c m ys → Appended to a k c m (xs ++ ys)
  appended_then {c = c} {m = m} {xs = xs} {ys = ys} first then_ = record {
    holds = λ start text h. subst (Holds to c start m) (append_assoc text xs ys) (then_.holds start (text ++ xs) (first.holds start text h));
  }

  -- nothing is appended
  pub nothing_appended : (a : TextBuffer) (k : S) → Appended to a k a k []
  nothing_appended a k = record { holds = λ start text h. subst (Holds to a start k) (sym (append-nil text)) h }

  -- bytes that wait after those that waited
  pub appended_waiting : (a b : TextBuffer) (k : S) (bytes : List ℕ) → b.waiting.items ≡ a.waiting.items ++ bytes → b.refused ≡ a.refused → Appended to a k b k bytes
  appended_waiting a b k bytes waits same = record {
    holds = λ start text h. (h.0, subst (λ r. IsKept to r b.waiting.items start k (text ++ bytes)) (sym same) (kept start text a.refused h.1));
  }
    where
      kept : (start : S) (text : List ℕ) (r : Option WriteFault) → IsKept to r a.waiting.items start k text → IsKept to r b.waiting.items start k (text ++ bytes)
      kept start text None h = (h.0, ap (λ w. h.0 ++ w) waits ∙ sym (append_assoc h.0 a.waiting.items bytes) ∙ ap (λ t. t ++ bytes) h.1, h.2)
      kept start text (Some f) h = (longer_part (to.contents start) (to.contents k) text bytes h.0, h.1)

  -- what waited was written, or a beginning of it; or nothing was, since a write had been refused
  pub waiting_written : (a b : TextBuffer) (k l : S)
      → (a.refused ≡ None → MatchOption b.refused (Appends (to.contents k) (to.contents l) a.waiting.items) (λ fault. AppendsPart (to.contents k) (to.contents l) a.waiting.items × to.may_refuse k fault))
      → IfSome a.refused (λ fault. (b.refused ≡ Some fault) × (l ≡ k)) → AtMostAs (to.may_refuse l) (to.may_refuse k) → b.waiting.items ≡ []
      → Appended to a k b l []
  waiting_written a b k l writes before same empty = record {
    holds = λ start text h. (
      (λ fault f. h.0 fault (same fault f)),
      rw (empty, append-nil text) (kept start text a.refused b.refused h.0 h.1 writes before),
    );
  }
    where
      kept : (start : S) (text : List ℕ) (r s : Option WriteFault) → AtMostAs (to.may_refuse k) (to.may_refuse start) → IsKept to r a.waiting.items start k text
          → (r ≡ None → MatchOption s (Appends (to.contents k) (to.contents l) a.waiting.items) (λ fault. AppendsPart (to.contents k) (to.contents l) a.waiting.items × to.may_refuse k fault))
          → IfSome r (λ fault. (s ≡ Some fault) × (l ≡ k)) → IsKept to s [] start l text
      kept start text None None may h w e = all_written (to.contents start) (to.contents k) (to.contents l) a.waiting.items text (w refl) h
      kept start text None (Some g) may h w e = (
        part_written (to.contents start) (to.contents k) (to.contents l) a.waiting.items text (w refl).0 h,
        may g (w refl).1,
      )
      kept start text (Some f) s may h w e = rw (e.0, e.1) h

  -- a text that was appended to an empty buffer, and then finished
  pub whole_text : {X : Type 0} (r : Result X WriteFault) {a b : TextBuffer} {k l m : S} {text : List ℕ} → a.refused ≡ None → a.waiting.items ≡ [] → Appended to a k b l text
      → FinishesText to r b l m → WritesText to r k m text
  whole_text r {a = a} {k = k} {text = text} none empty all finish = finish k text (all.holds k [] (holds_nothing to a k none empty))

  -- ---- a text that is appended in parts

  -- none yet
  pub none_yet : (a : TextBuffer) (k : S) (text : List ℕ) → IsAppendedBefore to a k a k text text
  none_yet a k text = ([], refl, nothing_appended a k)

  -- and then more
  pub appended_more : {a b c : TextBuffer} {k l m : S} {rest text bytes : List ℕ} (next : List ℕ) → IsAppendedBefore to a k b l rest text → Appended to b l c m bytes → bytes ++ next ≡ rest → IsAppendedBefore to a k c m next text
  appended_more {bytes = bytes} next before more is = (before.0 ++ bytes, append_assoc before.0 bytes next ∙ ap (λ r. before.0 ++ r) is ∙ before.1, appended_then before.2 more)

  -- and then the rest
  pub appended_all : {a b c : TextBuffer} {k l m : S} {rest text bytes : List ℕ} → IsAppendedBefore to a k b l rest text → Appended to b l c m bytes → bytes ≡ rest → Appended to a k c m text
  appended_all {a = a} {c = c} {k = k} {m = m} before last is = subst (Appended to a k c m) (ap (λ r. before.0 ++ r) is ∙ before.1) (appended_then before.2 last)

  -- nothing is left
  pub appended_whole : {a b : TextBuffer} {k l : S} {text : List ℕ} (rest : List ℕ) → IsAppendedBefore to a k b l rest text → rest ≡ [] → Appended to a k b l text
  appended_whole {a = a} {b = b} {k = k} {l = l} rest before is = subst (Appended to a k b l) (sym (append-nil before.0) ∙ ap (λ r. before.0 ++ r) (sym is) ∙ before.1) before.2

-- the elements that are left, with the next one
pub next_left : {X : Type 0} (xs : List X) (i : ℕ) (x : X) → x ≡ get_or xs i x → i < length xs → x ∷ drop (i + 1) xs ≡ drop i xs
next_left xs i x is less = rw add-one (ap (λ y. y ∷ drop (suc i) xs) is ∙ sym (drop-cons xs i x less))
