use Rattle.std.proofs.lemmas.List.{append_assoc}
use Rattle.byte_streams.proofs.refusal.refusal_line.Goals as goal

-- the pushes make the parts in order
pub returns : goal.returns
returns c =
    rw (
      c.push_str-7.ensures.bytes,
      c.push_str-6.ensures.bytes,
      c.push_str-5.ensures.bytes,
      c.push_str-4.ensures.bytes,
      c.push_number.ensures.bytes,
      c.push_str-3.ensures.bytes,
      c.push_str-2.ensures.bytes,
      c.push_str.ensures.bytes,
      c.new-line.ensures,
      c.format.ensures.text,
    )
    (simp append_assoc)
