use Rattle.std.proofs.Common.{◌≡◌, ◌*◌, ◌+◌, ◌-◌, ℕ, List, [], Ok, length, take, drop, refl, sym, ap, ◌∙◌, arith, rules, append-nil, length-drop}
use Rattle.std.proofs.lemmas.List.{drop_all, length-take, take_all}
use Rattle.std.proofs.lemmas.Slice.{take-put_mid}
use Rattle.hex.specs.Hex.{decode_pairs}
use Rattle.block_file.proofs.HexText.{all_refused, more_read}
use Rattle.block_file.proofs.hex_text.decode.Goals as goal

pub loop-out-init : goal.loop-out-init
unfolding decode_pairs
loop-out-init c = record { within = omega arith; read = refl }

pub returns-then-not-decode_sixteen : goal.returns-then-not-decode_sixteen
returns-then-not-decode_sixteen c =
    let text : List ℕ = c.args.text.now in
    let at : ℕ = c.loop-out.at in
    let many : 16 ≡ length c.decode_sixteen.new.out = omega (arith, c.decode_sixteen.auto.out, length-take {A = ℕ}, length-drop {A = ℕ}) in
    let read = more_read text c.loop-out.out c.decode_sixteen.new.out at 16 (2 * at + 32 - 2 * at) c.decode_sixteen.result many (omega arith) (omega arith) c.loop-out.invariant.read c.decode_sixteen.ensures in
    all_refused text (2 * (at + 16)) (omega arith) (omega arith) (omega arith) (rw c.if-not-decode_sixteen.true at read)

pub loop-out-preserved : goal.loop-out-preserved
loop-out-preserved c =
    let at : ℕ = c.loop-out.at in
    let many : 16 ≡ length c.decode_sixteen.new.out = omega (arith, c.decode_sixteen.auto.out, length-take {A = ℕ}, length-drop {A = ℕ}) in
    let read = more_read c.args.text.now c.loop-out.out c.decode_sixteen.new.out at 16 (2 * at + 32 - 2 * at) c.decode_sixteen.result many (omega arith) (omega arith) c.loop-out.invariant.read c.decode_sixteen.ensures in
    record {
      within = search rules;
      read = rw c.if-not-decode_sixteen.false at read ∙ ap Ok (sym (take-put_mid at (at + 16 - at) c.loop-out.out c.decode_sixteen.new.out (at + 16) (omega arith) c.loop-out.invariant.within));
    }

pub returns : goal.returns
returns c =
    let text : List ℕ = c.args.text.now in
    let at : ℕ = c.loop-out.at in
    let count : ℕ = length c.loop-out.out - at in
    let many : count ≡ length c.decode_rest.new.out = omega (arith, c.decode_rest.auto.out, length-take {A = ℕ}, length-drop {A = ℕ}) in
    let read = more_read text c.loop-out.out c.decode_rest.new.out at count (length text - 2 * at) c.decode_rest.result many (omega arith) (omega arith) c.loop-out.invariant.read c.decode_rest.ensures in
    let whole : take (2 * (at + count)) text ≡ text = take_all _ text (omega arith) in
    let nothing : drop count (drop at c.loop-out.out) ≡ [] = drop_all count (drop at c.loop-out.out) (omega (arith, length-drop at c.loop-out.out)) in
    rw (nothing, append-nil) (rw whole at read)
