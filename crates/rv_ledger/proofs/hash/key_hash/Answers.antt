use Rattle.std.proofs.Common.{◌≡◌, ℕ, ◌+◌, ◌%◌, ◌^◌, ap, ◌∙◌}
use Rattle.std.proofs.Math.Nat.{mod-add-mod}
use Rattle.rv_ledger.specs.KeyHash.{key_hash, mixed, sum_of}
use Rattle.rv_ledger.proofs.hash.key_hash.Goals as goal

-- a sum that is reduced at each step is the sum reduced once
reduced : (a b c d m : ℕ) → (((a + b) % m + c) % m + d) % m ≡ (a + b + c + d) % m
reduced a b c d m = ap (λ n. (n + d) % m) (mod-add-mod (a + b) m c) ∙ mod-add-mod (a + b + c) m d

pub returns : goal.returns
unfolding key_hash
returns c =
    let sum : (c.word_at.result + c.word_at-2.result + c.word_at-3.result + c.word_at-4.result) % 2 ^ 64 ≡ sum_of c.args.key.now =
    rw (c.word_at.ensures, c.word_at-2.ensures, c.word_at-3.ensures, c.word_at-4.ensures, c.bytes-bytes.ensures.value) in
    rw (c.mix-2.ensures, c.mix.ensures) (ap (λ s. mixed (mixed s)) (reduced c.word_at.result c.word_at-2.result c.word_at-3.result c.word_at-4.result (2 ^ 64) ∙ sum))
