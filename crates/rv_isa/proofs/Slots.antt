-- The slots of a word of each format.
use Rattle.std.proofs.Common.{◌≡◌, ℕ, ◌+◌, ◌*◌, ◌/◌, ◌%◌, ◌^◌, ◌<◌, ℤ, arith, ap, ◌∙◌}
use Rattle.rv_isa.specs.Number.{residue, bits}
use Rattle.rv_isa.specs.Format.{r_word, i_word, s_word, b_word, u_word, j_word}
use Rattle.rv_isa.specs.Decoding.{slots, slots_of}

pub slots-r_word : (f7 r2 r1 f3 d op : ℕ) → r2 < 32 → r1 < 32 → f3 < 8 → d < 32 → op < 128 → slots_of (r_word f7 r2 r1 f3 d op) ≡ slots f7 r2 r1 f3 d op
slots-r_word f7 r2 r1 f3 d op h2 h1 h3 hd ho =
    let w : ℕ = r_word f7 r2 r1 f3 d op in
    let e7 : w / 2 ^ 25 ≡ f7 = omega arith in
    let e2 : w / 2 ^ 20 % 2 ^ 5 ≡ r2 = omega arith in
    let e1 : w / 2 ^ 15 % 2 ^ 5 ≡ r1 = omega arith in
    let e3 : w / 2 ^ 12 % 2 ^ 3 ≡ f3 = omega arith in
    let ed : w / 2 ^ 7 % 2 ^ 5 ≡ d = omega arith in
    let eo : w % 2 ^ 7 ≡ op = omega arith in
    cc

pub slots-i_word : (z : ℤ) (r1 f3 d op : ℕ) → r1 < 32 → f3 < 8 → d < 32 → op < 128 → slots_of (i_word z r1 f3 d op) ≡ slots (residue 12 z / 2 ^ 5) (residue 12 z % 2 ^ 5) r1 f3 d op
slots-i_word z r1 f3 d op h1 h3 hd ho =
    let n : ℕ = residue 12 z in
    let e : i_word z r1 f3 d op ≡ r_word (n / 2 ^ 5) (n % 2 ^ 5) r1 f3 d op = omega arith in
    ap slots_of e ∙ slots-r_word (n / 2 ^ 5) (n % 2 ^ 5) r1 f3 d op (omega arith) h1 h3 hd ho

pub slots-s_word : (z : ℤ) (r2 r1 f3 op : ℕ) → r2 < 32 → r1 < 32 → f3 < 8 → op < 128 → slots_of (s_word z r2 r1 f3 op) ≡ slots (bits (residue 12 z) 5 7) r2 r1 f3 (bits (residue 12 z) 0 5) op
slots-s_word z r2 r1 f3 op h2 h1 h3 ho =
    let n : ℕ = residue 12 z in
    slots-r_word (bits n 5 7) r2 r1 f3 (bits n 0 5) op h2 h1 h3 (omega arith) ho

pub slots-b_word : (z : ℤ) (r2 r1 f3 op : ℕ) → r2 < 32 → r1 < 32 → f3 < 8 → op < 128 → slots_of (b_word z r2 r1 f3 op) ≡ slots (bits (residue 13 z) 12 1 * 2 ^ 6 + bits (residue 13 z) 5 6) r2 r1 f3 (bits (residue 13 z) 1 4 * 2 + bits (residue 13 z) 11 1) op
slots-b_word z r2 r1 f3 op h2 h1 h3 ho =
    let n : ℕ = residue 13 z in
    let f7 : ℕ = bits n 12 1 * 2 ^ 6 + bits n 5 6 in
    let d : ℕ = bits n 1 4 * 2 + bits n 11 1 in
    let e : b_word z r2 r1 f3 op ≡ r_word f7 r2 r1 f3 d op = omega arith in
    ap slots_of e ∙ slots-r_word f7 r2 r1 f3 d op h2 h1 h3 (omega arith) ho

pub slots-u_word : (n d op : ℕ) → d < 32 → op < 128 → slots_of (u_word n d op) ≡ slots (n / 2 ^ 13) (n / 2 ^ 8 % 2 ^ 5) (n / 2 ^ 3 % 2 ^ 5) (n % 2 ^ 3) d op
slots-u_word n d op hd ho =
    let e : u_word n d op ≡ r_word (n / 2 ^ 13) (n / 2 ^ 8 % 2 ^ 5) (n / 2 ^ 3 % 2 ^ 5) (n % 2 ^ 3) d op = omega arith in
    ap slots_of e ∙ slots-r_word (n / 2 ^ 13) (n / 2 ^ 8 % 2 ^ 5) (n / 2 ^ 3 % 2 ^ 5) (n % 2 ^ 3) d op (omega arith) (omega arith) (omega arith) hd ho

-- bits 31 to 12 of a word of the J format
abbrev pub j_top : ℕ → ℕ
j_top n = bits n 20 1 * 2 ^ 19 + bits n 1 10 * 2 ^ 9 + bits n 11 1 * 2 ^ 8 + bits n 12 8

pub slots-j_word : (z : ℤ) (d op : ℕ) → d < 32 → op < 128 → slots_of (j_word z d op) ≡ slots (j_top (residue 21 z) / 2 ^ 13) (j_top (residue 21 z) / 2 ^ 8 % 2 ^ 5) (j_top (residue 21 z) / 2 ^ 3 % 2 ^ 5) (j_top (residue 21 z) % 2 ^ 3) d op
slots-j_word z d op hd ho =
    let n : ℕ = residue 21 z in
    let e : j_word z d op ≡ u_word (j_top n) d op = omega arith in
    ap slots_of e ∙ slots-u_word (j_top n) d op hd ho
