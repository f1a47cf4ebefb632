use Rattle.std.proofs.Common.{◌≡◌, ℕ, zero, suc, ◌<◌, List, length, take, refl, subst, arith, length-take-le}
use Rattle.std.specs.Io.BufRead.{FillKeeps}
use Rattle.std.proofs.BufReadLemmas.{Consumes_shown}
use Rattle.session_requests.proofs.reading.read_piece.Goals as goal

none_shown : (n k m : ℕ) → (0 < k → 0 < m → 0 < n) → 0 < m → n ≡ 0 → k ≡ 0
none_shown n zero m some most e = refl
none_shown n (suc k) m some most e = absurd (omega (arith, some (omega arith) most, e))

pub returns-clause-bytes : goal.returns-clause-bytes
returns-clause-bytes g c =
    let shown : List ℕ = c.in-Ok.shown.now in
    let count : ℕ = c.at_most-count.result in
    let rested = c.fill_part.follows.lender-at-none in
    let filled = subst (FillKeeps (g.R.Read.remaining c.args.input.now) (g.R.Read.remaining rested) (g.R.BufRead.consumable_len rested)) c.in-Ok.is c.fill_part.follows.holds-at-none.0 in
    let moved = Consumes_shown (g.R.Read.remaining c.args.input.now) (g.R.Read.remaining rested) (g.R.Read.remaining c.consume_part.new.self) (g.R.BufRead.consumable_len rested) shown count
    c.at_most-count.ensures.shown c.in-Ok.ensures.front c.in-Ok.ensures.end filled.0 filled.1 c.consume_part.ensures.bytes in (
      take count shown,
      moved.0,
      length-take-le count shown c.at_most-count.ensures.shown,
      c.at_most-count.ensures.most,
      λ none. moved.1 (none_shown count (length shown) c.args.most c.at_most-count.ensures.some c.requires none),
      c.with_part-longer.ensures.longer,
    )
