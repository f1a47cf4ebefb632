use Rattle.std.proofs.Common.{◌≡◌, ℕ, ◌+◌, ◌-◌, ◌/◌, ◌%◌, ◌<◌, ◌≤◌, true, false, [], length, get_or, ◌∙◌, sym, ap, arith}
use Rattle.std.proofs.lemmas.Bool.{and_right, not-false}
use Rattle.std.proofs.lemmas.Bool.Decides.{nat_tests}
use Rattle.std.proofs.lemmas.List.{get_or_read}
use Rattle.elf32.specs.Pages.{page_at}
use Rattle.elf32.specs.declared.segment.Rights.{Rights}
use Rattle.rv_mem.specs.Code.{IsCode, place_of_page}
use Rattle.rv_mem.specs.Space.{allows_at, is_address, no_rights}
use Rattle.rv_mem.specs.declared.access.Access.TheVariants.{Write, Execute}
use Rattle.rv_mem.proofs.Each.{inside, may_same}
use Rattle.rv_mem.proofs.code.code_page.Goals as goal

pub returns : goal.returns
returns c = λ memory has.
    let program = c.args.program.now in
    let a = c.args.address in
    let low : 65536 ≤ a = grind (arith, nat_tests, c.if-at-ge-BEFORE_INPUT.false) in
    let high : a < 1048576 = grind (arith, nat_tests, c.if-at-ge-BEFORE_INPUT.false) in
    let first : ℕ = a - a % 4096 in
    let near : a / 4096 ≡ first / 4096 = omega arith in
    let number : (a + 4294901760) % 4294967296 / 4096 ≡ (a - 65536) / 4096 = omega arith in
    let here : Rights = get_or program.rights ((a - 65536) / 4096) no_rights in
    let executable : here.executable ≡ true = not-false here.executable (rw number at c.if-not-rights.false) in
    let writable : here.writable ≡ false = rw number at c.if-rights.false in
    let runs : allows_at Execute memory.rights a ≡ true = inside Execute memory.rights a low (omega arith) (rw has.rights executable) in
    let fixed : allows_at Write memory.rights a ≡ false = and_right (is_address a) _ (rw has.rights writable) in
    let there = get_or_read program.index ((a + 4294901760) % 4294967296 / 4096) c.index-program-number.result (omega arith) c.index-program-number.is 0 in
    let same : (first - 65536) / 4096 ≡ (a + 4294901760) % 4294967296 / 4096 = omega arith in
    let place : place_of_page program first ≡ c.index-program-number.result = ap (λ (k : ℕ). get_or program.index k 0) same ∙ sym there in
    let is : IsCode memory first (page_at program.pages.items (place_of_page program first)) = has.pages first (omega arith) (omega arith) (sym (may_same Execute memory.rights a first near) ∙ runs) (sym (may_same Write memory.rights a first near) ∙ fixed) in
    let in_range : get_or program.index ((a + 4294901760) % 4294967296 / 4096) 0 < length program.pages.items = c.requires.each _ 0 (omega arith) in
    let read = get_or_read program.pages.items c.in_program.result c.index.result.now (omega (arith, in_range, there, c.in_program.ensures)) c.index.ensures [] in
    let page : c.index.result.now ≡ page_at program.pages.items (place_of_page program first) = read ∙ ap (page_at program.pages.items) (c.in_program.ensures ∙ sym c.index-program-number.is ∙ sym place) in
    rw page is
