-- The page of the input has no address of a segment.
use Rattle.std.proofs.Common.{◌≡◌, false, List, [], ◌∷◌, All, None, refl, arith}
use Rattle.std.specs.Prelude.{find}
use Rattle.std.proofs.lemmas.Bool.Decides.{nat_tests}
use Rattle.std.proofs.lemmas.List.Elements.{All-head, All-tail}
use Rattle.std.proofs.lemmas.List.FromFn.{get_or-map-range_with_len}
use Rattle.elf32.specs.Layout.{IsPlaced}
use Rattle.elf32.specs.Pages.{has_page, page_rights, rights_of_page}
use Rattle.elf32.specs.declared.base_pages.BasePages.{BasePages}
use Rattle.elf32.specs.declared.segment.Segment.{Segment}
use Rattle.rv_mem.specs.Paged.{IsWritable}
use Rattle.rv_mem.specs.Space.{no_rights}

before : (s : Segment) → IsPlaced s → has_page 240 s ≡ false
before s placed =
    let last = placed.last in
    grind (arith, nat_tests)

none : (segments : List Segment) → All IsPlaced segments → find (has_page 240) segments ≡ None
none [] placed = refl
none (s ∷ segments) placed =
    rw (before s (All-head IsPlaced s segments placed)) (none segments (All-tail IsPlaced s segments placed))

-- so it may be stored to
pub input_writable : (base : BasePages) (segments : List Segment) → All IsPlaced segments → base.rights ≡ page_rights 256 segments → IsWritable base.rights 240
unfolding page_rights
input_writable base segments placed is =
    rw (is, get_or-map-range_with_len (rights_of_page segments) 0 256 240 240 no_rights (omega arith) (omega arith), none segments placed) refl
