-- The code of a program in the memory of a call.
use Rattle.std.proofs.Common.{◌≡◌, ℕ, ◌-◌, ◌*◌, ◌/◌, ◌%◌, ◌<◌, ◌≤◌, List, length, drop, take, refl, sym, ap, ◌∙◌, arith}
use Rattle.std.proofs.lemmas.Bool.Decides.{nat_tests}
use Rattle.elf32.specs.Layout.{Layout}
use Rattle.elf32.specs.Pages.{HoldSegments, page_at, segment_bytes}
use Rattle.elf32.specs.declared.base_pages.BasePages.{BasePages}
use Rattle.rv_mem.specs.Code.{HasCode, place_of_page}
use Rattle.rv_mem.specs.Space.{Space, bytes_at}
use Rattle.rv_mem.specs.Start.{start_space}
use Rattle.rv_mem.proofs.Flat.{length_pages, rest_one}
use Rattle.rv_mem.proofs.PageOfCode.{Keeps, length_written, write_after}
use Rattle.rv_mem.proofs.Pools.{sized}

-- a change that keeps the rights and the pages of code keeps the code of a program
pub keeps_program : (memory after : Space) (program : BasePages) → Keeps memory after → HasCode memory program → HasCode after program
keeps_program memory after program kept has = record {
  rights = kept.rights ∙ has.rights;
  places = has.places;
  pages = λ first start before runs fixed. kept.code first (page_at program.pages.items (place_of_page program first)) (has.pages first start before (rw kept.rights at runs) (rw kept.rights at fixed));
}

-- memory before the first instruction has the code of its program, whatever the input
module _ (layout : Layout) (input : List ℕ) (program : BasePages) (hold : HoldSegments program layout.segments) where
  all_long : length (segment_bytes layout.segments) ≡ 1048576
  all_long =
      let len = hold.index_len in
      ap length (sym hold.bytes)
      ∙ length_pages (page_at program.pages.items) program.index (sized program.pages.items program.index hold.sizes hold.places)
      ∙ ap (λ (n : ℕ). 4096 * n) len

  first_page : (first : ℕ) → first % 4096 ≡ 0 → 65536 ≤ first → first < 1048576 → page_at program.pages.items (place_of_page program first) ≡ bytes_at (start_space layout input) first 4096
  first_page first start low before =
      let len = hold.index_len in
      let long = all_long in
      let whole : (first - 65536) % 4096 ≡ 0 = omega arith in
      let was = rw whole at (rest_one (page_at program.pages.items) program.index (first - 65536) ((first - 65536) / 4096) 0 (sized program.pages.items program.index hold.sizes hold.places) refl (omega arith)) in
      was
      ∙ ap (λ (l : List ℕ). take 4096 (drop (first - 65536) l)) hold.bytes
      ∙ sym (write_after (segment_bytes layout.segments) input (first - 65536) 4096 983040 (omega arith) (omega arith))

  pub starts : HasCode (start_space layout input) program
  starts =
      let long = all_long in
      let more = length_written (segment_bytes layout.segments) input 983040 (omega arith) in
      record {
        rights = sym hold.rights;
        places = record { few = hold.count; each = hold.places };
        pages = λ first start before runs fixed.
            let low : 65536 ≤ first = grind (arith, nat_tests, runs) in
            record {
              size = omega (arith, long, more);
              start = start;
              executable = runs;
              fixed = fixed;
              bytes = first_page first start low before;
            };
      }
