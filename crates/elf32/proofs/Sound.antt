-- The PT_LOADs of a file without fault 11 are in their range.
use Rattle.std.proofs.Common.{◌≡◌, ℕ, Bool, true, false, ◌||◌, List, [], ◌∷◌, length, map, All, arith, length-take, length-drop}
use Rattle.std.specs.List.{list_any}
use Rattle.std.proofs.lemmas.Bool.Decides.{nat_tests}
use Rattle.std.proofs.lemmas.List.Elements.{All-cons, All-map}
use Rattle.elf32.specs.declared.header.ProgramHeader.{ProgramHeader}
use Rattle.elf32.specs.Faults.{is_out_of_range, has_bad_range, loads}
use Rattle.elf32.specs.Layout.{IsPlaced}
use Rattle.elf32.specs.Image.{segment_of}
use Rattle.elf32.specs.Readable.{IsInRange}

pub in_range : (len : ℕ) (p : ProgramHeader) → is_out_of_range len p ≡ false → IsInRange len p
in_range len p h = record {
  filled = grind (arith, nat_tests);
  in_file = grind (arith, nat_tests);
  first = grind (arith, nat_tests);
  last = grind (arith, nat_tests);
}

pub neither : (a b : Bool) → (a || b) ≡ false → (a ≡ false) × (b ≡ false)
neither true b h = cc
neither false b h = (cc, h)

each_in_range : (len : ℕ) (ps : List ProgramHeader) → list_any (is_out_of_range len) ps ≡ false → All (IsInRange len) ps
each_in_range len [] h = λ k d b. absurd (omega arith)
each_in_range len (p ∷ ps) h =
    let both = neither (is_out_of_range len p) (list_any (is_out_of_range len) ps) h in
    All-cons (IsInRange len) p ps (in_range len p both.0) (each_in_range len ps both.1)

pub loads_in_range : (bytes : List ℕ) → has_bad_range bytes ≡ false → All (IsInRange (length bytes)) (loads bytes)
unfolding has_bad_range
loads_in_range bytes h = each_in_range (length bytes) (loads bytes) h

placed : (bytes : List ℕ) (p : ProgramHeader) → IsInRange (length bytes) p → IsPlaced (segment_of bytes p)
placed bytes p h = record {
  first = h.first;
  last = h.last;
  filled = simp (length-take, length-drop) (omega arith);
}

pub segments_placed : (bytes : List ℕ) (ps : List ProgramHeader) → All (IsInRange (length bytes)) ps → All IsPlaced (map (segment_of bytes) ps)
segments_placed bytes ps h =
    All-map IsPlaced (segment_of bytes) ps (λ k d b. placed bytes _ (h k d b))
