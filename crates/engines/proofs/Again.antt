-- What `dis` prints, assembled again.
use Rattle.std.proofs.Common.{◌≡◌, ◌++◌, ◌==◌, ◌∙◌, ℕ, List, [], ◌∷◌, Bool, true, false, ap, codes, flat_map, length, map, refl, subst, sym, if◌then◌else◌}
use Rattle.std.specs.Prelude.{Option, Some, IfSome, Ok, Err, IsOkAnd}
use Rattle.clap.specs.Words.{Text}
use Rattle.cmdline.specs.Line.{AsmOf}
use Rattle.elf32.specs.Written.{file_of}
use Rattle.elf32.specs.declared.words.PlacedWord.{PlacedWord}
use Rattle.rv_names.specs.Text.{disassembly}
use Rattle.rv_text.specs.Assembly.{assembled}
use Rattle.rv_text.specs.Back.{IsAssembledBack, listing}
use Rattle.system_files.specs.Entries.{Entries, IsPut}
use Rattle.engines.specs.Dis.{file_of_program}
use Rattle.engines.specs.Headline.{IsListing}
use Rattle.engines.specs.Program.{Contents, PutsFile}
use Rattle.engines.specs.declared.fault.Refusal.{Refusal}

-- the third columns are the texts of the second ones
thirds : (placed : List PlacedWord) → flat_map (λ (p : PlacedWord). disassembly p.word ++ codes "\n") placed ≡ listing (map (λ (p : PlacedWord). p.word) placed)
thirds [] = refl
thirds (p ∷ placed) = ap (λ rest. (disassembly p.word ++ codes "\n") ++ rest) (thirds placed)

source_is : (printed words text : List ℕ) → IsListing printed words text → text ≡ listing words
source_is printed words text is = is.third ∙ thirds is.placed ∙ ap listing (sym is.second)

by_count : (b : Bool) (e : Refusal) (file : List ℕ) (P : List ℕ → Type 0) → IsOkAnd (if b then Err e else Ok file) P → P file
by_count true e file P h = absurd h
by_count false e file P h = h

-- so the words come back
pub put_again : (words : List ℕ) → IsAssembledBack words → (content : Contents) (leads : List ℕ → List ℕ) (old new : Option Entries) (source out : Text) (printed text : List ℕ) → IsListing printed words text
    → content source ≡ Some text → PutsFile content leads old new (AsmOf source out) → IsPut old new (leads out) (file_of (record { text = words; data_bytes = [] }))
put_again words back content leads old new source out printed text is at puts =
    let P : List ℕ → Type 0 = IsPut old new (leads out) in
    by_count (length words == 0) _ (file_of (record { text = words; data_bytes = [] })) P
    (subst (λ program. IsOkAnd (file_of_program program) P) (ap assembled (source_is printed words text is) ∙ back)
    (subst (λ input. IfSome input (λ s. IsOkAnd (file_of_program (assembled s)) P)) at puts))
