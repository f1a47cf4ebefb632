-- The place of a label.
use Rattle.std.proofs.Common.{◌≡◌, refl, ℕ, true, false, cond, Bool, List, [], ◌∷◌, ◌++◌, Option, None, Some, Bor, Ok, Err, is_some, ap, ◌∙◌, sym, if◌then◌else◌}
use Rattle.std.proofs.lemmas.List.{map-append}
use Rattle.std.specs.Option.{option_map}
use Rattle.std.specs.List.{find}
use Rattle.std.specs.Str.{bytes_eq}
use Rattle.std.specs.Map.{lookup}
use Rattle.indexmap.specs.IndexMap.{IndexMap, get, insert_entry}
use Rattle.indexmap.proofs.CallerLemmas.{insert_entry-new}
use Rattle.rv_text.specs.declared.fault.AsmCause.TheVariants.{DuplicateLabel}
use Rattle.rv_text.specs.Assembly.{SourceLayout, label_place, next_place, with_label}
use Rattle.rv_text.specs.Shown.{shown_labels}

-- the entry of a label is found by its name
pub place_shown : (entries : List (Bor (List ℕ) × ℕ)) (name : List ℕ) → label_place (shown_labels entries) name ≡ lookup (λ key. bytes_eq name key.now) entries
place_shown [] name = refl
place_shown (entry ∷ entries) name =
    elim (bytes_eq name entry.0.now) as (λ b. option_map (λ label. label.1) (cond b (Some (entry.0.now, entry.1)) (find (λ label. bytes_eq name label.0) (shown_labels entries))) ≡ cond b (Some entry.1) (lookup (λ key. bytes_eq name key.now) entries)) [
      | true ↦ refl
      | false ↦ place_shown entries name
    ]

-- two names are the same exactly if their bytes are equal
abbrev pub same_name : Bor (List ℕ) → Bor (List ℕ) → Bool
same_name a b = bytes_eq a.now b.now

defined_label : (name : List ℕ) (l : SourceLayout) (b : Bool) → is_some (label_place l.labels name) ≡ b → with_label (Some name) l ≡ (if b then Err DuplicateLabel else Ok (record l { labels = l.labels ++ (name, next_place l.section l) ∷ [] }))
unfolding with_label
defined_label name l b e = ap (λ c. if c then Err DuplicateLabel else Ok (record l { labels = l.labels ++ (name, next_place l.section l) ∷ [] })) e

-- a label that is there, and one that is new

pub again : (name : List ℕ) (l : SourceLayout) → is_some (label_place l.labels name) ≡ true → with_label (Some name) l ≡ Err DuplicateLabel
again name l e = defined_label name l true e

pub anew : (name : List ℕ) (l : SourceLayout) → is_some (label_place l.labels name) ≡ false → with_label (Some name) l ≡ Ok (record l { labels = l.labels ++ (name, next_place l.section l) ∷ [] })
anew name l e = defined_label name l false e

-- a new label goes last
pub inserted : {S : Type 0} (m : IndexMap (Bor (List ℕ)) ℕ S) (new : List (Bor (List ℕ) × ℕ)) (key : Bor (List ℕ)) (old : Option ℕ) (p place : ℕ) → old ≡ get same_name m key → is_some old ≡ false → p ≡ place → new ≡ insert_entry same_name m.entries key p
    → shown_labels m.entries ++ (key.now, place) ∷ [] ≡ shown_labels new
inserted m new key (Some v) p place had none at e = cc
inserted m new key None p place had none at e =
    ap (λ q. shown_labels m.entries ++ (key.now, q) ∷ []) (sym at)
    ∙ sym (map-append (λ (entry : Bor (List ℕ) × ℕ). (entry.0.now, entry.1)) m.entries ((key, p) ∷ []))
    ∙ ap shown_labels (sym (insert_entry-new same_name m key p (sym had))) ∙ ap shown_labels (sym e)
