-- An entry is removed from a list, and the last one takes its position.
use Rattle.std.proofs.Common.{◌≡◌, ◌≢◌, ◌==◌, ◌<◌, ◌≤◌, ◌+◌, ℕ, Bool, true, false, cond, List, [], length, get_or, slice_get, Option, None, Some, refl, sym, ap, ◌∙◌, arith, inl, inr}
use Rattle.std.specs.BTreeMap.{is_at}
use Rattle.std.specs.Option.{option_map, unwrap_or}
use Rattle.std.proofs.lemmas.Bool.{cases_eq}
use Rattle.std.proofs.lemmas.Bool.Decides.{Decides-eqb}
use Rattle.std.proofs.lemmas.Option.{slice_get-get_or}
use Rattle.rv_ledger.specs.Key.{key_cmp}
use Rattle.rv_ledger.specs.Positions.{AreIndexed, EntryList, IsGoneAt, Positions, in_order, key_at, position_of, value_in}
use Rattle.rv_ledger.proofs.Positions.{key_within, lookup_in_order, other_key, position_within, same_key}

-- left is list without the entry at p; the last entry, if it was another, is at p then
pub record IsLeft (list left : EntryList) (p : ℕ) : Type 0 where
  pub shorter : length left + 1 ≡ length list
  pub here : (d : List ℕ × List ℕ) → p + 1 < length list → get_or left p d ≡ get_or list (length left) d
  pub apart : (k : ℕ) (d : List ℕ × List ℕ) → k ≢ p → k + 1 < length list → get_or left k d ≡ get_or list k d

-- the position after the removal of an entry that was at r; m is the last position
abbrev pub moved : ℕ → ℕ → ℕ → ℕ
moved m p r = cond (r == m) p r

moved_last : (m p r : ℕ) → r ≡ m → moved m p r ≡ p
moved_last m p r e = ap (λ b. cond b p r) ((Decides-eqb r m).1 e)

moved_not : (m p r : ℕ) → r ≢ m → moved m p r ≡ r
moved_not m p r ne = by (r == m) refl
  where
    by : (b : Bool) → (r == m) ≡ b → cond b p r ≡ r
    by true t = absurd (ne ((Decides-eqb r m).0 t))
    by false t = refl

module _ (ps : Positions) (list left : EntryList) (h : AreIndexed ps list) (key : List ℕ) (p : ℕ) (at : position_of ps key ≡ Some p) (is : IsLeft list left p) where
  abbrev m : ℕ
  m = length left

  within : p < length list
  within = position_within ps list h key p at

  -- a position other than p is another key's
  other_position : (q : List ℕ) (r : ℕ) → position_of ps q ≡ Some r → r ≢ p → is_at (key_cmp key) q ≡ false
  other_position q r e ne = by (is_at (key_cmp key) q) refl
    where
      by : (b : Bool) → is_at (key_cmp key) q ≡ b → b ≡ false
      by true t = let one : Some p ≡ Some r = sym at ∙ ap (position_of ps) (same_key key q t) ∙ e in let same : r ≡ p = cc in absurd (ne same)
      by false t = refl

  -- and another key's position is not p
  apart_position : (q : List ℕ) (r : ℕ) → is_at (key_cmp key) q ≡ false → position_of ps q ≡ Some r → r ≢ p
  apart_position q r t e same =
      let one : Some key ≡ Some q = sym (h.listed key p at) ∙ ap (key_at list) (sym same) ∙ h.listed q r e in
      other_key key q t cc

  last_here : p < length left → slice_get left p ≡ slice_get list (length left)
  last_here l = slice_get-get_or left p ([], []) l ∙ ap Some (is.here ([], []) (omega (arith, is.shorter))) ∙ sym (slice_get-get_or list m ([], []) (omega (arith, is.shorter)))

  same_there : (k : ℕ) → k ≢ p → k < length left → slice_get left k ≡ slice_get list k
  same_there k ne l = slice_get-get_or left k ([], []) l ∙ ap Some (is.apart k ([], []) ne (omega (arith, is.shorter))) ∙ sym (slice_get-get_or list k ([], []) (omega (arith, is.shorter)))

  -- each other entry is at the position that it moved to
  stays : (r : ℕ) → r < length list → r ≢ p → slice_get left (moved m p r) ≡ slice_get list r
  stays r l ne = elim (cases_eq r m) [
    | inl e ↦ ap (slice_get left) (moved_last m p r e) ∙ last_here (omega (arith, is.shorter, within)) ∙ ap (slice_get list) (sym e)
    | inr apart ↦ ap (slice_get left) (moved_not m p r apart) ∙ same_there r ne (omega (arith, is.shorter))
  ]

  -- if the tree after the removal has these positions
  module _ (after : Positions) (tells : (q : List ℕ) → position_of after q ≡ cond (is_at (key_cmp key) q) None (option_map (moved m p) (position_of ps q))) where
    found : (q : List ℕ) (r s : ℕ) → position_of ps q ≡ Some r → r ≢ p → moved m p r ≡ s → position_of after q ≡ Some s
    found q r s e ne to =
        tells q ∙ ap (λ b. cond b None (option_map (moved m p) (position_of ps q))) (other_position q r e ne)
        ∙ ap (option_map (moved m p)) e ∙ ap Some to

    pub removed_indexed : AreIndexed after left
    removed_indexed = record {
      listed = λ q s e. listed_by q s (is_at (key_cmp key) q) refl (position_of ps q) refl (sym (tells q) ∙ e);
      indexed = λ q s e.
          let l : s < length left = key_within left s q e in
          elim (cases_eq s p) [
            | inl same ↦
                let here : p < length left = omega arith in
                let was : key_at list m ≡ Some q = ap (option_map (λ (x : List ℕ × List ℕ). x.0)) (sym (last_here here)) ∙ ap (key_at left) (sym same) ∙ e in
                found q m s (h.indexed q m was) (omega arith) (moved_last m p m refl ∙ sym same)
            | inr ne ↦
                let was : key_at list s ≡ Some q = ap (option_map (λ (x : List ℕ × List ℕ). x.0)) (sym (same_there s ne l)) ∙ e in
                found q s s (h.indexed q s was) ne (moved_not m p s (omega arith))
          ];
    }
      where
        listed_by : (q : List ℕ) (s : ℕ) (b : Bool) → is_at (key_cmp key) q ≡ b → (o : Option ℕ) → position_of ps q ≡ o → cond b None (option_map (moved m p) o) ≡ Some s → key_at left s ≡ Some q
        listed_by q s true t o was e = cc
        listed_by q s false t None was e = cc
        listed_by q s false t (Some r) was e =
            let to : moved m p r ≡ s = cc in
            ap (key_at left) (sym to) ∙ ap (option_map (λ (x : List ℕ × List ℕ). x.0)) (stays r (position_within ps list h q r was) (apart_position q r t was)) ∙ h.listed q r was

    pub removed_in_order : IsGoneAt (in_order ps list) (in_order after left) key
    removed_in_order q =
        lookup_in_order after left q
        ∙ ap (option_map (value_in left)) (tells q)
        ∙ by (is_at (key_cmp key) q) refl (position_of ps q) refl
        ∙ ap (cond (is_at (key_cmp key) q) None) (sym (lookup_in_order ps list q))
      where
        by : (b : Bool) → is_at (key_cmp key) q ≡ b → (o : Option ℕ) → position_of ps q ≡ o → option_map (value_in left) (cond b None (option_map (moved m p) o)) ≡ cond b None (option_map (value_in list) o)
        by true t o e = refl
        by false t None e = refl
        by false t (Some r) e =
            ap (λ (x : Option (List ℕ × List ℕ)). Some (unwrap_or (option_map (λ (y : List ℕ × List ℕ). y.1) x) [])) (stays r (position_within ps list h q r e) (apart_position q r t e))

  -- if it was not the last, the last key keeps its position in a tree without the removed key
  pub last_there : (between : Positions) (last : List ℕ) → p < length left → key_at left p ≡ Some last
      → ((q : List ℕ) → position_of between q ≡ cond (is_at (key_cmp key) q) None (position_of ps q)) → position_of between last ≡ Some (length left)
  last_there between last l stands gone =
      let was : position_of ps last ≡ Some m = h.indexed last m (ap (option_map (λ (x : List ℕ × List ℕ). x.0)) (sym (last_here l)) ∙ stands) in
      gone last ∙ ap (λ b. cond b None (position_of ps last)) (other_position last m was (omega arith)) ∙ was

  -- the tree has these positions if the entry was the last and its key was removed
  pub tells_last : (after : Positions) → length left ≤ p → ((q : List ℕ) → position_of after q ≡ cond (is_at (key_cmp key) q) None (position_of ps q))
      → (q : List ℕ) → position_of after q ≡ cond (is_at (key_cmp key) q) None (option_map (moved (length left) p) (position_of ps q))
  tells_last after end gone q = gone q ∙ by (is_at (key_cmp key) q) refl (position_of ps q) refl
    where
      by : (b : Bool) → is_at (key_cmp key) q ≡ b → (o : Option ℕ) → position_of ps q ≡ o → cond b None o ≡ cond b None (option_map (moved m p) o)
      by true t o e = refl
      by false t None e = refl
      by false t (Some r) e =
          let ne = apart_position q r t e in
          let l = within in
          ap Some (sym (moved_not m p r (λ same. ne (omega (arith, is.shorter, same)))))

  -- and if it was not the last, and the last key then got its position
  pub tells_moved : (between after : Positions) (last : List ℕ) → p < length left → key_at left p ≡ Some last
      → ((q : List ℕ) → position_of between q ≡ cond (is_at (key_cmp key) q) None (position_of ps q))
      → ((q : List ℕ) → position_of after q ≡ cond (is_at (key_cmp last) q) (Some p) (position_of between q))
      → (q : List ℕ) → position_of after q ≡ cond (is_at (key_cmp key) q) None (option_map (moved (length left) p) (position_of ps q))
  tells_moved between after last l stands gone given q =
      given q ∙ ap (cond (is_at (key_cmp last) q) (Some p)) (gone q)
      ∙ by (is_at (key_cmp last) q) refl (is_at (key_cmp key) q) refl (position_of ps q) refl
    where
      was : key_at list m ≡ Some last
      was = ap (option_map (λ (x : List ℕ × List ℕ). x.0)) (sym (last_here l)) ∙ stands

      by : (c : Bool) → is_at (key_cmp last) q ≡ c → (b : Bool) → is_at (key_cmp key) q ≡ b → (o : Option ℕ) → position_of ps q ≡ o
          → cond c (Some p) (cond b None o) ≡ cond b None (option_map (moved m p) o)
      by true same b t o e =
          let there : position_of ps q ≡ Some m = ap (position_of ps) (sym (same_key last q same)) ∙ h.indexed last m was in
          let other : b ≡ false = sym t ∙ other_position q m there (omega arith) in
          let is_there : o ≡ Some m = sym e ∙ there in
          sym (ap (λ (x : Bool). cond x None (option_map (moved m p) o)) other ∙ ap (option_map (moved m p)) is_there ∙ ap Some (moved_last m p m refl))
      by false other true t o e = refl
      by false other false t None e = refl
      by false other false t (Some r) e =
          ap Some (sym (moved_not m p r (λ same.
          let one : Some last ≡ Some q = sym was ∙ ap (key_at list) (sym same) ∙ h.listed q r e in
          absurd (other_key last q other cc))))

-- if the key was absent, or the list keeps its entry, the others stay
pub gone_in_order : (ps after : Positions) (list : EntryList) (key : List ℕ) → ((q : List ℕ) → position_of after q ≡ cond (is_at (key_cmp key) q) None (position_of ps q)) → IsGoneAt (in_order ps list) (in_order after list) key
gone_in_order ps after list key gone q =
    lookup_in_order after list q
    ∙ ap (option_map (value_in list)) (gone q)
    ∙ by (is_at (key_cmp key) q) (position_of ps q)
    ∙ ap (cond (is_at (key_cmp key) q) None) (sym (lookup_in_order ps list q))
  where
    by : (b : Bool) (o : Option ℕ) → option_map (value_in list) (cond b None o) ≡ cond b None (option_map (value_in list) o)
    by true o = refl
    by false o = refl
