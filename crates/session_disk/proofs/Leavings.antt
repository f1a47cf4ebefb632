-- What an open that is refused leaves of files.
use Rattle.std.proofs.Common.{◌≡◌, ◌⊎◌, sym, subst, subst₂, ◌∙◌, inl, inr}
use Rattle.sqlite_disk.specs.declared.Disk.{Ghosts}
use Rattle.sqlite_wal.specs.Recovery.{Image}
use Rattle.sqlite_wal.specs.State.{State}
use Rattle.sqlite_pages.specs.PageMap.{PageMap}
use Rattle.sqlite_pool.specs.Opening.{IsBlankFile, IsNew}
use Rattle.sqlite_pool.specs.Stored.{Recovers, RecoversAs}
use Rattle.sqlite_pool.specs.StoredLaws.{carried, recovers_once, RecoversAs-from}
use Rattle.sqlite_store.specs.declared.store.open.Unopened.{Unopened}
use Rattle.sqlite_store.specs.Opening.{IsEmptyFile, IsFresh}
use Rattle.sqlite_store.specs.Unopened.{Creates, IsAsBefore, IsOnTheWay, IsUnstarted, Opens, image, state_of, wanted_by}
use Rattle.session_disk.specs.Tables.{session_schema}
use Rattle.session_disk.specs.Sessions.{database_page_size, BeginsWell, IsBereft, IsFileCutShort, IsSession}
use Rattle.session_disk.specs.Opening.{LeavesAs}
use Rattle.session_disk.proofs.Images.{not_blank, on_the_way, same_session}

-- a call that only reads
pub only_reads : (seen : Image) (old new : Image → Type 0) → ((now : Image) → new now → old now) → LeavesAs seen old new
only_reads seen old new fewer = record { session = λ _ now may. inl (fewer now may); other = λ _ now may. inl (fewer now may) }

-- the same files, with fewer outcomes before
pub from_earlier : (seen now : Image) (old mid new : Image → Type 0) → now ≡ seen → ((left : Image) → mid left → old left) → LeavesAs now mid new → LeavesAs seen old new
from_earlier seen now old mid new same fewer leaves =
    let l = subst (λ i. LeavesAs i mid new) same leaves in
    record {
      session = λ s left may. elim (l.session s left may) [ inl was ↦ inl (fewer left was) | inr made ↦ inr made ];
      other = λ s left may. elim (l.other s left may) [ inl was ↦ inl (fewer left was) | inr alike ↦ inr alike ];
    }

module _ {D : Type 0} {g : Ghosts D} (old : Unopened D g) (size : (state_of old).page_size ≡ database_page_size) where
  sized : (now : Image) → IsAsBefore old now → (state_of old).may_leave now ⊎ RecoversAs database_page_size (image old) now
  sized now before = elim before.same [ inl was ↦ inl was | inr alike ↦ inr (subst (λ n. RecoversAs n (image old) now) size alike) ]

  a_session : ¬ IsBlankFile database_page_size (image old) → IsSession (image old) → (now : Image) → (state_of old).may_leave now ⊎ RecoversAs database_page_size (image old) now
      → (state_of old).may_leave now ⊎ ∥ IsFileCutShort now ∥₁
  a_session some session now (inl was) = inl was
  a_session some session now (inr alike) = inr ∣ inl (same_session (image old) now session some alike) ∣₁

  -- a database is not opened
  pub not_opened : (new : State) → ¬ IsBlankFile database_page_size (image old) → Opens old new → LeavesAs (image old) (state_of old).may_leave new.may_leave
  not_opened new some kept = record {
    session = λ session now may. a_session some session now (sized now (kept.crash now may));
    other = λ _ now may. sized now (kept.crash now may);
  }

  way : wanted_by old ≡ session_schema → (now : Image) → IsOnTheWay old now → ∥ IsFileCutShort now ∥₁
  way schema now made =
      on_the_way now (subst₂ (λ n s. IsBlankFile n now ⊎ ((pages : PageMap) × Recovers n now pages × (IsNew n pages ⊎ ∥ IsFresh n s pages ∥₁))) size schema made)

  -- there was no database, and making one was refused
  pub not_made : (new : State) → wanted_by old ≡ session_schema → IsBlankFile database_page_size (image old) → ¬ IsBereft (image old) → Creates old new → LeavesAs (image old) (state_of old).may_leave new.may_leave
  not_made new schema blank whole kept = record {
    session = λ _ now may. elim (kept.blank (subst (λ n. IsBlankFile n (image old)) (sym size) blank) now may) [ inl was ↦ inl was | inr made ↦ inr (way schema now made) ];
    other = λ foreign now may. absurd (foreign (inr (inl (blank, whole))));
  }

  -- the files are recovered first
  module _ (mid : Unopened D g) (first : Opens old (state_of mid)) (some : ¬ IsBlankFile database_page_size (image old)) (pages : PageMap) (found : Recovers database_page_size (image old) pages)
      (again : Recovers database_page_size (image mid) pages) where
    mid_size : (state_of mid).page_size ≡ database_page_size
    mid_size = first.size ∙ size

    second : (now : Image) → IsAsBefore mid now → (state_of old).may_leave now ⊎ RecoversAs database_page_size (image old) now
    second now before = elim before.same [
      | inl was ↦ sized now (first.crash now was)
      | inr alike ↦
          let same = subst (λ n. RecoversAs n (image mid) now) mid_size alike in
          inr (RecoversAs-from database_page_size (image old) now pages found (carried database_page_size (image mid) now same pages again))
    ]

    pub not_opened_then : (new : State) → Opens mid new → LeavesAs (image old) (state_of old).may_leave new.may_leave
    not_opened_then new kept = record {
      session = λ session now may. a_session some session now (second now (kept.crash now may));
      other = λ _ now may. second now (kept.crash now may);
    }

    unstarted : BeginsWell (image old) → ¬ IsSession (image old) → ¬ IsUnstarted mid
    unstarted begins foreign (inl blank) =
        not_blank (image old) pages found begins (image mid) again (subst (λ n. IsBlankFile n (image mid)) mid_size blank)
    unstarted begins foreign (inr empty) =
        let same = recovers_once database_page_size (image mid) empty.0 pages (subst (λ n. Recovers n (image mid) empty.0) mid_size empty.1) again in
        foreign (inr (inr (pages, found, subst₂ IsEmptyFile mid_size same empty.2)))

    pub not_made_then : (new : State) → wanted_by mid ≡ session_schema → BeginsWell (image old) → Creates mid new → LeavesAs (image old) (state_of old).may_leave new.may_leave
    not_made_then new schema begins kept = record {
      session = λ session now may. elim (kept.crash now may) [
        | inl before ↦ a_session some session now (second now before)
        | inr made ↦
            inr (on_the_way now (subst₂ (λ n s. IsBlankFile n now ⊎ ((p : PageMap) × Recovers n now p × (IsNew n p ⊎ ∥ IsFresh n s p ∥₁))) mid_size schema made))
      ];
      other = λ foreign now may. second now (kept.guarded (unstarted begins foreign) now may);
    }
