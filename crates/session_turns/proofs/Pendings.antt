-- What is pending, and what it leads to.
use Rattle.std.proofs.Common.{◌≡◌, ℕ, List, Option, Some, None, true, false, cond, refl, sym, ap, subst, ◌∙◌, is_some}
use Rattle.std.specs.Prelude.{Vec}
use Rattle.std.specs.declared.alloc.Global.{Global}
use Rattle.std.specs.Cmp.Lexicographic.{nat_list_cmp_total}
use Rattle.std.specs.FinMap.{contains_key, entries, get, get_tied, get-insert, get-remove, insert, remove, same_map}
use Rattle.std.specs.Ordering.{eq_by_cmp}
use Rattle.elf32.specs.Layout.{Layout}
use Rattle.overlay.proofs.Commits.{equal, room_fits}
use Rattle.overlay.specs.Commit.{Fits}
use Rattle.overlay.specs.Overlay.{Changes}
use Rattle.session_requests.specs.Requests.{Ask}
use Rattle.rv_ledger.proofs.Entries.{key_cmp-IsAntisymmetric}
use Rattle.rv_ledger.specs.Key.{Storage, key_cmp}
use Rattle.session_turns.specs.Pending.{HasRoomForLeft, IsNewProgram, IsPending}
use Rattle.session_turns.specs.Programs.{ProgramsByName}
use Rattle.session_turns.specs.declared.pending.Pending.{Pending}
use Rattle.session_turns.specs.declared.pending.Pending.TheVariants as pending
use Rattle.session_turns.specs.declared.run.Left.{Left}
use Rattle.session_turns.specs.declared.run.Left.TheVariants as left
use Rattle.session_turns.specs.declared.settings.Settings.{Settings}
use Rattle.session_turns.specs.declared.state.State.{State}

-- ---- the room of a program

none_is : {A : Type 0} (o : Option A) → is_some o ≡ false → o ≡ None
none_is None is = refl
none_is (Some x) is = cc

-- putting in a new program and removing it again changes nothing
pub put_and_gone : (programs : ProgramsByName) (name : List ℕ) (image : Layout) → contains_key programs name ≡ false → remove (insert programs name image) name ≡ programs
put_and_gone programs name image new = same_map nat_list_cmp_total key_cmp-IsAntisymmetric _ _ (λ q.
    get-remove nat_list_cmp_total (insert programs name image) name q ∙ ap (cond (eq_by_cmp key_cmp q name) None) (get-insert nat_list_cmp_total programs name image q)
    ∙ elim (eq_by_cmp key_cmp q name) as (λ b. eq_by_cmp key_cmp q name ≡ b → cond b None (cond b (Some image) (get programs q)) ≡ get programs q) [
      | true ↦ λ t. sym (sym (get_tied nat_list_cmp_total programs q name (equal _ t)) ∙ none_is (get programs name) new)
      | false ↦ λ t. refl
    ] refl)

-- the state is as it was before
pub program_back : (before now : State) (name : List ℕ) (image : Layout) (programs : ProgramsByName) → contains_key before.programs name ≡ false → now ≡ record before { programs = insert before.programs name image }
    → programs ≡ remove now.programs name → record now { programs = programs } ≡ before
program_back before now name image programs new is gone =
    ap (λ (ps : ProgramsByName). record now { programs = ps }) gone
    ∙ ap (λ (s : State). record s { programs = remove s.programs name }) is
    ∙ ap (λ (ps : ProgramsByName). record before { programs = ps }) (put_and_gone before.programs name image new)

-- ---- the room of a frame

-- changes fit a storage that has the room
pub left_fits : (before now : Storage) (given : Left) (keys : Option (Vec (List ℕ) Global)) (changes : Changes) → given ≡ left.Changed changes → HasRoomForLeft before given keys now → Fits now (entries changes)
left_fits before now given keys changes is has = changed_fits before now keys changes (subst (λ (l : Left). HasRoomForLeft before l keys now) is has)
  where
    changed_fits : (before now : Storage) (keys : Option (Vec (List ℕ) Global)) (changes : Changes) → HasRoomForLeft before (left.Changed changes) keys now → Fits now (entries changes)
    changed_fits before now (Some keys) changes has = room_fits before now changes keys.items has
    changed_fits before now None changes has = absurd has

-- ---- what is pending of a request

-- a program that is pending is not here yet
pub pending_is_new : (settings : Settings) (s : State) (ask : Ask) (p : Pending) → IsPending settings s ask p → IsNewProgram s p
pending_is_new settings s ask (pending.Program name image text) is = is.new
pending_is_new settings s ask p is = tt

-- some settings, for facts that hold for all settings
unfoldable pub some_settings : Settings
some_settings = record { frame_limit = 0; frame_gas = None; keeps_digest = false; is_brief = false }
