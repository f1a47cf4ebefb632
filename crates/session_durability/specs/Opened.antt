-- What an open of a session's store gives, and why it may be refused.
use Rattle.std.specs.Prelude.{◌≡◌, ◌≢◌, ◌⊎◌, Some, replicate}
use Rattle.rv_ledger.specs.declared.rules.Rules.TheVariants.{One}
use Rattle.session_file.specs.Kept.{HoldsIn, Kept, session_tree}
use Rattle.session_file.specs.Opening.{IsOfOtherVersion}
use Rattle.session_file.specs.Staging.{HasTrees}
use Rattle.session_file.specs.declared.fault.OpenFault.{OpenFault}
use Rattle.session_file.specs.declared.fault.OpenFault.TheVariants as below
use Rattle.session_file.specs.declared.rows.SessionRow.{SessionRow}
use Rattle.session_states.specs.Faults.{fault_of_store}
use Rattle.session_states.specs.States.{FileState, HasSettings, KeepsState, new_state, nothing_kept, session_row_of}
use Rattle.session_states.specs.declared.fault.StoreFault.{StoreFault}
use Rattle.session_states.specs.declared.fault.StoreFault.TheVariants as told
use Rattle.session_states.specs.declared.loading.LoadFault.{LoadFault}
use Rattle.session_states.specs.declared.loading.LoadFault.TheVariants as load
use Rattle.sqlite_trees.specs.Tree.{Trees}
use Rattle.sqlite_trees.specs.View.{View, HasCause}
use Rattle.session_turns.specs.Turn.{new_session}
use Rattle.session_turns.specs.declared.settings.Settings.{Settings}
use Rattle.session_durability.specs.Durable.{HasNoRow}
use Rattle.session_durability.specs.declared.opening.SessionFault.{SessionFault}
use Rattle.session_durability.specs.declared.opening.SessionFault.TheVariants.{NotASession, OtherVersion, OtherSettings, Damaged, Store}

-- the session that trees hold, or a new one if they have no rows
abbrev pub IsFoundIn : Settings → Trees → FileState → Type 0
IsFoundIn settings db f = (k : Kept) × HoldsIn db k × (KeepsState settings f k ⊎ ((k ≡ nothing_kept) × (f ≡ new_state settings)))

-- when a refusal comes, if `disk` says that the disk failed meanwhile
abbrev pub IsSessionUnopened : Settings → View → Type 0 → SessionFault → Type 0
IsSessionUnopened settings v disk NotASession = ¬ HasTrees v
IsSessionUnopened settings v disk OtherVersion = IsOfOtherVersion (v.trees session_tree)
IsSessionUnopened settings v disk OtherSettings = (k : Kept) × HoldsIn v.trees k × ((row : SessionRow) × (k.session ≡ Some row) × ¬ HasSettings settings row)
IsSessionUnopened settings v disk Damaged = (k : Kept) → HoldsIn v.trees k → (k ≢ nothing_kept) × ((f : FileState) → ¬ KeepsState settings f k)
IsSessionUnopened settings v disk (Store error) = HasCause v disk (HasNoRow settings (new_session settings)) error

-- what is reported of it
abbrev pub store_fault_of : SessionFault → StoreFault
store_fault_of NotASession = told.NotASession
store_fault_of OtherVersion = told.OtherVersion
store_fault_of OtherSettings = told.OtherSettings
store_fault_of Damaged = told.Damaged
store_fault_of (Store error) = fault_of_store error

-- the refusals below
abbrev pub fault_of_open : OpenFault → SessionFault
fault_of_open below.NotASession = NotASession
fault_of_open below.OtherVersion = OtherVersion
fault_of_open below.Damaged = Damaged
fault_of_open (below.Store error) = Store error

abbrev pub fault_of_load : LoadFault → SessionFault
fault_of_load load.OtherSettings = OtherSettings
fault_of_load load.Damaged = Damaged

-- a file of a new session
abbrev pub new_kept : Settings → Kept
new_kept settings = record nothing_kept { session = Some (session_row_of settings One 0 (replicate 32 0)) }
