-- A session that begins with another one's dump.
use Rattle.std.specs.Prelude.{◌≡◌, ◌||◌, nat_lt, Bool, true, false, List, [], ◌∷◌, None}
use Rattle.rv_ledger.specs.Height.{greatest_height}
use Rattle.session_requests.specs.Requests.{Ask, Frame, Last}
use Rattle.session_turns.specs.Turn.{turn}
use Rattle.session_turns.specs.declared.settings.Settings.{Settings}
use Rattle.session_turns.specs.declared.state.State.{State}

-- what `begin` makes of a session t with the dump, the height and the digest of s: all that s has, except that the programs stay
-- t's and that there is no last answer
abbrev pub begun_from : State → State → State
begun_from s t = record s { programs = t.programs; last = None }

-- two states that differ at most in their last answer
pub record EqualButLast (s t : State) : Type 0 where
  pub store : s.store ≡ t.store
  pub rules : s.rules ≡ t.rules
  pub height : s.height ≡ t.height
  pub digest : s.digest ≡ t.digest
  pub programs : s.programs ≡ t.programs

-- whether no `last` comes before the first frame that counts; a frame at the greatest height does not, and changes nothing
abbrev pub asks_last_late : Settings → State → List Ask → Bool
asks_last_late settings s [] = true
asks_last_late settings s (Last ∷ asks) = false
asks_last_late settings s (Frame bytes ∷ asks) = nat_lt s.height greatest_height || asks_last_late settings s asks
asks_last_late settings s (ask ∷ asks) = asks_last_late settings (turn settings s ask).after asks
