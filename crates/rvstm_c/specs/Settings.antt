-- The settings that C hands over.
use Rattle.std.specs.Prelude.{ℕ, nat_le, ◌==◌, false, Option, Some, None, if◌then◌else◌}
use Rattle.std.specs.Option.{option_map}
use Rattle.session_requests.specs.Requests.{◌>>=◌}
use Rattle.session_turns.specs.declared.settings.Settings.{Settings}
use Rattle.rvstm_c.specs.declared.settings.SettingsForC.{SettingsForC}

-- the settings if none are given
abbrev pub usual_settings : Settings
usual_settings = record { frame_limit = 67108864; frame_gas = None; keeps_digest = false; is_brief = false }

-- the greatest number of ten digits, which is the most that a line can give
abbrev pub most_number : ℕ
most_number = 9999999999

-- a number is at most this
abbrev pub number_of : ℕ → Option ℕ
number_of number = if nat_le number most_number then Some number else None

-- a bound of the gas; 2^64 - 1 stands for no bound
abbrev pub gas_of : ℕ → Option (Option ℕ)
gas_of number = if number == 18446744073709551615 then Some None else option_map Some (number_of number)

-- the settings of a session, if it may have them
abbrev pub settings_of : SettingsForC → Option Settings
settings_of given = do
  frame_limit ← number_of given.frame_limit
  frame_gas ← gas_of given.frame_gas
  Some (record { frame_limit = frame_limit; frame_gas = frame_gas; keeps_digest = given.digest; is_brief = given.brief })
