-- What a call returns.
use Rattle.std.specs.Prelude.{ℕ}
use Rattle.session_turns.specs.Replies.{TurnReply, Done, Refused, Failed}

-- it was done
abbrev pub done : ℕ
done = 0

-- the request was refused
abbrev pub refused : ℕ
refused = 1

-- the handle has no session
abbrev pub closed : ℕ
closed = 2

-- the handle has a session already
abbrev pub already_open : ℕ
already_open = 3

-- this machine ran out of memory for the request
abbrev pub failed : ℕ
failed = 4

-- memory for the session ran out
abbrev pub no_memory : ℕ
no_memory = 5

-- the buffer is shorter than the answer
abbrev pub short_buffer : ℕ
short_buffer = 6

-- no session has such settings
abbrev pub bad_settings : ℕ
bad_settings = 7

-- what a call returns if its request has this reply
abbrev pub status_of : TurnReply → ℕ
status_of (Done bytes) = done
status_of (Refused refusal) = refused
status_of (Failed failure) = failed

-- a call asks for a key
abbrev pub key_wanted : ℕ
key_wanted = 8

-- all calls of the block have ended
abbrev pub ended : ℕ
ended = 9

-- this machine ran out of memory in mid-run
abbrev pub paused : ℕ
paused = 10

-- the block is not at the stage of this call
abbrev pub wrong_stage : ℕ
wrong_stage = 11

-- the rules are not 1, 2 or 3
abbrev pub bad_rules : ℕ
bad_rules = 12

-- the block has as many calls as it may have
abbrev pub too_many_calls : ℕ
too_many_calls = 13

-- the gas limit is not 1 to 10,000,000
abbrev pub bad_gas : ℕ
bad_gas = 14

-- the input has more than 4,096 bytes
abbrev pub long_input : ℕ
long_input = 15

-- no key is asked for
abbrev pub not_asked : ℕ
not_asked = 16

-- the value has more than 256 bytes
abbrev pub long_value : ℕ
long_value = 17

-- there is no entry of this index
abbrev pub no_entry : ℕ
no_entry = 18
