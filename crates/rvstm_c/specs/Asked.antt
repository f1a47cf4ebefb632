-- What a call asks for, or None if no line has such a form.
use Rattle.std.specs.Prelude.{ℕ, nat_le, nat_lt, ◌&&◌, List, length, Option, Some, None, if◌then◌else◌}
use Rattle.rv_ledger.specs.Height.{greatest_height}
use Rattle.rvstm_c.specs.Settings.{most_number}
use Rattle.session_requests.specs.Requests.{Ask, Begin, ListEntries, ◌>>=◌, digest_of, hex_name_of}

-- a request with bytes, if a line can give their number
abbrev pub with_bytes : List ℕ → Ask → Option Ask
with_bytes bytes ask = if nat_lt most_number (length bytes) then None else Some ask

-- a request that names a program or a key by 64 digits
abbrev pub with_name : (List ℕ → Ask) → List ℕ → Option Ask
with_name ask text = hex_name_of text >>= (λ name. Some (ask name))

-- a count is 1 to 1,024
abbrev pub list_asked : List ℕ → ℕ → Option Ask
list_asked text count = hex_name_of text >>= (λ from. if nat_le 1 count && nat_le count 1024 then Some (ListEntries from count) else None)

-- a height is at most the greatest one
abbrev pub begin_asked : ℕ → List ℕ → List ℕ → Option Ask
begin_asked height text bytes =
    if nat_lt greatest_height height then None else digest_of text >>= (λ digest. with_bytes bytes (Begin height digest bytes))
