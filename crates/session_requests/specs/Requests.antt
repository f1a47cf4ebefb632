-- What the bytes of an input ask for.
use Rattle.std.specs.Prelude.{ℕ, zero, suc, ◌==◌, ◌&&◌, nat_le, nat_lt, List, [], ◌∷◌, take, drop, length, codes, Option, Some, None, if◌then◌else◌}
use Rattle.std.specs.List.{starts_with}
use Rattle.std.specs.Option.{option_map}
use Rattle.std.specs.Str.{bytes_eq}
use Rattle.std.specs.Result.{result_ok}
use Rattle.block_file.specs.Line.{decimal_of, field_key}
use Rattle.session_requests.specs.declared.request.RequestLine.{RequestLine}
use Rattle.session_requests.specs.declared.request.RequestLine.TheVariants as line
use Rattle.session_requests.specs.declared.request.RequestFault.{RequestFault}
use Rattle.session_requests.specs.declared.request.RequestFault.TheVariants.{BadLine, Cut}

-- ---- a line, without its LF

-- the second step, if the first gave a value
infixl 10 ◌>>=◌
abbrev pub ◌>>=◌ : {A B : Type 0} → Option A → (A → Option B) → Option B
(Some x) >>= f = f x
None >>= f = None

-- a line with its LF has at most this many bytes
abbrev pub line_limit : ℕ
line_limit = 128

-- a byte before the first of two texts
abbrev pub onto : ℕ → List ℕ × List ℕ → List ℕ × List ℕ
onto byte found = (byte ∷ found.0, found.1)

-- what comes before a byte and what comes after it, at its first place; None if it is not among the first `room`
-- bytes
abbrev pub first_part : ℕ → ℕ → List ℕ → Option (List ℕ × List ℕ)
first_part byte zero text = None
first_part byte (suc room) [] = None
first_part byte (suc room) (b ∷ bs) = if b == byte then Some ([], bs) else option_map (onto b) (first_part byte room bs)

-- a name, a key or a digest has 64 lower-case hex digits, which write 32 bytes
abbrev pub hex_name_of : List ℕ → Option (List ℕ)
hex_name_of text = result_ok (field_key text)

-- a COUNT is 1 to 1,024
abbrev pub list_count : List ℕ → Option ℕ
list_count text = do
  count ← decimal_of text
  if nat_le 1 count && nat_le count 1024 then Some count else None

-- KEY COUNT
abbrev pub list_of : List ℕ → Option RequestLine
list_of text = do
  found ← first_part 32 line_limit text
  key ← hex_name_of found.0
  count ← list_count found.1
  Some (line.List key count)

-- a DIGEST, or `-`
abbrev pub digest_of : List ℕ → Option (Option (List ℕ))
digest_of text = if bytes_eq text (codes "-") then Some None else option_map Some (hex_name_of text)

-- HEIGHT DIGEST LENGTH
abbrev pub begin_of : List ℕ → Option RequestLine
begin_of text = do
  found ← first_part 32 line_limit text
  height ← decimal_of found.0
  last ← first_part 32 line_limit found.1
  digest ← digest_of last.0
  size ← decimal_of last.1
  Some (line.Begin height digest size)

-- what a line says, if it has one of the forms
abbrev pub request_line_of : List ℕ → Option RequestLine
request_line_of text =
    if bytes_eq text (codes "programs") then Some line.Programs else
    if bytes_eq text (codes "last") then Some line.Last else
    if bytes_eq text (codes "dump") then Some line.Dump else
    if bytes_eq text (codes "state") then Some line.State else
    if bytes_eq text (codes "q") then Some line.Quit else
    if starts_with ◌==◌ text (codes "program ") then option_map line.Program (decimal_of (drop 8 text)) else
    if starts_with ◌==◌ text (codes "frame ") then option_map line.Frame (decimal_of (drop 6 text)) else
    if starts_with ◌==◌ text (codes "try ") then option_map line.Try (decimal_of (drop 4 text)) else
    if starts_with ◌==◌ text (codes "forget ") then option_map line.Forget (hex_name_of (drop 7 text)) else
    if starts_with ◌==◌ text (codes "get ") then option_map line.Get (hex_name_of (drop 4 text)) else
    if starts_with ◌==◌ text (codes "list ") then list_of (drop 5 text) else
    if starts_with ◌==◌ text (codes "begin ") then begin_of (drop 6 text) else None

-- ---- a request

-- a request: what its line says, with the bytes after it
pub data Ask : Type 0 where
  Program : List ℕ → Ask
  Forget : List ℕ → Ask
  Programs : Ask
  Frame : List ℕ → Ask
  Try : List ℕ → Ask
  Last : Ask
  Get : List ℕ → Ask
  ListEntries : List ℕ → ℕ → Ask
  Dump : Ask
  Begin : ℕ → Option (List ℕ) → List ℕ → Ask
  State : Ask
  Quit : Ask

-- how many bytes follow a line
abbrev pub body_length : RequestLine → ℕ
body_length (line.Program length) = length
body_length (line.Frame length) = length
body_length (line.Try length) = length
body_length (line.Begin height digest length) = length
body_length other = 0

-- a line and the bytes after it
abbrev pub with_body : RequestLine → List ℕ → Ask
with_body (line.Program length) body = Program body
with_body (line.Forget name) body = Forget name
with_body line.Programs body = Programs
with_body (line.Frame length) body = Frame body
with_body (line.Try length) body = Try body
with_body line.Last body = Last
with_body (line.Get key) body = Get key
with_body (line.List key count) body = ListEntries key count
with_body line.Dump body = Dump
with_body (line.Begin height digest length) body = Begin height digest body
with_body line.State body = State
with_body line.Quit body = Quit

-- what comes first in an input: a request, and the bytes after it; or no request, at the input's end or by a fault
pub data NextRequest : Type 0 where
  Is : Ask → List ℕ → NextRequest
  Ends : Option RequestFault → NextRequest

abbrev pub behind_line : Option RequestLine → List ℕ → NextRequest
behind_line None rest = Ends (Some BadLine)
behind_line (Some said) rest =
    if nat_lt (length rest) (body_length said) then Ends (Some Cut) else
    Is (with_body said (take (body_length said) rest)) (drop (body_length said) rest)

abbrev pub by_line : Option (List ℕ × List ℕ) → NextRequest
by_line None = Ends (Some BadLine)
by_line (Some found) = behind_line (request_line_of found.0) found.1

-- what comes first: its line is the text before the first LF
unfoldable pub request_in_bytes : List ℕ → NextRequest
request_in_bytes [] = Ends None
request_in_bytes (byte ∷ bytes) = by_line (first_part 10 line_limit (byte ∷ bytes))

-- ---- all of an input

-- the requests of an input, and the fault that ends them, if one does
pub record AllRequests : Type 0 where
  pub asks : List Ask
  pub fault : Option RequestFault

abbrev pub all_requests : List Ask → Option RequestFault → AllRequests
all_requests asks fault = record { asks = asks; fault = fault }

abbrev pub and_then : NextRequest → (List ℕ → AllRequests) → AllRequests
and_then (Is ask rest) more = all_requests (ask ∷ (more rest).asks) (more rest).fault
and_then (Ends fault) more = all_requests [] fault

-- what comes first, up to this many times
abbrev pub requests_within : ℕ → List ℕ → AllRequests
requests_within zero bytes = all_requests [] None
requests_within (suc times) bytes = and_then (request_in_bytes bytes) (requests_within times)

-- all that an input asks for: each request has a byte at least
unfoldable pub requests_of : List ℕ → AllRequests
requests_of bytes = requests_within (length bytes) bytes

-- one request more, before what the rest asks for
abbrev pub next_and_rest : NextRequest → AllRequests
next_and_rest next = and_then next requests_of
