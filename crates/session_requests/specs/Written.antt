-- What a client writes for a request.
use Rattle.std.specs.Prelude.{◌≡◌, ⊤, ℕ, ◌<◌, ◌≤◌, ◌^◌, List, ◌∷◌, ◌++◌, [], length, codes, All, Option, Some, None, IfSome}
use Rattle.std.specs.Fmt.{decimal}
use Rattle.hex.specs.Hex.{encode_lower}
use Rattle.session_requests.specs.Requests.{Ask, Program, Forget, Programs, Frame, Try, Last, Get, ListEntries, Dump, Begin, State, Quit}
use Rattle.session_requests.specs.declared.request.RequestLine.{RequestLine}
use Rattle.session_requests.specs.declared.request.RequestLine.TheVariants as line

-- the line of a request
abbrev pub line_for : Ask → RequestLine
line_for (Program body) = line.Program (length body)
line_for (Forget name) = line.Forget name
line_for Programs = line.Programs
line_for (Frame body) = line.Frame (length body)
line_for (Try body) = line.Try (length body)
line_for Last = line.Last
line_for (Get key) = line.Get key
line_for (ListEntries key count) = line.List key count
line_for Dump = line.Dump
line_for (Begin height digest body) = line.Begin height digest (length body)
line_for State = line.State
line_for Quit = line.Quit

-- the bytes after the line
abbrev pub body_for : Ask → List ℕ
body_for (Program body) = body
body_for (Frame body) = body
body_for (Try body) = body
body_for (Begin height digest body) = body
body_for other = []

abbrev pub digest_text : Option (List ℕ) → List ℕ
digest_text None = codes "-"
digest_text (Some digest) = encode_lower digest

-- how a line is written, without its LF
abbrev pub request_line_text : RequestLine → List ℕ
request_line_text (line.Program length) = codes "program " ++ decimal length
request_line_text (line.Forget name) = codes "forget " ++ encode_lower name
request_line_text line.Programs = codes "programs"
request_line_text (line.Frame length) = codes "frame " ++ decimal length
request_line_text (line.Try length) = codes "try " ++ decimal length
request_line_text line.Last = codes "last"
request_line_text (line.Get key) = codes "get " ++ encode_lower key
request_line_text (line.List key count) = codes "list " ++ (encode_lower key ++ 32 ∷ decimal count)
request_line_text line.Dump = codes "dump"
request_line_text (line.Begin height digest length) = codes "begin " ++ (decimal height ++ 32 ∷ (digest_text digest ++ 32 ∷ decimal length))
request_line_text line.State = codes "state"
request_line_text line.Quit = codes "q"

-- a request's bytes
abbrev pub request_bytes : Ask → List ℕ
request_bytes ask = request_line_text (line_for ask) ++ 10 ∷ body_for ask

-- ---- what can be written

-- 32 bytes
pub record IsName (name : List ℕ) : Type 0 where
  pub long : length name ≡ 32
  pub bytes : All (λ b. b < 256) name

-- a number of at most 10 digits
pub record IsShort (n : ℕ) : Type 0 where
  pub below : n < 10 ^ 10

pub record IsCount (n : ℕ) : Type 0 where
  pub some : 1 ≤ n
  pub few : n ≤ 1024

abbrev pub FitsLine : RequestLine → Type 0
FitsLine (line.Program length) = IsShort length
FitsLine (line.Forget name) = IsName name
FitsLine line.Programs = ⊤
FitsLine (line.Frame length) = IsShort length
FitsLine (line.Try length) = IsShort length
FitsLine line.Last = ⊤
FitsLine (line.Get key) = IsName key
FitsLine (line.List key count) = IsName key × IsCount count
FitsLine line.Dump = ⊤
FitsLine (line.Begin height digest length) = IsShort height × IfSome digest IsName × IsShort length
FitsLine line.State = ⊤
FitsLine line.Quit = ⊤

abbrev pub FitsRequest : Ask → Type 0
FitsRequest ask = FitsLine (line_for ask)
