-- What is read of an input.
use Rattle.std.specs.Prelude.{◌≡◌, ⊤, ℕ, ◌<◌, ◌≤◌, nat_lt, Bool, true, false, List, [], ◌∷◌, ◌++◌, length, Option, Some, None, OnSome, take}
use Rattle.std.specs.Io.KnownBytes.{Consumes, IsAtEnd}
use Rattle.programs.specs.Programs.{file_limit}
use Rattle.session_requests.specs.declared.reading.LineEnd.{LineEnd}
use Rattle.session_requests.specs.declared.reading.LineEnd.TheVariants as end
use Rattle.session_requests.specs.declared.reading.Keeping.{Keeping}
use Rattle.session_requests.specs.declared.reading.Keeping.TheVariants.{Kept, Passed, OutOfMemory}
use Rattle.session_requests.specs.declared.reading.Body.{Body}
use Rattle.session_requests.specs.declared.reading.Body.TheVariants as body
use Rattle.session_requests.specs.declared.request.Asked.{Asked}
use Rattle.session_requests.specs.declared.request.Asked.TheVariants as asked
use Rattle.session_requests.specs.declared.request.Request.{Request}
use Rattle.session_requests.specs.declared.request.Request.TheVariants as request
use Rattle.session_requests.specs.declared.request.RequestLine.{RequestLine}
use Rattle.session_requests.specs.declared.request.RequestLine.TheVariants as line
use Rattle.session_requests.specs.Requests.{Ask, Program, Forget, Programs, Frame, Try, Last, Get, ListEntries, Dump, Begin, State, Quit, Is, Ends, behind_line, body_length, first_part, line_limit, request_in_bytes, with_body}
use Rattle.session_requests.specs.Written.{line_for}

-- a fact of the bytes before and after, if those before are known
abbrev pub WhereKnown : Option (List ℕ) → Option (List ℕ) → (List ℕ → List ℕ → Type 0) → Type 0
WhereKnown None after P = ⊤
WhereKnown (Some xs) None P = ⊥
WhereKnown (Some xs) (Some ys) P = P xs ys

-- the bytes so far, if they are kept
abbrev pub AreBytesKept : Keeping → List ℕ → Type 0
AreBytesKept (Kept bytes) whole = bytes.items ≡ whole
AreBytesKept other whole = ⊤

-- how keeping changes with more bytes: kept bytes are lost only if memory runs out, and what is not kept stays so
abbrev pub KeepingGoesOn : Keeping → Keeping → Type 0
KeepingGoesOn (Kept bytes) Passed = ⊥
KeepingGoesOn (Kept bytes) other = ⊤
KeepingGoesOn Passed now = now ≡ Passed
KeepingGoesOn OutOfMemory now = now ≡ OutOfMemory

-- the request that a value is
abbrev pub ask_of : Request → Ask
ask_of (request.Program bytes) = Program bytes.items
ask_of (request.Forget name) = Forget name
ask_of request.Programs = Programs
ask_of (request.Frame bytes) = Frame bytes.items
ask_of (request.Try bytes) = Try bytes.items
ask_of request.Last = Last
ask_of (request.Get key) = Get key
ask_of (request.List key count) = ListEntries key count
ask_of request.Dump = Dump
ask_of (request.Begin height digest bytes) = Begin height digest bytes.items
ask_of request.State = State
ask_of request.Quit = Quit

-- whether more bytes follow than may: 131,072 of a program, `frame_limit` of a frame
abbrev pub is_too_long : ℕ → RequestLine → Bool
is_too_long frame_limit (line.Program length) = nat_lt file_limit length
is_too_long frame_limit (line.Frame length) = nat_lt frame_limit length
is_too_long frame_limit (line.Try length) = nat_lt frame_limit length
is_too_long frame_limit other = false

-- a request with this line, and as many bytes as it says, comes first in xs, and ys follows it
abbrev pub IsPassed : RequestLine → List ℕ → List ℕ → Type 0
IsPassed said xs ys = (bytes : List ℕ) × (request_in_bytes xs ≡ Is (with_body said bytes) ys) × (length bytes ≡ body_length said)

-- what a reader returns is what comes first in xs, and it leaves ys
abbrev pub ReadsRequest : ℕ → Asked → List ℕ → List ℕ → Type 0
ReadsRequest frame_limit (asked.Whole request) xs ys = (request_in_bytes xs ≡ Is (ask_of request) ys) × (is_too_long frame_limit (line_for (ask_of request)) ≡ false)
ReadsRequest frame_limit (asked.TooLong said) xs ys = IsPassed said xs ys × (is_too_long frame_limit said ≡ true)
ReadsRequest frame_limit (asked.Unkept said) xs ys = IsPassed said xs ys × (is_too_long frame_limit said ≡ false) × (0 < body_length said)
ReadsRequest frame_limit (asked.Broken fault) xs ys = request_in_bytes xs ≡ Ends (Some fault)
ReadsRequest frame_limit asked.End xs ys = request_in_bytes xs ≡ Ends None

-- the same for the bytes after a line
abbrev pub TellsBehind : ℕ → Asked → RequestLine → List ℕ → List ℕ → Type 0
TellsBehind frame_limit (asked.Whole request) said xs ys = (behind_line (Some said) xs ≡ Is (ask_of request) ys) × (is_too_long frame_limit (line_for (ask_of request)) ≡ false)
TellsBehind frame_limit (asked.TooLong other) said xs ys = (other ≡ said) × ((bytes : List ℕ) × (behind_line (Some said) xs ≡ Is (with_body said bytes) ys) × (length bytes ≡ body_length said)) × (is_too_long frame_limit said ≡ true)
TellsBehind frame_limit (asked.Unkept other) said xs ys = (other ≡ said) × ((bytes : List ℕ) × (behind_line (Some said) xs ≡ Is (with_body said bytes) ys) × (length bytes ≡ body_length said)) × (is_too_long frame_limit said ≡ false) × (0 < body_length said)
TellsBehind frame_limit (asked.Broken fault) said xs ys = behind_line (Some said) xs ≡ Ends (Some fault)
TellsBehind frame_limit asked.End said xs ys = ⊥

-- what a read of one byte gives
abbrev pub GivesByte : Option (List ℕ) → Option (List ℕ) → Option ℕ → Type 0
GivesByte before after None = Consumes before after [] × OnSome before (IsAtEnd after)
GivesByte before after (Some byte) = Consumes before after (byte ∷ [])

-- what a read of a line gives, which is put into `room`
abbrev pub GivesLine : List ℕ → LineEnd → List ℕ → List ℕ → Type 0
GivesLine room (end.Whole count) xs ys = first_part 10 line_limit xs ≡ Some (take count room, ys)
GivesLine room end.Nothing xs ys = xs ≡ []
GivesLine room end.Broken xs ys = (first_part 10 line_limit xs ≡ None) × (0 < length xs)

-- a line is within the room
abbrev pub IsLineWithin : LineEnd → Type 0
IsLineWithin (end.Whole count) = count ≤ 128
IsLineWithin other = ⊤

-- what a read of this many bytes gives
abbrev pub GivesBody : ℕ → Body → List ℕ → List ℕ → Type 0
GivesBody size (body.Whole bytes) xs ys = (bs : List ℕ) × (xs ≡ bs ++ ys) × (length bs ≡ size) × (bytes.items ≡ bs)
GivesBody size body.Passed xs ys = (bs : List ℕ) × (xs ≡ bs ++ ys) × (length bs ≡ size)
GivesBody size body.Unkept xs ys = (bs : List ℕ) × (xs ≡ bs ++ ys) × (length bs ≡ size)
GivesBody size body.Cut xs ys = length xs < size

-- bytes that must be kept are not passed over; if they are lost because memory ran out, there is at least one, since
-- no bytes need no memory
abbrev pub LosesSome : Keeping → ℕ → Body → Type 0
LosesSome (Kept bytes) size body.Passed = ⊥
LosesSome (Kept bytes) size body.Unkept = 0 < size
LosesSome kept size other = ⊤
