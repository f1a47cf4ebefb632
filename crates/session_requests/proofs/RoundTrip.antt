-- What a client writes is read back.
use Rattle.std.proofs.Common.{◌≡◌, ◌<◌, ◌≤◌, ◌+◌, ◌==◌, ◌&&◌, ℕ, zero, suc, true, false, List, [], ◌∷◌, ◌++◌, length, Option, Some, None, IfSome, nat_lt, refl, ap, ◌∙◌, arith, append_assoc, length-append}
use Rattle.std.specs.Prelude.{nat_le, codes}
use Rattle.std.specs.Fmt.{decimal}
use Rattle.std.specs.List.{AllByRecursion, flat_map}
use Rattle.std.specs.Option.{option_map}
use Rattle.std.specs.Str.{bytes_eq}
use Rattle.std.proofs.lemmas.Bool.{and_parts}
use Rattle.std.proofs.lemmas.Bool.Decides.{nat_tests}
use Rattle.std.proofs.lemmas.List.{drop_at, take_at}
use Rattle.std.proofs.lemmas.List.Folds.{list_all-append}
use Rattle.hex.specs.Hex.{encode_lower}
use Rattle.session_requests.specs.declared.request.RequestLine.{RequestLine}
use Rattle.session_requests.specs.declared.request.RequestLine.TheVariants as line
use Rattle.block_file.specs.Line.{decimal_of}
use Rattle.session_requests.specs.Requests.{Ask, Program, Forget, Programs, Frame, Try, Last, Get, Dump, Begin, State, Quit, Is, AllRequests, next_and_rest, behind_line, body_length, by_line, list_count, digest_of, first_part, all_requests, line_limit, request_line_of, hex_name_of, onto, request_in_bytes, requests_of, with_body, ◌>>=◌}
use Rattle.session_requests.specs.Written.{FitsRequest, FitsLine, IsCount, IsName, body_for, request_bytes, digest_text, line_for, request_line_text}
use Rattle.session_requests.proofs.FieldTexts.{IsDecimal, IsHex, above, decimal_is, digits_above, hex_above, hex_is}
use Rattle.session_requests.proofs.Steps.{requests_step}

-- ---- parts

apart : (c b : ℕ) → nat_lt c b ≡ true → (b == c) ≡ false
apart c b h = grind (arith, nat_tests)

same : (c : ℕ) → (c == c) ≡ true
same c = grind (arith, nat_tests)

-- a text that lacks a byte is the part before it
pub part_found : (c room : ℕ) (text more : List ℕ) → above c text ≡ true → length text < room → first_part c room (text ++ c ∷ more) ≡ Some (text, more)
part_found c zero text more h lt = absurd (omega (arith, lt))
part_found c (suc room) [] more h lt = rw (same c) refl
part_found c (suc room) (b ∷ bs) more h lt =
    let parts = and_parts (nat_lt c b) (above c bs) h in
    rw (apart c b parts.0) (ap (option_map (onto b)) (part_found c room bs more parts.1 (omega (arith, lt))))

-- ---- fields

count_read : (n : ℕ) (ds : List ℕ) → IsDecimal n ds → IsCount n → list_count ds ≡ Some n
count_read n ds d h =
    let within : (nat_le 1 n && nat_le n 1024) ≡ true = grind (arith, nat_tests, h.some, h.few) in
    rw (d.read, within) refl

no_dash : (a b : ℕ) (rest : List ℕ) → bytes_eq (a ∷ b ∷ rest) (codes "-") ≡ false
no_dash a b rest = elim (a == 45) as (λ t. (t && false) ≡ false) [ true ↦ refl | false ↦ refl ]

long_no_dash : (ds : List ℕ) → length ds ≡ 64 → bytes_eq ds (codes "-") ≡ false
long_no_dash [] h = absurd (omega (arith, h))
long_no_dash (a ∷ []) h = absurd (omega (arith, h))
long_no_dash (a ∷ b ∷ rest) h = no_dash a b rest

digest_read : (name ds : List ℕ) → IsHex name ds → digest_of ds ≡ Some (Some name)
digest_read name ds h = rw (long_no_dash ds h.long, h.read) refl

-- ---- lines

-- a digest's text has no blank, and is read back
pub record IsDigest (digest : Option (List ℕ)) (ds : List ℕ) : Type 0 where
  plain : above 32 ds ≡ true
  low : above 10 ds ≡ true
  read : digest_of ds ≡ Some digest
  short : length ds ≤ 64

digest_is : (digest : Option (List ℕ)) → IfSome digest IsName → IsDigest digest (digest_text digest)
digest_is None h = record { plain = refl; low = refl; read = refl; short = omega arith }
digest_is (Some name) h =
    let d : IsHex name (encode_lower name) = hex_is name h in record {
      plain = hex_above 32 (encode_lower name) (omega arith) d.digits;
      low = hex_above 10 (encode_lower name) (omega arith) d.digits;
      read = digest_read name (encode_lower name) d;
      short = omega (arith, d.long);
    }

list_read : (key ks ds : List ℕ) (n : ℕ) → IsHex key ks → IsDecimal n ds → IsCount n → request_line_of (codes "list " ++ (ks ++ 32 ∷ ds)) ≡ Some (line.List key n)
list_read key ks ds n k d h =
    ap (λ (o : Option (List ℕ × List ℕ)). o >>= (λ found. hex_name_of found.0 >>= (λ key. list_count found.1 >>= (λ count. Some (line.List key count)))))
    (part_found 32 line_limit ks ds (hex_above 32 ks (omega arith) k.digits) (omega (arith, k.long)))
    ∙ ap (λ (o : Option (List ℕ)). o >>= (λ key. list_count ds >>= (λ count. Some (line.List key count)))) k.read
    ∙ ap (λ (o : Option ℕ). o >>= (λ count. Some (line.List key count))) (count_read n ds d h)

begin_read : (height size : ℕ) (digest : Option (List ℕ)) (hs gs ds : List ℕ) → IsDecimal height hs → IsDigest digest gs → IsDecimal size ds
    → request_line_of (codes "begin " ++ (hs ++ 32 ∷ (gs ++ 32 ∷ ds))) ≡ Some (line.Begin height digest size)
begin_read height size digest hs gs ds h g d =
    ap (λ (o : Option (List ℕ × List ℕ)). o >>= (λ found. decimal_of found.0 >>= (λ height. first_part 32 line_limit found.1 >>= (λ last. digest_of last.0 >>= (λ digest. decimal_of last.1 >>= (λ size. Some (line.Begin height digest size)))))))
    (part_found 32 line_limit hs (gs ++ 32 ∷ ds) (digits_above 32 hs (omega arith) h.digits) (omega (arith, h.short)))
    ∙ ap (λ (o : Option ℕ). o >>= (λ height. first_part 32 line_limit (gs ++ 32 ∷ ds) >>= (λ last. digest_of last.0 >>= (λ digest. decimal_of last.1 >>= (λ size. Some (line.Begin height digest size)))))) h.read
    ∙ ap (λ (o : Option (List ℕ × List ℕ)). o >>= (λ last. digest_of last.0 >>= (λ digest. decimal_of last.1 >>= (λ size. Some (line.Begin height digest size)))))
    (part_found 32 line_limit gs ds g.plain (omega (arith, g.short)))
    ∙ ap (λ (o : Option (Option (List ℕ))). o >>= (λ digest. decimal_of ds >>= (λ size. Some (line.Begin height digest size)))) g.read
    ∙ ap (λ (o : Option ℕ). o >>= (λ size. Some (line.Begin height digest size))) d.read

-- each line is read back
pub line_read : (said : RequestLine) → FitsLine said → request_line_of (request_line_text said) ≡ Some said
line_read (line.Program n) h = ap (option_map line.Program) (decimal_is n h).read
line_read (line.Forget name) h = ap (option_map line.Forget) (hex_is name h).read
line_read line.Programs h = refl
line_read (line.Frame n) h = ap (option_map line.Frame) (decimal_is n h).read
line_read (line.Try n) h = ap (option_map line.Try) (decimal_is n h).read
line_read line.Last h = refl
line_read (line.Get key) h = ap (option_map line.Get) (hex_is key h).read
line_read (line.List key n) (k, c) = list_read key (encode_lower key) (decimal n) n (hex_is key k) (decimal_is n (record { below = omega (arith, c.few) })) c
line_read line.Dump h = refl
line_read (line.Begin height digest size) (a, b, c) = begin_read height size digest (decimal height) (digest_text digest) (decimal size) (decimal_is height a) (digest_is digest b) (decimal_is size c)
line_read line.State h = refl
line_read line.Quit h = refl

-- a line has no LF, and is short
pub record IsLine (text : List ℕ) : Type 0 where
  plain : above 10 text ≡ true
  short : length text < 128

decimal_line : (n : ℕ) (ds : List ℕ) → IsDecimal n ds → (above 10 ds ≡ true) × (length ds ≤ 10)
decimal_line n ds d = (digits_above 10 ds (omega arith) d.digits, d.short)

hex_line : (name ds : List ℕ) → IsHex name ds → (above 10 ds ≡ true) × (length ds ≤ 64)
hex_line name ds d = (hex_above 10 ds (omega arith) d.digits, omega (arith, d.long))

two_parts : (xs ys : List ℕ) (m n : ℕ) → (above 10 xs ≡ true) × (length xs ≤ m) → (above 10 ys ≡ true) × (length ys ≤ n) → (above 10 (xs ++ 32 ∷ ys) ≡ true) × (length (xs ++ 32 ∷ ys) ≤ m + n + 1)
two_parts xs ys m n (a, b) (c, d) = (
  list_all-append (λ b. nat_lt 10 b) xs (32 ∷ ys) ∙ rw (a, c) refl,
  omega (arith, length-append xs (32 ∷ ys), b, d),
)

pub line_is : (said : RequestLine) → FitsLine said → IsLine (request_line_text said)
line_is (line.Program n) h = let d = decimal_line n (decimal n) (decimal_is n h) in record { plain = d.0; short = omega (arith, d.1) }
line_is (line.Forget name) h = let d = hex_line name (encode_lower name) (hex_is name h) in record { plain = d.0; short = omega (arith, d.1) }
line_is line.Programs h = record { plain = refl; short = omega arith }
line_is (line.Frame n) h = let d = decimal_line n (decimal n) (decimal_is n h) in record { plain = d.0; short = omega (arith, d.1) }
line_is (line.Try n) h = let d = decimal_line n (decimal n) (decimal_is n h) in record { plain = d.0; short = omega (arith, d.1) }
line_is line.Last h = record { plain = refl; short = omega arith }
line_is (line.Get key) h = let d = hex_line key (encode_lower key) (hex_is key h) in record { plain = d.0; short = omega (arith, d.1) }
line_is (line.List key n) (k, c) =
    let d = two_parts (encode_lower key) (decimal n) 64 10 (hex_line key (encode_lower key) (hex_is key k)) (decimal_line n (decimal n) (decimal_is n (record { below = omega (arith, c.few) }))) in
    record { plain = d.0; short = omega (arith, d.1) }
line_is line.Dump h = record { plain = refl; short = omega arith }
line_is (line.Begin height digest size) (a, b, c) =
    let g = digest_is digest b in
    let d = two_parts (decimal height) (digest_text digest ++ 32 ∷ decimal size) 10 75 (decimal_line height (decimal height) (decimal_is height a))
    (two_parts (digest_text digest) (decimal size) 64 10 (g.low, g.short) (decimal_line size (decimal size) (decimal_is size c))) in
    record { plain = d.0; short = omega (arith, d.1) }
line_is line.State h = record { plain = refl; short = omega arith }
line_is line.Quit h = record { plain = refl; short = omega arith }

-- ---- requests

-- a request is its line and its body, which is as long as the line says
again : (ask : Ask) → (with_body (line_for ask) (body_for ask) ≡ ask) × (length (body_for ask) ≡ body_length (line_for ask))
again Quit = (refl, refl)
again ask = (refl, refl)

pub by_found : (bytes : List ℕ) (found : List ℕ × List ℕ) → first_part 10 line_limit bytes ≡ Some found → request_in_bytes bytes ≡ by_line (Some found)
unfolding request_in_bytes
by_found [] found h = cc
by_found (b ∷ bs) found h = ap by_line h

pub body_read : (said : RequestLine) (body more : List ℕ) → length body ≡ body_length said → behind_line (Some said) (body ++ more) ≡ Is (with_body said body) more
body_read said body more h =
    let whole : nat_lt (length (body ++ more)) (body_length said) ≡ false = grind (arith, nat_tests, length-append body more, h) in
    rw (whole, take_at body more (body_length said) h, drop_at body more (body_length said) h) refl

-- a request is read back, whatever follows it
pub request_read : (ask : Ask) (more : List ℕ) → FitsRequest ask → request_in_bytes (request_bytes ask ++ more) ≡ Is ask more
request_read ask more h =
    let said : RequestLine = line_for ask in
    let text : List ℕ = request_line_text said in
    let is = line_is said h in
    ap request_in_bytes (append_assoc text (10 ∷ body_for ask) more)
    ∙ by_found (text ++ 10 ∷ (body_for ask ++ more)) (text, body_for ask ++ more) (part_found 10 line_limit text (body_for ask ++ more) is.plain is.short)
    ∙ ap (λ o. behind_line o (body_for ask ++ more)) (line_read said h)
    ∙ body_read said (body_for ask) more (again ask).1
    ∙ ap (λ a. Is a more) (again ask).0

ended : next_and_rest (request_in_bytes []) ≡ all_requests [] None
unfolding request_in_bytes
ended = refl

-- and so is a list of them
pub requests_read : (asks : List Ask) → AllByRecursion FitsRequest asks → requests_of (flat_map request_bytes asks) ≡ all_requests asks None
requests_read [] h = requests_step [] ∙ ended
requests_read (ask ∷ asks) h =
    requests_step (request_bytes ask ++ flat_map request_bytes asks)
    ∙ ap next_and_rest (request_read ask (flat_map request_bytes asks) h.0)
    ∙ ap (λ (more : AllRequests). all_requests (ask ∷ more.asks) more.fault) (requests_read asks h.1)
