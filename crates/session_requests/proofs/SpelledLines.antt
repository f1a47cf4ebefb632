-- A line or a request that is read has the text that is written for it.
use Rattle.std.proofs.Common.{◌≡◌, ◌≤◌, ◌==◌, ◌&&◌, ℕ, Bool, true, false, cond, List, [], ◌∷◌, ◌++◌, length, take, drop, Option, Some, None, IfSome, nat_lt, refl, sym, ap, subst, ◌∙◌, arith, append_assoc, take-append-drop, length-take-le}
use Rattle.std.specs.Prelude.{⊤, nat_le, codes}
use Rattle.std.specs.Fmt.{decimal}
use Rattle.std.specs.List.{starts_with}
use Rattle.std.specs.Option.{option_map}
use Rattle.std.specs.Str.{bytes_eq}
use Rattle.std.proofs.lemmas.Bool.{and_parts, eqb-true}
use Rattle.std.proofs.lemmas.Bool.Decides.{nat_tests}
use Rattle.hex.specs.Hex.{encode_lower}
use Rattle.session_requests.specs.declared.request.RequestFault.TheVariants.{Cut}
use Rattle.session_requests.specs.declared.request.RequestLine.{RequestLine}
use Rattle.session_requests.specs.declared.request.RequestLine.TheVariants as line
use Rattle.block_file.specs.Line.{decimal_of}
use Rattle.session_requests.specs.Requests.{Ask, NextRequest, Is, Ends, begin_of, behind_line, body_length, by_line, list_count, digest_of, first_part, line_limit, request_line_of, list_of, hex_name_of, request_in_bytes, with_body, ◌>>=◌}
use Rattle.session_requests.specs.Written.{FitsRequest, FitsLine, IsCount, IsName, IsShort, body_for, request_bytes, digest_text, line_for, request_line_text}
use Rattle.session_requests.proofs.Spelled.{IfName, IfSpelled, Splits, decimals, either, names, splits}

-- ---- words

same_bytes : (xs ys : List ℕ) → bytes_eq xs ys ≡ true → ys ≡ xs
same_bytes [] [] h = refl
same_bytes [] (y ∷ ys) h = cc h
same_bytes (x ∷ xs) [] h = cc h
same_bytes (x ∷ xs) (y ∷ ys) h =
    let parts = and_parts (x == y) (bytes_eq xs ys) h in
    ap (λ (b : ℕ). b ∷ ys) (sym (eqb-true x y parts.0)) ∙ ap (λ (l : List ℕ). x ∷ l) (same_bytes xs ys parts.1)

starts_at : (word text : List ℕ) → starts_with ◌==◌ text word ≡ true → word ++ drop (length word) text ≡ text
starts_at [] text h = refl
starts_at (w ∷ ws) [] h = cc h
starts_at (w ∷ ws) (t ∷ ts) h =
    let parts = and_parts (w == t) (starts_with ◌==◌ ts ws) h in
    ap (λ (b : ℕ). b ∷ (ws ++ drop (length ws) ts)) (eqb-true w t parts.0) ∙ ap (λ (l : List ℕ). t ∷ l) (starts_at ws ts parts.1)

-- ---- fields

abbrev IfCount : List ℕ → Option ℕ → Type 0
IfCount text None = ⊤
IfCount text (Some n) = IsCount n × (decimal n ≡ text)

is_count : (n : ℕ) → (nat_le 1 n && nat_le n 1024) ≡ true → IsCount n
is_count n h = record { some = grind (arith, nat_tests); few = grind (arith, nat_tests) }

count_step : (text : List ℕ) (o : Option ℕ) → IfSpelled text o → IfCount text (o >>= (λ count. cond (nat_le 1 count && nat_le count 1024) (Some count) None))
count_step text None h = tt
count_step text (Some n) h = either (IfCount text) (nat_le 1 n && nat_le n 1024) (Some n) None (λ e. (is_count n e, h.1)) (λ e. tt)

counts : (text : List ℕ) → IfCount text (list_count text)
counts text = count_step text (decimal_of text) (decimals text)

abbrev IfDigest : List ℕ → Option (Option (List ℕ)) → Type 0
IfDigest text None = ⊤
IfDigest text (Some digest) = IfSome digest IsName × (digest_text digest ≡ text)

digest_step : (text : List ℕ) (o : Option (List ℕ)) → IfName text o → IfDigest text (option_map Some o)
digest_step text None h = tt
digest_step text (Some name) h = h

digests : (text : List ℕ) → IfDigest text (digest_of text)
digests text = either (IfDigest text) (bytes_eq text (codes "-")) (Some None) (option_map Some (hex_name_of text)) (λ e. (tt, same_bytes text (codes "-") e)) (λ e. digest_step text (hex_name_of text) (names text))

-- ---- lines

abbrev IfLine : List ℕ → Option RequestLine → Type 0
IfLine text None = ⊤
IfLine text (Some said) = FitsLine said × (request_line_text said ≡ text)

number_line : (text word ds : List ℕ) (wrap : ℕ → RequestLine) → ((n : ℕ) → IsShort n → FitsLine (wrap n)) → ((n : ℕ) → request_line_text (wrap n) ≡ word ++ decimal n) → word ++ ds ≡ text → (o : Option ℕ) → IfSpelled ds o → IfLine text (option_map wrap o)
number_line text word ds wrap fits is whole None h = tt
number_line text word ds wrap fits is whole (Some n) h = (fits n h.0, is n ∙ ap (λ (l : List ℕ). word ++ l) h.1 ∙ whole)

name_line : (text word ds : List ℕ) (wrap : List ℕ → RequestLine) → ((x : List ℕ) → IsName x → FitsLine (wrap x)) → ((x : List ℕ) → request_line_text (wrap x) ≡ word ++ encode_lower x) → word ++ ds ≡ text → (o : Option (List ℕ)) → IfName ds o → IfLine text (option_map wrap o)
name_line text word ds wrap fits is whole None h = tt
name_line text word ds wrap fits is whole (Some x) h = (fits x h.0, is x ∙ ap (λ (l : List ℕ). word ++ l) h.1 ∙ whole)

list_last : (text key ks ds : List ℕ) → IsName key → encode_lower key ≡ ks → codes "list " ++ (ks ++ 32 ∷ ds) ≡ text → (o : Option ℕ) → IfCount ds o → IfLine text (o >>= (λ count. Some (line.List key count)))
list_last text key ks ds k e whole None h = tt
list_last text key ks ds k e whole (Some n) h = ((k, h.0), ap (λ (l : List ℕ). codes "list " ++ (l ++ 32 ∷ decimal n)) e ∙ ap (λ (l : List ℕ). codes "list " ++ (ks ++ 32 ∷ l)) h.1 ∙ whole)

list_key : (text ks ds : List ℕ) → codes "list " ++ (ks ++ 32 ∷ ds) ≡ text → (o : Option (List ℕ)) → IfName ks o → IfLine text (o >>= (λ key. list_count ds >>= (λ count. Some (line.List key count))))
list_key text ks ds whole None h = tt
list_key text ks ds whole (Some key) h = list_last text key ks ds h.0 h.1 whole (list_count ds) (counts ds)

list_line : (text t : List ℕ) → codes "list " ++ t ≡ text → (o : Option (List ℕ × List ℕ)) → Splits 32 t o → IfLine text (o >>= (λ found. hex_name_of found.0 >>= (λ key. list_count found.1 >>= (λ count. Some (line.List key count)))))
list_line text t whole None h = tt
list_line text t whole (Some found) h = list_key text found.0 found.1 (ap (λ (l : List ℕ). codes "list " ++ l) (sym h) ∙ whole) (hex_name_of found.0) (names found.0)

-- a line of three fields
abbrev begin_text : List ℕ → List ℕ → List ℕ → List ℕ
begin_text hs gs ds = codes "begin " ++ (hs ++ 32 ∷ (gs ++ 32 ∷ ds))

begin_last : (text hs gs ds : List ℕ) (height : ℕ) (digest : Option (List ℕ)) → IsShort height → decimal height ≡ hs → IfSome digest IsName → digest_text digest ≡ gs → begin_text hs gs ds ≡ text
    → (o : Option ℕ) → IfSpelled ds o → IfLine text (o >>= (λ size. Some (line.Begin height digest size)))
begin_last text hs gs ds height digest a b c d whole None h = tt
begin_last text hs gs ds height digest a b c d whole (Some size) h = (
  (a, c, h.0),
  ap (λ (l : List ℕ). begin_text l (digest_text digest) (decimal size)) b ∙ ap (λ (l : List ℕ). begin_text hs l (decimal size)) d ∙ ap (λ (l : List ℕ). begin_text hs gs l) h.1 ∙ whole,
)

begin_digest : (text hs gs ds : List ℕ) (height : ℕ) → IsShort height → decimal height ≡ hs → begin_text hs gs ds ≡ text
    → (o : Option (Option (List ℕ))) → IfDigest gs o → IfLine text (o >>= (λ digest. decimal_of ds >>= (λ size. Some (line.Begin height digest size))))
begin_digest text hs gs ds height a b whole None h = tt
begin_digest text hs gs ds height a b whole (Some digest) h = begin_last text hs gs ds height digest a b h.0 h.1 whole (decimal_of ds) (decimals ds)

begin_second : (text hs t : List ℕ) (height : ℕ) → IsShort height → decimal height ≡ hs → codes "begin " ++ (hs ++ 32 ∷ t) ≡ text
    → (o : Option (List ℕ × List ℕ)) → Splits 32 t o → IfLine text (o >>= (λ last. digest_of last.0 >>= (λ digest. decimal_of last.1 >>= (λ size. Some (line.Begin height digest size)))))
begin_second text hs t height a b whole None h = tt
begin_second text hs t height a b whole (Some last) h =
    begin_digest text hs last.0 last.1 height a b (ap (λ (l : List ℕ). codes "begin " ++ (hs ++ 32 ∷ l)) (sym h) ∙ whole) (digest_of last.0) (digests last.0)

begin_height : (text hs t : List ℕ) → codes "begin " ++ (hs ++ 32 ∷ t) ≡ text
    → (o : Option ℕ) → IfSpelled hs o → IfLine text (o >>= (λ height. first_part 32 line_limit t >>= (λ last. digest_of last.0 >>= (λ digest. decimal_of last.1 >>= (λ size. Some (line.Begin height digest size))))))
begin_height text hs t whole None h = tt
begin_height text hs t whole (Some height) h = begin_second text hs t height h.0 h.1 whole (first_part 32 line_limit t) (splits 32 line_limit t)

begin_line : (text t : List ℕ) → codes "begin " ++ t ≡ text
    → (o : Option (List ℕ × List ℕ)) → Splits 32 t o → IfLine text (o >>= (λ found. decimal_of found.0 >>= (λ height. first_part 32 line_limit found.1 >>= (λ last. digest_of last.0 >>= (λ digest. decimal_of last.1 >>= (λ size. Some (line.Begin height digest size)))))))
begin_line text t whole None h = tt
begin_line text t whole (Some found) h = begin_height text found.0 found.1 (ap (λ (l : List ℕ). codes "begin " ++ l) (sym h) ∙ whole) (decimal_of found.0) (decimals found.0)

pub lines : (text : List ℕ) → IfLine text (request_line_of text)
lines text =
    either (IfLine text) (bytes_eq text (codes "programs")) (Some line.Programs) _ (λ e. (tt, same_bytes text (codes "programs") e)) (λ n1.
    either (IfLine text) (bytes_eq text (codes "last")) (Some line.Last) _ (λ e. (tt, same_bytes text (codes "last") e)) (λ n2.
    either (IfLine text) (bytes_eq text (codes "dump")) (Some line.Dump) _ (λ e. (tt, same_bytes text (codes "dump") e)) (λ n3.
    either (IfLine text) (bytes_eq text (codes "state")) (Some line.State) _ (λ e. (tt, same_bytes text (codes "state") e)) (λ n4.
    either (IfLine text) (bytes_eq text (codes "q")) (Some line.Quit) _ (λ e. (tt, same_bytes text (codes "q") e)) (λ n5.
    either (IfLine text) (starts_with ◌==◌ text (codes "program ")) (option_map line.Program (decimal_of (drop 8 text))) _ (λ e. number_line text (codes "program ") (drop 8 text) line.Program (λ x h. h) (λ x. refl) (starts_at (codes "program ") text e) (decimal_of (drop 8 text)) (decimals (drop 8 text))) (λ m8p.
    either (IfLine text) (starts_with ◌==◌ text (codes "frame ")) (option_map line.Frame (decimal_of (drop 6 text))) _ (λ e. number_line text (codes "frame ") (drop 6 text) line.Frame (λ x h. h) (λ x. refl) (starts_at (codes "frame ") text e) (decimal_of (drop 6 text)) (decimals (drop 6 text))) (λ m6f.
    either (IfLine text) (starts_with ◌==◌ text (codes "try ")) (option_map line.Try (decimal_of (drop 4 text))) _ (λ e. number_line text (codes "try ") (drop 4 text) line.Try (λ x h. h) (λ x. refl) (starts_at (codes "try ") text e) (decimal_of (drop 4 text)) (decimals (drop 4 text))) (λ m4t.
    either (IfLine text) (starts_with ◌==◌ text (codes "forget ")) (option_map line.Forget (hex_name_of (drop 7 text))) _ (λ e. name_line text (codes "forget ") (drop 7 text) line.Forget (λ x h. h) (λ x. refl) (starts_at (codes "forget ") text e) (hex_name_of (drop 7 text)) (names (drop 7 text))) (λ m7f.
    either (IfLine text) (starts_with ◌==◌ text (codes "get ")) (option_map line.Get (hex_name_of (drop 4 text))) _ (λ e. name_line text (codes "get ") (drop 4 text) line.Get (λ x h. h) (λ x. refl) (starts_at (codes "get ") text e) (hex_name_of (drop 4 text)) (names (drop 4 text))) (λ m4g.
    either (IfLine text) (starts_with ◌==◌ text (codes "list ")) (list_of (drop 5 text)) _ (λ e. list_line text (drop 5 text) (starts_at (codes "list ") text e) (first_part 32 line_limit (drop 5 text)) (splits 32 line_limit (drop 5 text))) (λ m5.
    either (IfLine text) (starts_with ◌==◌ text (codes "begin ")) (begin_of (drop 6 text)) None (λ e. begin_line text (drop 6 text) (starts_at (codes "begin ") text e) (first_part 32 line_limit (drop 6 text)) (splits 32 line_limit (drop 6 text))) (λ e. tt))))))))))))

-- ---- requests

line_again : (said : RequestLine) (body : List ℕ) → length body ≡ body_length said → line_for (with_body said body) ≡ said
line_again (line.Program n) body e = ap line.Program e
line_again (line.Frame n) body e = ap line.Frame e
line_again (line.Try n) body e = ap line.Try e
line_again (line.Begin h d n) body e = ap (line.Begin h d) e
line_again said body e = refl

no_bytes : (body : List ℕ) → length body ≡ 0 → [] ≡ body
no_bytes [] h = refl
no_bytes (b ∷ bs) h = absurd (omega (arith, h))

body_again : (said : RequestLine) (body : List ℕ) → length body ≡ body_length said → body_for (with_body said body) ≡ body
body_again (line.Program n) body e = refl
body_again (line.Frame n) body e = refl
body_again (line.Try n) body e = refl
body_again (line.Begin h d n) body e = refl
body_again said body e = no_bytes body e

-- a request that is next is spelled by the first bytes
abbrev pub IsSpelled : List ℕ → NextRequest → Type 0
IsSpelled bytes (Is ask rest) = FitsRequest ask × (bytes ≡ request_bytes ask ++ rest)
IsSpelled bytes (Ends fault) = ⊤

whole_request : (said : RequestLine) (bytes rest : List ℕ) → FitsLine said → bytes ≡ request_line_text said ++ 10 ∷ rest → nat_lt (length rest) (body_length said) ≡ false
    → IsSpelled bytes (Is (with_body said (take (body_length said) rest)) (drop (body_length said) rest))
whole_request said bytes rest fits e enough =
    let n : ℕ = body_length said in
    let body : List ℕ = take n rest in
    let long : length body ≡ n = length-take-le n rest (within (length rest) n enough) in
    let same = line_again said body long in (
      subst FitsLine (sym same) fits,
      e ∙ ap (λ (l : List ℕ). request_line_text said ++ 10 ∷ l) (sym (take-append-drop n rest))
          ∙ sym (append_assoc (request_line_text said) (10 ∷ body) (drop n rest))
          ∙ ap (λ (s : RequestLine). (request_line_text s ++ 10 ∷ body) ++ drop n rest) (sym same)
          ∙ ap (λ (l : List ℕ). (request_line_text (line_for (with_body said body)) ++ 10 ∷ l) ++ drop n rest) (sym (body_again said body long)),
    )
  where
    within : (m n : ℕ) → nat_lt m n ≡ false → n ≤ m
    within m n h = grind (arith, nat_tests)

next_either : (bytes : List ℕ) (b : Bool) (x y : NextRequest) → (b ≡ true → IsSpelled bytes x) → (b ≡ false → IsSpelled bytes y) → IsSpelled bytes (cond b x y)
next_either bytes true x y f g = f refl
next_either bytes false x y f g = g refl

behind_spelled : (bytes text rest : List ℕ) (o : Option RequestLine) → bytes ≡ text ++ 10 ∷ rest → IfLine text o → IsSpelled bytes (behind_line o rest)
behind_spelled bytes text rest None e h = tt
behind_spelled bytes text rest (Some said) e (fits, is) =
    next_either bytes (nat_lt (length rest) (body_length said)) (Ends (Some Cut)) (Is (with_body said (take (body_length said) rest)) (drop (body_length said) rest)) (λ cut. tt)
    (λ enough. whole_request said bytes rest fits (e ∙ ap (λ (l : List ℕ). l ++ 10 ∷ rest) (sym is)) enough)

by_spelled : (bytes : List ℕ) (o : Option (List ℕ × List ℕ)) → Splits 10 bytes o → IsSpelled bytes (by_line o)
by_spelled bytes None h = tt
by_spelled bytes (Some found) h = behind_spelled bytes found.0 found.1 (request_line_of found.0) h (lines found.0)

pub request_spelled : (bytes : List ℕ) → IsSpelled bytes (request_in_bytes bytes)
unfolding request_in_bytes
request_spelled [] = tt
request_spelled (b ∷ bs) = by_spelled (b ∷ bs) (first_part 10 line_limit (b ∷ bs)) (splits 10 line_limit (b ∷ bs))

pub read_is_written : (bytes rest : List ℕ) (ask : Ask) → request_in_bytes bytes ≡ Is ask rest → FitsRequest ask × (bytes ≡ request_bytes ask ++ rest)
read_is_written bytes rest ask h = subst (IsSpelled bytes) h (request_spelled bytes)
