-- One request after another.
use Rattle.std.proofs.Common.{◌≡◌, ◌<◌, ◌≤◌, ◌==◌, ℕ, zero, suc, true, false, cond, List, [], ◌∷◌, length, drop, Option, Some, None, refl, sym, ap, ◌∙◌, arith, length-drop}
use Rattle.std.specs.Prelude.{⊤, nat_lt, take}
use Rattle.std.specs.Option.{option_map}
use Rattle.session_requests.specs.declared.request.RequestLine.{RequestLine}
use Rattle.session_requests.specs.declared.request.RequestFault.TheVariants.{Cut}
use Rattle.session_requests.specs.Requests.{NextRequest, Is, Ends, AllRequests, onto, and_then, next_and_rest, behind_line, body_length, by_line, first_part, all_requests, line_limit, request_line_of, with_body, request_in_bytes, requests_within, requests_of}

-- less is left
abbrev Shorter : ℕ → NextRequest → Type 0
Shorter n (Is ask rest) = length rest < n
Shorter n (Ends fault) = ⊤

abbrev LeavesLess : ℕ → Option (List ℕ × List ℕ) → Type 0
LeavesLess n None = ⊤
LeavesLess n (Some found) = length found.1 < n

front_longer : (b n : ℕ) (o : Option (List ℕ × List ℕ)) → LeavesLess n o → LeavesLess (suc n) (option_map (onto b) o)
front_longer b n None h = tt
front_longer b n (Some found) h = omega (arith, h)

line_shorter : (byte room : ℕ) (bytes : List ℕ) → LeavesLess (length bytes) (first_part byte room bytes)
line_shorter byte zero bytes = tt
line_shorter byte (suc room) [] = tt
line_shorter byte (suc room) (b ∷ bs) =
    elim (b == byte) as (λ t. LeavesLess (suc (length bs)) (cond t (Some ([], bs)) (option_map (onto b) (first_part byte room bs)))) [
      | true ↦ omega arith
      | false ↦ front_longer b (length bs) (first_part byte room bs) (line_shorter byte room bs)
    ]

behind_shorter : (o : Option RequestLine) (rest : List ℕ) (n : ℕ) → length rest < n → Shorter n (behind_line o rest)
behind_shorter None rest n h = tt
behind_shorter (Some said) rest n h =
    elim (nat_lt (length rest) (body_length said)) as (λ t. Shorter n (cond t (Ends (Some Cut)) (Is (with_body said (take (body_length said) rest)) (drop (body_length said) rest)))) [
      | true ↦ tt
      | false ↦ omega (arith, length-drop (body_length said) rest, h)
    ]

by_shorter : (o : Option (List ℕ × List ℕ)) (n : ℕ) → LeavesLess n o → Shorter n (by_line o)
by_shorter None n h = tt
by_shorter (Some found) n h = behind_shorter (request_line_of found.0) found.1 n h

request_shorter : (bytes : List ℕ) → Shorter (length bytes) (request_in_bytes bytes)
unfolding request_in_bytes
request_shorter [] = tt
request_shorter (b ∷ bs) = by_shorter (first_part 10 line_limit (b ∷ bs)) (length (b ∷ bs)) (line_shorter 10 line_limit (b ∷ bs))

nothing_left : (times : ℕ) → requests_within times [] ≡ all_requests [] None
unfolding request_in_bytes
nothing_left zero = refl
nothing_left (suc times) = refl

-- more times change nothing
same_times : (m n : ℕ) (bytes : List ℕ) → length bytes ≤ m → length bytes ≤ n → requests_within m bytes ≡ requests_within n bytes
same_times m n [] h k = nothing_left m ∙ sym (nothing_left n)
same_times zero n (b ∷ bs) h k = absurd (omega (arith, h))
same_times (suc m) zero (b ∷ bs) h k = absurd (omega (arith, k))
same_times (suc m) (suc n) (b ∷ bs) h k =
    elim (request_in_bytes (b ∷ bs)) as (λ next. Shorter (length (b ∷ bs)) next → and_then next (requests_within m) ≡ and_then next (requests_within n)) [
      | Is ask rest ↦ λ less. ap (λ (more : AllRequests). all_requests (ask ∷ more.asks) more.fault) (same_times m n rest (omega (arith, less, h)) (omega (arith, less, k)))
      | Ends fault ↦ λ less. refl
    ] (request_shorter (b ∷ bs))

none_asked : all_requests [] None ≡ next_and_rest (request_in_bytes [])
unfolding request_in_bytes
none_asked = refl

pub requests_step : (bytes : List ℕ) → requests_of bytes ≡ next_and_rest (request_in_bytes bytes)
unfolding requests_of
requests_step [] = none_asked
requests_step (b ∷ bs) =
    elim (request_in_bytes (b ∷ bs)) as (λ next. Shorter (length (b ∷ bs)) next → and_then next (requests_within (length bs)) ≡ and_then next (λ rest. requests_within (length rest) rest)) [
      | Is ask rest ↦ λ less. ap (λ (more : AllRequests). all_requests (ask ∷ more.asks) more.fault) (same_times (length bs) (length rest) rest (omega (arith, less)) (omega arith))
      | Ends fault ↦ λ less. refl
    ] (request_shorter (b ∷ bs))
