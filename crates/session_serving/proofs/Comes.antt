-- What comes first in an input.
use Rattle.std.proofs.Common.{◌≡◌, ◌<◌, ℕ, Bool, true, cond, List, [], ◌∷◌, Option, None, refl, ap, ◌∙◌, arith}
use Rattle.session_requests.specs.Requests.{AllRequests, Ask, Ends, Is, NextRequest, Quit, all_requests, body_length, next_and_rest, request_in_bytes, requests_of, with_body}
use Rattle.session_requests.specs.Reading.{ask_of, is_too_long}
use Rattle.session_requests.specs.declared.request.Request.{Request}
use Rattle.session_requests.specs.declared.request.Request.TheVariants as one
use Rattle.session_requests.specs.declared.request.RequestFault.{RequestFault}
use Rattle.session_requests.specs.declared.request.RequestLine.{RequestLine}
use Rattle.session_requests.specs.declared.request.RequestLine.TheVariants as line
use Rattle.session_requests.proofs.Steps.{requests_step}
use Rattle.session_serving.specs.Asking.{ComesFirst, NoneComes}
use Rattle.session_serving.specs.Serving.{end_fault_of, quits, until_quit}

all_of : (xs : List ℕ) (next : NextRequest) → request_in_bytes xs ≡ next → requests_of xs ≡ next_and_rest next
all_of xs next e = requests_step xs ∙ ap next_and_rest e

until_more : (ask : Ask) (asks : List Ask) → (ask ≡ Quit → ⊥) → until_quit (ask ∷ asks) ≡ ask ∷ until_quit asks
until_more Quit asks other = absurd (other refl)
until_more ask asks other = refl

quits_more : (ask : Ask) (asks : List Ask) → (ask ≡ Quit → ⊥) → quits (ask ∷ asks) ≡ quits asks
quits_more Quit asks other = absurd (other refl)
quits_more ask asks other = refl

pub comes_first : (ask : Ask) (xs ys : List ℕ) → (ask ≡ Quit → ⊥) → request_in_bytes xs ≡ Is ask ys → ComesFirst ask xs ys
comes_first ask xs ys other e =
    let is : requests_of xs ≡ all_requests (ask ∷ (requests_of ys).asks) (requests_of ys).fault = all_of xs (Is ask ys) e in (
      ap (λ (all : AllRequests). until_quit all.asks) is ∙ until_more ask (requests_of ys).asks other,
      ap end_fault_of is ∙ ap (λ (b : Bool). cond b None (requests_of ys).fault) (quits_more ask (requests_of ys).asks other),
    )

-- a `q`
pub quit_comes : (xs ys : List ℕ) → request_in_bytes xs ≡ Is Quit ys → NoneComes None xs
quit_comes xs ys e =
    let is : requests_of xs ≡ all_requests (Quit ∷ (requests_of ys).asks) (requests_of ys).fault = all_of xs (Is Quit ys) e in
    (ap (λ (all : AllRequests). until_quit all.asks) is, ap end_fault_of is)

-- no request
pub none_comes : (xs : List ℕ) (fault : Option RequestFault) → request_in_bytes xs ≡ Ends fault → NoneComes fault xs
none_comes xs fault e =
    let is : requests_of xs ≡ all_requests [] fault = all_of xs (Ends fault) e in (ap (λ (all : AllRequests). until_quit all.asks) is, ap end_fault_of is)

-- ---- what is no `q`

pub no_quit : (request : Request) → (request ≡ one.Quit → ⊥) → ask_of request ≡ Quit → ⊥
no_quit one.Quit other e = other refl
no_quit request other e = cc

pub no_quit_long : (limit : ℕ) (said : RequestLine) (bytes : List ℕ) → is_too_long limit said ≡ true → with_body said bytes ≡ Quit → ⊥
no_quit_long limit line.Quit bytes long e = cc
no_quit_long limit said bytes long e = cc

pub no_quit_kept : (said : RequestLine) (bytes : List ℕ) → 0 < body_length said → with_body said bytes ≡ Quit → ⊥
no_quit_kept line.Quit bytes some e = omega (arith, some)
no_quit_kept said bytes some e = cc
