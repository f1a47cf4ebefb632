-- What is read is what comes first.
use Rattle.std.proofs.Common.{◌≡◌, ◌<◌, ℕ, false, List, [], ◌∷◌, ◌++◌, length, Option, Some, None, Result, Ok, Err, refl, ap, ◌∙◌, arith}
use Rattle.std.specs.Prelude.{IfOk}
use Rattle.session_requests.specs.declared.reading.Body.TheVariants as body
use Rattle.session_requests.specs.declared.request.Asked.{Asked}
use Rattle.session_requests.specs.declared.request.Asked.TheVariants as asked
use Rattle.session_requests.specs.declared.request.RequestFault.TheVariants.{BadLine}
use Rattle.session_requests.specs.declared.request.RequestLine.{RequestLine}
use Rattle.session_requests.specs.Requests.{Is, Ends, behind_line, body_length, by_line, first_part, request_line_of, request_in_bytes, with_body}
use Rattle.session_requests.specs.Reading.{GivesBody, ReadsRequest, TellsBehind, WhereKnown, is_too_long}
use Rattle.session_requests.proofs.RoundTrip.{body_read, by_found}
use Rattle.session_requests.proofs.Taken.{IsBroken, known_map, known_then}

-- ---- after a line

behind_whole : (said : RequestLine) (xs bs ys : List ℕ) → xs ≡ bs ++ ys → length bs ≡ body_length said → behind_line (Some said) xs ≡ Is (with_body said bs) ys
behind_whole said xs bs ys e h = ap (behind_line (Some said)) e ∙ body_read said bs ys h

pub tells_unkept : (frame_limit : ℕ) (said : RequestLine) (a b : Option (List ℕ)) → is_too_long frame_limit said ≡ false → 0 < body_length said → WhereKnown a b (GivesBody (body_length said) body.Unkept) → WhereKnown a b (TellsBehind frame_limit (asked.Unkept said) said)
tells_unkept frame_limit said a b fits some gives = known_map _ (TellsBehind frame_limit (asked.Unkept said) said) a b gives (λ xs ys (bs, whole, long). (refl, (bs, behind_whole said xs bs ys whole long, long), fits, some))

-- ---- with the line

at_line : (text : List ℕ) (xs ys : List ℕ) (o : Option RequestLine) → first_part 10 128 xs ≡ Some (text, ys) → request_line_of text ≡ o → request_in_bytes xs ≡ behind_line o ys
at_line text xs ys o h e = by_found xs (text, ys) h ∙ ap (λ o. behind_line o ys) e

with_line : (frame_limit : ℕ) (said : RequestLine) (text : List ℕ) → request_line_of text ≡ Some said → (answer : Asked) (xs ys zs : List ℕ) → first_part 10 128 xs ≡ Some (text, ys) → TellsBehind frame_limit answer said ys zs → ReadsRequest frame_limit answer xs zs
with_line frame_limit said text e (asked.Whole request) xs ys zs h (is, fits) = (at_line text xs ys (Some said) h e ∙ is, fits)
with_line frame_limit said text e (asked.TooLong other) xs ys zs h (same, (bytes, is, size), long) = rw same ((bytes, at_line text xs ys (Some said) h e ∙ is, size), long)
with_line frame_limit said text e (asked.Unkept other) xs ys zs h (same, (bytes, is, size), fits, some) = rw same ((bytes, at_line text xs ys (Some said) h e ∙ is, size), fits, some)
with_line frame_limit said text e (asked.Broken fault) xs ys zs h is = at_line text xs ys (Some said) h e ∙ is
with_line frame_limit said text e asked.End xs ys zs h is = absurd is

pub tells_behind : {E : Type 0} (frame_limit : ℕ) (said : RequestLine) (text : List ℕ) (r : Result Asked E) (a b c : Option (List ℕ)) → request_line_of text ≡ Some said → WhereKnown a b (λ xs ys. first_part 10 128 xs ≡ Some (text, ys))
    → IfOk r (λ answer. WhereKnown b c (TellsBehind frame_limit answer said)) → IfOk r (λ answer. WhereKnown a c (ReadsRequest frame_limit answer))
tells_behind frame_limit said text (Ok answer) a b c e read behind = known_then _ (TellsBehind frame_limit answer said) (ReadsRequest frame_limit answer) a b c read behind (λ xs ys zs h t. with_line frame_limit said text e answer xs ys zs h t)
tells_behind frame_limit said text (Err error) a b c e read behind = tt

pub tells_bad : (frame_limit : ℕ) (text : List ℕ) (a b : Option (List ℕ)) → request_line_of text ≡ None → WhereKnown a b (λ xs ys. first_part 10 128 xs ≡ Some (text, ys)) → WhereKnown a b (ReadsRequest frame_limit (asked.Broken BadLine))
tells_bad frame_limit text a b e read = known_map _ (ReadsRequest frame_limit (asked.Broken BadLine)) a b read (λ xs ys h. at_line text xs ys None h e)

none_left : request_in_bytes [] ≡ Ends None
unfolding request_in_bytes
none_left = refl

pub tells_end : (frame_limit : ℕ) (a b : Option (List ℕ)) → WhereKnown a b (λ xs ys. xs ≡ []) → WhereKnown a b (ReadsRequest frame_limit asked.End)
tells_end frame_limit a b read = known_map _ (ReadsRequest frame_limit asked.End) a b read (λ xs ys h. ap request_in_bytes h ∙ none_left)

broken : (xs : List ℕ) → first_part 10 128 xs ≡ None → 0 < length xs → request_in_bytes xs ≡ Ends (Some BadLine)
unfolding request_in_bytes
broken [] h some = absurd (omega (arith, some))
broken (b ∷ bs) h some = ap by_line h

pub tells_broken : (frame_limit : ℕ) (a b : Option (List ℕ)) → WhereKnown a b IsBroken → WhereKnown a b (ReadsRequest frame_limit (asked.Broken BadLine))
tells_broken frame_limit a b read = known_map IsBroken (ReadsRequest frame_limit (asked.Broken BadLine)) a b read (λ xs ys (h, some). broken xs h some)
