-- What follows from what was read.
use Rattle.std.proofs.Common.{◌≡◌, ◌<◌, ℕ, true, List, arith}
use Rattle.session_requests.specs.Reading.{is_too_long}
use Rattle.session_requests.specs.Requests.{Ask, Last, Quit, body_length, with_body}
use Rattle.session_requests.specs.declared.request.RequestLine.{RequestLine}
use Rattle.session_requests.specs.declared.request.RequestLine.TheVariants as line
use Rattle.session_serving.specs.Asking.{ComesFirst, AnswersOrShuts, IsCourse}
use Rattle.session_serving.specs.Serving.{Answering, Leaving, Shutting}
use Rattle.session_serving.specs.declared.serving.Course.{Course}
use Rattle.session_serving.specs.declared.serving.Course.TheVariants.{Answers, Breaks, Ends, Shuts}

-- a request that was answered came first
pub course_comes : {S R F : Type 0} (answers : Answering S) (shuts : Shutting S F) (leaves : Leaving S) (text_of : S → R → List ℕ) (s : S) (ask : Ask) (course : Course R F) (after : S) (xs ys : List ℕ)
    → ComesFirst ask xs ys → AnswersOrShuts answers shuts leaves text_of s ask course after → IsCourse answers shuts leaves text_of s course after xs ys
course_comes answers shuts leaves text_of s ask (Answers reply) after xs ys comes is = (ask, comes, is)
course_comes answers shuts leaves text_of s ask (Shuts fault) after xs ys comes is = (ask, comes, is)
course_comes answers shuts leaves text_of s ask Ends after xs ys comes is = absurd is
course_comes answers shuts leaves text_of s ask (Breaks fault) after xs ys comes is = absurd is

-- ---- requests whose bytes were passed over are no `last`

pub no_last_long : (limit : ℕ) (said : RequestLine) (bytes : List ℕ) → is_too_long limit said ≡ true → with_body said bytes ≡ Last → ⊥
no_last_long limit line.Last bytes long e = cc
no_last_long limit said bytes long e = cc

no_bytes : 0 < 0 → ⊥
no_bytes h = omega (arith, h)

pub no_last_kept : (said : RequestLine) (bytes : List ℕ) → 0 < body_length said → with_body said bytes ≡ Last → ⊥
no_last_kept line.Last bytes some e = no_bytes some
no_last_kept said bytes some e = cc

pub last_no_quit : (ask : Ask) → ask ≡ Last → ask ≡ Quit → ⊥
last_no_quit ask is e = cc
