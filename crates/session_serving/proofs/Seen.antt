-- A session that is seen through a map: what holds of the session holds of what the map gives.
use Rattle.std.proofs.Common.{ℕ, List, [], ◌∷◌, Option, Some, inl, inr, ap}
use Rattle.session_requests.specs.Requests.{Ask, requests_of}
use Rattle.session_requests.specs.declared.request.RequestFault.{RequestFault}
use Rattle.session_serving.specs.Serving.{Answering, AreAnswered, IsAnswerCutAt, IsEndedBy, IsPart, IsServed, IsSessionStopped, Leaving, Shutting, end_fault_of}
use Rattle.session_serving.specs.declared.serving.ServeFault.{ServeFault}
use Rattle.session_serving.specs.declared.serving.ServeFault.TheVariants.{Broken, Output, Shut, Unreadable}

module _ {S T : Type 0} (f : S → T) (answers : Answering T) where
  abbrev Seen : Answering S
  Seen s ask text t = answers (f s) ask text (f t)

  answered : (s : S) (asks : List Ask) (text : List ℕ) (after : S) → AreAnswered Seen s asks text after → AreAnswered answers (f s) asks text (f after)
  unfolding AreAnswered
  answered s [] text after (none, same) = (none, ap f same)
  answered s (ask ∷ asks) text after (answer, next, rest, parts, is, others) = (answer, f next, rest, parts, is, answered next asks rest after others)

  -- the requests of an input were answered
  pub served : (fault : Option RequestFault) (old : S) (bytes : List ℕ) (new : S) (before after : Option (List ℕ)) → IsServed Seen fault old bytes new before after → IsServed answers fault (f old) bytes (f new) before after
  served fault old bytes new before after (text, done, is, wrote) = (text, answered old _ text new done, is, wrote)

  cut_at : (fault : Option RequestFault) (s : S) (asks : List Ask) (part : List ℕ) (after : S) → IsAnswerCutAt Seen fault s asks part after → IsAnswerCutAt answers fault (f s) asks part (f after)
  cut_at fault s [] part after (left, whole, same) = (left, whole, ap f same)
  cut_at fault s (ask ∷ asks) part after (left, is) = (left, is)

  -- a fault ended the session
  pub ended : {F : Type 0} (may_fail : Type 0) (shuts : Shutting T F) (fault : ServeFault F) (old : S) (bytes : List ℕ) (new : S) (before after : Option (List ℕ))
      → IsEndedBy may_fail Seen (λ s ask e t. shuts (f s) ask e (f t)) fault old bytes new before after → IsEndedBy may_fail answers shuts fault (f old) bytes (f new) before after
  ended may_fail shuts (Broken fault) old bytes new before after is = served (Some fault) old bytes new before after is
  ended may_fail shuts Unreadable old bytes new before after (heard, rest, text, asks, done, wrote, why) = (heard, rest, text, asks, answered old heard text new done, wrote, why)
  ended may_fail shuts (Output fault) old bytes new before after (heard, rest, text, mid, part, asks, done, cut, wrote) =
      (heard, rest, text, f mid, part, asks, answered old heard text mid done, cut_at (end_fault_of (requests_of bytes)) mid rest part new cut, wrote)
  ended may_fail shuts (Shut fault) old bytes new before after (heard, ask, rest, text, mid, asks, done, wrote, is) = (heard, ask, rest, text, f mid, asks, answered old heard text mid done, wrote, is)

  part : (fault : Option RequestFault) (s : S) (asks : List Ask) (text : List ℕ) → IsPart Seen fault s asks text → IsPart answers fault (f s) asks text
  part fault s [] text is = is
  part fault s (ask ∷ asks) text is = elim is [ inl none ↦ inl none | inr next ↦ inr (next.0, f next.1, next.2, next.3) ]

  -- it stopped
  pub stopped : (leaves : Leaving S) (leaves_seen : Leaving T) (t : T) (old : S) (bytes : List ℕ) (new : S) (before after : Option (List ℕ)) → ((mid : S) (rest : List Ask) → leaves mid rest new → leaves_seen (f mid) rest t)
      → IsSessionStopped Seen leaves old bytes new before after → IsSessionStopped answers leaves_seen (f old) bytes t before after
  stopped leaves leaves_seen t old bytes new before after crash (heard, rest, text, mid, said, asks, done, wrote, is, left) =
      (heard, rest, text, f mid, said, asks, answered old heard text mid done, wrote, part (end_fault_of (requests_of bytes)) mid rest said is, crash mid rest left)
