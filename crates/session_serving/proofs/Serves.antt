-- How requests are answered one after another.
use Rattle.std.proofs.Common.{◌≡◌, ℕ, ◌+◌, List, [], ◌∷◌, ◌++◌, length, Option, Some, None, IfSome, inl, inr, refl, sym, ap, subst, ◌∙◌, append_assoc, append-nil, length-append, arith}
use Rattle.std.specs.Io.KnownBytes.{Appends}
use Rattle.std.proofs.KnownBytes.{Appends-nil, Appends-trans}
use Rattle.session_requests.specs.Reading.{ReadsRequest, WhereKnown}
use Rattle.session_requests.specs.Requests.{Ask, requests_of}
use Rattle.session_requests.specs.declared.request.Asked.{Asked}
use Rattle.session_requests.specs.declared.request.RequestFault.{RequestFault}
use Rattle.session_requests.proofs.Taken.{known_then}
use Rattle.session_serving.specs.Asking.{ComesFirst, IsFaultAnswered, NothingComes}
use Rattle.session_serving.specs.Serving.{Answering, AreAnswered, IsCutOff, IsEndedBy, IsServed, IsShut, IsUnread, Shutting, end_text, end_fault_of, until_quit}
use Rattle.session_serving.specs.declared.serving.ServeFault.{ServeFault}
use Rattle.session_serving.specs.declared.serving.ServeFault.TheVariants.{Broken, Output, Shut, Unreadable}

-- a request comes first in xs, and a session answers it
abbrev pub IsNextAnswered : {S : Type 0} → Answering S → S → List ℕ → S → List ℕ → List ℕ → Type 0
IsNextAnswered answers s text after xs ys = (ask : Ask) × ComesFirst ask xs ys × answers s ask text after

-- this number of requests was answered, and nothing after them was read
pub record IsServing {S : Type 0} (answers : Answering S) (old now : S) (before mid : Option (List ℕ)) (count : ℕ) (xs ys : List ℕ) : Type 0 where
  pub heard : List Ask
  pub text : List ℕ
  pub asked : until_quit (requests_of xs).asks ≡ heard ++ until_quit (requests_of ys).asks
  pub fault : end_fault_of (requests_of xs) ≡ end_fault_of (requests_of ys)
  pub done : AreAnswered answers old heard text now
  pub wrote : Appends before mid text
  pub many : length heard ≡ count

pub known_some : (P : List ℕ → Type 0) (a c : Option (List ℕ)) → WhereKnown a c (λ xs ys. P xs) → IfSome a P
known_some P None c h = tt
known_some P (Some xs) None h = absurd h
known_some P (Some xs) (Some ys) h = h

module _ {S : Type 0} (answers : Answering S) where
  no_answer : (s : S) → AreAnswered answers s [] [] s
  unfolding AreAnswered
  no_answer s = (refl, refl)

  one_more_answer : (s now next : S) (asks : List Ask) (ask : Ask) (text answer : List ℕ) → AreAnswered answers s asks text now → answers now ask answer next → AreAnswered answers s (asks ++ ask ∷ []) (text ++ answer) next
  unfolding AreAnswered
  one_more_answer s now next [] ask text answer h is = (answer, next, [], ap (λ (t : List ℕ). t ++ answer) h.0 ∙ sym (append-nil answer), subst (λ z. answers z ask answer next) h.1 is, (refl, refl))
  one_more_answer s now next (one ∷ asks) ask text answer (done, mid, rest, parts, is_one, others) is = (
    done,
    mid,
    rest ++ answer,
    ap (λ (t : List ℕ). t ++ answer) parts ∙ append_assoc done rest answer,
    is_one,
    one_more_answer mid now next asks ask rest answer others is,
  )

  -- ---- with the bytes of the input known

  serving_more : (old now next : S) (answer : List ℕ) (before mid last : Option (List ℕ)) (count : ℕ) (xs ys zs : List ℕ)
      → IsServing answers old now before mid count xs ys → IsNextAnswered answers now answer next ys zs → Appends mid last answer
      → IsServing answers old next before last (count + 1) xs zs
  serving_more old now next answer before mid last count xs ys zs s (ask, comes, is) writes = record {
    heard = s.heard ++ ask ∷ [];
    text = s.text ++ answer;
    asked = s.asked ∙ ap (λ (l : List Ask). s.heard ++ l) comes.0 ∙ sym (append_assoc s.heard (ask ∷ []) (until_quit (requests_of zs).asks));
    fault = s.fault ∙ comes.1;
    done = one_more_answer old now next s.heard ask s.text answer s.done is;
    wrote = Appends-trans before mid last s.text answer s.wrote writes;
    many = omega (arith, length-append s.heard (ask ∷ []), s.many);
  }

  served : (fault : Option RequestFault) (old now next : S) (before mid last : Option (List ℕ)) (count : ℕ) (xs ys : List ℕ)
      → IsServing answers old now before mid count xs ys → NothingComes fault now next ys → Appends mid last (end_text fault) → IsServed answers fault old xs next before last
  served fault old now next before mid last count xs ys s (none, same) writes = (
    s.text,
    subst (λ (l : List Ask). AreAnswered answers old l s.text next) (sym (s.asked ∙ ap (λ (l : List Ask). s.heard ++ l) none.0 ∙ append-nil s.heard))
        (subst (λ (z : S). AreAnswered answers old s.heard s.text z) (sym same) s.done),
    s.fault ∙ none.1,
    Appends-trans before mid last s.text (end_text fault) s.wrote writes,
  )

  -- a write failed in an answer
  cut_off : (old now next : S) (answer : List ℕ) (before mid last : Option (List ℕ)) (count : ℕ) (xs ys zs : List ℕ)
      → IsServing answers old now before mid count xs ys → IsNextAnswered answers now answer next ys zs
      → (part : List ℕ) × (left : List ℕ) × (part ++ left ≡ answer) × Appends mid last part → IsCutOff answers old xs next before last
  cut_off old now next answer before mid last count xs ys zs s (ask, comes, is) (part, left, whole, writes) = (
    s.heard,
    ask ∷ until_quit (requests_of zs).asks,
    s.text,
    now,
    part,
    s.asked ∙ ap (λ (l : List Ask). s.heard ++ l) comes.0,
    s.done,
    (left, subst (λ (t : List ℕ). answers now ask t next) (sym whole) is),
    Appends-trans before mid last s.text part s.wrote writes,
  )

  -- a write failed in what is written last
  cut_last : (fault : RequestFault) (old now next : S) (before mid last : Option (List ℕ)) (count : ℕ) (xs ys : List ℕ)
      → IsServing answers old now before mid count xs ys → NothingComes (Some fault) now next ys
      → (part : List ℕ) × (left : List ℕ) × (part ++ left ≡ end_text (Some fault)) × Appends mid last part → IsCutOff answers old xs next before last
  cut_last fault old now next before mid last count xs ys s (none, same) (part, left, whole, writes) = (
    s.heard,
    [],
    s.text,
    now,
    part,
    s.asked ∙ ap (λ (l : List Ask). s.heard ++ l) none.0,
    s.done,
    (left, whole ∙ ap end_text (sym (s.fault ∙ none.1)), same),
    Appends-trans before mid last s.text part s.wrote writes,
  )

  ended : {F : Type 0} (may_fail : Type 0) (shuts : Shutting S F) (fault : RequestFault) (told : ServeFault F) (old now next : S) (before mid last : Option (List ℕ)) (count : ℕ) (xs ys : List ℕ)
      → IsServing answers old now before mid count xs ys → NothingComes (Some fault) now next ys → IsFaultAnswered fault told mid last → IsEndedBy may_fail answers shuts told old xs next before last
  ended may_fail shuts fault (Broken other) old now next before mid last count xs ys s none (is, writes) =
      subst (λ (f : RequestFault). IsServed answers (Some f) old xs next before last) (sym is) (served (Some fault) old now next before mid last count xs ys s none writes)
  ended may_fail shuts fault (Output cause) old now next before mid last count xs ys s none cut = cut_last fault old now next before mid last count xs ys s none cut
  ended may_fail shuts fault Unreadable old now next before mid last count xs ys s none told = absurd told
  ended may_fail shuts fault (Shut other) old now next before mid last count xs ys s none told = absurd told

  -- ---- if they are known

  pub serve_start : (s : S) (out a : Option (List ℕ)) → WhereKnown a a (IsServing answers s s out out 0)
  serve_start s out None = tt
  serve_start s out (Some xs) = record { heard = []; text = []; asked = refl; fault = refl; done = no_answer s; wrote = Appends-nil out; many = refl }

  pub serve_next : (limit : ℕ) (asked : Asked) (old now next : S) (answer : List ℕ) (before mid last : Option (List ℕ)) (count : ℕ) (a b c : Option (List ℕ))
      → WhereKnown a b (IsServing answers old now before mid count) → WhereKnown b c (ReadsRequest limit asked)
      → ((xs ys : List ℕ) → ReadsRequest limit asked xs ys → IsNextAnswered answers now answer next xs ys) → Appends mid last answer
      → WhereKnown a c (IsServing answers old next before last (count + 1))
  serve_next limit asked old now next answer before mid last count a b c so read took writes =
      known_then _ (ReadsRequest limit asked) (IsServing answers old next before last (count + 1)) a b c so read
      (λ xs ys zs s t. serving_more old now next answer before mid last count xs ys zs s (took ys zs t) writes)

  -- the end
  pub serve_end : (limit : ℕ) (asked : Asked) (old now next : S) (before mid : Option (List ℕ)) (count : ℕ) (a b c : Option (List ℕ))
      → WhereKnown a b (IsServing answers old now before mid count) → WhereKnown b c (ReadsRequest limit asked)
      → ((xs ys : List ℕ) → ReadsRequest limit asked xs ys → NothingComes None now next xs)
      → IfSome a (λ bytes. IsServed answers None old bytes next before mid)
  serve_end limit asked old now next before mid count a b c so read took = known_some _ a c (known_then _ (ReadsRequest limit asked) (λ xs ys. IsServed answers None old xs next before mid) a b c so read
      (λ xs ys zs s t. served None old now next before mid mid count xs ys s (took ys zs t) (Appends-nil mid)))

  -- the end at bytes that are no request
  pub serve_broken : {F : Type 0} (may_fail : Type 0) (shuts : Shutting S F) (limit : ℕ) (asked : Asked) (fault : RequestFault) (told : ServeFault F) (old now next : S) (before mid last : Option (List ℕ)) (count : ℕ) (a b c : Option (List ℕ))
      → WhereKnown a b (IsServing answers old now before mid count) → WhereKnown b c (ReadsRequest limit asked)
      → ((xs ys : List ℕ) → ReadsRequest limit asked xs ys → NothingComes (Some fault) now next xs) → IsFaultAnswered fault told mid last
      → IfSome a (λ bytes. IsEndedBy may_fail answers shuts told old bytes next before last)
  serve_broken may_fail shuts limit asked fault told old now next before mid last count a b c so read took tells =
      known_some _ a c (known_then _ (ReadsRequest limit asked) (λ xs ys. IsEndedBy may_fail answers shuts told old xs next before last) a b c so read
      (λ xs ys zs s t. ended may_fail shuts fault told old now next before mid last count xs ys s (took ys zs t) tells))

  -- a read failed
  pub serve_unread : (may_fail : Type 0) (old now : S) (before mid : Option (List ℕ)) (count : ℕ) (a b : Option (List ℕ))
      → WhereKnown a b (IsServing answers old now before mid count) → may_fail → IfSome a (λ bytes. IsUnread may_fail answers old bytes now before mid)
  serve_unread may_fail old now before mid count None b so fails = tt
  serve_unread may_fail old now before mid count (Some xs) None so fails = absurd so
  serve_unread may_fail old now before mid count (Some xs) (Some ys) so fails = (so.heard, until_quit (requests_of ys).asks, so.text, so.asked, so.done, so.wrote, inl fails)

  -- one call answered as many requests as it can
  pub serve_all : (may_fail : Type 0) (old now : S) (before mid : Option (List ℕ)) (count : ℕ) (a b : Option (List ℕ))
      → WhereKnown a b (IsServing answers old now before mid count) → count ≡ 18446744073709551615 → IfSome a (λ bytes. IsUnread may_fail answers old bytes now before mid)
  serve_all may_fail old now before mid count None b so all = tt
  serve_all may_fail old now before mid count (Some xs) None so all = absurd so
  serve_all may_fail old now before mid count (Some xs) (Some ys) so all = (so.heard, until_quit (requests_of ys).asks, so.text, so.asked, so.done, so.wrote, inr (so.many ∙ all))

  -- a write failed
  pub serve_cut : (limit : ℕ) (asked : Asked) (old now next : S) (answer : List ℕ) (before mid last : Option (List ℕ)) (count : ℕ) (a b c : Option (List ℕ))
      → WhereKnown a b (IsServing answers old now before mid count) → WhereKnown b c (ReadsRequest limit asked)
      → ((xs ys : List ℕ) → ReadsRequest limit asked xs ys → IsNextAnswered answers now answer next xs ys)
      → (part : List ℕ) × (left : List ℕ) × (part ++ left ≡ answer) × Appends mid last part
      → IfSome a (λ bytes. IsCutOff answers old bytes next before last)
  serve_cut limit asked old now next answer before mid last count a b c so read took cut = known_some _ a c (known_then _ (ReadsRequest limit asked) (λ xs ys. IsCutOff answers old xs next before last) a b c so read
      (λ xs ys zs s t. cut_off old now next answer before mid last count xs ys zs s (took ys zs t) cut))

  -- the end if a request shut the session
  shut_off : {F : Type 0} (shuts : Shutting S F) (fault : F) (old now next : S) (before mid : Option (List ℕ)) (count : ℕ) (xs ys zs : List ℕ)
      → IsServing answers old now before mid count xs ys → (ask : Ask) × ComesFirst ask ys zs × shuts now ask fault next → IsShut answers shuts fault old xs next before mid
  shut_off shuts fault old now next before mid count xs ys zs s (ask, comes, is) = (
    s.heard,
    ask,
    until_quit (requests_of zs).asks,
    s.text,
    now,
    s.asked ∙ ap (λ (l : List Ask). s.heard ++ l) comes.0,
    s.done,
    s.wrote,
    is,
  )

  pub serve_shut : {F : Type 0} (shuts : Shutting S F) (limit : ℕ) (asked : Asked) (fault : F) (old now next : S) (before mid : Option (List ℕ)) (count : ℕ) (a b c : Option (List ℕ))
      → WhereKnown a b (IsServing answers old now before mid count) → WhereKnown b c (ReadsRequest limit asked)
      → ((xs ys : List ℕ) → ReadsRequest limit asked xs ys → (ask : Ask) × ComesFirst ask xs ys × shuts now ask fault next)
      → IfSome a (λ bytes. IsShut answers shuts fault old bytes next before mid)
  serve_shut shuts limit asked fault old now next before mid count a b c so read took = known_some _ a c (known_then _ (ReadsRequest limit asked) (λ xs ys. IsShut answers shuts fault old xs next before mid) a b c so read
      (λ xs ys zs s t. shut_off shuts fault old now next before mid count xs ys zs s (took ys zs t)))
