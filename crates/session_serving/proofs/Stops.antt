-- What a crash leaves if a session stops.
use Rattle.std.proofs.Common.{◌≡◌, ◌+◌, ℕ, List, [], ◌∷◌, ◌++◌, Option, Some, None, IfSome, inl, inr, refl, sym, ap, subst, ◌∙◌, append-nil}
use Rattle.std.specs.Io.KnownBytes.{Appends}
use Rattle.std.proofs.KnownBytes.{Appends-nil, Appends-trans}
use Rattle.session_requests.specs.Reading.{ReadsRequest, WhereKnown}
use Rattle.session_requests.specs.Requests.{Ask, requests_of}
use Rattle.session_requests.specs.declared.request.Asked.{Asked}
use Rattle.session_requests.specs.declared.request.RequestFault.{RequestFault}
use Rattle.session_requests.proofs.Taken.{known_then}
use Rattle.session_serving.specs.Asking.{ComesFirst, IsFaultAnswered, NothingComes}
use Rattle.session_serving.specs.Serving.{Answering, IsPart, IsSessionStopped, Leaving, end_text, end_fault_of, until_quit}
use Rattle.session_serving.specs.declared.serving.ServeFault.{ServeFault}
use Rattle.session_serving.specs.declared.serving.ServeFault.TheVariants.{Broken, Output, Shut, Unreadable}
use Rattle.session_serving.proofs.Serves.{IsServing, known_some, serve_next}

module _ {S : Type 0} (answers : Answering S) (leaves : Leaving S) (old now : S) (before mid : Option (List ℕ)) (count : ℕ) where
  abbrev Serving : List ℕ → List ℕ → Type 0
  Serving = IsServing answers old now before mid count

  no_part : (fault : Option RequestFault) (s : S) (asks : List Ask) → IsPart answers fault s asks []
  no_part fault s [] = (end_text fault, refl)
  no_part fault s (ask ∷ asks) = inl refl

  between : (next : S) → ((rest : List Ask) → leaves now rest next) → (xs ys : List ℕ) → Serving xs ys → IsSessionStopped answers leaves old xs next before mid
  between next crash xs ys s = (
    s.heard,
    until_quit (requests_of ys).asks,
    s.text,
    now,
    [],
    s.asked,
    s.done,
    subst (λ (t : List ℕ). Appends before mid t) (sym (append-nil s.text)) s.wrote,
    no_part (end_fault_of (requests_of xs)) now (until_quit (requests_of ys).asks),
    crash (until_quit (requests_of ys).asks),
  )

  -- between two requests
  pub stopped_between : (a b : Option (List ℕ)) → ((rest : List Ask) → leaves now rest now) → WhereKnown a b Serving → IfSome a (λ bytes. IsSessionStopped answers leaves old bytes now before mid)
  stopped_between None b crash so = tt
  stopped_between (Some xs) None crash so = absurd so
  stopped_between (Some xs) (Some ys) crash so = between now crash xs ys so

  told_part : {F : Type 0} (fault : RequestFault) (told : ServeFault F) (last : Option (List ℕ)) → IsFaultAnswered fault told mid last → (part : List ℕ) × (left : List ℕ) × (part ++ left ≡ end_text (Some fault)) × Appends mid last part
  told_part fault (Broken other) last (is, wrote) = (end_text (Some fault), [], append-nil (end_text (Some fault)), wrote)
  told_part fault (Output cause) last tells = tells
  told_part fault Unreadable last tells = absurd tells
  told_part fault (Shut other) last tells = absurd tells

  at_end : {F : Type 0} (fault : RequestFault) (next : S) (told : ServeFault F) (last : Option (List ℕ)) → ((rest : List Ask) → leaves now rest now)
      → (xs ys : List ℕ) → Serving xs ys → NothingComes (Some fault) now next ys → IsFaultAnswered fault told mid last → IsSessionStopped answers leaves old xs next before last
  at_end fault next told last crash xs ys s (none, same) tells =
      let (part, left, whole, wrote) = told_part fault told last tells in (
        s.heard,
        [],
        s.text,
        now,
        part,
        s.asked ∙ ap (λ (l : List Ask). s.heard ++ l) none.0,
        s.done,
        Appends-trans before mid last s.text part s.wrote wrote,
        (left, whole ∙ ap end_text (sym (s.fault ∙ none.1))),
        subst (λ (z : S). leaves now [] z) (sym same) (crash []),
      )

  -- at the end
  pub stopped_end : (limit : ℕ) (asked : Asked) (next : S) (a b c : Option (List ℕ)) → ((rest : List Ask) → leaves now rest now) → WhereKnown a b Serving → WhereKnown b c (ReadsRequest limit asked)
      → ((xs ys : List ℕ) → ReadsRequest limit asked xs ys → NothingComes None now next xs) → IfSome a (λ bytes. IsSessionStopped answers leaves old bytes next before mid)
  stopped_end limit asked next a b c crash so read took =
      known_some _ a c (known_then _ (ReadsRequest limit asked) (λ xs ys. IsSessionStopped answers leaves old xs next before mid) a b c so read
      (λ xs ys zs s t. between next (λ rest. subst (λ (z : S). leaves now rest z) (sym (took ys zs t).1) (crash rest)) xs ys s))

  -- at bytes that are no request
  pub stopped_broken : {F : Type 0} (limit : ℕ) (asked : Asked) (fault : RequestFault) (next : S) (told : ServeFault F) (last : Option (List ℕ)) (a b c : Option (List ℕ))
      → ((rest : List Ask) → leaves now rest now) → WhereKnown a b Serving → WhereKnown b c (ReadsRequest limit asked)
      → ((xs ys : List ℕ) → ReadsRequest limit asked xs ys → NothingComes (Some fault) now next xs) → IsFaultAnswered fault told mid last → IfSome a (λ bytes. IsSessionStopped answers leaves old bytes next before last)
  stopped_broken limit asked fault next told last a b c crash so read took tells =
      known_some _ a c (known_then _ (ReadsRequest limit asked) (λ xs ys. IsSessionStopped answers leaves old xs next before last) a b c so read
      (λ xs ys zs s t. at_end fault next told last crash xs ys s (took ys zs t) tells))

  -- what a crash in a request leaves
  in_request : (ask : Ask) (next : S) → ((rest : List Ask) → leaves now (ask ∷ rest) next) → (xs ys zs : List ℕ) → Serving xs ys → ComesFirst ask ys zs → (last : Option (List ℕ)) (part : List ℕ) → Appends mid last part
      → IsPart answers (end_fault_of (requests_of xs)) now (ask ∷ until_quit (requests_of zs).asks) part → IsSessionStopped answers leaves old xs next before last
  in_request ask next crash xs ys zs s comes last part wrote is = (
    s.heard,
    ask ∷ until_quit (requests_of zs).asks,
    s.text,
    now,
    part,
    s.asked ∙ ap (λ (l : List Ask). s.heard ++ l) comes.0,
    s.done,
    Appends-trans before mid last s.text part s.wrote wrote,
    is,
    crash (until_quit (requests_of zs).asks),
  )

  -- if a request shut the session
  pub stopped_shut : (limit : ℕ) (asked : Asked) (next : S) (a b c : Option (List ℕ)) → WhereKnown a b Serving → WhereKnown b c (ReadsRequest limit asked)
      → ((xs ys : List ℕ) → ReadsRequest limit asked xs ys → (ask : Ask) × ComesFirst ask xs ys × ((rest : List Ask) → leaves now (ask ∷ rest) next)) → IfSome a (λ bytes. IsSessionStopped answers leaves old bytes next before mid)
  stopped_shut limit asked next a b c so read took =
      known_some _ a c (known_then _ (ReadsRequest limit asked) (λ xs ys. IsSessionStopped answers leaves old xs next before mid) a b c so read
      (λ xs ys zs s t.
      let (ask, comes, crash) = took ys zs t in
      in_request ask next crash xs ys zs s comes mid [] (Appends-nil mid) (inl refl)))

-- if a write failed in an answer: of that a proper part was written, or all
pub stopped_cut : {S : Type 0} (answers : Answering S) (leaves : Leaving S) (old now : S) (before mid : Option (List ℕ)) (count limit : ℕ) (asked : Asked) (next : S) (answer : List ℕ) (last : Option (List ℕ)) (a b c : Option (List ℕ))
    → ((rest : List Ask) → leaves next rest next) → WhereKnown a b (IsServing answers old now before mid count) → WhereKnown b c (ReadsRequest limit asked)
    → ((xs ys : List ℕ) → ReadsRequest limit asked xs ys → (ask : Ask) × ComesFirst ask xs ys × answers now ask answer next × ((rest : List Ask) → leaves now (ask ∷ rest) next))
    → (part : List ℕ) × (left : List ℕ) × (part ++ left ≡ answer) × Appends mid last part → IfSome a (λ bytes. IsSessionStopped answers leaves old bytes next before last)
stopped_cut answers leaves old now before mid count limit asked next answer last a b c kept so read took (part, [], whole, wrote) =
    stopped_between answers leaves old next before last (count + 1) a c kept
    (serve_next answers limit asked old now next answer before mid last count a b c so read
    (λ xs ys t. let (ask, comes, is, crash) = took xs ys t in (ask, comes, is))
    (subst (λ (t : List ℕ). Appends mid last t) (sym (append-nil part) ∙ whole) wrote))
stopped_cut answers leaves old now before mid count limit asked next answer last a b c kept so read took (part, byte ∷ left, whole, wrote) =
    known_some _ a c (known_then _ (ReadsRequest limit asked) (λ xs ys. IsSessionStopped answers leaves old xs next before last) a b c so read
    (λ xs ys zs s t.
    let (ask, comes, is, crash) = took ys zs t in
    in_request answers leaves old now before mid count ask next crash xs ys zs s comes last part wrote
    (inr (answer, next, is, (byte ∷ left, (λ none. cc), whole)))))
