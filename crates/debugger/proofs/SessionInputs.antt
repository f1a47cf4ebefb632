-- How a session continues with parts of its input.
use Rattle.std.proofs.Common.{◌≡◌, ℕ, ◌+◌, ◌<◌, ◌==◌, Bool, true, false, not, if◌then◌else◌, All, List, [], ◌∷◌, ◌++◌, take, drop, get_or, length, Option, Some, None, IfSome, refl, sym, ap, subst, ◌∙◌, add-one, append_assoc, append-nil, arith, drop-cons, take-append-drop}
use Rattle.std.specs.Io.KnownBytes.{Appends, Consumes, IsAtEnd}
use Rattle.std.proofs.KnownBytes.{Appends-nil, Appends-trans, Consumes-whole}
use Rattle.std.proofs.Math.Seq.{take-suc}
use Rattle.std.proofs.lemmas.Bool.Decides.{nat_tests}
use Rattle.std.proofs.lemmas.List.Elements.{All-append, All-cons, All-head, All-nil, All-tail}
use Rattle.debugger.specs.declared.command.Command.{Command}
use Rattle.debugger.specs.declared.command.Command.TheVariants.{Quit}
use Rattle.debugger.specs.Command.{heard_of}
use Rattle.debugger.specs.Replay.{ReplayState}
use Rattle.debugger.specs.Session.{Ending, EndsAs, IsHeardOn, after_line, after_text, is_quit, line_text, lines_of, session}
use Rattle.debugger.specs.Hearing.{HasAnswered, HasHeard, Hears, IsInLine}
use Rattle.debugger.proofs.Lines.{last_line, line_and_more, no_line}

if_true : {X : Type 0} (b : Bool) (x y : X) → b ≡ true → (if b then x else y) ≡ x
if_true true x y e = refl
if_true false x y e = cc

if_false : {X : Type 0} (b : Bool) (x y : X) → b ≡ false → (if b then x else y) ≡ y
if_false true x y e = cc
if_false false x y e = refl

-- a line that quits prints nothing and moves nothing
quit_is : (r : ReplayState) (c : Option Command) → is_quit c ≡ true → record { text = []; replay = r } ≡ (let e : Ending = record { text = line_text r c; replay = after_line r c } in e)
quit_is r (Some Quit) e = refl
quit_is r c e = cc

behind_behind : (a b : List ℕ) (e : Ending) → after_text a (after_text b e) ≡ after_text (a ++ b) e
behind_behind a b e = ap (λ (t : List ℕ). record e { text = t }) (sym (append_assoc a b e.text))

one_in_line : (byte : ℕ) → IsInLine byte → All IsInLine (byte ∷ [])
one_in_line byte other = All-cons IsInLine byte [] other (All-nil IsInLine)

not_none : (b : ℕ) (line : List ℕ) → true ≡ (length (b ∷ line) == 0) → ⊥
not_none b line e = grind (arith, nat_tests)

-- one byte more of a part is taken
taken : (start part : List ℕ) (i : ℕ) → i < length part → start ++ take (i + 1) part ≡ (start ++ take i part) ++ get_or part i 0 ∷ []
taken start part i h = rw (add-one, take-suc part i 0) (sym (append_assoc start (take i part) (get_or part i 0 ∷ [])))

pub all_of : (start part : List ℕ) (i : ℕ) → i < length part → start ++ part ≡ (start ++ take i part) ++ get_or part i 0 ∷ drop (i + 1) part
all_of start part i h =
    let rest : drop i part ≡ get_or part i 0 ∷ drop (i + 1) part = rw (add-one, drop-cons part i 0) refl in
    ap (λ (t : List ℕ). start ++ t) (sym (take-append-drop i part) ∙ ap (λ (t : List ℕ). take i part ++ t) rest)
    ∙ sym (append_assoc start (take i part) (get_or part i 0 ∷ drop (i + 1) part))

in_line : (b : ℕ) → (b ≡ 10 → ⊥) → IsInLine b
in_line b h = grind (arith, nat_tests)

not_on : (b : Bool) → true ≡ not b → b ≡ false
not_on true e = cc
not_on false e = refl

not_off : (b : Bool) → false ≡ not b → b ≡ true
not_off true e = refl
not_off false e = cc

module _ (has_more : Bool) where
  -- what the first line makes of a session
  module _ (r : ReplayState) (line : List ℕ) (lines : List (List ℕ)) where
    pub session_on : is_quit (heard_of has_more line) ≡ false → session has_more r (line ∷ lines) ≡ after_text (line_text r (heard_of has_more line)) (session has_more (after_line r (heard_of has_more line)) lines)
    unfolding session
    session_on e =
        if_false (is_quit (heard_of has_more line)) (record { text = []; replay = r })
        (after_text (line_text r (heard_of has_more line)) (session has_more (after_line r (heard_of has_more line)) lines)) e

    pub session_quit : is_quit (heard_of has_more line) ≡ true → session has_more r (line ∷ lines) ≡ record { text = line_text r (heard_of has_more line); replay = after_line r (heard_of has_more line) }
    unfolding session
    session_quit e =
        if_true (is_quit (heard_of has_more line)) (record { text = []; replay = r })
        (after_text (line_text r (heard_of has_more line)) (session has_more (after_line r (heard_of has_more line)) lines)) e
        ∙ quit_is r (heard_of has_more line) e

  -- a session over no line
  pub session_nil : (r : ReplayState) → session has_more r [] ≡ record { text = []; replay = r }
  unfolding session
  session_nil r = refl

  -- a session continues after lines that do not end it
  pub session_append : (r : ReplayState) (heard rest : List (List ℕ)) → All (IsHeardOn has_more) heard → session has_more r (heard ++ rest) ≡ after_text (session has_more r heard).text (session has_more (session has_more r heard).replay rest)
  session_append r [] rest on = sym (ap (λ (e : Ending). after_text e.text (session has_more e.replay rest)) (session_nil r))
  session_append r (line ∷ heard) rest on =
      let goes_on : is_quit (heard_of has_more line) ≡ false = All-head (IsHeardOn has_more) line heard on in
      let text : List ℕ = line_text r (heard_of has_more line) in
      let next : ReplayState = after_line r (heard_of has_more line) in
      session_on r line (heard ++ rest) goes_on
      ∙ ap (after_text text) (session_append next heard rest (All-tail (IsHeardOn has_more) line heard on))
      ∙ behind_behind text (session has_more next heard).text (session has_more (session has_more next heard).replay rest)
      ∙ sym (ap (λ (e : Ending). after_text e.text (session has_more e.replay rest)) (session_on r line heard goes_on))

  one_line : (r : ReplayState) (line : List ℕ) (b : Bool) → is_quit (heard_of has_more line) ≡ b → session has_more r (line ∷ []) ≡ record { text = line_text r (heard_of has_more line); replay = after_line r (heard_of has_more line) }
  one_line r line true e = session_quit r line [] e
  one_line r line false e =
      session_on r line [] e
      ∙ ap (after_text (line_text r (heard_of has_more line))) (session_nil (after_line r (heard_of has_more line)))
      ∙ ap (λ (t : List ℕ). let end : Ending = record { text = t; replay = after_line r (heard_of has_more line) } in end) (append-nil (line_text r (heard_of has_more line)))

  one_heard_on : (line : List ℕ) → IsHeardOn has_more line → All (IsHeardOn has_more) (line ∷ [])
  one_heard_on line on = All-cons (IsHeardOn has_more) line [] on (All-nil (IsHeardOn has_more))

  module _ (old now : ReplayState) (input line : List ℕ) (before mid : Option (List ℕ)) (answered : HasAnswered has_more old input now line before mid) where
    -- what it printed so far
    abbrev so_far : List ℕ
    so_far = (session has_more old answered.heard).text

    -- with more lines, it continues from its replay
    pub with_more : (lines : List (List ℕ)) → session has_more old (answered.heard ++ lines) ≡ after_text (session has_more old answered.heard).text (session has_more now lines)
    with_more lines =
        session_append old answered.heard lines answered.on
        ∙ ap (λ (r : ReplayState). after_text (session has_more old answered.heard).text (session has_more r lines)) (sym answered.replay)

    -- whatever input comes next
    pub goes_on : (rest : List ℕ) → session has_more old (lines_of (input ++ rest)) ≡ after_text (session has_more old answered.heard).text (session has_more now (lines_of (line ++ rest)))
    goes_on rest = ap (session has_more old) (answered.lines rest) ∙ with_more (lines_of (line ++ rest))

    -- more lines were answered
    pub more_text : (lines : List (List ℕ)) (part : List ℕ) (after : Option (List ℕ)) → Appends mid after ((session has_more now lines).text ++ part) → Appends before after ((session has_more old (answered.heard ++ lines)).text ++ part)
    more_text lines part after writes =
        let is : (session has_more old (answered.heard ++ lines)).text ++ part ≡ (session has_more old answered.heard).text ++ ((session has_more now lines).text ++ part) =
        ap (λ (e : Ending). e.text ++ part) (with_more lines) ∙ append_assoc (session has_more old answered.heard).text (session has_more now lines).text part in
        subst (λ (t : List ℕ). Appends before after t) (sym is)
        (Appends-trans before mid after (session has_more old answered.heard).text ((session has_more now lines).text ++ part) answered.text writes)

    more_answered : (lines : List (List ℕ)) (next : ReplayState) (after : Option (List ℕ)) → next ≡ (session has_more now lines).replay → Appends mid after (session has_more now lines).text
        → (next ≡ (session has_more old (answered.heard ++ lines)).replay) × Appends before after (session has_more old (answered.heard ++ lines)).text
    more_answered lines next after moves writes = (
      moves ∙ sym (ap (λ (e : Ending). e.replay) (with_more lines)),
      subst (λ (t : List ℕ). Appends before after t) (sym (ap (λ (e : Ending). e.text) (with_more lines)))
          (Appends-trans before mid after (session has_more old answered.heard).text (session has_more now lines).text answered.text writes),
    )

    -- a byte that ends no line
    pub byte_heard : (byte : ℕ) → IsInLine byte → HasAnswered has_more old (input ++ byte ∷ []) now (line ++ byte ∷ []) before mid
    byte_heard byte other = record {
      heard = answered.heard;
      on = answered.on;
      within = All-append IsInLine line (byte ∷ []) answered.within (one_in_line byte other);
      lines = λ rest.
          ap lines_of (append_assoc input (byte ∷ []) rest)
          ∙ answered.lines (byte ∷ rest)
          ∙ ap (λ (t : List ℕ). answered.heard ++ lines_of t) (sym (append_assoc line (byte ∷ []) rest));
      replay = answered.replay;
      text = answered.text;
    }

    module _ (next : ReplayState) (after : Option (List ℕ)) (moves : next ≡ after_line now (heard_of has_more line)) (writes : Appends mid after (line_text now (heard_of has_more line))) where
      -- the end of a line after which the session continues
      pub line_heard : is_quit (heard_of has_more line) ≡ false → HasAnswered has_more old (input ++ 10 ∷ []) next [] before after
      line_heard on =
          let one : session has_more now (line ∷ []) ≡ record { text = line_text now (heard_of has_more line); replay = after_line now (heard_of has_more line) } = one_line now line false on in
          let more = more_answered (line ∷ []) next after (moves ∙ sym (ap (λ (e : Ending). e.replay) one))
          (subst (λ (t : List ℕ). Appends mid after t) (sym (ap (λ (e : Ending). e.text) one)) writes) in
          record {
            heard = answered.heard ++ line ∷ [];
            on = All-append (IsHeardOn has_more) answered.heard (line ∷ []) answered.on (one_heard_on line on);
            within = All-nil IsInLine;
            lines = λ rest.
                ap lines_of (append_assoc input (10 ∷ []) rest)
                ∙ answered.lines (10 ∷ rest)
                ∙ ap (λ (lines : List (List ℕ)). answered.heard ++ lines) (line_and_more line rest answered.within)
                ∙ sym (append_assoc answered.heard (line ∷ []) (lines_of rest));
            replay = more.0;
            text = more.1;
          }

      -- the end of a line that quits, whatever follows it
      pub quit_heard : (more left : List ℕ) → is_quit (heard_of has_more line) ≡ true → HasHeard has_more false old (input ++ 10 ∷ more) next left before after
      quit_heard more left quits = (
        so_far ++ line_text now (heard_of has_more line),
        Appends-trans before mid after so_far (line_text now (heard_of has_more line)) answered.text writes,
        λ rest.
            ap (λ (t : List ℕ). session has_more old (lines_of t)) (append_assoc input (10 ∷ more) rest)
            ∙ goes_on (10 ∷ (more ++ rest))
            ∙ ap (λ (lines : List (List ℕ)). after_text so_far (session has_more now lines)) (line_and_more line (more ++ rest) answered.within)
            ∙ ap (after_text so_far) (session_quit now line (lines_of (more ++ rest)) quits)
            ∙ ap (λ (r : ReplayState). let e : Ending = record { text = so_far ++ line_text now (heard_of has_more line); replay = r } in e) (sym moves),
      )

    -- a part of the input after which the session continues
    pub part_heard : (part left : List ℕ) (next : ReplayState) (after : Option (List ℕ)) → Hears has_more true now line part next left mid after → HasAnswered has_more old (input ++ part) next left before after
    part_heard part left next after more =
        let both = more_answered more.heard next after more.replay more.text in
        record {
          heard = answered.heard ++ more.heard;
          on = All-append (IsHeardOn has_more) answered.heard more.heard answered.on more.on;
          within = more.within;
          lines = λ rest.
              ap lines_of (append_assoc input part rest)
              ∙ answered.lines (part ++ rest)
              ∙ ap (λ (t : List ℕ). answered.heard ++ lines_of t) (sym (append_assoc line part rest))
              ∙ ap (λ (lines : List (List ℕ)). answered.heard ++ lines) (more.lines rest)
              ∙ sym (append_assoc answered.heard more.heard (lines_of (left ++ rest)));
          replay = both.0;
          text = both.1;
        }

    -- or in which it ended
    pub last_heard : (part left : List ℕ) (next : ReplayState) (after : Option (List ℕ)) → Hears has_more false now line part next left mid after → HasHeard has_more false old (input ++ part) next left before after
    last_heard part left next after more = (
      so_far ++ more.0,
      Appends-trans before mid after so_far more.0 answered.text more.1,
      λ rest.
          ap (λ (t : List ℕ). session has_more old (lines_of t)) (append_assoc input part rest)
          ∙ goes_on (part ++ rest)
          ∙ ap (λ (t : List ℕ). after_text so_far (session has_more now (lines_of t))) (sym (append_assoc line part rest))
          ∙ ap (after_text so_far) (more.2 rest),
    )

    -- the end of the input
    pub end_heard : (next : ReplayState) (after : Option (List ℕ)) → EndsAs (session has_more now (lines_of line)) next mid after → EndsAs (session has_more old (lines_of input)) next before after
    end_heard next after ends =
        let is : session has_more old (lines_of input) ≡ after_text so_far (session has_more now (lines_of line)) =
        ap (λ (t : List ℕ). session has_more old (lines_of t)) (sym (append-nil input)) ∙ goes_on []
        ∙ ap (λ (t : List ℕ). after_text so_far (session has_more now (lines_of t))) (append-nil line) in
        subst (λ (e : Ending). EndsAs e next before after) (sym is)
        (Appends-trans before mid after so_far (session has_more now (lines_of line)).text answered.text ends.0, ends.1)

  -- nothing was heard yet but the beginning of a line
  pub start_heard : (r : ReplayState) (line : List ℕ) (a : Option (List ℕ)) → All IsInLine line → HasHeard has_more true r (line ++ []) r line a a
  start_heard r line a within = record {
    heard = [];
    on = All-nil (IsHeardOn has_more);
    within = within;
    lines = λ rest. ap lines_of (append_assoc line [] rest);
    replay = sym (ap (λ (e : Ending). e.replay) (session_nil r));
    text = subst (λ (e : Ending). Appends a a e.text) (sym (session_nil r)) (Appends-nil a);
  }

  -- a session that ended, over all that a reader had
  pub ended_over : (r0 r1 : Option (List ℕ)) (old new : ReplayState) (input left : List ℕ) (before after : Option (List ℕ)) → Consumes r0 r1 input → HasHeard has_more false old input new left before after → IfSome r0 (λ all. EndsAs (session has_more old (lines_of all)) new before after)
  ended_over None r1 old new input left before after read heard = tt
  ended_over (Some all) None old new input left before after read heard = absurd read
  ended_over (Some all) (Some rest) old new input left before after read heard =
      let is = ap (λ (t : List ℕ). session has_more old (lines_of t)) read ∙ heard.2 rest in
      subst (λ (e : Ending). EndsAs e new before after) (sym is) (heard.1, refl)

  -- a session that met the end of the input
  pub ended_at : (r0 r1 : Option (List ℕ)) (old now new : ReplayState) (input line : List ℕ) (before mid after : Option (List ℕ)) → Consumes r0 r1 input → IsAtEnd r1 → HasAnswered has_more old input now line before mid → EndsAs (session has_more now (lines_of line)) new mid after → IfSome r0 (λ all. EndsAs (session has_more old (lines_of all)) new before after)
  ended_at r0 r1 old now new input line before mid after read end answered ends =
      Consumes-whole r0 r1 input (λ all. EndsAs (session has_more old (lines_of all)) new before after) read end
      (end_heard old now input line before mid answered new after ends)

  -- a session over no line
  pub none_left : (r : ReplayState) (line : List ℕ) (a : Option (List ℕ)) → true ≡ (length line == 0) → EndsAs (session has_more r (lines_of line)) r a a
  unfolding session
  none_left r [] a e = subst (λ (end : Ending). EndsAs end r a a) (sym (ap (session has_more r) no_line)) (Appends-nil a, refl)
  none_left r (b ∷ line) a e = absurd (not_none b line e)

  -- a session over a last line
  pub one_left : (r new : ReplayState) (line : List ℕ) (before after : Option (List ℕ)) → All IsInLine line → (length line == 0) ≡ false → new ≡ after_line r (heard_of has_more line) → Appends before after (line_text r (heard_of has_more line)) → EndsAs (session has_more r (lines_of line)) new before after
  one_left r new [] before after within filled moves writes = cc
  one_left r new (b ∷ line) before after within filled moves writes =
      let is = ap (session has_more r) (last_line b line within) ∙ one_line r (b ∷ line) (is_quit (heard_of has_more (b ∷ line))) refl in
      subst (λ (end : Ending). EndsAs end new before after) (sym is) (writes, moves)

  module _ (old now : ReplayState) (start part line : List ℕ) (i : ℕ) (before mid : Option (List ℕ)) (less : i < length part) (answered : HasAnswered has_more old (start ++ take i part) now line before mid) where
    pub hear_byte : (get_or part i 0 ≡ 10 → ⊥) → HasHeard has_more true old (start ++ take (i + 1) part) now (line ++ get_or part i 0 ∷ []) before mid
    hear_byte other =
        subst (λ (t : List ℕ). HasHeard has_more true old t now (line ++ get_or part i 0 ∷ []) before mid) (sym (taken start part i less))
        (byte_heard old now (start ++ take i part) line before mid answered (get_or part i 0) (in_line (get_or part i 0) other))

    pub hear_line : (next : ReplayState) (after : Option (List ℕ)) → get_or part i 0 ≡ 10 → next ≡ after_line now (heard_of has_more line) → Appends mid after (line_text now (heard_of has_more line)) → true ≡ not (is_quit (heard_of has_more line)) → HasHeard has_more true old (start ++ take (i + 1) part) next [] before after
    hear_line next after end moves writes on =
        subst (λ (t : List ℕ). HasHeard has_more true old t next [] before after)
        (ap (λ (b : ℕ). (start ++ take i part) ++ b ∷ []) (sym end) ∙ sym (taken start part i less))
        (line_heard old now (start ++ take i part) line before mid answered next after moves writes (not_on (is_quit (heard_of has_more line)) on))

    pub hear_quit : (next : ReplayState) (left : List ℕ) (after : Option (List ℕ)) → get_or part i 0 ≡ 10 → next ≡ after_line now (heard_of has_more line) → Appends mid after (line_text now (heard_of has_more line)) → false ≡ not (is_quit (heard_of has_more line)) → Hears has_more false old start part next left before after
    hear_quit next left after end moves writes off =
        subst (λ (t : List ℕ). HasHeard has_more false old t next left before after)
        (ap (λ (b : ℕ). (start ++ take i part) ++ b ∷ drop (i + 1) part) (sym end) ∙ sym (all_of start part i less))
        (quit_heard old now (start ++ take i part) line before mid answered next after moves writes (drop (i + 1) part) left (not_off (is_quit (heard_of has_more line)) off))
