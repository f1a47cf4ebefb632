-- The replay of a session that was cut short, and what the session has written.
use Rattle.std.proofs.Common.{◌≡◌, ℕ, ◌+◌, ◌<◌, ◌==◌, Bool, true, false, All, List, [], ◌∷◌, ◌++◌, take, drop, get_or, length, Option, Some, None, IfSome, refl, sym, ap, subst, ◌∙◌, inl, inr, append_assoc, append-nil, take-append-drop}
use Rattle.std.specs.Io.KnownBytes.{Appends, Consumes, IsAtEnd}
use Rattle.std.proofs.KnownBytes.{Appends-nil, Consumes-trans, Consumes-whole}
use Rattle.std.proofs.lemmas.List.Elements.{All-append, All-nil}
use Rattle.byte_streams.specs.Written.{AppendsPart, AtMostAs}
use Rattle.byte_streams.specs.declared.fault.WriteFault.{WriteFault}
use Rattle.byte_streams.specs.declared.fault.WriteFault.TheVariants as output
use Rattle.debugger.specs.declared.command.Command.{Command}
use Rattle.debugger.specs.declared.command.Command.TheVariants.{RunTo, GoTo, RunToChange}
use Rattle.debugger.specs.declared.fault.DebugFault.{DebugFault}
use Rattle.debugger.specs.declared.fault.DebugFault.TheVariants.{Memory, Output, Unreadable}
use Rattle.debugger.specs.Command.{heard_of}
use Rattle.debugger.specs.More.{changes}
use Rattle.debugger.specs.Replay.{ReplayState, has_pc}
use Rattle.debugger.specs.Session.{AppendsBeginning, Ending, IsCutAt, IsCutShort, IsHeardOn, IsOnWay, IsPossibleFault, is_quit, line_text, lines_of, session}
use Rattle.debugger.specs.Hearing.{HasAnswered, IsCutAnswer, IsCutIn, IsInLine}
use Rattle.debugger.proofs.Lines.{last_line, line_and_more}
use Rattle.debugger.proofs.MomentMoves.{still_towards}
use Rattle.debugger.proofs.Stops.{still_past}
use Rattle.debugger.proofs.SessionInputs.{all_of, more_text, session_append, session_nil, session_on, session_quit, with_more}

-- a part of a text
pub part_begins : (a b : Option (List ℕ)) (text : List ℕ) → AppendsPart a b text → AppendsBeginning a b text
part_begins a b text h = (take h.0 text, drop h.0 text, sym (take-append-drop h.0 text), h.2)

-- a fault that is possible later is possible now
pub possible_before : (fault : DebugFault) (before later : WriteFault → Type 0) → AtMostAs later before → IsPossibleFault later fault → IsPossibleFault before fault
possible_before (Output output.Io) before later same h = same output.Io h
possible_before (Output output.WroteNothing) before later same h = same output.WroteNothing h
possible_before (Output output.Memory) before later same h = absurd h
possible_before Memory before later same h = tt
possible_before Unreadable before later same h = tt

none_begins : (part text : List ℕ) → part ≡ [] → (left : List ℕ) × (text ≡ part ++ left)
none_begins part text none = (text, sym (ap (λ (t : List ℕ). t ++ text) none))

-- a line's move was not made
not_moved : (r : ReplayState) (command : Option Command) → IsOnWay r command r
not_moved r (Some (RunTo pc)) = inr (still_past (has_pc pc) r)
not_moved r (Some (GoTo moment)) = inr (still_towards moment r)
not_moved r (Some (RunToChange address len)) = inr (still_past (changes address len r) r)
not_moved r command = inl refl

-- a read of no byte
pub read_none : (r0 r1 r2 : Option (List ℕ)) (heard buf : List ℕ) (n : ℕ) → n ≡ 0 → Consumes r0 r1 heard → Consumes r1 r2 (take n buf) → Consumes r0 r2 heard
read_none r0 r1 r2 heard buf n none before read =
    subst (λ (t : List ℕ). Consumes r0 r2 t) (ap (λ (k : ℕ). heard ++ take k buf) none ∙ append-nil heard)
    (Consumes-trans r0 r1 r2 heard (take n buf) before read)

module _ (has_more : Bool) where
  begins_with : (r : ReplayState) (line : List ℕ) (lines : List (List ℕ)) (b : Bool) → is_quit (heard_of has_more line) ≡ b → (more : List ℕ) × ((session has_more r (line ∷ lines)).text ≡ line_text r (heard_of has_more line) ++ more)
  begins_with r line lines true e =
      ([], ap (λ (end : Ending). end.text) (session_quit has_more r line lines e) ∙ sym (append-nil (line_text r (heard_of has_more line))))
  begins_with r line lines false e = (_, ap (λ (end : Ending). end.text) (session_on has_more r line lines e))

  -- a session begins with what its first line prints
  first_text : (r : ReplayState) (line : List ℕ) (lines : List (List ℕ)) → (more : List ℕ) × ((session has_more r (line ∷ lines)).text ≡ line_text r (heard_of has_more line) ++ more)
  first_text r line lines = begins_with r line lines (is_quit (heard_of has_more line)) refl

  -- what was written of the next answer is a beginning of what the session prints next
  cut_begins : (fault : DebugFault) (r : ReplayState) (rest : List (List ℕ)) (new : ReplayState) (part : List ℕ) → IsCutAt has_more fault r rest new part → (left : List ℕ) × ((session has_more r rest).text ≡ part ++ left)
  cut_begins Unreadable r rest new part cut = none_begins part (session has_more r rest).text cut.1
  cut_begins (Output fault) r [] new part cut = absurd cut
  cut_begins (Output fault) r (line ∷ more) new part cut =
      let first = first_text r line more in (
        cut.1.0 ++ first.0,
        first.1 ∙ ap (λ (t : List ℕ). t ++ first.0) cut.1.1 ∙ append_assoc part cut.1.0 first.0,
      )
  cut_begins Memory r [] new part cut = none_begins part (session has_more r []).text cut.1
  cut_begins Memory r (line ∷ more) new part cut = none_begins part (session has_more r (line ∷ more)).text cut.1

  -- a session that was cut short has written a beginning of what it prints
  pub cut_short_begins : (fault : DebugFault) (old : ReplayState) (lines : List (List ℕ)) (new : ReplayState) (before after : Option (List ℕ)) → IsCutShort has_more fault old lines new before after → AppendsBeginning before after (session has_more old lines).text
  cut_short_begins fault old lines new before after (heard, rest, part, are, on, cut, writes) =
      let begins = cut_begins fault (session has_more old heard).replay rest new part cut in (
        (session has_more old heard).text ++ part,
        begins.0,
        ap (λ (ls : List (List ℕ)). (session has_more old ls).text) are
            ∙ ap (λ (end : Ending). end.text) (session_append has_more old heard rest on)
            ∙ ap (λ (t : List ℕ). (session has_more old heard).text ++ t) begins.1
            ∙ sym (append_assoc (session has_more old heard).text part begins.0),
        writes,
      )

  -- a session that answered no line
  cut_here : (fault : DebugFault) (r new : ReplayState) (lines : List (List ℕ)) (part : List ℕ) (before after : Option (List ℕ)) → IsCutAt has_more fault r lines new part → Appends before after part → IsCutShort has_more fault r lines new before after
  cut_here fault r new lines part before after cut writes = (
    [],
    lines,
    part,
    refl,
    All-nil (IsHeardOn has_more),
    subst (λ (e : Ending). IsCutAt has_more fault e.replay lines new part) (sym (session_nil has_more r)) cut,
    subst (λ (e : Ending). Appends before after (e.text ++ part)) (sym (session_nil has_more r)) writes,
  )

  -- memory ran out between two lines
  no_memory : (r : ReplayState) (lines : List (List ℕ)) → IsCutAt has_more Memory r lines r []
  no_memory r [] = (refl, refl)
  no_memory r (line ∷ more) = (not_moved r (heard_of has_more line), refl)

  -- the lines after the next one do not matter
  any_more : (fault : DebugFault) (r new : ReplayState) (line part : List ℕ) (more : List (List ℕ)) → IsCutAt has_more fault r (line ∷ []) new part → IsCutAt has_more fault r (line ∷ more) new part
  any_more Unreadable r new line part more cut = cut
  any_more fault r new line part more cut = cut

  -- the answer to the first of some lines was cut
  first_cut : (fault : DebugFault) (r new : ReplayState) (line : List ℕ) (more lines : List (List ℕ)) (before after : Option (List ℕ)) → lines ≡ line ∷ more → IsCutAnswer has_more fault r line new before after → IsCutShort has_more fault r lines new before after
  first_cut fault r new line more lines before after are cut =
      subst (λ (ls : List (List ℕ)). IsCutShort has_more fault r ls new before after) (sym are)
      (cut_here fault r new (line ∷ more) cut.0 before after (any_more fault r new line cut.0 more cut.1) cut.2)

  -- a last line that was cut
  pub last_cut : (fault : DebugFault) (r new : ReplayState) (line : List ℕ) (a b : Option (List ℕ)) → All IsInLine line → (length line == 0) ≡ false → IsCutAnswer has_more fault r line new a b → IsCutShort has_more fault r (lines_of line) new a b
  last_cut fault r new [] a b within filled cut = cc
  last_cut fault r new (byte ∷ line) a b within filled cut = first_cut fault r new (byte ∷ line) [] (lines_of (byte ∷ line)) a b (last_line byte line within) cut

  module _ (old now : ReplayState) (input line : List ℕ) (before mid : Option (List ℕ)) (answered : HasAnswered has_more old input now line before mid) where
    -- after lines that were answered
    cut_behind : (fault : DebugFault) (new : ReplayState) (after : Option (List ℕ)) (lines all : List (List ℕ)) → all ≡ answered.heard ++ lines → IsCutShort has_more fault now lines new mid after → IsCutShort has_more fault old all new before after
    cut_behind fault new after lines all are (heard, rest, part, split, on, cut, writes) = (
      answered.heard ++ heard,
      rest,
      part,
      are ∙ ap (λ (ls : List (List ℕ)). answered.heard ++ ls) split ∙ sym (append_assoc answered.heard heard rest),
      All-append (IsHeardOn has_more) answered.heard heard answered.on on,
      subst (λ (e : Ending). IsCutAt has_more fault e.replay rest new part) (sym (with_more has_more old now input line before mid answered heard)) cut,
      more_text has_more old now input line before mid answered heard part after writes,
    )

    cut_now : (fault : DebugFault) (rest : List ℕ) → IsCutAt has_more fault now (lines_of (line ++ rest)) now [] → IsCutShort has_more fault old (lines_of (input ++ rest)) now before mid
    cut_now fault rest cut =
        cut_behind fault now mid (lines_of (line ++ rest)) (lines_of (input ++ rest)) (answered.lines rest)
        (cut_here fault now now (lines_of (line ++ rest)) [] mid mid cut (Appends-nil mid))

    -- between two parts of the input
    pub cut_between : IsCutIn has_more Unreadable old input now before mid
    cut_between rest = cut_now Unreadable rest (refl, refl)

    -- in a part of the input
    pub cut_inside : (fault : DebugFault) (part : List ℕ) (new : ReplayState) (after : Option (List ℕ)) → IsCutIn has_more fault now (line ++ part) new mid after → IsCutIn has_more fault old (input ++ part) new before after
    cut_inside fault part new after cut rest =
        cut_behind fault new after (lines_of ((line ++ part) ++ rest)) (lines_of ((input ++ part) ++ rest))
        (ap lines_of (append_assoc input part rest) ∙ answered.lines (part ++ rest) ∙ ap (λ (t : List ℕ). answered.heard ++ lines_of t) (sym (append_assoc line part rest)))
        (cut rest)

    -- in the answer to a line, whatever follows it
    pub cut_line : (fault : DebugFault) (more : List ℕ) (new : ReplayState) (after : Option (List ℕ)) → IsCutAnswer has_more fault now line new mid after → IsCutIn has_more fault old (input ++ 10 ∷ more) new before after
    cut_line fault more new after cut rest =
        cut_behind fault new after (lines_of (line ++ 10 ∷ (more ++ rest))) (lines_of ((input ++ 10 ∷ more) ++ rest))
        (ap lines_of (append_assoc input (10 ∷ more) rest) ∙ answered.lines (10 ∷ (more ++ rest)))
        (first_cut fault now new line (lines_of (more ++ rest)) (lines_of (line ++ 10 ∷ (more ++ rest))) mid after (line_and_more line (more ++ rest) answered.within) cut)

    -- memory ran out at the next byte of a line, whatever follows
    pub cut_before : (more : List ℕ) → IsCutIn has_more Memory old (input ++ more) now before mid
    cut_before more rest =
        subst (λ (t : List ℕ). IsCutShort has_more Memory old (lines_of t) now before mid) (sym (append_assoc input more rest))
        (cut_now Memory (more ++ rest) (no_memory now (lines_of (line ++ (more ++ rest)))))

    -- at the end of the input
    pub cut_at_end : (fault : DebugFault) (new : ReplayState) (after : Option (List ℕ)) → IsCutShort has_more fault now (lines_of line) new mid after → IsCutShort has_more fault old (lines_of input) new before after
    cut_at_end fault new after cut =
        cut_behind fault new after (lines_of line) (lines_of input)
        (ap lines_of (sym (append-nil input)) ∙ answered.lines [] ∙ ap (λ (t : List ℕ). answered.heard ++ lines_of t) (append-nil line))
        cut

  -- a part of the input, cut before or in the answer to a line
  module _ (old now : ReplayState) (start part line : List ℕ) (i : ℕ) (before mid : Option (List ℕ)) (answered : HasAnswered has_more old (start ++ take i part) now line before mid) where
    pub hear_cut : IsCutIn has_more Memory old (start ++ part) now before mid
    hear_cut =
        let all : start ++ part ≡ (start ++ take i part) ++ drop i part =
        ap (λ (t : List ℕ). start ++ t) (sym (take-append-drop i part)) ∙ sym (append_assoc start (take i part) (drop i part)) in
        subst (λ (t : List ℕ). IsCutIn has_more Memory old t now before mid) (sym all)
        (cut_before old now (start ++ take i part) line before mid answered (drop i part))

    pub hear_line_cut : (fault : DebugFault) (new : ReplayState) (after : Option (List ℕ)) → i < length part → get_or part i 0 ≡ 10 → IsCutAnswer has_more fault now line new mid after → IsCutIn has_more fault old (start ++ part) new before after
    hear_line_cut fault new after less end cut =
        let all : start ++ part ≡ (start ++ take i part) ++ 10 ∷ drop (i + 1) part =
        all_of start part i less ∙ ap (λ (b : ℕ). (start ++ take i part) ++ b ∷ drop (i + 1) part) end in
        subst (λ (t : List ℕ). IsCutIn has_more fault old t new before after) (sym all)
        (cut_line old now (start ++ take i part) line before mid answered fault (drop (i + 1) part) new after cut)

  -- over all that a reader had
  pub cut_over : (fault : DebugFault) (r0 r1 : Option (List ℕ)) (old new : ReplayState) (input : List ℕ) (before after : Option (List ℕ)) → Consumes r0 r1 input → IsCutIn has_more fault old input new before after → IfSome r0 (λ all. IsCutShort has_more fault old (lines_of all) new before after)
  cut_over fault None r1 old new input before after read cut = tt
  cut_over fault (Some all) None old new input before after read cut = absurd read
  cut_over fault (Some all) (Some rest) old new input before after read cut =
      subst (λ (t : List ℕ). IsCutShort has_more fault old (lines_of t) new before after) (sym read) (cut rest)

  -- between two reads
  pub cut_between_reads : (r0 r1 : Option (List ℕ)) (old now : ReplayState) (input line : List ℕ) (before mid : Option (List ℕ)) → Consumes r0 r1 input → HasAnswered has_more old input now line before mid → IfSome r0 (λ all. IsCutShort has_more Unreadable old (lines_of all) now before mid)
  cut_between_reads r0 r1 old now input line before mid read answered =
      cut_over Unreadable r0 r1 old now input before mid read (cut_between old now input line before mid answered)

  -- at the end of the input
  pub cut_at : (fault : DebugFault) (r0 r1 : Option (List ℕ)) (old now new : ReplayState) (input line : List ℕ) (before mid after : Option (List ℕ)) → Consumes r0 r1 input → IsAtEnd r1 → HasAnswered has_more old input now line before mid → IsCutShort has_more fault now (lines_of line) new mid after → IfSome r0 (λ all. IsCutShort has_more fault old (lines_of all) new before after)
  cut_at fault r0 r1 old now new input line before mid after read end answered cut =
      Consumes-whole r0 r1 input (λ all. IsCutShort has_more fault old (lines_of all) new before after) read end
      (cut_at_end old now input line before mid answered fault new after cut)
