-- What `begin` makes of a session with another one's dump, and what both answer then.
use Rattle.std.proofs.Common.{◌≡◌, ℕ, List, [], ◌∷◌, ◌++◌, Bool, true, All, Result, Ok, refl, sym, ap, subst, ◌∙◌, arith}
use Rattle.std.specs.Prelude.{codes}
use Rattle.std.specs.FinMap.{entries}
use Rattle.std.proofs.lemmas.Fmt.{decimal_digit}
use Rattle.block_file.specs.Block.{BlockValue}
use Rattle.block_file.specs.declared.fault.BlockFault.{BlockFault}
use Rattle.session_requests.specs.Requests.{Ask, Begin}
use Rattle.session_turns.specs.Replies.{Done, turn_reply_text}
use Rattle.session_turns.specs.Telling.{dump_text}
use Rattle.session_turns.specs.Turn.{Turn, agree, begun_with, turn}
use Rattle.session_turns.specs.declared.settings.Settings.{Settings}
use Rattle.session_turns.specs.declared.state.State.{State}
use Rattle.session_laws.specs.Begun.{EqualButLast, asks_last_late, begun_from}
use Rattle.session_laws.specs.Chained.{IsEntry, block_with}
use Rattle.session_serving.specs.Serving.{answers_in_turn, state_after}
use Rattle.session_laws.proofs.Alike.{answers_alike, begun_block, states_alike}
use Rattle.session_laws.proofs.Dumps.{dump_read}

pub begins : (settings : Settings) (s t : State) → All (IsEntry s.rules) (entries s.store) → agree s.digest t.digest ≡ true
    → turn settings t (Begin s.height s.digest (dump_text s.rules s.store)) ≡ record { reply = Done []; after = begun_from s t }
begins settings s t stored agrees =
    ap (λ (text : Result BlockValue BlockFault). begun_with t s.height s.digest (begun_block (agree s.digest t.digest) text)) (dump_read s.rules s.store stored)
    ∙ ap (λ (b : Bool). begun_with t s.height s.digest (begun_block b (Ok (block_with s.rules s.store)))) agrees

module _ (settings : Settings) (s t : State) (asks : List Ask) (stored : All (IsEntry s.rules) (entries s.store)) (agrees : agree s.digest t.digest ≡ true) (programs : t.programs ≡ s.programs) where
  begun_alike : EqualButLast s (begun_from s t)
  begun_alike = record { store = refl; rules = refl; height = refl; digest = refl; programs = sym programs }

  abbrev more : List ℕ
  more = answers_in_turn settings (begun_from s t) asks

  pub session_answers : asks_last_late settings s asks ≡ true → answers_in_turn settings t (Begin s.height s.digest (dump_text s.rules s.store) ∷ asks) ≡ codes "ok 0\n" ++ answers_in_turn settings s asks
  session_answers late =
      ap (λ (u : Turn). turn_reply_text u.reply ++ answers_in_turn settings u.after asks) (begins settings s t stored agrees)
      ∙ ap (λ (digits : List ℕ). ((codes "ok " ++ digits ++ codes "\n") ++ []) ++ more) (decimal_digit 0 (omega arith))
      ∙ ap (λ (text : List ℕ). codes "ok 0\n" ++ text) (sym (answers_alike settings s (begun_from s t) asks begun_alike late))

  pub session_left : EqualButLast (state_after settings s asks) (state_after settings t (Begin s.height s.digest (dump_text s.rules s.store) ∷ asks))
  session_left =
      let same = begins settings s t stored agrees in
      subst (λ (u : Turn). EqualButLast (state_after settings s asks) (state_after settings u.after asks)) (sym same) (states_alike settings s (begun_from s t) asks begun_alike)
