-- What a line asks for, by its faults.
use Rattle.std.proofs.Common.{◌≡◌, List, [], ◌∷◌, refl, inl, inr, sym, ◌∙◌, ◌⊎◌, subst}
use Rattle.std.specs.Prelude.{Option, Some, None, IfSome, option_map}
use Rattle.clap.specs.Kinds.{HasKind}
use Rattle.clap.specs.Words.{IsAmong, Kinds, Text, fault_of, kind_of}
use Rattle.clap.specs.declared.error.Error.{Error}
use Rattle.clap.specs.declared.error.kind.ErrorKind.{ErrorKind}
use Rattle.clap.specs.declared.error.kind.ErrorKind.TheVariants as kind
use Rattle.cmdline.specs.Line.{Asked, asked_by_request, requested, rvstm_app}
use Rattle.cmdline.specs.declared.Request.{Request}
use Rattle.engines.specs.Program.{asked_on, if_right, IsShown}

of_none : (kinds : Kinds) (asked : Option Asked) (a : Asked) → kinds ≡ [] → Some a ≡ asked → if_right kinds asked ≡ Some a
of_none [] asked a none is = sym is
of_none (k ∷ kinds) asked a none is = cc

-- a line without a fault
pub right_line : (words : List Text) (a : Asked) → fault_of rvstm_app words ≡ [] → Some a ≡ requested words → asked_on words ≡ Some a
unfolding asked_on
right_line words a none is = of_none (fault_of rvstm_app words) (requested words) a none is

among_none : (k : ErrorKind) (kinds : Kinds) (asked : Option Asked) → IsAmong k kinds → if_right kinds asked ≡ None
among_none k [] asked h = absurd h
among_none k (x ∷ kinds) asked h = refl

-- and one that asks for nothing
any_of : (asked : Option Asked) (P : Type 0) → P → IfSome asked (λ _. P)
any_of None P h = tt
any_of (Some a) P h = h

of_nothing : (kinds : Kinds) (asked : Option Asked) (P : Type 0) → None ≡ asked → IfSome (if_right kinds asked) (λ _. P)
of_nothing [] None P is = tt
of_nothing [] (Some a) P is = cc
of_nothing (k ∷ kinds) asked P is = tt

pub no_request : (words : List Text) (P : Type 0) → None ≡ requested words → IfSome (asked_on words) (λ _. P)
unfolding asked_on
no_request words P is = of_nothing (fault_of rvstm_app words) (requested words) P is

of_fault : (k : ErrorKind) (kinds : Kinds) (asked : Option Asked) (P : Type 0) → IsAmong k kinds → IfSome (if_right kinds asked) (λ _. P)
of_fault k [] asked P h = absurd h
of_fault k (x ∷ kinds) asked P h = tt

-- if a line without a fault gives an error, memory ran out
pub right_memory : (words : List Text) (e : Error) (P : Type 0) → HasKind (fault_of rvstm_app words) e → (kind_of e ≡ kind.OutOfMemory → P) → IfSome (asked_on words) (λ _. P)
unfolding asked_on
right_memory words e P (inl memory) h = any_of (if_right (fault_of rvstm_app words) (requested words)) P (h memory)
right_memory words e P (inr among) h = of_fault (kind_of e) (fault_of rvstm_app words) (requested words) P among

module _ (words : List Text) (e : Error) where
  shown_so : (kind_of e ≡ kind.DisplayHelp) ⊎ (kind_of e ≡ kind.DisplayVersion) → HasKind (fault_of rvstm_app words) e → IsAmong (kind_of e) (fault_of rvstm_app words)
  shown_so shown (inr h) = h
  shown_so (inl is) (inl memory) = let bad : kind.DisplayHelp ≡ kind.OutOfMemory = sym is ∙ memory in cc
  shown_so (inr is) (inl memory) = let bad : kind.DisplayVersion ≡ kind.OutOfMemory = sym is ∙ memory in cc

  -- one that asks for help or the version
  pub shown_line : (kind_of e ≡ kind.DisplayHelp) ⊎ (kind_of e ≡ kind.DisplayVersion) → HasKind (fault_of rvstm_app words) e → IsShown words
  shown_line (inl is) h = inl (subst (λ k. IsAmong k (fault_of rvstm_app words)) is (shown_so (inl is) h))
  shown_line (inr is) h = inr (subst (λ k. IsAmong k (fault_of rvstm_app words)) is (shown_so (inr is) h))

  pub no_line : (kind_of e ≡ kind.DisplayHelp) ⊎ (kind_of e ≡ kind.DisplayVersion) → HasKind (fault_of rvstm_app words) e → asked_on words ≡ None
  unfolding asked_on
  no_line shown h = among_none (kind_of e) (fault_of rvstm_app words) (requested words) (shown_so shown h)

-- the request that was found on a line without a fault
pub right_found : (words : List Text) (found : Option Request) (request : Request) → found ≡ Some request → fault_of rvstm_app words ≡ [] → option_map asked_by_request found ≡ requested words
    → asked_on words ≡ Some (asked_by_request request)
right_found words found request is none h = right_line words (asked_by_request request) none (subst (λ f. option_map asked_by_request f ≡ requested words) is h)

-- what holds of what was asked for, if nothing was written before
pub at_asked : {O E : Type 0} (P : O → E → Asked → Type 0) (o first : O) (e second : E) (asked : Option Asked) (a : Asked) → first ≡ o → second ≡ e → asked ≡ Some a → P first second a → IfSome asked (P o e)
at_asked P o first e second asked a same kept is h = subst (λ x. IfSome asked (P x e)) same (subst (λ y. IfSome asked (P first y)) kept (rw is h))
