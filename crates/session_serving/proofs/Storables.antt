-- What keeps a session can have what is pending of a request.
use Rattle.std.proofs.Common.{◌≡◌, refl, subst}
use Rattle.session_requests.specs.Requests.{Ask, Last, Begin}
use Rattle.session_requests.specs.declared.request.Request.{Request}
use Rattle.session_requests.specs.declared.request.Request.TheVariants as one
use Rattle.session_requests.specs.Reading.{ask_of}
use Rattle.session_serving.specs.Asking.{AsksPending}
use Rattle.session_turns.specs.Pending.{IsPendingDue, IsPending, IsUndone}
use Rattle.session_turns.specs.declared.answer.Answer.{Answer}
use Rattle.session_turns.specs.declared.pending.Pending.{Pending}
use Rattle.session_turns.specs.declared.pending.Pending.TheVariants as pending
use Rattle.session_turns.specs.declared.settings.Settings.{Settings}
use Rattle.session_turns.specs.declared.state.State.{State}

-- an answer that reports no change is due
pub undone_due : (s : State) (ask : Ask) (given : Answer) → IsUndone given → IsPendingDue s ask (pending.Nothing given)
undone_due s (Begin height digest bytes) given h = h
undone_due s ask given h = tt

-- what does not ask for the last answer is no `last`
pub no_last : (request : Request) → (request ≡ one.Last → ⊥) → ask_of request ≡ Last → ⊥
no_last one.Last other e = other refl
no_last request other e = cc

-- what asks for what is pending, of the state that a session has
pub asks_at : (settings : Settings) (s t : State) (ask : Ask) (p : Pending) → s ≡ t → IsPending settings s ask p → IsPendingDue s ask p → (ask ≡ Last → ⊥) → AsksPending settings t ask p
asks_at settings s t ask p same is due other = subst (λ (z : State). AsksPending settings z ask p) same (record { pending = is; due = due; other = other })
