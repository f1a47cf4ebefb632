use Rattle.session_requests.proofs.Parts.{SeenTo}
use Rattle.session_requests.proofs.fields.first_part.Given as goal

abbrev pub invariant-loop-place : goal.invariant-loop-place
invariant-loop-place l = SeenTo 32 128 l.text l.place
