-- What a call on a handle does.
use Rattle.std.proofs.Common.{◌≡◌, ℕ, Option, Some, subst}
use Rattle.rvstm_c.specs.Embedding.{OnSession}
use Rattle.rvstm_c.specs.Blocks.{BlockView, OnBlock, block_view}
use Rattle.rvstm_c.specs.declared.block.EmbeddedBlock.{EmbeddedBlock}
use Rattle.rvstm_c.specs.declared.session.EmbeddedSession.{EmbeddedSession}

-- a call on the session that a handle had, which it then has again
pub on_session : (call : EmbeddedSession → ℕ → EmbeddedSession → Type 0) (old new : Option EmbeddedSession) (before session : EmbeddedSession) (status : ℕ) → Some before ≡ old → new ≡ Some session → call before status session → OnSession call old status new
on_session call old new before session status had has h = subst (λ o. OnSession call o status new) had (session, has, h)

-- the same on the block of a handle
pub on_block : (call : BlockView → ℕ → BlockView → Type 0) (old new : Option EmbeddedBlock) (before block : EmbeddedBlock) (status : ℕ) → Some before ≡ old → new ≡ Some block → call (block_view before) status (block_view block) → OnBlock call old status new
on_block call old new before block status had has h = subst (λ o. OnBlock call o status new) had (block, has, h)
