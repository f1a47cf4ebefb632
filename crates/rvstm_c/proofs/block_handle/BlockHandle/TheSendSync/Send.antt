use denote.Struct.Struct.{exits_of}
use denote.Struct.Owning.{shape, fields, to}
use denote.Param.Send.{IsSend, AllSend, owning_send, struct_send, sendable}
use Rattle.rvstm_c.specs.contracts.block.EmbeddedBlock.{the_row as held_row}
use Rattle.rvstm_c.proofs.block.EmbeddedBlock.TheSendSync.{the_send as sent}
use Rattle.rvstm_c.specs.contracts.block_handle.BlockHandle.{the_row, the_type}
use Rattle.rvstm_c.proofs.Crossing.{held_keyless, quiet}

pub send : IsSend the_row
send =
    let all : AllSend (fields the_type) = (search sendable, (search sendable, tt)) in
    owning_send the_type all (λ d. held_keyless held_row sent d.at d.value)
    (λ k. quiet (to the_type) (exits_of k (fields the_type)) ((struct_send (shape the_type) all).leaving k))
