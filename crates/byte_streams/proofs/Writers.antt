-- What a `Destination` says of itself, from the two records that a proof has.
use Rattle.std.specs.declared.io.traits.Write as write
use Rattle.byte_streams.specs.declared.destination.Destination.{Ghosts}
use Rattle.byte_streams.specs.Written.{Writer}

abbrev pub writer_of : {S : Type 0} → write.Ghosts S → Ghosts S → Writer S
writer_of bytes to = record { contents = bytes.contents; may_refuse = to.may_refuse; is_flushed = to.is_flushed }
