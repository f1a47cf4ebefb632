-- Private help of proofs: no public clause cites it.
use Rattle.block_file.specs.declared.reader.Reader.{Reader}
use Rattle.block_file.specs.Block.{Parsed, block_value}

-- what a `Reader` has seen
abbrev pub parsed : Reader → Parsed
parsed reader = record { block = record (block_value reader.text) { store = reader.stored }; last = reader.last }
