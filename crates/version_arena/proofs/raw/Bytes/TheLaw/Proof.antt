-- A `&` to the bytes reaches each written one. Assumes `Logic`.
use denote.Struct.Lending.{of_Lends}
use Rattle.version_arena.specs.contracts.raw.Bytes as B
use Rattle.version_arena.proofs.raw.Bytes.TheLaw.Statement.{statement}
use Rattle.version_arena.proofs.Sharing.{bytes_lent_laws, Lends-bytes}

pub shares : statement
shares = of_Lends B.struct B.the_codes B.the_heap B.the_lent (λ d p. bytes_lent_laws d.at d.bytes d.room) tt (λ M 𝓤 𝓛 d p. Lends-bytes 𝓛 B.the_row.lives d.at d.bytes d.room)
