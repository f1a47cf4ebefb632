-- The reads of one run, as a set keeps them; only private functions use this.
use Rattle.std.specs.Prelude.{List}
use Rattle.read_set.specs.declared.Read.{Read}
use Rattle.read_set.specs.declared.items.Items.{Items}
use Rattle.read_set.specs.declared.items.Items.TheVariants.{One, Two, Many}

-- the reads, in order
abbrev pub reads_of : Items → List Read
reads_of (One reads) = reads
reads_of (Two reads) = reads
reads_of (Many reads) = reads.items
