-- The deeds that take a piece of the open collection.
use Rattle.inode_events.specs.declared.deed.Deed.{Deed}
use Rattle.inode_events.specs.declared.deed.Deed.TheVariants as deed

abbrev pub IsPieceDeed : Deed → Type 0
IsPieceDeed (deed.Chunk file) = Unit {0}
IsPieceDeed (deed.CloseChunk file) = Unit {0}
IsPieceDeed _ = ⊥
