-- The groups of deeds, by whether they consult the measurement list and belong to a collection.
use Rattle.std.proofs.Common.{◌≡◌, true, false}
use Rattle.inode_events.specs.declared.deed.Deed.{Deed}
use Rattle.inode_events.specs.declared.deed.Deed.TheVariants as deed
use Rattle.task_steps.specs.Hashed.{IsAloneDeed, IsCollectingDeed, IsPlainDeed, goes_on}

pub collects : (d : Deed) → goes_on d ≡ true → IsCollectingDeed d
collects (deed.Chunk file) e = tt
collects (deed.CloseTake file) e = tt
collects (deed.CloseChunk file) e = tt
collects (deed.CloseFinish file) e = tt
collects d e = absurd (cc)

pub is_plain : (d : Deed) → goes_on d ≡ false → IsAloneDeed d → IsPlainDeed d
is_plain (deed.Chunk file) e a = absurd (cc)
is_plain (deed.CloseTake file) e a = absurd (cc)
is_plain (deed.CloseChunk file) e a = absurd (cc)
is_plain (deed.CloseFinish file) e a = absurd (cc)
is_plain (deed.Check file func action rules) e a = a
is_plain (deed.Take file) e a = a
is_plain (deed.Finish file) e a = a
is_plain d e a = tt
