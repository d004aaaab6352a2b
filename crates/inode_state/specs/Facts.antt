-- What the caller of an event knows of the journal before it.
use Rattle.std.specs.Prelude.{◌≡◌, false, List, None}
use Rattle.hash_algos.specs.declared.algo.Algo.TheVariants.{Sha1}
use Rattle.inode_events.specs.Inode.{Inode}
use Rattle.inode_events.specs.declared.told.Event.{Event}
use Rattle.inode_state.specs.Collecting.{Asks, Chooses}
use Rattle.inode_state.specs.Counts.{how_dropped}
use Rattle.inode_state.specs.InForce.{AreSums}
use Rattle.inode_state.specs.Marks.{writes_named}
use Rattle.inode_state.specs.declared.facts.Facts.{Facts}

pub record AreFacts (inode : Inode) (p : List Event) (e : Event) (k : Facts) : Type 0 where
  pub gone : k.gone ≡ how_dropped e p
  pub writing : k.writing ≡ writes_named e.deed p
  pub algo : Chooses inode e.deed p k.algo
  pub asked : Asks e.deed p k.asked
  pub sums : AreSums inode e.deed p k.sums

-- no facts, for an event that needs none
abbrev pub no_facts : Facts
no_facts = record { gone = None; writing = false; algo = Sha1; asked = None; sums = None }
