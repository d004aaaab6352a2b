-- The state of an inode, compared with the journal's definitions.
use Rattle.std.specs.Prelude.{◌≡◌, Bool, ◌||◌, not, List, Option}
use Rattle.inode_events.specs.Inode.{Inode}
use Rattle.inode_events.specs.Integrity as journal
use Rattle.inode_events.specs.State.{metadata}
use Rattle.inode_events.specs.declared.told.Event.{Event}
use Rattle.inode_state.specs.Collecting.{HasAsked, shortened, shorts_seen}
use Rattle.inode_state.specs.Counts.{AreCounts}
use Rattle.inode_state.specs.InForce.{in_force_seen, stale_now}
use Rattle.inode_state.specs.Marks.{AreMarks}
use Rattle.inode_state.specs.Verdicts.{AreVerdicts}
use Rattle.inode_state.specs.Writes.{AreWrites}
use Rattle.inode_state.specs.declared.in_force.InForce.{InForce}
use Rattle.inode_state.specs.declared.marks.Marks.{Marks}
use Rattle.inode_state.specs.declared.state.State.{State}
use Rattle.inode_state.specs.declared.writes.Writes.{Writes}

pub record IsState (inode : Inode) (p : List Event) (s : State) : Type 0 where
  pub counts : AreCounts p s.counts
  pub marks : AreMarks p s.marks
  pub writes : AreWrites p s.writes
  pub meta : s.meta ≡ metadata p
  pub collecting : shorts_seen s.collecting ≡ shortened (journal.collecting inode p)
  pub asked : HasAsked p s.collecting
  pub in_force : in_force_seen s.in_force ≡ journal.in_force inode p
  pub verdicts : AreVerdicts inode p s.verdicts.kept.items

-- whether the content would count as changed if the last writer closed now
abbrev pub changed_now : Marks → Writes → Option InForce → Bool
changed_now m w f = m.new || not m.versions || stale_now f w.last
