-- The marks, compared with the journal's definitions.
use Rattle.std.specs.Prelude.{◌≡◌, Bool, false, ◌&&◌, ◌||◌, List}
use Rattle.inode_events.specs.Files.{is_writing}
use Rattle.inode_events.specs.Marks.{is_passed, must_measure, update}
use Rattle.inode_events.specs.State.{new, present, versions}
use Rattle.inode_events.specs.declared.deed.Deed.{Deed}
use Rattle.inode_events.specs.declared.deed.Deed.TheVariants as deed
use Rattle.inode_events.specs.declared.told.Event.{Event}
use Rattle.inode_events.specs.declared.told.Grant.{Grant}
use Rattle.inode_state.specs.declared.marks.Marks.{Marks}

pub record AreMarks (p : List Event) (m : Marks) : Type 0 where
  pub present : m.present ≡ present p
  pub new : m.new ≡ new p
  pub must_measure : m.must_measure ≡ must_measure p
  pub update : m.update ≡ update p
  pub versions : m.versions ≡ versions p

-- whether the file that the deed checks or grants is open for writing
abbrev pub writes_named : Deed → List Event → Bool
writes_named (deed.Check file func action rules) p = is_writing file p
writes_named (deed.Take file) p = is_writing file p
writes_named (deed.Finish file) p = is_writing file p
writes_named _ p = false

abbrev pub earned : Grant → Bool → Bool
earned grant writing = writing && (is_passed grant.verdict || grant.labelled)
