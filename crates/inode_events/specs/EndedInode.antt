-- An inode at the end of a run, as contracts see it.
use Rattle.std.specs.Prelude.{ℕ, List, Option, option_map}
use Rattle.hash_algos.specs.declared.digest.Digest.{Digest}
use Rattle.ima_templates.specs.xattrs.Attrs.{Pair}
use Rattle.inode_events.specs.Files.{execs, readers, writers}
use Rattle.inode_events.specs.Inode.{Inode}
use Rattle.inode_events.specs.Integrity.{attributes, in_force}
use Rattle.inode_events.specs.NewestFirst.{newest_first}
use Rattle.inode_events.specs.declared.told.Event.{Event}

-- its path and journal, and the state that follows from the journal: the digest in force by the
-- algorithm that was chosen for it, the attributes, and the numbers of open files
pub record EndedInodeValue : Type 0 where
  pub path : List ℕ
  pub journal : List Event
  pub force : Option Digest
  pub attrs : List Pair
  pub writers : ℕ
  pub readers : ℕ
  pub execs : ℕ

-- the final state of an inode with this journal
abbrev pub ended_inode : Inode → List Event → EndedInodeValue
ended_inode inode journal = record {
  path = inode.path;
  journal = journal;
  force = option_map (λ f. f.digest) (in_force inode (newest_first journal));
  attrs = attributes inode (newest_first journal);
  writers = writers (newest_first journal);
  readers = readers (newest_first journal);
  execs = execs (newest_first journal);
}
