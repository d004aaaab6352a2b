-- What a task holds after its calls: the run that an exec makes, and a second file.
use Rattle.std.specs.Prelude.{◌≡◌, ℕ, false, List, [], ◌∷◌, Some}
use Rattle.inode_events.specs.declared.deed.Deed.TheVariants as deed
use Rattle.inode_events.specs.declared.deed.How.{How}
use Rattle.inode_events.specs.declared.deed.How.TheVariants as how
use Rattle.inode_events.specs.declared.told.Told.TheVariants as told
use Rattle.inode_events.specs.hashes.DigestValue.{DigestValue}
use Rattle.inode_events.specs.hashes.Digest.{zero_digest}
use Rattle.inode_events.specs.hashes.declared.algo.Algo.TheVariants.{Sha256}
use Rattle.inode_events.specs.meta.declared.appraisal.Mode.TheVariants.{Off}
use Rattle.run_laws.specs.model.History.{Answer, plain_answer, position, step_at}
use Rattle.run_laws.specs.model.Scene.{Program}
use Rattle.run_laws.specs.model.steps.Handles.{hand_of}
use Rattle.run_laws.specs.model.steps.CallState.{Does}
use Rattle.run_laws.specs.model.steps.Steps.{first}
use Rattle.run_laws.specs.model.steps.declared.ask.Ask.TheVariants as ask
use Rattle.run_laws.specs.model.steps.declared.call.Call.TheVariants as call
use Rattle.run_laws.specs.model.steps.declared.held.Handle.{Handle}
use Rattle.run_laws.specs.model.steps.declared.held.Name.{Name}
use Rattle.run_laws.specs.model.steps.declared.held.Name.TheVariants.{Descriptor, Run}
use Rattle.run_laws.specs.model.steps.declared.reply.Reply.TheVariants as reply
use Rattle.worked_examples.specs.Served.{task}

-- a file that was counted at this place of an inode's journal, under a name
abbrev pub handle : Name → ℕ → ℕ → How → Handle
handle name inode file counted =
    record { name = name; inode = inode; file = file; how = counted }

-- the digest of what an exec reads
abbrev pub digest : DigestValue
digest = zero_digest Sha256

-- `exec 7 /a`, and then its end
abbrev pub executing : Program
executing = task (call.Exec 7 0 ∷ call.Endexec 7 ∷ [])

-- the answers to the exec: counted at 3, checked, read
abbrev pub executed : List Answer
executed = plain_answer 5 (told.Read 3 digest) ∷ plain_answer 4 told.Quiet
    ∷ plain_answer 3 told.Held ∷ []

-- a task that opens two files, and then reads through the second
abbrev pub opening_two : Program
opening_two = task (call.Open 0 0 (how.Read false) false ∷ call.Open 1 0 (how.Read false) false
    ∷ call.Read 1 0 2 ∷ [])

-- the answers to the two opens: the files are counted at 1 and at 5
abbrev pub opened_two : List Answer
opened_two = plain_answer 6 told.Quiet ∷ plain_answer 5 told.Held
    ∷ plain_answer 2 told.Quiet ∷ plain_answer 1 told.Held ∷ []

-- two files of one inode
abbrev pub of_one_inode : List Handle
of_one_inode = handle (Descriptor 0) 0 1 (how.Read false)
    ∷ handle (Descriptor 1) 0 5 (how.Read false) ∷ []

-- the files of two inodes that were counted at the same place
abbrev pub of_two_inodes : List Handle
of_two_inodes = handle (Descriptor 0) 0 1 (how.Read false)
    ∷ handle (Descriptor 1) 1 1 (how.Read false) ∷ []

-- what the task holds, and what it does next
pub record CallExamples : Type 0 where
  -- an exec makes a run, which its end names
  pub run_made : (position Off executing executed).call_state.handles
      ≡ handle (Run 7) 0 3 how.Exec ∷ []
  pub run_read : (position Off executing executed).replies ≡ reply.Bytes 3 digest ∷ []
  pub run_ended : step_at executing (position Off executing executed).call_state
      ≡ Some (Does 0 (deed.Close 3))
  -- a second file has a name and a place of its own
  pub two_held : (position Off opening_two opened_two).call_state.handles ≡ of_one_inode
  pub second_read : step_at opening_two (position Off opening_two opened_two).call_state
      ≡ Some (Does 0 (deed.Read 5 0 2))
  -- each of two files is closed with its only name
  pub one_inode : (first (call.Close 0) (hand_of false of_one_inode (call.Close 0))).ask
      ≡ ask.Close
  pub two_inodes : (first (call.Close 1) (hand_of false of_two_inodes (call.Close 1))).ask
      ≡ ask.Close
