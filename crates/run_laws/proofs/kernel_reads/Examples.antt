-- The kernel reads a module, turn by turn. Digests are left unevaluated.
use Rattle.std.proofs.Common.{◌≡◌, ℕ, false, List, [], ◌∷◌, Option, Some, None, refl, ap, ◌∙◌}
use Rattle.call_steps.specs.declared.ask.Ask.TheVariants as ask
use Rattle.call_steps.specs.declared.call.Call.TheVariants as call
use Rattle.call_steps.specs.declared.reply.Reply.TheVariants as reply
use Rattle.call_steps.specs.hashes.Digest.{digest_of}
use Rattle.call_steps.specs.hashes.declared.algo.Algo.TheVariants.{Sha256}
use Rattle.call_steps.specs.templates.Same.{add_by, place_of_same, placed_by}
use Rattle.call_steps.specs.templates.declared.entry.Placed.TheVariants.{Added}
use Rattle.inode_events.specs.Inode.{nobody}
use Rattle.inode_events.specs.NewestFirst.{newest_first}
use Rattle.inode_events.specs.declared.deed.Deed.TheVariants as deed
use Rattle.inode_events.specs.declared.deed.How.TheVariants as how
use Rattle.inode_events.specs.declared.told.Event.{Event}
use Rattle.inode_events.specs.declared.told.Told.TheVariants as told
use Rattle.inode_events.specs.policy.declared.rule.Func.TheVariants.{ModuleCheck}
use Rattle.run_model.specs.History.{Position}
use Rattle.run_model.specs.Scene.{Program, Scene}
use Rattle.run_model.specs.Turns.{Moment, start_of, turn, turns_of}
use Rattle.run_model.proofs.Rows.{boot, did, entry, granted, image, measure, moment, root, rule, scene_with, who}
use Rattle.run_model.proofs.Whole.{entry_is_new}
use Rattle.run_laws.specs.kernel_reads.Reads.{place_of_call}

-- ---- a module that is measured

-- `measure func=MODULE_CHECK mask=MAY_READ`, and tasks with these programs
abbrev modules : List Program → Scene
modules programs = record (scene_with programs) {
  rules = record rule { func = Some ModuleCheck } ∷ [];
}

-- a task that has the kernel read a module
abbrev loader : Program
loader = record { cred = root; calls = call.Module 0 ∷ [] }

-- the scene of that task alone
abbrev one : Scene
one = modules (loader ∷ [])

abbrev counted : List Event
counted =
    did nobody deed.Birth (told.Image image)
    ∷ did (who 0 0 0) (deed.Count how.Exec) told.Held
    ∷ []

-- the events up to the collection's last piece
abbrev hashed : List Event
hashed =
    did nobody deed.Birth (told.Image image)
    ∷ did (who 0 0 0) (deed.Count how.Exec) told.Held
    ∷ did (who 0 0 1) (deed.Check 1 ModuleCheck measure 1) told.Quiet
    ∷ did (who 0 0 2) (deed.Take 1) told.Begun
    ∷ did (who 0 0 3) (deed.Chunk 1) told.Last
    ∷ []

-- the task before the collection ends
abbrev finishing : Position
finishing = record {
  call_state = record {
    at = 0;
    progress = Some (record {
      due = record { ask = ask.Finish; reply = reply.Done };
      step = 4;
      inode = 0;
      file = 1;
      how = how.Exec;
    });
    handles = [];
  };
  replies = [];
}

-- the first four turns
hashes : turns_of one (start_of one) (0 ∷ 0 ∷ 0 ∷ 0 ∷ []) ≡ moment hashed (boot ∷ [])
    (finishing ∷ [])
unfolding newest_first
hashes = refl

-- the task before the kernel reads the content
abbrev reading : Position
reading = record {
  call_state = record {
    at = 0;
    progress = Some (record {
      due = record { ask = ask.Read 0 262144; reply = reply.Done };
      step = 5;
      inode = 0;
      file = 1;
      how = how.Exec;
    });
    handles = [];
  };
  replies = [];
}

-- the events up to the grant, given where the entry is in the list
abbrev granted_at : Option ℕ → List Event
granted_at at =
    did nobody deed.Birth (told.Image image)
    ∷ did (who 0 0 0) (deed.Count how.Exec) told.Held
    ∷ did (who 0 0 1) (deed.Check 1 ModuleCheck measure 1) told.Quiet
    ∷ did (who 0 0 2) (deed.Take 1) told.Begun
    ∷ did (who 0 0 3) (deed.Chunk 1) told.Last
    ∷ did (who 0 0 4) (deed.Finish 1) (granted (placed_by at 1))
    ∷ []

-- the moment after the grant
abbrev finished : Option ℕ → Moment
finished at = moment (granted_at at) (add_by at (boot ∷ []) entry) (reading ∷ [])

-- the fifth turn
finishes : turn one (moment hashed (boot ∷ []) (finishing ∷ [])) 0
    ≡ finished (place_of_same (boot ∷ []) entry)
unfolding newest_first
finishes = refl

-- all events of the call
abbrev loaded : List Event
loaded =
    did nobody deed.Birth (told.Image image)
    ∷ did (who 0 0 0) (deed.Count how.Exec) told.Held
    ∷ did (who 0 0 1) (deed.Check 1 ModuleCheck measure 1) told.Quiet
    ∷ did (who 0 0 2) (deed.Take 1) told.Begun
    ∷ did (who 0 0 3) (deed.Chunk 1) told.Last
    ∷ did (who 0 0 4) (deed.Finish 1) (granted (Added 1))
    ∷ did (who 0 0 5) (deed.Read 1 0 262144) (told.Read 3 (digest_of Sha256 image.content))
    ∷ did (who 0 0 6) (deed.Close 1) told.Dropped
    ∷ []

-- the task when the call is answered
abbrev answered : Position
answered = record {
  call_state = record { at = 1; progress = None; handles = [] };
  replies = reply.Bytes 3 (digest_of Sha256 image.content) ∷ [];
}

-- the last two turns
closes : turns_of one (finished None) (0 ∷ 0 ∷ [])
    ≡ moment loaded (boot ∷ entry ∷ []) (answered ∷ [])
unfolding newest_first
closes = refl

-- the module is counted as an execution, measured, read whole and closed
pub module_is_read : turns_of one (start_of one) (0 ∷ 0 ∷ 0 ∷ 0 ∷ 0 ∷ 0 ∷ 0 ∷ [])
    ≡ moment loaded (boot ∷ entry ∷ []) (answered ∷ [])
module_is_read =
    ap (λ m. turns_of one m (0 ∷ 0 ∷ 0 ∷ [])) hashes
    ∙ ap (λ m. turns_of one m (0 ∷ 0 ∷ [])) (finishes ∙ ap finished entry_is_new) ∙ closes

-- its place is the one of its own grant; other calls have none, nor has the birth
place_is_own : place_of_call 0 0 loaded ≡ Some (Added 1)
place_is_own = refl

-- another task's call has none
other_task : place_of_call 1 0 loaded ≡ None
other_task = refl

-- and nor has another call of the task
other_call : place_of_call 0 1 loaded ≡ None
other_call = refl

-- ---- a module and a writer

-- a task that opens the file for writing
abbrev writer : Program
writer = record { cred = root; calls = call.Open 0 0 (how.Write false false) false ∷ [] }

-- the scene of the two tasks
abbrev both : Scene
both = modules (loader ∷ writer ∷ [])

-- the first task when its file is counted
abbrev checking : Position
checking = record {
  call_state = record {
    at = 0;
    progress = Some (record {
      due = record { ask = ask.Check ModuleCheck 4; reply = reply.Done };
      step = 1;
      inode = 0;
      file = 1;
      how = how.Exec;
    });
    handles = [];
  };
  replies = [];
}

-- the second task when its open is refused
abbrev refused : Position
refused =
    record {
      call_state = record { at = 1; progress = None; handles = [] };
      replies = reply.TextBusy ∷ [];
    }

-- while the kernel reads a module, an open for writing is refused
writer_is_refused : turns_of both (start_of both) (0 ∷ 1 ∷ [])
    ≡ moment (
    did nobody deed.Birth (told.Image image)
    ∷ did (who 0 0 0) (deed.Count how.Exec) told.Held
    ∷ did (who 1 0 0) (deed.Count (how.Write false false)) told.TextBusy
    ∷ []
    ) (boot ∷ []) (checking ∷ refused ∷ [])
unfolding newest_first
writer_is_refused = refl

-- a module that is open for writing isn't read
writer_refuses : (turns_of both (start_of both) (1 ∷ 0 ∷ [])).state.journals
    ≡ (
    did nobody deed.Birth (told.Image image)
    ∷ did (who 1 0 0) (deed.Count (how.Write false false)) told.Held
    ∷ did (who 0 0 0) (deed.Count how.Exec) told.TextBusy
    ∷ []
    ) ∷ []
unfolding newest_first
writer_refuses = refl
