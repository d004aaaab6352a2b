-- What the examples share: files, the events of tasks on them, and entries of the measurement list.
use Rattle.std.specs.Prelude.{ℕ, Bool, true, List, [], ◌∷◌, codes, Some, None, false, refl}
use Rattle.inode_events.specs.Inode.{Inode, nobody}
use Rattle.inode_events.specs.declared.deed.Deed.{Deed}
use Rattle.inode_events.specs.declared.deed.Deed.TheVariants as deed
use Rattle.inode_events.specs.declared.deed.How.TheVariants as how
use Rattle.inode_events.specs.declared.image.Image.{Image}
use Rattle.inode_events.specs.declared.settings.Settings.{Settings}
use Rattle.inode_events.specs.declared.told.Event.{Event}
use Rattle.inode_events.specs.declared.told.Told.{Told}
use Rattle.inode_events.specs.declared.told.Told.TheVariants as told
use Rattle.inode_events.specs.hashes.Digest.{digest_of, zero_digest}
use Rattle.inode_events.specs.hashes.declared.algo.Algo.TheVariants.{Sha256}
use Rattle.inode_events.specs.meta.declared.appraisal.Mode.{Mode}
use Rattle.inode_events.specs.meta.declared.appraisal.Mode.TheVariants.{Enforce, Off}
use Rattle.inode_events.specs.meta.declared.identity.Meta.{Meta}
use Rattle.inode_events.specs.meta.declared.measurement.Template.TheVariants.{ImaNg}
use Rattle.inode_events.specs.meta.declared.step.Who.{Who}
use Rattle.inode_events.specs.Checks.{no_action}
use Rattle.inode_events.specs.policy.declared.access.Action.{Action}
use Rattle.inode_events.specs.policy.declared.rule.Func.TheVariants.{FileCheck}
use Rattle.inode_events.specs.templates.declared.entry.Entry.{Entry}
use Rattle.inode_events.specs.templates.declared.entry.Placed.{Placed}

-- ---- files

-- the bytes `abc`
abbrev pub abc : List ℕ
abc = 97 ∷ 98 ∷ 99 ∷ []

-- the bytes `Xbc`
abbrev pub xbc : List ℕ
xbc = 88 ∷ 98 ∷ 99 ∷ []

-- the settings of a script without a key
abbrev pub settings : Mode → Settings
settings mode = record {
  hash = Sha256;
  template = ImaNg;
  mode = mode;
  evm = record { key = None; added = []; format = 1 };
  for_files = refl;
}

-- the metadata of the files
abbrev pub meta : Meta
meta = record { ino = 12; generation = 1; uid = 0; gid = 0; mode = 33188; place = 1 }

-- an inode without attributes, on a file system that counts changes
abbrev pub image : Bool → List ℕ → Image
image present content =
    record { present = present; content = content; attrs = []; meta = meta; versions = true }

-- the inode at this path, with the content `abc`
abbrev pub inode_at : Mode → List ℕ → Inode
inode_at mode path = record { path = path; settings = settings mode; birth = image true abc }

-- the file /a of a script in mode off
abbrev pub file_a : Inode
file_a = inode_at Off (codes "/a")

-- the file /b of that script
abbrev pub file_b : Inode
file_b = inode_at Off (codes "/b")

-- the file /a of a script in mode enforce
abbrev pub enforced : Inode
enforced = inode_at Enforce (codes "/a")

-- ---- events

-- a step of a task, by the numbers of its call and of the step
abbrev pub who : ℕ → ℕ → ℕ → Who
who task call step = record { task = task; call = call; step = step }

-- the event of a task, in one of its calls
abbrev pub did : ℕ → ℕ → ℕ → Deed → Told → Event
did task call step d t = record { who = who task call step; deed = d; told = t }

-- a journal, newest event first, with these events after it, oldest first
abbrev pub onto : List Event → List Event → List Event
onto before [] = before
onto before (e ∷ rest) = onto (e ∷ before) rest

-- the first event of the journal
abbrev pub birth : Inode → Event
birth inode = record { who = nobody; deed = deed.Birth; told = told.Image inode.birth }

-- the journal of the inode, newest event first, by its events since its birth, oldest first
abbrev pub journal : Inode → List Event → List Event
journal inode events = onto (birth inode ∷ []) events

-- the action of a rule `measure`
abbrev pub measure : Action
measure = record no_action { measure = true }

-- the action of a rule `appraise`
abbrev pub appraise : Action
appraise = record no_action { appraise = true }

-- the outcome of a take or finish that measures
abbrev pub granted : Placed → Told
granted placed =
    told.Grant (record { placed = Some placed; verdict = None; admitted = true; labelled = false })

-- a task opens a file for reading, and the file is hashed: its file, the action of its check, and
-- the outcome of its finish
abbrev pub hashing_open : ℕ → ℕ → ℕ → Action → Told → List Event
hashing_open task call file action outcome =
    did task call 0 (deed.Count (how.Read false)) told.Held
    ∷ did task call 1 (deed.Check file FileCheck action 1) told.Quiet
    ∷ did task call 2 (deed.Take file) told.Begun ∷ did task call 3 (deed.Chunk file) told.Last
    ∷ did task call 4 (deed.Finish file) outcome ∷ []

-- a task opens a file for writing, and no rule concerns it
abbrev pub writing_open : ℕ → ℕ → ℕ → Told → List Event
writing_open task call file outcome =
    did task call 0 (deed.Count (how.Write false false)) told.Held
    ∷ did task call 1 (deed.Check file FileCheck no_action 1) outcome ∷ []

-- ---- entries

-- the boot aggregate of a machine without a TPM
abbrev pub boot : Entry
boot = record {
  pcr = 10;
  template = ImaNg;
  digest = zero_digest Sha256;
  name = codes "boot_aggregate";
  sig = [];
  violation = false;
}

-- the entry of the content `abc` at /a
abbrev pub entry : Entry
entry = record {
  pcr = 10;
  template = ImaNg;
  digest = digest_of Sha256 abc;
  name = codes "/a";
  sig = [];
  violation = false;
}
