-- Trails of small runs. Digests are left unevaluated.
use Rattle.std.proofs.Common.{◌≡◌, ℕ, true, false, List, [], ◌∷◌, ◌++◌, map, codes, Some, None, refl}
use Rattle.std.specs.List.{join_with_byte}
use Rattle.report_text.specs.Numerals.{numeral}
use Rattle.world_model.specs.model.Scene.{Program, ScriptFile}
use Rattle.world_model.specs.model.events.Checks.{no_action}
use Rattle.world_model.specs.model.events.EndedInode.{EndedInodeValue}
use Rattle.world_model.specs.model.events.Inode.{nobody}
use Rattle.world_model.specs.model.events.NewestFirst.{newest_first}
use Rattle.world_model.specs.model.events.declared.deed.Change.TheVariants as change
use Rattle.world_model.specs.model.events.declared.deed.Deed.{Deed}
use Rattle.world_model.specs.model.events.declared.deed.Deed.TheVariants as deed
use Rattle.world_model.specs.model.events.declared.deed.How.TheVariants as how
use Rattle.world_model.specs.model.events.declared.image.Image.{Image}
use Rattle.world_model.specs.model.events.declared.settings.Settings.{Settings}
use Rattle.world_model.specs.model.events.declared.told.Event.{Event}
use Rattle.world_model.specs.model.events.declared.told.Told.{Told}
use Rattle.world_model.specs.model.events.declared.told.Told.TheVariants as told
use Rattle.world_model.specs.model.events.hashes.Digest.{digest_of}
use Rattle.world_model.specs.model.events.hashes.declared.algo.Algo.TheVariants.{Md5, Sha256, Sha384}
use Rattle.world_model.specs.model.events.meta.declared.appraisal.Mode.TheVariants as mode
use Rattle.world_model.specs.model.events.meta.declared.appraisal.Need.TheVariants as need
use Rattle.world_model.specs.model.events.meta.declared.identity.Cred.{Cred}
use Rattle.world_model.specs.model.events.meta.declared.measurement.Template.TheVariants as template
use Rattle.world_model.specs.model.policy.RuleValue.{RuleValue}
use Rattle.world_model.specs.model.policy.declared.rule.Act.{Act}
use Rattle.world_model.specs.model.policy.declared.rule.Act.TheVariants as act
use Rattle.world_model.specs.model.policy.declared.rule.Func.{Func}
use Rattle.world_model.specs.model.policy.declared.rule.Func.TheVariants as func
use Rattle.world_model.specs.model.policy.declared.rule.IdTest.TheVariants.{Is}
use Rattle.world_model.specs.model.steps.declared.call.Call.TheVariants as call
use Rattle.audit_trail.specs.Trail.{all_lines, digest_word, label_word, trail_lines}

-- ---- the script

abbrev settings : Settings
settings = record {
  hash = Sha256;
  template = template.ImaNg;
  mode = mode.Fix;
  evm = record { key = None; added = []; format = 1 };
  for_files = refl;
}

abbrev abc : List ℕ
abc = codes "abc"

abbrev image : Image
image = record {
  present = true;
  content = abc;
  attrs = [];
  meta = record { ino = 12; generation = 1; uid = 0; gid = 0; mode = 33188; place = 1 };
  versions = true;
}

-- a file of this path
abbrev script_file : List ℕ → ScriptFile
script_file path = record {
  path = path;
  birth = image;
  place = record { magic = 0xef53; uuid = 1; name = codes "ext4"; versions = true };
}

-- a line with only an action
abbrev line : Act → RuleValue
line act = record {
  act = act;
  func = None;
  mask = None;
  fsmagic = None;
  fsuuid = None;
  fsname = None;
  uid = None;
  euid = None;
  gid = None;
  egid = None;
  fowner = None;
  fgroup = None;
  need = need.Any;
  blacklist = false;
  algos = None;
  directio = false;
  pcr = None;
  template = None;
}

abbrev root : Cred
root = record { uid = 0; euid = 0; gid = 0; egid = 0; admin = false }

-- the task opens for reading, opens for reading and writing, and maps for execution
abbrev programs : List Program
programs = record {
  cred = root;
  calls = call.Open 0 0 (how.Read false) false ∷ call.Open 1 0 (how.Write true false) false
      ∷ call.Mmap 0 0 true ∷ [];
} ∷ []

-- ---- what happens

-- an event of a step of the task's call
abbrev did : ℕ → ℕ → Deed → Told → Event
did call step d t =
    record { who = record { task = 0; call = call; step = step }; deed = d; told = t }

abbrev born : Event
born = record { who = nobody; deed = deed.Birth; told = told.Image image }

abbrev counted : Event
counted = did 0 0 (deed.Count (how.Read false)) told.Held

-- a check by the first n rules
abbrev checked : ℕ → ℕ → Func → ℕ → Event
checked call step func n = did call step (deed.Check 1 func no_action n) told.Quiet

-- an inode with this journal
abbrev inode : List Event → EndedInodeValue
inode journal = record {
  path = [];
  journal = journal;
  force = None;
  attrs = [];
  writers = 0;
  readers = 0;
  execs = 0;
}

-- the trail of these journals, of the files `/a` and `/b`
abbrev trail : List RuleValue → List (List Event) → List (List ℕ)
trail rules journals =
    map (join_with_byte 32) (trail_lines (all_lines programs rules settings
    (script_file (codes "/a") ∷ script_file (codes "/b") ∷ []) 0 (map inode journals)))

-- ---- one check

-- the line is the first that matches of its family, here the second of all
audited : trail (line act.Measure ∷ record (line act.Audit) { func = Some func.FileCheck } ∷ [])
    ((born ∷ counted ∷ checked 0 1 func.FileCheck 2 ∷ []) ∷ [])
    ≡ codes "trail 1"
    ∷ (codes "audit 0.2 0.0.1 line 1 /a " ++ digest_word (digest_of Sha256 abc))
    ∷ codes "end" ∷ []
unfolding newest_first numeral
audited = refl

-- a `dont_` line that matches first asks for nothing, whatever follows
not_audited : trail (record (line act.DontAudit) { uid = Some (Is 0) } ∷ line act.Audit ∷ [])
    ((born ∷ counted ∷ checked 0 1 func.FileCheck 2 ∷ []) ∷ []) ≡ codes "trail 0" ∷ codes "end" ∷ []
unfolding newest_first numeral
not_audited = refl

-- the family `hash` shows the label
hashed : trail (line act.Hash ∷ []) ((born ∷ counted ∷ checked 0 1 func.FileCheck 1 ∷ []) ∷ [])
    ≡ codes "trail 1" ∷ (codes "hash 0.2 0.0.1 line 0 /a " ++ label_word (digest_of Sha256 abc))
    ∷ codes "end" ∷ []
unfolding newest_first numeral
hashed = refl

-- both families, `audit` first; the others' lines make no records
both : trail (line act.Hash ∷ line act.Appraise ∷ line act.Audit ∷ [])
    ((born ∷ counted ∷ checked 0 1 func.FileCheck 3 ∷ []) ∷ [])
    ≡ codes "trail 2"
    ∷ (codes "audit 0.2 0.0.1 line 2 /a " ++ digest_word (digest_of Sha256 abc))
    ∷ (codes "hash 0.2 0.0.1 line 0 /a " ++ label_word (digest_of Sha256 abc))
    ∷ codes "end" ∷ []
unfolding newest_first numeral
both = refl

-- the mask is that of the step's call: `mask=MAY_READ` for the first, both bits for the second,
-- and an execution for the third
by_mask : trail
    (record (line act.Audit) { mask = Some (record { exact = true; bits = 4 }) }
    ∷ record (line act.Audit) { mask = Some (record { exact = false; bits = 2 }) }
    ∷ record (line act.Hash) { mask = Some (record { exact = true; bits = 1 }) } ∷ [])
    ((born ∷ checked 0 1 func.FileCheck 3 ∷ checked 1 1 func.FileCheck 3
    ∷ checked 2 0 func.MmapCheck 3 ∷ []) ∷ [])
    ≡ codes "trail 3"
    ∷ (codes "audit 0.1 0.0.1 line 0 /a " ++ digest_word (digest_of Sha256 abc))
    ∷ (codes "audit 0.2 0.1.1 line 1 /a " ++ digest_word (digest_of Sha256 abc))
    ∷ (codes "hash 0.3 0.2.0 line 2 /a " ++ label_word (digest_of Sha256 abc))
    ∷ codes "end" ∷ []
unfolding newest_first numeral
by_mask = refl

-- a step of a task or of a call that the script doesn't have makes no record
unasked : trail (line act.Audit ∷ [])
    ((born ∷ checked 3 1 func.FileCheck 1
    ∷ record {
      who = record { task = 1; call = 0; step = 1 };
      deed = deed.Check 1 func.FileCheck no_action 1;
      told = told.Quiet;
    } ∷ []) ∷ []) ≡ codes "trail 0" ∷ codes "end" ∷ []
unfolding newest_first numeral
unasked = refl

-- ---- what changes between two checks

-- the content: each digest is that of the content at its check
rewritten : trail (line act.Audit ∷ [])
    ((born ∷ checked 0 1 func.FileCheck 1 ∷ did 1 2 (deed.Write 1 1 (codes "x")) told.Done
    ∷ checked 0 1 func.FileCheck 1 ∷ did 1 3 (deed.Trunc 1 0) told.Done ∷ []) ∷ [])
    ≡ codes "trail 2"
    ∷ (codes "audit 0.1 0.0.1 line 0 /a " ++ digest_word (digest_of Sha256 abc))
    ∷ (codes "audit 0.3 0.0.1 line 0 /a " ++ digest_word (digest_of Sha256 (codes "axc")))
    ∷ codes "end" ∷ []
unfolding newest_first numeral
rewritten = refl

-- the rules: the first check names one, the second two
more_rules : trail (record (line act.Audit) { func = Some func.BprmCheck } ∷ line act.Audit ∷ [])
    ((born ∷ checked 0 1 func.FileCheck 1 ∷ checked 0 1 func.FileCheck 2 ∷ []) ∷ [])
    ≡ codes "trail 1"
    ∷ (codes "audit 0.2 0.0.1 line 1 /a " ++ digest_word (digest_of Sha256 abc))
    ∷ codes "end" ∷ []
unfolding newest_first numeral
more_rules = refl

-- the owner: `fowner=7` matches after it was changed
other_owner : trail (record (line act.Audit) { fowner = Some (Is 7) } ∷ [])
    ((born ∷ checked 0 1 func.FileCheck 1
    ∷ did 1 0 (deed.SetMeta (change.Owner 7 8)) told.Done ∷ checked 0 1 func.FileCheck 1 ∷ []) ∷ [])
    ≡ codes "trail 1"
    ∷ (codes "audit 0.3 0.0.1 line 0 /a " ++ digest_word (digest_of Sha256 abc))
    ∷ codes "end" ∷ []
unfolding newest_first numeral
other_owner = refl

-- the label: it names the algorithm of the second digest
other_label : trail (line act.Hash ∷ [])
    ((born ∷ checked 0 1 func.FileCheck 1
    ∷ did 1 0 (deed.SetAttr (codes "security.ima") (Some (4 ∷ 1 ∷ [])) true) told.Done
    ∷ checked 0 1 func.FileCheck 1 ∷ []) ∷ [])
    ≡ codes "trail 2"
    ∷ (codes "hash 0.1 0.0.1 line 0 /a " ++ label_word (digest_of Sha256 abc))
    ∷ (codes "hash 0.3 0.0.1 line 0 /a " ++ label_word (digest_of Md5 abc))
    ∷ codes "end" ∷ []
unfolding newest_first numeral
other_label = refl

-- a close: the label that it writes names the script's algorithm
closed : trail (line act.Audit ∷ [])
    ((born ∷ did 1 0 (deed.SetAttr (codes "security.ima") (Some (4 ∷ 5 ∷ [])) true) told.Done
    ∷ checked 0 1 func.FileCheck 1 ∷ did 1 1 (deed.CloseTake 2) told.Begun
    ∷ did 1 2 (deed.CloseChunk 2) told.Last ∷ did 1 3 (deed.CloseFinish 2) told.LabelledDropped
    ∷ checked 0 1 func.FileCheck 1 ∷ []) ∷ [])
    ≡ codes "trail 2"
    ∷ (codes "audit 0.2 0.0.1 line 0 /a " ++ digest_word (digest_of Sha384 abc))
    ∷ (codes "audit 0.6 0.0.1 line 0 /a " ++ digest_word (digest_of Sha256 abc))
    ∷ codes "end" ∷ []
unfolding newest_first numeral
closed = refl

-- ---- several inodes

-- the records are in the order of the inodes
two_inodes : trail (line act.Audit ∷ [])
    ((born ∷ []) ∷ (born ∷ counted ∷ checked 0 1 func.FileCheck 1 ∷ []) ∷ [])
    ≡ codes "trail 1"
    ∷ (codes "audit 1.2 0.0.1 line 0 /b " ++ digest_word (digest_of Sha256 abc))
    ∷ codes "end" ∷ []
unfolding newest_first numeral
two_inodes = refl
