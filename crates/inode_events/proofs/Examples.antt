-- Definitions that the examples share: inodes, actions, and rows of deeds with their outcomes.
use Rattle.std.proofs.Common.{◌≡◌, ℕ, Bool, true, false, ◌&&◌, not, List, [], ◌∷◌, map, length, Option, Some, None, refl}
use Rattle.std.specs.Prelude.{◌==◌, nat_lt}
use Rattle.hash_algos.specs.declared.algo.Algo.TheVariants.{Sha256}
use Rattle.evm_verify.specs.Setup.{Setup}
use Rattle.ima_templates.specs.declared.entry.Placed.{Placed}
use Rattle.ima_templates.specs.declared.entry.Placed.TheVariants.{Added}
use Rattle.inode_meta.specs.declared.appraisal.Mode.{Mode}
use Rattle.inode_meta.specs.declared.appraisal.Mode.TheVariants.{Enforce, Fix, Off}
use Rattle.inode_meta.specs.declared.appraisal.Need.TheVariants.{Any}
use Rattle.inode_meta.specs.declared.identity.Meta.{Meta}
use Rattle.inode_meta.specs.declared.measurement.Template.TheVariants.{ImaNg}
use Rattle.label_values.specs.declared.verdict.Verdict.{Verdict}
use Rattle.policy_rules.specs.declared.access.Action.{Action}
use Rattle.ima_templates.specs.xattrs.Attrs.{Pair}
use Rattle.inode_events.specs.Files.{can_read, held, holds, is_writing}
use Rattle.inode_events.specs.Inode.{Inode, nobody}
use Rattle.inode_events.specs.Says.{placed_in, says}
use Rattle.inode_events.specs.Stage.{Stage, may_check, stage}
use Rattle.inode_events.specs.Stage.{Asked, CloseCollected, CloseCollecting, Collected, Collecting, Counted, Gone, Settled}
use Rattle.inode_events.specs.declared.deed.Deed.{Deed}
use Rattle.inode_events.specs.declared.deed.Deed.TheVariants as deed
use Rattle.inode_events.specs.declared.told.Event.{Event}
use Rattle.inode_events.specs.declared.told.Grant.{Grant}
use Rattle.inode_events.specs.declared.told.Told.{Told}
use Rattle.inode_events.specs.declared.told.Told.TheVariants as told

-- ---- the precondition of a deed as a Bool

-- the numbers of the stages, in their order
abbrev pub number_of : Stage → ℕ
number_of Gone = 0
number_of Counted = 1
number_of Asked = 2
number_of Collecting = 3
number_of Collected = 4
number_of Settled = 5
number_of CloseCollecting = 6
number_of CloseCollected = 7

-- the stages are equal
abbrev pub is_at : Stage → Stage → Bool
is_at a b = number_of a == number_of b

-- the precondition of the deed's call
abbrev pub may : Inode → List Event → Deed → Bool
may inode before (deed.Count how) = true
may inode before (deed.Check file func action rules) = may_check (stage inode file before)
may inode before (deed.Take file) = is_at (stage inode file before) Asked
may inode before (deed.Chunk file) = is_at (stage inode file before) Collecting
may inode before (deed.Finish file) = is_at (stage inode file before) Collected
may inode before (deed.Read file from len) =
    is_at (stage inode file before) Settled && holds can_read (held file before)
may inode before (deed.Write file from bytes) =
    is_at (stage inode file before) Settled && is_writing file before && nat_lt 0 (length bytes)
may inode before (deed.Trunc file len) =
    is_at (stage inode file before) Settled && is_writing file before
may inode before (deed.SetAttr name bytes admin) = true
may inode before (deed.SetMeta change) = true
may inode before (deed.Close file) =
    is_at (stage inode file before) Settled && not (is_writing file before)
may inode before (deed.CloseTake file) =
    is_at (stage inode file before) Settled && is_writing file before
may inode before (deed.CloseChunk file) = is_at (stage inode file before) CloseCollecting
may inode before (deed.CloseFinish file) = is_at (stage inode file before) CloseCollected
may inode before _ = false

-- ---- rows

-- deeds in order, each with its outcome; `None` means that the deed is blocked
abbrev pub Rows : Type 0
Rows = List (Deed × Option Told)

-- the list's reply that the outcome of a row reports
abbrev pub placed_of : Option Told → Placed
placed_of None = Added 0
placed_of (Some t) = placed_in t

-- the journal after a row: a blocked deed leaves no event
abbrev pub after_row : Deed → Option Told → List Event → List Event
after_row d None before = before
after_row d (Some t) before = record { who = nobody; deed = d; told = t } ∷ before

-- the journal of an inode that has just been created
abbrev pub born : Inode → List Event
born inode = record { who = nobody; deed = deed.Birth; told = told.Image inode.birth } ∷ []

-- the journal after the rows
abbrev pub after_all : Rows → List Event → List Event
after_all [] before = before
after_all (r ∷ rest) before = after_all rest (after_row r.0 r.1 before)

-- the journal of an inode after its birth and the rows
abbrev pub after : Inode → Rows → List Event
after inode rows = after_all rows (born inode)

-- each deed is permitted after those before it
abbrev pub may_all : Inode → List Event → Rows → Bool
may_all inode before [] = true
may_all inode before (r ∷ rest) =
    may inode before r.0 && may_all inode (after_row r.0 r.1 before) rest

-- the outcomes that the journal before each row determines
abbrev pub says_all : Inode → List Event → Rows → List (Option Told)
says_all inode before [] = []
says_all inode before (r ∷ rest) =
    says inode before (placed_of r.1) r.0 ∷ says_all inode (after_row r.0 r.1 before) rest

-- after the birth, each deed is permitted, and has the outcome that the journal before it
-- determines
abbrev pub Tells : Inode → Rows → Type 0
Tells inode rows = (may_all inode (born inode) rows ≡ true)
    × (says_all inode (born inode) rows ≡ map (λ r. r.1) rows)

-- ---- inodes

-- EVM settings without a key
abbrev pub no_key : Setup
no_key = record { key = None; added = []; format = 1 }

-- EVM settings with this key
abbrev pub with_key : List ℕ → Setup
with_key key = record { key = Some key; added = []; format = 1 }

-- the metadata of the inodes of the examples
abbrev pub meta : Meta
meta = record { ino = 12; generation = 1; uid = 0; gid = 0; mode = 33188; place = 1 }

-- an inode at /a, with SHA-256 and ima-ng as the defaults
abbrev pub inode_of : Mode → Setup → Bool → List ℕ → List Pair → Bool → Inode
inode_of mode evm present content attrs versions = record {
  path = 47 ∷ 97 ∷ [];
  settings = record { hash = Sha256; template = ImaNg; mode = mode; evm = evm; for_files = refl };
  birth = record {
    present = present;
    content = content;
    attrs = attrs;
    meta = meta;
    versions = versions;
  };
}

-- the bytes `abc`
abbrev pub abc : List ℕ
abc = 97 ∷ 98 ∷ 99 ∷ []

-- a file with the content `abc` and no attributes, under a script without appraisal
abbrev pub plain : Inode
plain = inode_of Off no_key true abc [] true

-- a file with the content `abc` and no attributes, in fix mode
abbrev pub fixing : Inode
fixing = inode_of Fix no_key true abc [] true

-- a file with the content `abc` and no attributes, in enforce mode
abbrev pub enforcing : Inode
enforcing = inode_of Enforce no_key true abc [] true

-- ---- actions and grants

-- the action of a `measure` rule
abbrev pub measure : Action
measure = record {
  measure = true;
  pcr = 10;
  template = None;
  appraise = false;
  need = Any;
  algos = None;
  audit = false;
  hash = false;
}

-- the action of an `appraise` rule
abbrev pub appraise : Action
appraise = record {
  measure = false;
  pcr = 10;
  template = None;
  appraise = true;
  need = Any;
  algos = None;
  audit = false;
  hash = false;
}

-- a grant with these fields
abbrev pub grant : Option Placed → Option Verdict → Bool → Bool → Grant
grant placed verdict admitted labelled = record {
  placed = placed;
  verdict = verdict;
  admitted = admitted;
  labelled = labelled;
}
