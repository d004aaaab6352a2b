-- The audit trail of a run: for each inode in order, for each check in the order of its journal, a
-- record of the family `audit` and then one of the family `hash`, each only if the line that
-- decides for the family asks for it. Content, attributes and metadata are those that the events
-- before the check define.
use Rattle.std.specs.Prelude.{◌≡◌, ℕ, ◌+◌, List, [], ◌∷◌, ◌++◌, length, codes, Option, Some, None, slice_get, take}
use Rattle.std.specs.List.{join_with_byte}
use Rattle.hex.specs.Hex.{encode_lower}
use Rattle.report_text.specs.Numerals.{numeral}
use Rattle.report_text.specs.Report.{force_word}
use Rattle.report_text.specs.Words.{Line, who_word}
use Rattle.world_model.specs.model.EndedValue.{EndedValue, ended_of}
use Rattle.world_model.specs.model.Scene.{Program, Scene, ScriptFile, rules_with}
use Rattle.world_model.specs.model.Served.{Run}
use Rattle.world_model.specs.model.Shown.{IsShown}
use Rattle.world_model.specs.model.events.EndedInode.{EndedInodeValue}
use Rattle.world_model.specs.model.events.Inode.{Inode}
use Rattle.world_model.specs.model.events.NewestFirst.{newest_first}
use Rattle.world_model.specs.model.events.State.{metadata}
use Rattle.world_model.specs.model.events.Verdicts.{fresh_digest}
use Rattle.world_model.specs.model.events.declared.deed.Deed.{Deed}
use Rattle.world_model.specs.model.events.declared.deed.Deed.TheVariants as deed
use Rattle.world_model.specs.model.events.declared.settings.Settings.{Settings}
use Rattle.world_model.specs.model.events.declared.told.Event.{Event}
use Rattle.world_model.specs.model.events.forms.Words.{text_of}
use Rattle.world_model.specs.model.events.hashes.declared.digest.Digest.{Digest}
use Rattle.world_model.specs.model.events.labels.Labels.{label_of}
use Rattle.world_model.specs.model.events.meta.declared.identity.Meta.{Meta}
use Rattle.world_model.specs.model.events.meta.declared.step.Who.{Who}
use Rattle.world_model.specs.model.matching.declared.family.Family.TheVariants.{Auditing, Hashing}
use Rattle.world_model.specs.model.policy.RuleValue.{RuleValue}
use Rattle.world_model.specs.model.steps.declared.ending.Ending.{Ending}
use Rattle.audit_trail.specs.Asked.{asker_of, line_for}

-- ---- a record

-- `WORD I.K TASK.CALL.STEP line L PATH VALUE`: the number of the inode, the place of the check in
-- its journal, the check's step, and the line's place among all rules, counted from 0
abbrev pub record_line : List ℕ → ℕ → ℕ → Who → ℕ → List ℕ → List ℕ → Line
record_line word i k who line path value =
    word ∷ join_with_byte 46 (numeral i ∷ numeral k ∷ []) ∷ who_word who ∷ codes "line"
    ∷ numeral line ∷ path ∷ value ∷ []

-- `ALGO:HEX`
abbrev pub digest_word : Digest → List ℕ
digest_word d = force_word (Some d)

-- the value of `security.ima` that the kernel would write for the digest, in hexadecimal
abbrev pub label_word : Digest → List ℕ
label_word d = encode_lower (label_of d)

abbrev pub audit_line : ℕ → ℕ → Who → List ℕ → Digest → ℕ → Line
audit_line i k who path digest line =
    record_line (codes "audit") i k who line path (digest_word digest)

abbrev pub hash_line : ℕ → ℕ → Who → List ℕ → Digest → ℕ → Line
hash_line i k who path digest line =
    record_line (codes "hash") i k who line path (label_word digest)

-- the record of a line, if there is one
abbrev pub if_line : (ℕ → Line) → Option ℕ → List Line
if_line record_of None = []
if_line record_of (Some line) = record_of line ∷ []

-- the records of a check, by the lines of the two families that ask for one
abbrev pub lines_of : ℕ → ℕ → Who → List ℕ → Digest → Option ℕ → Option ℕ → List Line
lines_of i k who path digest audit hash =
    if_line (audit_line i k who path digest) audit ++ if_line (hash_line i k who path digest) hash

-- ---- a journal

-- the records of a step at place k of the journal of inode i, with this metadata and this digest of
-- the content there. `rules` are all rules of the run; a check names how many of them decided it.
abbrev pub step_lines : List Program → List RuleValue → ℕ → ScriptFile → Meta → Digest → ℕ → Who
    → Deed → List Line
step_lines programs rules i s meta digest k who (deed.Check file func action n) =
    lines_of i k who s.path digest
    (line_for Auditing (take n rules) s.place meta func (asker_of programs who))
    (line_for Hashing (take n rules) s.place meta func (asker_of programs who))
step_lines programs rules i s meta digest k who _ = []

abbrev pub inode_with : Settings → ScriptFile → Inode
inode_with settings s = record { path = s.path; settings = settings; birth = s.birth }

-- the records of the journal, read from its newest event back. The digest is that of the content
-- before the event, by the algorithm that the label there names.
abbrev pub journal_lines : List Program → List RuleValue → Settings → ℕ → ScriptFile → List Event
    → List Line
journal_lines programs rules settings i s [] = []
journal_lines programs rules settings i s (e ∷ before) =
    journal_lines programs rules settings i s before
    ++ step_lines programs rules i s (metadata before)
    (fresh_digest (inode_with settings s) before) (length before) e.who e.deed

-- ---- a run

abbrev pub inode_lines : List Program → List RuleValue → Settings → ℕ → Option ScriptFile
    → EndedInodeValue → List Line
inode_lines programs rules settings i None inode = []
inode_lines programs rules settings i (Some s) inode =
    journal_lines programs rules settings i s (newest_first inode.journal)

-- the records of the inodes, the first of which has the number i
abbrev pub all_lines : List Program → List RuleValue → Settings → List ScriptFile → ℕ
    → List EndedInodeValue → List Line
all_lines programs rules settings script_files i [] = []
all_lines programs rules settings script_files i (inode ∷ rest) =
    inode_lines programs rules settings i (slice_get script_files i) inode
    ++ all_lines programs rules settings script_files (i + 1) rest

-- the records of a run that ends so
abbrev pub records_of : Scene → EndedValue → List Line
records_of scene e =
    all_lines scene.programs (rules_with scene e.rules) scene.settings scene.script_files 0 e.inodes

-- how many records there are, the records, and `end`
abbrev pub trail_lines : List Line → List Line
trail_lines lines = (codes "trail" ∷ numeral (length lines) ∷ []) ∷ lines ++ (codes "end" ∷ []) ∷ []

abbrev pub trail_text : Scene → EndedValue → List ℕ
trail_text scene e = text_of (trail_lines (records_of scene e))

-- the state is what a run leaves that may be shown for this scene and this ending
pub record IsOfRun (scene : Scene) (ending : Ending) (e : EndedValue) : Type 0 where
  pub run : Run
  pub shown : IsShown scene ending run
  pub leaves : e ≡ ended_of scene run
