-- The records of one event more, by what a walk knows before it.
use Rattle.std.proofs.Common.{◌≡◌, ℕ, ◌+◌, ◌<◌, ◌≤◌, List, [], ◌++◌, length, take, get_or, Option, Some, None, refl, sym, ◌∙◌, ap, arith}
use Rattle.std.specs.Prelude.{slice_get}
use Rattle.std.proofs.lemmas.List.{get_or_read}
use Rattle.report_text.specs.Words.{Line}
use Rattle.script_scene.specs.Scene.{script_file_of}
use Rattle.world_model.specs.model.Scene.{ScriptFile, no_super}
use Rattle.world_model.specs.model.events.EndedInode.{EndedInodeValue}
use Rattle.world_model.specs.model.events.Integrity.{label_in}
use Rattle.world_model.specs.model.events.NewestFirst.{newest_first}
use Rattle.world_model.specs.model.events.State.{metadata}
use Rattle.world_model.specs.model.events.Verdicts.{fresh_digest}
use Rattle.world_model.specs.model.events.declared.deed.Deed.{Deed}
use Rattle.world_model.specs.model.events.declared.deed.Deed.TheVariants as deed
use Rattle.world_model.specs.model.events.declared.told.Event.{Event}
use Rattle.world_model.specs.model.events.declared.told.Told.{Told}
use Rattle.world_model.specs.model.events.hashes.Digest.{digest_of}
use Rattle.world_model.specs.model.events.Inode.{Inode}
use Rattle.world_model.specs.model.events.labels.Labels.{collect_algo}
use Rattle.world_model.specs.model.events.meta.declared.step.Who.{Who}
use Rattle.world_model.specs.model.matching.declared.family.Family.TheVariants.{Auditing, Hashing}
use Rattle.world_model.specs.model.policy.declared.access.Action.{Action}
use Rattle.world_model.specs.model.policy.declared.access.Super.{Super}
use Rattle.world_model.specs.model.policy.declared.rule.Func.{Func}
use Rattle.audit_trail.proofs.Placed.{mapped_there}
use Rattle.audit_trail.proofs.Standing.{past_count, past_next}
use Rattle.audit_trail.specs.Asked.{asker_of, line_for}
use Rattle.audit_trail.specs.Sites.{event_lines, inode_at, numbered_lines, programs_in, script_file_at, script_files_in, site_lines}
use Rattle.audit_trail.specs.Trail.{inode_lines, journal_lines, lines_of, step_lines}
use Rattle.audit_trail.specs.Walk.{IsWalk, digest_at}
use Rattle.audit_trail.specs.declared.site.Context.{Context}
use Rattle.audit_trail.specs.declared.site.Site.{Site}
use Rattle.audit_trail.specs.declared.walk.Walk.{Walk}

-- the walk has the digest that the journal defines
fresh_there : (i : Inode) (p : List Event) (w : Walk) → IsWalk i p w
    → digest_at i.settings.hash w ≡ fresh_digest i p
fresh_there i p w h =
    λ j. digest_of (collect_algo (label_in (h.attributes j)) i.settings.hash) (h.content j)

-- the records of the journal with the next event
pub journal_next : (c : Context) (s : Site) (j : List Event) (i : ℕ) (e : Event) (w : Walk)
    → IsWalk (inode_at c s) (newest_first (take i j)) w → i < length j → e ≡ get_or j i e
    → site_lines c s (newest_first (take (i + 1) j))
    ≡ site_lines c s (newest_first (take i j)) ++ event_lines c s i w e
journal_next c s j i e w h l is =
    let within : i ≤ length j = omega arith in
    let place : i ≡ length (newest_first (take i j)) = sym (past_count j i within) in
    let fresh : digest_at c.settings.now.hash w
    ≡ fresh_digest (inode_at c s) (newest_first (take i j)) =
    fresh_there (inode_at c s) (newest_first (take i j)) w h in
    let seen : event_lines c s i w e ≡ step_lines (programs_in c) c.rules.now s.number
    (script_file_at s) (metadata (newest_first (take i j)))
    (fresh_digest (inode_at c s) (newest_first (take i j)))
    (length (newest_first (take i j))) e.who e.deed =
    λ k. step_lines (programs_in c) c.rules.now s.number (script_file_at s) (h.metadata k) (fresh k)
    (place k) e.who e.deed in
    ap (site_lines c s) (past_next j i e l is)
    ∙ ap (λ (l : List Line). site_lines c s (newest_first (take i j)) ++ l) (sym seen)

-- a file and its file system, as they were read, are a file of the script
pub site_there : (c : Context) (s : Site) (i : ℕ) → i < length c.files.now
    → s.file.now ≡ get_or c.files.now i s.file.now → s.file.now.fs < length c.supers.now
    → s.system.now ≡ get_or c.supers.now s.file.now.fs s.system.now
    → slice_get (script_files_in c) i ≡ Some (script_file_at s)
site_there c s i l is below on =
    let place : get_or c.supers.now s.file.now.fs no_super ≡ s.system.now =
    sym (get_or_read c.supers.now s.file.now.fs s.system.now below on no_super) in
    let made : Super → Option ScriptFile = λ p. Some (record {
      path = s.file.now.path;
      birth = s.file.now.image;
      place = p;
    }) in
    mapped_there (script_file_of c.supers.now) c.files.now i s.file.now l is ∙ ap made place

-- an inode without a file has no records
pub none_numbered : (c : Context) (i : ℕ) (inode : EndedInodeValue)
    → slice_get (script_files_in c) i ≡ None → numbered_lines c i inode ≡ []
none_numbered c i inode none =
    ap (λ (o : Option ScriptFile). inode_lines (programs_in c) c.rules.now c.settings.now i o inode)
    none

-- the records of the journal of a site are those of the inode of its number
pub numbered : (c : Context) (s : Site) (i : ℕ) (inode : EndedInodeValue) (j : List Event)
    → s.number ≡ i → slice_get (script_files_in c) i ≡ Some (script_file_at s) → j ≡ inode.journal
    → site_lines c s (newest_first j) ≡ numbered_lines c i inode
numbered c s i inode j is there same =
    (λ k. journal_lines (programs_in c) c.rules.now c.settings.now (is k) (script_file_at s)
    (newest_first (same k)))
    ∙ sym (ap (λ (o : Option ScriptFile). inode_lines (programs_in c) c.rules.now c.settings.now i o
    inode) there)

-- ---- the records of one event

-- another deed has none
pub no_check : (c : Context) (s : Site) (k : ℕ) (w : Walk) (who : Who) (d : Deed) (t : Told)
    → ((file : ℕ) (func : Func) (action : Action) (n : ℕ) → d ≡ deed.Check file func action n → ⊥)
    → [] ≡ event_lines c s k w (record { who = who; deed = d; told = t })
no_check c s k w who (deed.Check file func action n) t other =
    absurd (other file func action n refl)
no_check c s k w who d t other = refl

-- a check has those of the lines that ask for them
pub of_check : (c : Context) (s : Site) (k : ℕ) (w : Walk) (who : Who) (d : Deed) (t : Told)
    (file : ℕ) (func : Func) (action : Action) (n : ℕ) (audit hash : Option ℕ)
    → d ≡ deed.Check file func action n
    → audit ≡ line_for Auditing (take n c.rules.now) s.system.now w.meta func
    (asker_of (programs_in c) who)
    → hash ≡ line_for Hashing (take n c.rules.now) s.system.now w.meta func
    (asker_of (programs_in c) who)
    → lines_of s.number k who s.file.now.path (digest_at c.settings.now.hash w) audit hash
    ≡ event_lines c s k w (record { who = who; deed = d; told = t })
of_check c s k w who d t file func action n audit hash is a h =
    (λ j. lines_of s.number k who s.file.now.path (digest_at c.settings.now.hash w) (a j) (h j))
    ∙ sym (ap (λ (x : Deed). event_lines c s k w (record { who = who; deed = x; told = t })) is)
