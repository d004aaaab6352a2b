-- What the records of a journal are made of, as the definitions see it.
use Rattle.std.specs.Prelude.{◌≡◌, ℕ, ◌<◌, List, length, map, Some, slice_get}
use Rattle.std.specs.List.{AllByRecursion}
use Rattle.report_text.specs.Words.{Line}
use Rattle.script_scene.specs.Scene.{fs_of, program_of, script_file_of}
use Rattle.world_model.specs.model.Scene.{Program, ScriptFile}
use Rattle.world_model.specs.model.events.EndedInode.{EndedInodeValue}
use Rattle.world_model.specs.model.events.Inode.{Inode}
use Rattle.world_model.specs.model.events.Legal.{Legal}
use Rattle.world_model.specs.model.events.NewestFirst.{newest_first}
use Rattle.world_model.specs.model.events.declared.told.Event.{Event}
use Rattle.audit_trail.specs.Trail.{all_lines, inode_lines, inode_with, journal_lines, step_lines}
use Rattle.audit_trail.specs.Walk.{digest_at}
use Rattle.audit_trail.specs.declared.site.Context.{Context}
use Rattle.audit_trail.specs.declared.site.Site.{Site}
use Rattle.audit_trail.specs.declared.walk.Walk.{Walk}

-- ---- the script

abbrev pub programs_in : Context → List Program
programs_in c = map program_of c.tasks.now

abbrev pub script_files_in : Context → List ScriptFile
script_files_in c = map (script_file_of c.supers.now) c.files.now

-- the file system of each file is one of the script's
abbrev pub ArePlaced : Context → Type 0
ArePlaced c = AllByRecursion (λ n. n < length c.supers.now) (map fs_of c.files.now)

-- the journals are legal
abbrev pub AreLegal : Context → List EndedInodeValue → Type 0
AreLegal c inodes = (i : ℕ) (s : ScriptFile) (e : EndedInodeValue)
    → slice_get (script_files_in c) i ≡ Some s → slice_get inodes i ≡ Some e
    → Legal (inode_with c.settings.now s) (newest_first e.journal)

-- ---- an inode

abbrev pub script_file_at : Site → ScriptFile
script_file_at s = record { path = s.file.now.path; birth = s.file.now.image; place = s.system.now }

abbrev pub inode_at : Context → Site → Inode
inode_at c s = inode_with c.settings.now (script_file_at s)

-- ---- the records

-- of an event, by what a walk knows of the inode before it
abbrev pub event_lines : Context → Site → ℕ → Walk → Event → List Line
event_lines c s k w e =
    step_lines (programs_in c) c.rules.now s.number (script_file_at s) w.meta
    (digest_at c.settings.now.hash w) k e.who e.deed

-- of a journal, read from its newest event back
abbrev pub site_lines : Context → Site → List Event → List Line
site_lines c s events =
    journal_lines (programs_in c) c.rules.now c.settings.now s.number (script_file_at s) events

-- of the inode of this number
abbrev pub numbered_lines : Context → ℕ → EndedInodeValue → List Line
numbered_lines c i inode =
    inode_lines (programs_in c) c.rules.now c.settings.now i (slice_get (script_files_in c) i) inode

-- of inodes, the first of which has the number i
abbrev pub lines_from : Context → ℕ → List EndedInodeValue → List Line
lines_from c i inodes =
    all_lines (programs_in c) c.rules.now c.settings.now (script_files_in c) i inodes
