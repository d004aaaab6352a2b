-- What holds of a file that is held as an execution, from its count to its close. Executions are
-- the files that no open for writing may meet: programs, and what the kernel reads itself.
use Rattle.std.specs.Prelude.{◌≡◌, ◌<◌, ◌⊎◌, ℕ, ◌==◌, All, Bool, true, false, List, [], ◌∷◌, ◌++◌, length, Some}
use Rattle.ima_templates.specs.IsEntry.{IsEntry}
use Rattle.ima_templates.specs.Path.{IsMeasuredPath}
use Rattle.ima_templates.specs.declared.entry.Entry.{Entry}
use Rattle.ima_templates.specs.declared.entry.Placed.{Placed}
use Rattle.inode_meta.specs.declared.appraisal.Mode.TheVariants.{Enforce}
use Rattle.inode_meta.specs.declared.measurement.Template.TheVariants.{Ima}
use Rattle.inode_meta.specs.declared.step.Who.{Who}
use Rattle.inode_events.specs.Admission.{fits, granted_file}
use Rattle.inode_events.specs.Checks.{last_check}
use Rattle.inode_events.specs.Coverage.{ShowsContent, places_violated}
use Rattle.inode_events.specs.Files.{execs, held, holds, is_exec, writers}
use Rattle.inode_events.specs.Inode.{Inode}
use Rattle.inode_events.specs.Legal.{Legal}
use Rattle.inode_events.specs.Listing.{IsListed}
use Rattle.inode_events.specs.Says.{place_of}
use Rattle.inode_events.specs.Stage.{is_gone, stage}
use Rattle.inode_events.specs.State.{content}
use Rattle.inode_events.specs.Verdicts.{fresh_verdict}
use Rattle.inode_events.specs.declared.deed.Deed.{Deed}
use Rattle.inode_events.specs.declared.deed.Deed.TheVariants as deed
use Rattle.inode_events.specs.declared.told.Event.{Event}
use Rattle.inode_events.specs.declared.told.Grant.{Grant}
use Rattle.inode_events.specs.declared.told.Told.TheVariants as told

-- the deed is a write or a truncation, whether or not it is done
abbrev pub is_change : Deed → Bool
is_change (deed.Write file from bytes) = true
is_change (deed.Trunc file len) = true
is_change _ = false

-- the deed is a check of the file
abbrev pub is_check_of : ℕ → Deed → Bool
is_check_of file (deed.Check other func action rules) = other == file
is_check_of file _ = false

-- the event of a grant
abbrev pub grant_event : Who → Deed → Grant → Event
grant_event who d grant = record { who = who; deed = d; told = told.Grant grant }

-- What the events `p`, newest first, say of a file that was counted among them. A split of `p` is a
-- place in the journal: the events since, and the events before.
pub record IsUndisturbed (i : Inode) (list : List Entry) (file : ℕ) (p : List Event) : Type 0 where
  -- no writer holds the inode
  pub alone : writers p ≡ 0
  -- since its count there was no write or truncation, done or refused
  pub still : (later : List Event) (e : Event) (q : List Event) → p ≡ later ++ e ∷ q
      → file < length q → is_change e.deed ≡ false
  -- since its count the content is the same
  pub same : (later q : List Event) → p ≡ later ++ q → file < length q → content q ≡ content p
  -- since its count no check of the inode tells a violation
  pub unviolated : (later q : List Event) → p ≡ later ++ q → file < length q
      → places_violated later ≡ []
  -- none of its own checks tells a violation
  pub quiet : (later : List Event) (e : Event) (q : List Event) → p ≡ later ++ e ∷ q
      → is_check_of file e.deed ≡ true → e.told ≡ told.Quiet
  -- a grant of it whose check measures names a place in the list
  pub measured : (later q : List Event) (who : Who) (d : Deed) (grant : Grant)
      → p ≡ later ++ grant_event who d grant ∷ q → granted_file d ≡ Some file
      → (last_check file q).action.measure ≡ true
      → (placed : Placed) × (grant.placed ≡ Some placed)
  -- the entry at the place that a grant of it names is no violation, and has the content's digest
  pub listed : (later q : List Event) (who : Who) (d : Deed) (grant : Grant) (placed : Placed)
      → p ≡ later ++ grant_event who d grant ∷ q → granted_file d ≡ Some file
      → grant.placed ≡ Some placed → ShowsContent i list (content p) (place_of placed)
  -- in mode enforce, a grant of it whose check appraises has the verdict computed afresh, and
  -- admits exactly if the file fits
  pub enforced : i.settings.mode ≡ Enforce → (later q : List Event) (who : Who) (d : Deed)
      (grant : Grant) → p ≡ later ++ grant_event who d grant ∷ q → granted_file d ≡ Some file
      → (last_check file q).action.appraise ≡ true
      → (grant.verdict ≡ Some (fresh_verdict i (last_check file q).action.need
      (last_check file q).action.algos q))
      × (grant.admitted ≡ fits i (last_check file q).action q)

-- ---- the laws

-- No inode is executed and open for writing at the same time.
abbrev pub NeverBoth : Type 0
NeverBoth = (i : Inode) (p : List Event) → Legal i p → (execs p ≡ 0) ⊎ (writers p ≡ 0)

-- A file that is held as an execution is undisturbed, by every list that has the journal's entries.
-- The last two premises are what a cell keeps of its path, and the type of entries keeps of the
-- list.
abbrev pub Executed : Type 0
Executed = (i : Inode) (list : List Entry) (p : List Event) (file : ℕ) → Legal i p
    → is_gone (stage i file p) ≡ false → holds is_exec (held file p) ≡ true
    → IsListed i list p → IsMeasuredPath Ima i.path → All IsEntry list
    → IsUndisturbed i list file p
