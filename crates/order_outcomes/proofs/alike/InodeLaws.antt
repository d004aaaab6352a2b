-- What holds of the journals of one inode in two moments that are alike: the statements, which
-- `Inodes` proves, and from which `Following` goes to whole moments.
use Rattle.std.specs.Prelude.{◌≡◌, ℕ, ◌==◌, ◌⊎◌, Bool, true, List, [], ◌∷◌, ◌++◌, length, Option, Some, None, is_some, option_map, if◌then◌else◌}
use Rattle.report_text.specs.model.History.{event}
use Rattle.report_text.specs.model.events.Asked.{asked, list_after, outcome, placed_for}
use Rattle.report_text.specs.model.events.Files.{counted}
use Rattle.report_text.specs.model.events.Inode.{Inode}
use Rattle.report_text.specs.model.events.NewestFirst.{newest_first}
use Rattle.report_text.specs.model.events.declared.deed.Deed.{Deed}
use Rattle.report_text.specs.model.events.declared.deed.Deed.TheVariants as deed
use Rattle.report_text.specs.model.events.declared.told.Event.{Event}
use Rattle.report_text.specs.model.events.declared.told.Told.{Told}
use Rattle.report_text.specs.model.events.meta.declared.step.Who.{Who}
use Rattle.report_text.specs.model.events.templates.declared.entry.Entry.{Entry}
use Rattle.order_outcomes.proofs.alike.InodeRetold.{told_with}
use Rattle.order_outcomes.specs.alike.Alike.{AreListsAlike, IsInodeAlike}

-- the deed on the file's other name
abbrev pub deed_named : (ℕ → ℕ) → Deed → Deed
deed_named r (deed.Check file func action rules) = deed.Check (r file) func action rules
deed_named r (deed.Take file) = deed.Take (r file)
deed_named r (deed.Chunk file) = deed.Chunk (r file)
deed_named r (deed.Finish file) = deed.Finish (r file)
deed_named r (deed.Read file from len) = deed.Read (r file) from len
deed_named r (deed.Write file from bytes) = deed.Write (r file) from bytes
deed_named r (deed.Trunc file len) = deed.Trunc (r file) len
deed_named r (deed.Close file) = deed.Close (r file)
deed_named r (deed.CloseTake file) = deed.CloseTake (r file)
deed_named r (deed.CloseChunk file) = deed.CloseChunk (r file)
deed_named r (deed.CloseFinish file) = deed.CloseFinish (r file)
deed_named r d = d

-- the file that the deed names
abbrev pub file_in : Deed → Option ℕ
file_in (deed.Check file func action rules) = Some file
file_in (deed.Take file) = Some file
file_in (deed.Chunk file) = Some file
file_in (deed.Finish file) = Some file
file_in (deed.Read file from len) = Some file
file_in (deed.Write file from bytes) = Some file
file_in (deed.Trunc file len) = Some file
file_in (deed.Close file) = Some file
file_in (deed.CloseTake file) = Some file
file_in (deed.CloseChunk file) = Some file
file_in (deed.CloseFinish file) = Some file
file_in d = None

abbrev pub IsUsed : (ℕ → Bool) → Option ℕ → Type 0
IsUsed used None = Unit {0}
IsUsed used (Some file) = used file ≡ true

-- the names after an event at these places
abbrev pub named_after : (ℕ → ℕ) → ℕ → ℕ → ℕ → ℕ
named_after r place place2 file = if file == place then place2 else r file

-- the step has the same outcome in both, but for the list's reply, and asks for the same entry
pub record InodeLaws : Type 0 where
  pub outcome_same : (inode : Inode) (list list2 : List Entry) (used : ℕ → Bool) (r : ℕ → ℕ)
      (j j2 : List Event) (d : Deed) → IsInodeAlike inode list list2 used r j j2
      → IsUsed used (file_in d)
      → outcome inode list2 (deed_named r d) (newest_first j2)
      ≡ option_map (told_with (placed_for list2 (asked inode d (newest_first j))))
      (outcome inode list d (newest_first j))
  pub asked_same : (inode : Inode) (list list2 : List Entry) (used : ℕ → Bool) (r : ℕ → ℕ)
      (j j2 : List Event) (d : Deed) → IsInodeAlike inode list list2 used r j j2
      → IsUsed used (file_in d)
      → asked inode (deed_named r d) (newest_first j2) ≡ asked inode d (newest_first j)
  -- after it the journals are alike; a file that it counts may be used then
  pub grown : (inode : Inode) (list list2 : List Entry) (used : ℕ → Bool) (r : ℕ → ℕ)
      (j j2 : List Event) (d : Deed) (t : Told) (who : Who) (used2 : ℕ → Bool)
      → IsInodeAlike inode list list2 used r j j2 → AreListsAlike list list2
      → IsUsed used (file_in d) → outcome inode list d (newest_first j) ≡ Some t
      → ((file : ℕ) → used2 file ≡ true
      → (used file ≡ true) ⊎ ((file ≡ length j) × (is_some (counted d t) ≡ true)))
      → let asks = asked inode d (newest_first j) in
      let t2 = told_with (placed_for list2 asks) t in
      IsInodeAlike inode (list_after list asks (Some t)) (list_after list2 asks (Some t2)) used2
      (named_after r (length j) (length j2)) (j ++ event who d t ∷ [])
      (j2 ++ event who (deed_named r d) t2 ∷ [])
  -- longer lists and fewer files keep them alike, and so do other names of files that aren't used
  pub listed : (inode : Inode) (list list2 more more2 : List Entry) (used : ℕ → Bool) (r : ℕ → ℕ)
      (j j2 : List Event) → IsInodeAlike inode list list2 used r j j2
      → IsInodeAlike inode (list ++ more) (list2 ++ more2) used r j j2
  pub fewer : (inode : Inode) (list list2 : List Entry) (used used2 : ℕ → Bool) (r : ℕ → ℕ)
      (j j2 : List Event) → IsInodeAlike inode list list2 used r j j2
      → ((file : ℕ) → used2 file ≡ true → used file ≡ true)
      → IsInodeAlike inode list list2 used2 r j j2
  pub along : (inode : Inode) (list list2 list3 : List Entry) (used used2 : ℕ → Bool)
      (r r2 : ℕ → ℕ) (j j2 j3 : List Event) → IsInodeAlike inode list list2 used r j j2
      → IsInodeAlike inode list2 list3 used2 r2 j2 j3
      → ((file : ℕ) → used file ≡ true → used2 (r file) ≡ true)
      → IsInodeAlike inode list list3 used (λ file. r2 (r file)) j j3
