-- The examples of merged lists.
use Rattle.std.proofs.Common.{◌≡◌, ℕ, zero, suc, ◌<◌, Bool, true, false, List, [], ◌∷◌, Option, Some, refl, ap, arith, lit<}
use Rattle.std.specs.Prelude.{◌==◌, if◌then◌else◌, All, sum_by}
use Rattle.std.proofs.lemmas.List.Elements.{All-cons, All-contains, All-nil}
use Rattle.std.proofs.lemmas.Option.{same_Some}
use Rattle.inode_events.proofs.Deciding.{listed_by, rising}
use Rattle.inode_events.specs.Listing.{IsListed, mentions}
use Rattle.inode_events.specs.Merged.{IsMerged, Journal, Named, PlacesRise, places_added, times_added}
use Rattle.inode_events.specs.meta.declared.measurement.Template.TheVariants.{ImaNg, ImaSig}
use Rattle.inode_events.specs.templates.Same.{place_of_same, same}
use Rattle.inode_events.specs.templates.declared.entry.Entry.{Entry}
use Rattle.worked_examples.proofs.Entries.{boot_apart, boot_violation, entry_same, entry_violation}
use Rattle.worked_examples.proofs.Merging.{merged_from}
use Rattle.worked_examples.specs.Merged.{MergedExamples, beside_with, crossed_journals, crossed_list, doubled_journals, doubled_list, fallen_journals, fallen_list, merged_journals, merged_list, other_boot, overtaken_with, reader_with, twin, twin_with}
use Rattle.worked_examples.specs.Shared.{boot, entry, file_a, who}

-- ---- the merged list

-- the list has the entries of the journal
abbrev Listed : Journal → Type 0
Listed j = IsListed j.inode merged_list j.events

-- along the journal, the indices rise
abbrev Rises : Journal → Type 0
Rises j = PlacesRise j.inode j.events

-- task 0 finds the entry at index 1, and the writer's violation is at index 2
first_listed : Listed (overtaken_with 1 2)
first_listed = listed_by file_a merged_list (overtaken_with 1 2).events refl
    (ap (λ (o : Option ℕ). o ∷ []) found) where
      found : place_of_same merged_list entry ≡ Some 1
      found = rw (boot_apart, entry_same) refl

-- the twin's entry is at index 1
twin_listed : Listed (twin_with 1)
twin_listed = listed_by twin merged_list (twin_with 1).events refl refl

-- one event adds each entry after the first
once : (place : ℕ) → place < 3
    → sum_by (λ j. times_added place (places_added j.inode j.events)) merged_journals
    ≡ (if place == 0 then 0 else 1)
once zero b = refl
once (suc zero) b = refl
once (suc (suc zero)) b = refl
once (suc (suc (suc k))) b = absurd (omega arith)

-- the list is merged from the two journals
merged : IsMerged boot merged_list merged_journals
merged = merged_from boot merged_list merged_journals refl
    (All-cons Listed (overtaken_with 1 2) (twin_with 1 ∷ []) first_listed
    (All-cons Listed (twin_with 1) [] twin_listed (All-nil Listed)))
    once
    (All-cons Rises (overtaken_with 1 2) (twin_with 1 ∷ [])
    (rising (mentions file_a (overtaken_with 1 2).events) refl)
    (All-cons Rises (twin_with 1) [] (rising (mentions twin (twin_with 1).events) refl)
    (All-nil Rises)))
    refl
    ((λ k. boot_apart k ∷ boot_violation k ∷ []), ((λ k. entry_violation k ∷ []), (refl, tt)))

-- ---- lists that aren't merged

-- an added entry of the journal is below one that it found before
fallen : IsMerged boot fallen_list fallen_journals → ⊥
fallen merged = at (All-contains (λ j. PlacesRise j.inode j.events) fallen_journals
    (overtaken_with 2 1) merged.along_journals (0, omega arith, refl)) where
      at : PlacesRise file_a (overtaken_with 2 1).events → ⊥
      at rise =
          let earlier : List Named = (who 0 0 4, 2) ∷ [] in
          let last : All (λ (n : Named). n.1 < 1) earlier =
          All-contains (λ (a : Named). All (λ (n : Named). n.1 < a.1) earlier)
          ((who 2 0 1, 1) ∷ []) (who 2 0 1, 1) rise.0 (0, omega arith, refl) in
          let fell : 2 < 1 = All-contains (λ (n : Named). n.1 < 1) earlier (who 0 0 4, 2) last
          (0, omega arith, refl) in
          absurd (omega arith)

-- the second call of task 0 adds an entry below one that its first call found
crossed : IsMerged boot crossed_list crossed_journals → ⊥
crossed merged =
    let fell : 2 < 1 = merged.along_tasks (reader_with 2) (beside_with 1)
    (who 0 0 4, 2) (who 0 1 1, 1) (0, omega arith, refl) (2, omega arith, refl)
    (0, omega arith, refl) (0, omega arith, refl) refl in
    absurd (omega arith)

-- the boot aggregates have different templates
other_first : IsMerged other_boot merged_list merged_journals → ⊥
other_first merged = at (same_Some boot other_boot merged.first) where
  at : boot ≡ other_boot → ⊥
  at e = templates (ap (λ (x : Entry). x.template) e) where
    templates : ImaNg ≡ ImaSig → ⊥
    templates t = cc

-- the entries at the indices 1 and 2 are the same
doubled : IsMerged boot doubled_list doubled_journals → ⊥
doubled merged = at (same entry entry) entry_same
    (merged.distinct 1 2 entry entry (lit< tt) refl refl) where
      at : (b : Bool) → b ≡ true → b ≡ false → ⊥
      at b is isnt = cc

-- the examples, together
pub examples : MergedExamples
examples = record {
  merged = merged;
  fallen = fallen;
  crossed = crossed;
  other_first = other_first;
  doubled = doubled;
}
