-- Lists that are merged from the journals of several inodes, and lists that aren't.
use Rattle.std.specs.Prelude.{ℕ, List, [], ◌∷◌, ◌++◌}
use Rattle.inode_events.specs.Inode.{Inode}
use Rattle.inode_events.specs.Listing.{violated}
use Rattle.inode_events.specs.Merged.{IsMerged, Journal}
use Rattle.inode_events.specs.declared.deed.Deed.TheVariants as deed
use Rattle.inode_events.specs.declared.deed.How.TheVariants as how
use Rattle.inode_events.specs.declared.told.Event.{Event}
use Rattle.inode_events.specs.declared.told.Told.TheVariants as told
use Rattle.inode_events.specs.meta.declared.measurement.Template.TheVariants.{ImaSig}
use Rattle.inode_events.specs.policy.declared.rule.Func.TheVariants.{FileCheck}
use Rattle.inode_events.specs.templates.declared.entry.Entry.{Entry}
use Rattle.inode_events.specs.templates.declared.entry.Placed.TheVariants.{Added, Already}
use Rattle.std.specs.Prelude.{false}
use Rattle.worked_examples.specs.Shared.{boot, did, entry, file_a, file_b, granted, hashing_open, journal, measure, meta, writing_open}

-- an inode with the path and the content of the file /a, so that both have the same entry
abbrev pub twin : Inode
twin = record file_a { birth = record file_a.birth { meta = record meta { ino = 13 } } }

-- the inode with its journal, by its events since its birth
abbrev pub events_of : Inode → List Event → Journal
events_of inode events = record { inode = inode; events = journal inode events }

-- task 0 measures the file /a, and finds its entry
abbrev pub reader_with : ℕ → Journal
reader_with place = events_of file_a (hashing_open 0 0 1 measure (granted (Already place)))

-- task 0 finds the entry of the file /a, and then task 2 opens the file for writing
abbrev pub overtaken_with : ℕ → ℕ → Journal
overtaken_with found added = events_of file_a (hashing_open 0 0 1 measure (granted (Already found))
    ++ writing_open 2 0 6 (told.ToMToU added))

-- task 1 measures the twin, and adds the entry
abbrev pub twin_with : ℕ → Journal
twin_with place = events_of twin (hashing_open 1 0 1 measure (granted (Added place)))

-- task 2 opens the file /b for writing, and then task 0, in its second call, for reading
abbrev pub beside_with : ℕ → Journal
beside_with place = events_of file_b (writing_open 2 0 1 told.Quiet
    ++ did 0 1 0 (deed.Count (how.Read false)) told.Held
    ∷ did 0 1 1 (deed.Check 3 FileCheck measure 1) (told.OpenWriters place) ∷ [])

-- ---- a merged list

-- the twin's entry, which task 0 finds, and then the violation
abbrev pub merged_list : List Entry
merged_list = boot ∷ entry ∷ violated file_a ∷ []

-- the journals of that list
abbrev pub merged_journals : List Journal
merged_journals = overtaken_with 1 2 ∷ twin_with 1 ∷ []

-- ---- lists that aren't merged

-- the violation is added below the entry that was found before it
abbrev pub fallen_list : List Entry
fallen_list = boot ∷ violated file_a ∷ entry ∷ []

-- the journals of that list
abbrev pub fallen_journals : List Journal
fallen_journals = overtaken_with 2 1 ∷ twin_with 2 ∷ []

-- task 0 adds a violation below the entry that it found in its earlier call, on another file
abbrev pub crossed_list : List Entry
crossed_list = boot ∷ violated file_b ∷ entry ∷ []

-- the journals of that list
abbrev pub crossed_journals : List Journal
crossed_journals = reader_with 2 ∷ twin_with 2 ∷ beside_with 1 ∷ []

-- another first entry than the boot aggregate of the merged list
abbrev pub other_boot : Entry
other_boot = record boot { template = ImaSig }

-- both inodes add the same entry
abbrev pub doubled_list : List Entry
doubled_list = boot ∷ entry ∷ entry ∷ []

-- the journals of that list
abbrev pub doubled_journals : List Journal
doubled_journals = events_of file_a (hashing_open 0 0 1 measure (granted (Added 1)))
    ∷ twin_with 2 ∷ []

-- ---- the examples

-- which of the lists are merged from their journals
pub record MergedExamples : Type 0 where
  -- an entry is added, found, and followed by a violation
  pub merged : IsMerged boot merged_list merged_journals
  -- along one journal, an entry is added below one that was found
  pub fallen : IsMerged boot fallen_list fallen_journals → ⊥
  -- along a task's calls, an entry is added below one that was found in another journal
  pub crossed : IsMerged boot crossed_list crossed_journals → ⊥
  -- the first entry is another one
  pub other_first : IsMerged other_boot merged_list merged_journals → ⊥
  -- two entries are the same
  pub doubled : IsMerged boot doubled_list doubled_journals → ⊥
