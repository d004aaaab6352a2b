-- An inode in two moments: its journals and its cells.
use Rattle.std.specs.Prelude.{◌≡◌, ℕ, ◌<◌, All, true, List, [], ◌∷◌, length}
use Rattle.inode_cell.specs.Value.{CellValue}
use Rattle.inode_events.specs.Checks.{last_check}
use Rattle.inode_events.specs.EndedInode.{EndedInodeValue}
use Rattle.inode_events.specs.Files.{held}
use Rattle.inode_events.specs.Integrity.{attributes}
use Rattle.inode_events.specs.NewestFirst.{newest_first}
use Rattle.inode_events.specs.State.{content}
use Rattle.inode_events.specs.declared.told.Event.{Event}
use Rattle.inode_events.specs.templates.declared.entry.Entry.{Entry}
use Rattle.inode_state.specs.State.{IsState}
use Rattle.inode_state.specs.declared.state.State.{State}
use Rattle.order_sights.specs.Pairs.{has_pair}
use Rattle.order_sights.specs.States.{IsStateSame}
use Rattle.order_sights.specs.Taken.{taken}
use Rattle.order_told.specs.Told.{AreEntriesSame, IsCallSame, are_checks_below}
use Rattle.order_sights.specs.declared.pairs.Pair.{Pair}

-- both journals have a place of the file's name, and say the same of it
pub record IsPairFit (j j2 : List Event) (p : Pair) : Type 0 where
  pub below : p.first < length j
  pub below2 : p.second < length j2
  pub how : held p.second (newest_first j2) ≡ held p.first (newest_first j)
  pub check : last_check p.second (newest_first j2) ≡ last_check p.first (newest_first j)

abbrev pub FitsIfThere : ℕ → List Event → List Event → Pair → Type 0
FitsIfThere inode j j2 p = p.inode ≡ inode → IsPairFit j j2 p

-- the journals name files that they have counted, and say the same of those in pairs
pub record AreFilesSame (pairs : List Pair) (i : ℕ) (j j2 : List Event) : Type 0 where
  pub uncounted : has_pair pairs i 0 0 ≡ true
  pub checks : are_checks_below (length j) j ≡ true
  pub checks2 : are_checks_below (length j2) j2 ≡ true
  pub fit : All (FitsIfThere i j j2) pairs

-- the journals say the same of the files in pairs, of the entries that grants report, of what the
-- open collection has taken, and of the calls
pub record AreJournalsSame (list list2 : List Entry) (pairs : List Pair) (i : ℕ)
    (x y : EndedInodeValue) : Type 0 where
  pub files : AreFilesSame pairs i x.journal y.journal
  pub entries : AreEntriesSame list list2 x.journal y.journal
  pub taken : taken (newest_first y.journal) ≡ taken (newest_first x.journal)
  pub calls : All (IsCallSame list list2 (x ∷ []) (y ∷ [])) x.journal
  pub calls2 : All (IsCallSame list list2 (x ∷ []) (y ∷ [])) y.journal

-- the states that follow from the journals are the same, but for their collections
pub record IsCellSame (a b : CellValue) : Type 0 where
  pub first : State
  pub second : State
  pub state : IsState a.inode (newest_first a.list) first
  pub state2 : IsState b.inode (newest_first b.list) second
  pub same : IsStateSame first second
  pub content : content (newest_first b.list) ≡ content (newest_first a.list)
  pub attributes : attributes b.inode (newest_first b.list)
      ≡ attributes a.inode (newest_first a.list)
