-- What the code finds of the journals of an inode is what is said of the inode.
use Rattle.std.proofs.Common.{◌≡◌, ℕ, List, [], ◌∷◌, ap, sym, subst, ◌∙◌}
use Rattle.std.specs.Prelude.{All}
use Rattle.inode_events.specs.EndedInode.{EndedInodeValue}
use Rattle.inode_events.specs.NewestFirst.{newest_first}
use Rattle.inode_events.specs.declared.told.Event.{Event}
use Rattle.inode_events.specs.templates.declared.entry.Entry.{Entry}
use Rattle.order_sights.specs.Inodes.{AreFilesSame, AreJournalsSame}
use Rattle.order_sights.specs.Taken.{taken}
use Rattle.order_told.specs.Told.{AreEntriesSame, IsCallSame}
use Rattle.order_sights.specs.declared.pairs.Pair.{Pair}

-- the journals and the inodes under other names
pub journals_same : (list list2 : List Entry) (pairs : List Pair) (i : ℕ) (x y : EndedInodeValue)
    (first second : List Event) (here there : List EndedInodeValue) → first ≡ x.journal
    → second ≡ y.journal → here ≡ x ∷ [] → there ≡ y ∷ [] → AreFilesSame pairs i first second
    → AreEntriesSame list list2 first second
    → taken (newest_first second) ≡ taken (newest_first first)
    → All (IsCallSame list list2 here there) first
    → All (IsCallSame list list2 here there) second → AreJournalsSame list list2 pairs i x y
journals_same list list2 pairs i x y first second here there is is2 alone alone2 files entries same
    calls calls2 = record {
      files = subst (λ (j : List Event). AreFilesSame pairs i x.journal j) is2
          (subst (λ (j : List Event). AreFilesSame pairs i j second) is files);
      entries = subst (λ (j : List Event). AreEntriesSame list list2 x.journal j) is2
          (subst (λ (j : List Event). AreEntriesSame list list2 j second) is entries);
      taken = ap (λ (j : List Event). taken (newest_first j)) (sym is2) ∙ same
          ∙ ap (λ (j : List Event). taken (newest_first j)) is;
      calls = at x.journal (subst
          (λ (j : List Event). All (IsCallSame list list2 here there) j) is calls);
      calls2 = at y.journal (subst
          (λ (j : List Event). All (IsCallSame list list2 here there) j) is2 calls2);
    }
  where
    at : (j : List Event) → All (IsCallSame list list2 here there) j
        → All (IsCallSame list list2 (x ∷ []) (y ∷ [])) j
    at j h = subst (λ (js : List EndedInodeValue). All (IsCallSame list list2 (x ∷ []) js) j) alone2
        (subst (λ (is : List EndedInodeValue). All (IsCallSame list list2 is there) j) alone h)
