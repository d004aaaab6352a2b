-- The inodes are closed from the last one to the first.
use Rattle.std.proofs.Common.{◌≡◌, ℕ, ◌+◌, List, [], ◌∷◌, ◌++◌, length, ap, sym, ◌∙◌, subst}
use Rattle.std.specs.Prelude.{reverse, slice_get}
use Rattle.std.specs.List.{AllZip}
use Rattle.std.proofs.lemmas.List.{append_assoc, reverse-append}
use Rattle.grow_list.specs.Shown.{ListName, Passed}
use Rattle.ima_templates.specs.declared.entry.Entry.{Entry}
use Rattle.inode_events.specs.EndedInode.{EndedInodeValue}
use Rattle.policy_cell.specs.declared.cell.RuleEntry.{RuleEntry}
use Rattle.world_model.specs.World.{WorldInodeValue}
use Rattle.world_close.specs.Closed.{AreClosedAfter, IsPushed, WorldInodeClosed, ended_world_inode}
use Rattle.world_close.specs.Rows.{AreNamed}
use Rattle.world_close.proofs.Gets.{get_left, get_last}

-- of the inodes that remain, the last has the last name
pub named_front : (names : ℕ → ListName) (n : ℕ) (all front : List WorldInodeValue)
    (s : WorldInodeValue) → all ≡ front ++ s ∷ [] → AreNamed names n all
    → AreNamed names n front
    × ((s.cell.journal ≡ names (length front)) × (s.cell.callers ≡ n + 1))
named_front names n all front s is named = (
  (λ k x at. named k x
      (ap (λ (l : List WorldInodeValue). slice_get l k) is ∙ get_left front (s ∷ []) k x at)),
  named (length front) s
      (ap (λ (l : List WorldInodeValue). slice_get l (length front)) is ∙ get_last front s),
)

-- one more inode is closed
pub closed_more : (all left front : List WorldInodeValue) (s : WorldInodeValue)
    (inodes inodes2 : List EndedInodeValue) (book book2 : List (Passed Entry))
    (rules rules2 : List (Passed RuleEntry)) → left ≡ front ++ s ∷ []
    → inodes2 ≡ inodes ++ ended_world_inode s ∷ [] → IsPushed s book book2
    → rules2 ≡ rules ++ s.rules ∷ [] → AreClosedAfter all left inodes book rules
    → AreClosedAfter all front inodes2 book2 rules2
closed_more all left front s inodes inodes2 book book2 rules rules2 is i b r old = record {
  done = s ∷ old.done;
  split = old.split ∙ ap (λ (l : List WorldInodeValue). l ++ old.done) is
      ∙ append_assoc front (s ∷ []) old.done;
  are = record {
    inodes_are = ap reverse i ∙ reverse-append inodes (ended_world_inode s ∷ [])
        ∙ ap (λ (l : List EndedInodeValue). ended_world_inode s ∷ l) old.are.inodes_are;
    rules_are = ap reverse r ∙ reverse-append rules (s.rules ∷ [])
        ∙ ap (λ (l : List (Passed RuleEntry)). s.rules ∷ l) old.are.rules_are;
    closed = subst (λ (l : List (Passed Entry)). AllZip WorldInodeClosed (s ∷ old.done) l)
        (sym (ap reverse b.is ∙ reverse-append book (b.pass ∷ []))) (b.closed, old.are.closed);
  };
}
