-- What the code finds of an inode, under the names of the sights.
use Rattle.std.proofs.Common.{◌≡◌, ℕ, List, Some, ap, subst, ◌∙◌, slice_get}
use Rattle.inode_cell.specs.Value.{CellValue}
use Rattle.inode_events.specs.EndedInode.{EndedInodeValue}
use Rattle.inode_events.specs.templates.declared.entry.Entry.{Entry}
use Rattle.task_core.specs.Cells.{IsCellAt}
use Rattle.order_sights.specs.Inodes.{AreJournalsSame, IsCellSame}
use Rattle.order_sights.specs.Sights.{IsInodeSame}
use Rattle.order_sights.specs.declared.pairs.Pair.{Pair}
use Rattle.order_sights.specs.declared.sight.Sight.{Sight}

pub inode_found : (pairs : List Pair) (i : ℕ) (a b x y : Sight) → x ≡ a → y ≡ b
    → (c d : CellValue) (list list2 : List Entry) (xs ys : List EndedInodeValue)
    → IsCellAt x.world.consts x.world.state i (Some c)
    → IsCellAt y.world.consts y.world.state i (Some d) → IsCellSame c d → list ≡ x.ended.list
    → list2 ≡ y.ended.list → xs ≡ x.ended.inodes → ys ≡ y.ended.inodes
    → ((e f : EndedInodeValue) → slice_get xs i ≡ Some e → slice_get ys i ≡ Some f
    → AreJournalsSame list list2 pairs i e f) → IsInodeSame pairs i a b
inode_found pairs i a b x y is is2 c d list list2 xs ys at at2 cells same same2 inodes inodes2
    journals = record {
      cell = c;
      cell2 = d;
      at = subst (λ (s : Sight). IsCellAt s.world.consts s.world.state i (Some c)) is at;
      at2 = subst (λ (s : Sight). IsCellAt s.world.consts s.world.state i (Some d)) is2 at2;
      cells = cells;
      journals = λ e f there there2.
          subst (λ (l : List Entry). AreJournalsSame l b.ended.list pairs i e f)
          (same ∙ ap (λ (s : Sight). s.ended.list) is)
          (subst (λ (l : List Entry). AreJournalsSame list l pairs i e f)
          (same2 ∙ ap (λ (s : Sight). s.ended.list) is2)
          (journals e f
          (ap (λ (zs : List EndedInodeValue). slice_get zs i) (inodes
          ∙ ap (λ (s : Sight). s.ended.inodes) is) ∙ there)
          (ap (λ (zs : List EndedInodeValue). slice_get zs i) (inodes2
          ∙ ap (λ (s : Sight). s.ended.inodes) is2) ∙ there2)));
    }
