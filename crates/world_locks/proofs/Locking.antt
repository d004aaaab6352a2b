-- The lists that are taken out of their locks belong to the constants.
use Rattle.std.proofs.Common.{◌≡◌, ℕ, zero, suc, ◌+◌, List, [], ◌∷◌, ◌++◌, length, map, Some, refl, sym, ◌∙◌, ap, subst, arith, inl, inr}
use Rattle.std.specs.Prelude.{slice_get}
use Rattle.std.proofs.lemmas.List.{length-map}
use Rattle.std.proofs.lemmas.Option.{same_Some}
use Rattle.ima_templates.specs.declared.entry.Entry.{Entry}
use Rattle.world_close.specs.worlds.WorldConsts.{InodeConsts, WorldConsts, boot_in}
use Rattle.world_close.specs.worlds.World.{IsWorldInode, WorldInodeValue, inode_consts_of}
use Rattle.world_close.proofs.Gets.{get_last, get_left, get_map, get_parts}
use Rattle.world_close.specs.Closed.{AreWorldInodes}
use Rattle.world_close.specs.Parts.{KeepConsts, consts_of_parts}
use Rattle.world_close.specs.declared.parts.Parts.{Parts}
use Rattle.world_locks.specs.Each.{AreEach}

-- the inodes before the last one are each the one of their number
pub each_before : (consts : WorldConsts) (all left : List WorldInodeValue) (s : WorldInodeValue)
    → all ≡ left ++ s ∷ [] → AreEach consts all → AreEach consts left
each_before consts all left s e each i x at =
    each i x (ap (λ (xs : List WorldInodeValue). slice_get xs i) e ∙ get_left left (s ∷ []) i x at)

-- the last inode is the one whose number is the count of those before it
pub last_is : (consts : WorldConsts) (all left : List WorldInodeValue) (s : WorldInodeValue)
    → all ≡ left ++ s ∷ [] → AreEach consts all → IsWorldInode consts (length left) s
last_is consts all left s e each =
    each (length left) s
    (ap (λ (xs : List WorldInodeValue). slice_get xs (length left)) e ∙ get_last left s)

-- of no inodes each is the one of its number
pub each_none : (consts : WorldConsts) (world_inodes : List WorldInodeValue) → world_inodes ≡ []
    → AreEach consts world_inodes
each_none consts world_inodes e i s at =
    let none : slice_get [] i ≡ Some s =
    ap (λ (xs : List WorldInodeValue). slice_get xs i) (sym e) ∙ at in
    absurd (cc)

-- with the next inode added, each is still the one of its number
pub each_more : (consts : WorldConsts) (world_inodes all : List WorldInodeValue) (n : ℕ)
    (s : WorldInodeValue)
    → all ≡ world_inodes ++ s ∷ [] → n ≡ length world_inodes → IsWorldInode consts n s
    → AreEach consts world_inodes → AreEach consts all
each_more consts world_inodes all n s e number is each i x at =
    elim (get_parts world_inodes (s ∷ []) i x
    (ap (λ (xs : List WorldInodeValue). slice_get xs i) (sym e) ∙ at)) [
      | inl w ↦ each i x w
      | inr w ↦ last w.0 w.1.0 w.1.1
    ] where
      last : (j : ℕ) → i ≡ length world_inodes + j → slice_get (s ∷ []) j ≡ Some x
          → IsWorldInode consts i x
      last zero k h =
          subst (λ (m : ℕ). IsWorldInode consts m x)
          (let l : n ≡ i = omega arith in l)
          (subst (λ (y : WorldInodeValue). IsWorldInode consts n y) (same_Some s x h) is)
      last (suc j) k h = absurd (cc)

-- ---- the constants

-- lists of the same length with the same element at each place are equal
same_lists : {A : Type 0} (xs ys : List A) → length xs ≡ length ys
    → ((k : ℕ) (x : A) → slice_get xs k ≡ Some x → slice_get ys k ≡ Some x) → xs ≡ ys
same_lists [] [] e f = refl
same_lists [] (y ∷ ys) e f = absurd (omega arith)
same_lists (x ∷ xs) [] e f = absurd (omega arith)
same_lists (x ∷ xs) (y ∷ ys) e f =
    let first : y ≡ x = same_Some y x (f zero x refl) in
    let rest : xs ≡ ys = same_lists xs ys (omega arith) (λ k z h. f (suc k) z h) in
    λ i. sym first i ∷ rest i

each_inode_are : (consts : WorldConsts) (world_inodes : List WorldInodeValue)
    → AreWorldInodes consts world_inodes → map inode_consts_of world_inodes ≡ consts.each_inode
each_inode_are consts world_inodes are =
    same_lists (map inode_consts_of world_inodes) consts.each_inode
    (length-map world_inodes inode_consts_of ∙ are.even) (λ k x h.
    let s = get_map inode_consts_of world_inodes k x h in
    (are.each k s.0 s.1.0).inode_consts ∙ ap (λ (y : InodeConsts). Some y) s.1.1)

boot_is : (list : List Entry) (boot : Entry) → slice_get list 0 ≡ Some boot
    → boot_in list ≡ boot
boot_is [] boot h = absurd (cc)
boot_is (e ∷ es) boot h = same_Some e boot h

-- the constants of lists that belong to some constants are these
pub consts_kept : (consts : WorldConsts) (p : Parts) → KeepConsts consts p
    → consts_of_parts p ≡ consts
consts_kept consts p keep = λ i. record {
  settings = keep.settings i;
  boot = boot_is p.book.list consts.boot keep.book.boot i;
  each_inode = each_inode_are consts p.world_inodes.items keep.world_inodes i;
  supers = keep.supers i;
  base = keep.rules.base i;
  book = keep.book.name i;
  signals = keep.sems.name i;
  rules = keep.rules.name i;
  tasks = keep.tasks i;
}
