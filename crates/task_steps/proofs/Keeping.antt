-- A look at all lists leaves a world as it was.
use Rattle.std.proofs.Common.{◌≡◌, ℕ, zero, suc, ◌<◌, List, [], ◌∷◌, length, map, Some, refl, sym, ◌∙◌, ap, subst, arith}
use Rattle.std.specs.Prelude.{slice_get}
use Rattle.std.proofs.lemmas.List.{length-map}
use Rattle.std.proofs.lemmas.Option.{same_Some}
use Rattle.grow_list.specs.Shown.{ListName}
use Rattle.inode_events.specs.Inode.{Inode}
use Rattle.inode_events.specs.declared.told.Event.{Event}
use Rattle.policy_cell.specs.declared.cell.RuleEntry.{RuleEntry}
use Rattle.grow_list.specs.Shown.{Passed}
use Rattle.task_steps.specs.laws_of_runs.ScriptFiles.{ScriptFileRules}
use Rattle.task_steps.specs.Looking.{AreSameWorldInodes, IsSameWorldInode, SameAt}
use Rattle.task_steps.specs.worlds.WorldConsts.{InodeConsts, WorldConsts}
use Rattle.task_steps.specs.worlds.World.{IsWorldInode, WorldInodeValue, inode_consts_of, journal_of}

-- lists of the same length with the same element at each place are equal
same_lists : {A : Type 0} (xs ys : List A) → length xs ≡ length ys
    → ((k : ℕ) (x y : A) → slice_get xs k ≡ Some x → slice_get ys k ≡ Some y → x ≡ y) → xs ≡ ys
same_lists [] [] e f = refl
same_lists [] (y ∷ ys) e f = absurd (omega arith)
same_lists (x ∷ xs) [] e f = absurd (omega arith)
same_lists (x ∷ xs) (y ∷ ys) e f =
    ap (λ z. z ∷ xs) (f zero x y refl refl)
    ∙ ap (λ zs. y ∷ zs)
    (same_lists xs ys (omega arith) (λ k a b g h. f (suc k) a b g h))

-- each element of a mapped list is the image of an element
map_get : {A B : Type 0} (f : A → B) (xs : List A) (k : ℕ) (b : B) → slice_get (map f xs) k ≡ Some b
    → (a : A) × ((slice_get xs k ≡ Some a) × (f a ≡ b))
map_get f [] k b h = absurd (cc)
map_get f (x ∷ xs) zero b h = (x, (refl, same_Some (f x) b h))
map_get f (x ∷ xs) (suc k) b h = map_get f xs k b h

-- a function that a look preserves for each inode is preserved for all
pub kept_map : {B : Type 0} (f : WorldInodeValue → B) (old new : List WorldInodeValue)
    → AreSameWorldInodes old new → ((a b : WorldInodeValue) → IsSameWorldInode a b → f b ≡ f a)
    → map f new ≡ map f old
kept_map f old new k e =
    same_lists (map f new) (map f old)
    (length-map new f ∙ k.even ∙ sym (length-map old f))
    (λ i x y g h.
    let a = map_get f new i x g in
    let b = map_get f old i y h in
    let c : SameAt old i a.0 = k.each i a.0 a.1.0 in
    let same : c.before ≡ b.0 = same_Some c.before b.0 (sym c.at ∙ b.1.0) in
    sym a.1.1 ∙ e c.before a.0 c.kept ∙ ap f same ∙ b.1.1)

pub inode_consts_kept : (a b : WorldInodeValue) → IsSameWorldInode a b
    → inode_consts_of b ≡ inode_consts_of a
inode_consts_kept a b k =
    ap (λ (x : Inode). record {
      path = x.path;
      birth = x.birth;
      place = b.place;
      journal = b.cell.journal;
    }) k.cell.inode
    ∙ ap (λ (n : ℕ). record {
      path = a.cell.inode.path;
      birth = a.cell.inode.birth;
      place = n;
      journal = b.cell.journal;
    }) k.place
    ∙ ap (λ (x : ListName). record {
      path = a.cell.inode.path;
      birth = a.cell.inode.birth;
      place = a.place;
      journal = x;
    }) k.cell.journal

pub world_inode_kept : (consts : WorldConsts) (i : ℕ) (a b : WorldInodeValue) → IsSameWorldInode a b
    → IsWorldInode consts i a → IsWorldInode consts i b
world_inode_kept consts i a b k s = record {
  inode_consts = s.inode_consts ∙ ap (λ (x : InodeConsts). Some x) (sym (inode_consts_kept a b k));
  settings = ap (λ (x : Inode). x.settings) k.cell.inode ∙ s.settings;
  place = subst (λ (n : ℕ). n < length consts.supers) (sym k.place) s.place;
  callers = k.cell.callers ∙ s.callers;
  book = k.cell.book ∙ s.book;
  booked = k.cell.booked ∙ s.booked;
  rules_name = ap (λ (q : Passed RuleEntry). q.name) k.rules ∙ s.rules_name;
  rules_number = ap (λ (q : Passed RuleEntry). q.number) k.rules ∙ s.rules_number;
  rules_mine = ap (λ (q : Passed RuleEntry). q.mine) k.rules ∙ s.rules_mine;
  rise = subst (λ (q : Passed RuleEntry). ScriptFileRules (length consts.base) b.cell.list q.seen)
      (sym k.rules)
      (subst (λ (xs : List Event). ScriptFileRules (length consts.base) xs a.rules.seen)
      (sym k.list) s.rise);
}

pub world_inodes_kept : (consts : WorldConsts) (old new : List WorldInodeValue)
    → AreSameWorldInodes old new
    → ((i : ℕ) (s : WorldInodeValue) → slice_get old i ≡ Some s → IsWorldInode consts i s)
    → (i : ℕ) (s : WorldInodeValue) → slice_get new i ≡ Some s → IsWorldInode consts i s
world_inodes_kept consts old new k f i s h =
    let c : SameAt old i s = k.each i s h in
    world_inode_kept consts i c.before s c.kept (f i c.before c.at)

pub journals_kept : (old new : List WorldInodeValue) → AreSameWorldInodes old new
    → map journal_of new ≡ map journal_of old
journals_kept old new k = kept_map journal_of old new k (λ a b c. c.list)

pub each_inode_kept : (old new : List WorldInodeValue) → AreSameWorldInodes old new
    → map inode_consts_of new ≡ map inode_consts_of old
each_inode_kept old new k = kept_map inode_consts_of old new k inode_consts_kept
