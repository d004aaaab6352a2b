-- A look at one journal after another.
use Rattle.std.proofs.Common.{◌≡◌, ◌≢◌, ℕ, zero, suc, ◌+◌, ◌<◌, ◌≤◌, List, [], ◌∷◌, length, get_or, Some, refl, sym, ◌∙◌, ap, subst, arith, inl, inr}
use Rattle.std.specs.Prelude.{◌⊎◌, slice_get, slice_set}
use Rattle.std.proofs.lemmas.List.{length-set}
use Rattle.std.proofs.lemmas.Option.{slice_get_within}
use Rattle.grow_list.specs.Shown.{Passed}
use Rattle.inode_events.specs.declared.told.Event.{Event}
use Rattle.task_steps.proofs.laws_of_runs.Owned.{set_parts}
use Rattle.task_steps.specs.worlds.World.{WorldInodeValue}
use Rattle.task_steps.specs.Looking.{HaveLooked, HaveLookedTo, IsLooked, IsSameWorldInode, LookedAt, SameAt}

same_kept : (s : WorldInodeValue) → IsSameWorldInode s s
same_kept s = record {
  cell = record { inode = refl; journal = refl; callers = refl; book = refl; booked = refl };
  list = refl;
  rules = refl;
  place = refl;
}

-- before the first look
pub looks_init : (world_inodes : List WorldInodeValue) (passes : List (Passed Event))
    → HaveLookedTo 0 world_inodes world_inodes passes passes
looks_init world_inodes passes = record {
  kept = record {
    even = refl;
    each = λ i s h. record { before = s; at = h; kept = same_kept s };
  };
  even = refl;
  below = λ i q l h. absurd (omega arith);
  after = λ i l. refl;
  after_world_inodes = λ i l. refl;
}

set_after : {A : Type 0} (xs : List A) (n i : ℕ) (x : A) → n < i
    → slice_get (slice_set xs n x) i ≡ slice_get xs i
set_after [] n i x l = refl
set_after (y ∷ ys) zero zero x l = absurd (omega arith)
set_after (y ∷ ys) zero (suc i) x l = refl
set_after (y ∷ ys) (suc n) zero x l = absurd (omega arith)
set_after (y ∷ ys) (suc n) (suc i) x l = set_after ys n i x (omega arith)

-- after one more look
pub looks_more : (n : ℕ) (world_inodes world_inodes2 : List WorldInodeValue)
    (old new : List (Passed Event)) (s s2 : WorldInodeValue) (q q2 : Passed Event)
    → HaveLookedTo n world_inodes world_inodes2 old new
    → slice_get world_inodes2 n ≡ Some s → slice_get new n ≡ Some q → IsSameWorldInode s s2
    → IsLooked s q q2
    → HaveLookedTo (n + 1) world_inodes (slice_set world_inodes2 n s2) old (slice_set new n q2)
looks_more n world_inodes world_inodes2 old new s s2 q q2 h at there kept looked = record {
  kept = record {
    even = length-set world_inodes2 n s2 ∙ h.kept.even;
    each = λ i z e. kept_at i z
        (set_parts world_inodes2 n i s2 z e (slice_get_within world_inodes2 n s at));
  };
  even = length-set new n q2 ∙ h.even;
  below = λ i z l e. looked_at i z l (set_parts new n i q2 z e (slice_get_within new n q there));
  after = λ i l. set_after new n i q2 (omega arith) ∙ h.after i (omega arith);
  after_world_inodes = λ i l.
      set_after world_inodes2 n i s2 (omega arith) ∙ h.after_world_inodes i (omega arith);
} where
  was : slice_get world_inodes n ≡ Some s
  was = sym (h.after_world_inodes n (omega arith)) ∙ at

  kept_at : (i : ℕ) (z : WorldInodeValue)
      → ((i ≡ n) × (z ≡ s2)) ⊎ ((n ≢ i) × (slice_get world_inodes2 i ≡ Some z))
      → SameAt world_inodes i z
  kept_at i z (inl x) = record {
    before = s;
    at = ap (slice_get world_inodes) x.0 ∙ was;
    kept = subst (IsSameWorldInode s) (sym x.1) kept;
  }
  kept_at i z (inr x) = h.kept.each i z x.1

  looked_at : (i : ℕ) (z : Passed Event) → i < n + 1
      → ((i ≡ n) × (z ≡ q2)) ⊎ ((n ≢ i) × (slice_get new i ≡ Some z))
      → LookedAt world_inodes old i z
  looked_at i z l (inl x) = record {
    before = q;
    at = ap (slice_get old) x.0 ∙ sym (h.after n (omega arith)) ∙ there;
    world_inode = s;
    world_inode_at = ap (slice_get world_inodes) x.0 ∙ was;
    looked = subst (IsLooked s q) (sym x.1) looked;
  }
  looked_at i z l (inr x) = h.below i z (lower i l x.0) x.1 where
    lower : (j : ℕ) → j < n + 1 → n ≢ j → j < n
    lower j a b = omega arith

-- after the last look
pub looks_end : (n : ℕ) (world_inodes world_inodes2 : List WorldInodeValue)
    (old new : List (Passed Event))
    → HaveLookedTo n world_inodes world_inodes2 old new → length new ≤ n
    → HaveLooked world_inodes old new
looks_end n world_inodes world_inodes2 old new h l = record {
  even = h.even;
  each = λ i q e. h.below i q (within i q e) e;
} where
  within : (i : ℕ) (q : Passed Event) → slice_get new i ≡ Some q → i < n
  within i q e = let k : i < length new = slice_get_within new i q e in omega arith

-- an element that was read at an index is found there
pub at_index : {A : Type 0} (xs : List A) (i : ℕ) (x d : A) → i < length xs → x ≡ get_or xs i d
    → slice_get xs i ≡ Some x
at_index [] i x d l e = absurd (omega arith)
at_index (y ∷ ys) zero x d l e = ap Some (sym e)
at_index (y ∷ ys) (suc i) x d l e = at_index ys i x d (omega arith) e
