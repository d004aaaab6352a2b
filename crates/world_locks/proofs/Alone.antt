-- A deed under the inode's lock alone: after a look it may be done; and its effect.
use Rattle.std.proofs.Common.{◌≡◌, ℕ, List, map, Option, Some, None, refl, sym, ◌∙◌, ap, subst}
use Rattle.std.specs.Prelude.{IfOk, OnErr, Result, Ok, Err}
use mathlib.Core.List.{IsPrefix}
use Rattle.grow_list.specs.Entries.{entries_of}
use Rattle.grow_list.specs.Shown.{Passed}
use Rattle.ima_templates.specs.declared.entry.Entry.{Entry}
use Rattle.inode_cell.specs.Acts.{Acts, MayBy, Stays}
use Rattle.inode_cell.specs.Value.{CellValue, IsSameCell}
use Rattle.inode_meta.specs.declared.step.Who.{Who}
use Rattle.inode_events.specs.Asked.{outcome}
use Rattle.inode_events.specs.Callers.{caller_of}
use Rattle.inode_events.specs.Inode.{Inode}
use Rattle.inode_events.specs.Legal.{Legal, May}
use Rattle.inode_events.specs.NewestFirst.{newest_first}
use Rattle.inode_events.specs.declared.deed.Deed.{Deed}
use Rattle.inode_events.specs.declared.told.Event.{Event}
use Rattle.inode_events.specs.declared.told.Told.{Told}
use Rattle.inode_cell.specs.laws_of_journals.OwnLaws.{TellsByMine}
use Rattle.inode_cell.specs.laws_of_journals.Own.{IsBy, IsOwned}
use Rattle.task_steps.proofs.Leaving.{acts_leave, leaves_looked, stays_leave}
use Rattle.task_steps.specs.Leaving.{Leaves, told_by}
use Rattle.task_steps.specs.worlds.Ready.{HasLooked}

-- a look at the journal of a cell, which leaves the cell as it was
pub record CellLooked (old new : CellValue) (pass pass2 : Passed Event) : Type 0 where
  pub list : new.list ≡ old.list
  pub same : IsSameCell old new
  pub before : IsPrefix pass.seen old.list
  pub seen : pass2.seen ≡ new.list
  pub mine : pass2.mine ≡ pass.mine
  pub same_pass : (pass2.name ≡ pass.name) × (pass2.number ≡ pass.number)
  pub tells : TellsByMine old.inode pass2.number pass.seen old.list pass2.mine
  pub own : entries_of pass2.number (map caller_of old.list) old.list ≡ pass2.mine
  pub legal : Legal old.inode (newest_first old.list)
  pub owned : IsOwned (newest_first old.list)

module _ (old between : CellValue) (pass pass1 : Passed Event)
    (look : CellLooked old between pass pass1) where
  -- what the look tells the pass, by the pass before it
  pub has_looked : HasLooked old.inode pass.number pass.seen old.list pass.mine
  has_looked = record {
    before = look.before;
    own = ap (λ (n : ℕ). entries_of n (map caller_of old.list) old.list) (sym look.same_pass.1)
        ∙ look.own ∙ look.mine;
    legal = look.legal;
    owned = look.owned;
    tells = subst (λ (n : ℕ). TellsByMine old.inode n pass.seen old.list pass.mine) look.same_pass.1
        (subst (λ (xs : List (ℕ × Event)). TellsByMine old.inode pass1.number pass.seen old.list
        xs) look.mine look.tells);
  }

  -- after the look the deed may be done
  pub may_after : (d : Deed)
      → (HasLooked old.inode pass.number pass.seen old.list pass.mine → MayBy old pass.number d)
      → MayBy between pass1.number d
  may_after d may =
      let x : MayBy old pass.number d = may has_looked in
      record {
        may = subst (λ (i : Inode). May i (newest_first between.list) d) (sym look.same.inode)
            (subst (λ (xs : List Event). May old.inode (newest_first xs) d) (sym look.list) x.may);
        by = subst (λ (n : ℕ). IsBy n d (newest_first between.list)) (sym look.same_pass.1)
            (subst (λ (xs : List Event). IsBy pass.number d (newest_first xs))
            (sym look.list) x.by);
      }

  -- the effect of the deed after the look is one on the cell before the look
  leaves_after : (new : CellValue) (list list2 : List Entry) (pass2 : Passed Event) (who : Who)
      (d : Deed) (o : Option Told) → Leaves between new list list2 pass1 pass2 who d o
      → Leaves old new list list2 pass pass2 who d o
  leaves_after new list list2 pass2 who d o x =
      leaves_looked old between new list list2 pass pass1 pass2 who d o look.list look.same
      look.mine look.same_pass x

  module _ {A E : Type 0} (f : A → Told) (new : CellValue) (pass2 : Passed Event) (who : Who)
      (d : Deed) where
    -- whatever the measurement list holds, the deed leaves it as it was
    pub leaves_alone : (r : Result A E)
        → IfOk r (λ x. (list : List Entry)
        → Acts between new list list pass1 pass2 who d (Some (f x)))
        → OnErr r (Stays between new pass1 pass2) → (list : List Entry)
        → Leaves old new list list pass pass2 who d (told_by f r)
    leaves_alone (Ok x) a s list =
        leaves_after new list list pass2 who d (Some (f x))
        (acts_leave between new list list pass1 pass2 who d (Some (f x)) (a list))
    leaves_alone (Err e) a s list =
        leaves_after new list list pass2 who d None
        (stays_leave between new list list pass1 pass2 who d s refl look.seen)

    -- the outcome is the one on the cell before the look
    pub told_alone : (r : Result A E)
        → IfOk r (λ x. (list : List Entry)
        → Acts between new list list pass1 pass2 who d (Some (f x)))
        → IfOk r (λ x. (list : List Entry)
        → Some (f x) ≡ outcome old.inode list d (newest_first old.list))
    told_alone (Ok x) a =
        λ list.
        (a list).told
        ∙ ap (λ (i : Inode). outcome i list d (newest_first between.list)) look.same.inode
        ∙ ap (λ (xs : List Event). outcome old.inode list d (newest_first xs)) look.list
    told_alone (Err e) a = tt
