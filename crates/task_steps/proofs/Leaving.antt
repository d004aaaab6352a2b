-- The lists after a deed, whatever its outcome.
use Rattle.std.proofs.Common.{◌≡◌, ℕ, ◌++◌, List, length, Option, Some, None, refl, sym, ◌∙◌, ap, subst}
use Rattle.std.specs.Prelude.{IfOk, OnErr, Result, Ok, Err}
use Rattle.std.proofs.lemmas.List.{append-nil}
use Rattle.grow_list.specs.Shown.{Passed}
use Rattle.ima_templates.specs.declared.entry.Entry.{Entry}
use Rattle.world_model.specs.inodes.Acts.{Acts, Stays}
use Rattle.world_model.specs.inodes.Value.{CellValue, IsSameCell}
use Rattle.world_model.specs.Due.{HashesTold}
use Rattle.world_model.specs.declared.hash_state.HashState.{HashState}
use Rattle.inode_events.specs.Asked.{asked, entered, list_after, made, outcome}
use Rattle.inode_events.specs.Inode.{Inode}
use Rattle.inode_events.specs.NewestFirst.{newest_first}
use Rattle.inode_events.specs.declared.deed.Deed.{Deed}
use Rattle.inode_events.specs.declared.told.Event.{Event}
use Rattle.inode_events.specs.declared.told.Told.{Told}
use Rattle.inode_meta.specs.declared.step.Who.{Who}
use Rattle.task_state.specs.Steps.{deed_in}
use Rattle.task_state.specs.declared.step.DueDeed.{DueDeed}
use Rattle.task_steps.specs.Leaving.{Leaves, answer_by, told_by, told_in}

-- what the deed of one arm did, the due deed did
pub acts_due : {E : Type 0} (old new : CellValue) (pass pass2 : Passed Event) (who : Who)
    (r : Result (Option Told) E) {x y : DueDeed} → x ≡ y
    → IfOk r (λ o. (list : List Entry) → Acts old new list list pass pass2 who (deed_in y) o)
    → IfOk r (λ o. (list : List Entry) → Acts old new list list pass pass2 who (deed_in x) o)
acts_due old new pass pass2 who r same acts =
    subst (λ (d : DueDeed). IfOk r (λ o. (list : List Entry)
    → Acts old new list list pass pass2 who (deed_in d) o)) (sym same) acts

-- what a call on the inode did, the deed did that has its answer
pub acts_by : {A E : Type 0} (old new : CellValue) (pass pass2 : Passed Event) (who : Who)
    (f : A → Option Told) (r : Result A E) (x : Result (Option Told) E) {d e : Deed} → d ≡ e
    → x ≡ answer_by f r
    → IfOk r (λ v. (list : List Entry) → Acts old new list list pass pass2 who e (f v))
    → IfOk x (λ o. (list : List Entry) → Acts old new list list pass pass2 who d o)
acts_by {A} {E} old new pass pass2 who f (Ok v) x {d} {e} same is acts =
    subst (λ (y : Result (Option Told) E). IfOk y (λ o. (list : List Entry)
    → Acts old new list list pass pass2 who d o)) (sym is)
    (λ list. subst (λ (y : Deed). Acts old new list list pass pass2 who y (f v)) (sym same)
    (acts list))
acts_by {A} {E} old new pass pass2 who f (Err b) x {d} {e} same is acts =
    subst (λ (y : Result (Option Told) E). IfOk y (λ o. (list : List Entry)
    → Acts old new list list pass pass2 who d o)) (sym is) tt

-- what a call on the inode left when memory ran out, the deed left
pub stays_by : {A E : Type 0} (S : Type 0) (f : A → Option Told) (r : Result A E)
    (x : Result (Option Told) E) → x ≡ answer_by f r → OnErr r S → OnErr x S
stays_by {A} {E} S f (Ok v) x is stays =
    subst (λ (y : Result (Option Told) E). OnErr y S) (sym is) tt
stays_by {A} {E} S f (Err b) x is stays =
    subst (λ (y : Result (Option Told) E). OnErr y S) (sym is) stays

module _ (old new : CellValue) (list list2 : List Entry) (pass pass2 : Passed Event) (who : Who)
    (d : Deed) where
  -- the lists after an event, or after the deed was blocked
  pub acts_leave : (o : Option Told) → Acts old new list list2 pass pass2 who d o
      → Leaves old new list list2 pass pass2 who d o
  acts_leave o a = record {
    journal = a.journal;
    book = a.book;
    seen = a.seen;
    mine = a.mine;
    pass_name = a.pass_name;
    pass_number = a.pass_number;
    same = a.same;
  }

  -- the lists after memory ran out
  pub stays_leave : Stays old new pass pass2 → list2 ≡ list → pass.seen ≡ old.list
      → Leaves old new list list2 pass pass2 who d None
  stays_leave s b e = record {
    journal = s.journal ∙ sym (append-nil old.list);
    book = b;
    seen = ap (λ (q : Passed Event). q.seen) s.passed ∙ e ∙ sym s.journal;
    mine = ap (λ (q : Passed Event). q.mine) s.passed ∙ sym (append-nil pass.mine);
    pass_name = ap (λ (q : Passed Event). q.name) s.passed;
    pass_number = ap (λ (q : Passed Event). q.number) s.passed;
    same = s.same;
  }

  pub leaves_told : {E : Type 0} (r : Result (Option Told) E)
      → IfOk r (λ o. Acts old new list list2 pass pass2 who d o)
      → OnErr r (Stays old new pass pass2) → OnErr r (list2 ≡ list) → pass.seen ≡ old.list
      → Leaves old new list list2 pass pass2 who d (told_in r)
  leaves_told (Ok o) a s b e = acts_leave o a
  leaves_told (Err x) a s b e = stays_leave s b e

  pub leaves_by : {A E : Type 0} (f : A → Told) (r : Result A E)
      → IfOk r (λ x. Acts old new list list2 pass pass2 who d (Some (f x)))
      → OnErr r (Stays old new pass pass2) → OnErr r (list2 ≡ list) → pass.seen ≡ old.list
      → Leaves old new list list2 pass pass2 who d (told_by f r)
  leaves_by f (Ok x) a s b e = acts_leave (Some (f x)) a
  leaves_by f (Err x) a s b e = stays_leave s b e

-- what a deed leaves after a look is what it leaves of the cell and the pass before the look
pub leaves_looked : (old between new : CellValue) (list list2 : List Entry)
    (pass pass1 pass2 : Passed Event) (who : Who) (d : Deed) (o : Option Told)
    → between.list ≡ old.list → IsSameCell old between → pass1.mine ≡ pass.mine
    → (pass1.name ≡ pass.name) × (pass1.number ≡ pass.number)
    → Leaves between new list list2 pass1 pass2 who d o
    → Leaves old new list list2 pass pass2 who d o
leaves_looked old between new list list2 pass pass1 pass2 who d o journal same mine pass_same x =
    record {
      journal = x.journal ∙ ap (λ (xs : List Event). xs ++ made who d o) journal;
      book = x.book
          ∙ ap (λ (i : Inode). list_after list (asked i d (newest_first between.list)) o) same.inode
          ∙ ap (λ (xs : List Event). list_after list (asked old.inode d (newest_first xs)) o)
          journal;
      seen = x.seen;
      mine = x.mine
          ∙ ap (λ (xs : List (ℕ × Event)). xs ++ entered (length between.list) who d o) mine
          ∙ ap (λ (xs : List Event). pass.mine ++ entered (length xs) who d o) journal;
      pass_name = x.pass_name ∙ pass_same.0;
      pass_number = x.pass_number ∙ pass_same.1;
      same = record {
        inode = x.same.inode ∙ same.inode;
        journal = x.same.journal ∙ same.journal;
        callers = x.same.callers ∙ same.callers;
        book = x.same.book ∙ same.book;
        booked = x.same.booked ∙ same.booked;
      };
    }

-- a deed that doesn't consult the measurement list leaves it as it was
pub leaves_alone : {E : Type 0} (old new : CellValue) (pass pass2 : Passed Event) (who : Who)
    (d : Deed) (r : Result (Option Told) E)
    → IfOk r (λ o. (list : List Entry) → Acts old new list list pass pass2 who d o)
    → OnErr r (Stays old new pass pass2) → pass.seen ≡ old.list → (list : List Entry)
    → Leaves old new list list pass pass2 who d (told_in r)
leaves_alone old new pass pass2 who d (Ok o) a s e list =
    acts_leave old new list list pass pass2 who d o (a list)
leaves_alone old new pass pass2 who d (Err x) a s e list =
    stays_leave old new list list pass pass2 who d s refl e

-- an outcome that holds for every measurement list holds for this one
pub told_at : {E : Type 0} (inode : Inode) (journal : List Event) (d : Deed)
    (r : Result (Option Told) E)
    → IfOk r (λ o. (list : List Entry) → o ≡ outcome inode list d (newest_first journal))
    → (list : List Entry) → IfOk r (λ o. o ≡ outcome inode list d (newest_first journal))
told_at inode journal d (Ok o) a list = a list
told_at inode journal d (Err x) a list = tt

-- the outcome of what was done is the deed's
pub told_acts : {E : Type 0} (old new : CellValue) (list list2 : List Entry)
    (pass pass2 : Passed Event) (who : Who) (d : Deed) (r : Result (Option Told) E)
    → IfOk r (λ o. Acts old new list list2 pass pass2 who d o)
    → IfOk r (λ o. o ≡ outcome old.inode list d (newest_first old.list))
told_acts old new list list2 pass pass2 who d (Ok o) a = a.told
told_acts old new list list2 pass pass2 who d (Err x) a = tt

-- the same for every measurement list
pub told_alone : {E : Type 0} (old new : CellValue) (pass pass2 : Passed Event) (who : Who)
    (d : Deed) (r : Result (Option Told) E)
    → IfOk r (λ o. (list : List Entry) → Acts old new list list pass pass2 who d o)
    → IfOk r (λ o. (list : List Entry) → o ≡ outcome old.inode list d (newest_first old.list))
told_alone old new pass pass2 who d (Ok o) a = λ list. (a list).told
told_alone old new pass pass2 who d (Err x) a = tt

-- what the task has hashed after the deed, whatever its outcome
pub hashes_told : {E : Type 0} (inode : Inode) (list : List Event) (g g2 : HashState) (d : Deed)
    (r : Result (Option Told) E) → IfOk r (λ o. HashesTold inode list g g2 d o)
    → OnErr r (g2 ≡ g) → HashesTold inode list g g2 d (told_in r)
hashes_told inode list g g2 d (Ok o) a e = a
hashes_told inode list g g2 d (Err x) a e = e

-- a proposition that holds in any case holds of an error
pub on_err : {A E : Type 0} (r : Result A E) (P : Type 0) → P → OnErr r P
on_err (Ok x) P p = tt
on_err (Err e) P p = p
