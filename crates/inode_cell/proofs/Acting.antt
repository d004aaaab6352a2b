-- The effect of a step, related to the cell before room was made for it.
use Rattle.std.proofs.Common.{◌≡◌, ℕ, true, List, Option, Some, None, refl, sym, ap, ◌∙◌, subst}
use Rattle.std.specs.Prelude.{is_some, option_map}
use Rattle.hash_algos.specs.Digest.{digest_of}
use Rattle.hash_algos.specs.declared.algo.Algo.TheVariants.{Sha1}
use Rattle.hash_algos.specs.declared.digest.Digest.{Digest}
use Rattle.inode_meta.specs.declared.identity.Meta.{Meta}
use Rattle.inode_events.specs.Inode.{Inode}
use Rattle.inode_events.specs.Integrity.{Collection, digest_from, labelled_by}
use Rattle.inode_events.specs.Says.{unless_collecting}
use Rattle.inode_state.proofs.laws_of_journals.Stages.{Collects}
use Rattle.xattr_store.specs.Attrs.{Pair}
use Rattle.inode_events.specs.NewestFirst.{newest_first}
use Rattle.inode_answers.specs.Changes.{labelled_on}
use Rattle.inode_cell.specs.Sums.{HasSums}
use Rattle.grow_list.specs.Shown.{Passed}
use Rattle.ima_templates.specs.declared.entry.Entry.{Entry}
use Rattle.inode_meta.specs.declared.step.Who.{Who}
use Rattle.inode_events.specs.declared.deed.Deed.{Deed}
use Rattle.inode_events.specs.declared.told.Event.{Event}
use Rattle.inode_events.specs.declared.told.Told.{Told}
use Rattle.inode_cell.specs.Acts.{Acts, MayBy}
use Rattle.inode_cell.specs.Value.{CellValue, IsSameCell}

pub same_self : (v : CellValue) → IsSameCell v v
same_self v = record {
  inode = refl;
  journal = refl;
  callers = refl;
  book = refl;
  booked = refl;
}

-- two cells with the same journal differ at most in their room
pub same_value : (old mid : CellValue) → mid.list ≡ old.list → IsSameCell old mid
    → mid ≡ record old { spare = mid.spare }
same_value old mid l s =
    let a = s.inode in
    let b = s.journal in
    let c = s.callers in
    let d = s.book in
    let e = s.booked in
    λ i. record {
      inode = a i;
      journal = b i;
      callers = c i;
      book = d i;
      booked = e i;
      spare =
          mid.spare;
      list = l i;
    }

pub acts_from : (old mid new : CellValue) (list list2 : List Entry) (pass pass2 : Passed Event)
    (who : Who) (d : Deed) (o : Option Told) → mid.list ≡ old.list
    → IsSameCell old mid → Acts mid new list list2 pass pass2 who d o
    → Acts old new list list2 pass pass2 who d o
acts_from old mid new list list2 pass pass2 who d o l s x =
    let y : Acts (record old { spare = mid.spare }) new list list2 pass pass2 who d o = subst (λ (v
    : CellValue). Acts v new list list2 pass pass2 who d o) (same_value old mid l s) x in
    record {
      told = y.told;
      journal = y.journal;
      book = y.book;
      seen = y.seen;
      mine = y.mine;
      pass_name = y.pass_name;
      pass_number = y.pass_number;
      same = record {
        inode = y.same.inode;
        journal = y.same.journal;
        callers = y.same.callers;
        book = y.same.book;
        booked = y.same.booked;
      };
    }

-- a step acts on the cell before room was made, with the outcome that the call's result stands for
pub acts_ok : (old mid new : CellValue) (list list2 : List Entry) (pass pass2 : Passed Event) (who
    : Who) (d : Deed) (t : Told) (o : Option Told)
    → mid.list ≡ old.list → IsSameCell old mid → Some t ≡ o
    → Acts mid new list list2 pass pass2 who d (Some t)
    → Acts old new list list2 pass pass2 who d o
acts_ok old mid new list list2 pass pass2 who d t o l s e x =
    subst (λ (y : Option Told). Acts old new list list2 pass pass2 who d y) e (acts_from old mid
    new list list2 pass pass2 who d (Some t) l s x)

-- the same, from within the cell
pub acts_inside : (old mid inside new : CellValue) (list list2 : List Entry) (pass pass2 : Passed
    Event) (who : Who) (d : Deed) (t u : Told)
    → mid.list ≡ old.list → IsSameCell old mid → inside ≡ mid → t ≡ u
    → Acts inside new list list2 pass pass2 who d (Some t)
    → Acts old new list list2 pass pass2 who d (Some u)
acts_inside old mid inside new list list2 pass pass2 who d t u l s v e x =
    acts_ok old mid new list list2 pass pass2 who d t (Some u) l s (ap Some e) (subst (λ (c :
    CellValue). Acts c new list list2 pass pass2 who d (Some t)) v x)

-- a deed that may be done may still be done once room is made
pub may_from : (old mid : CellValue) (n : ℕ) (d : Deed) → mid.list ≡ old.list → IsSameCell old mid
    → MayBy old n d → MayBy mid n d
may_from old mid n d l s m =
    let y : MayBy (record old { spare = mid.spare }) n d = record { may = m.may; by = m.by } in
    subst (λ (v : CellValue). MayBy v n d) (sym (same_value old mid l s)) y

-- a refused step acts on the cell before room was made, with the outcome that the result stands for
pub acts_refused : (old mid new : CellValue) (list list2 : List Entry) (pass pass2 : Passed Event)
    (who : Who) (d : Deed) (t u : Told) (o : Option Told)
    → mid.list ≡ old.list → IsSameCell old mid → t ≡ u → o ≡ Some u
    → Acts mid new list list2 pass pass2 who d (Some t)
    → Acts old new list list2 pass pass2 who d o
acts_refused old mid new list list2 pass pass2 who d t u o l s e f x = acts_ok old mid new list
    list2 pass pass2 who d t o l s (ap Some e ∙ sym f) x

-- an open collection blocks
pub blocked : (o : Option Collection) (t : Told) → is_some o ≡ true → unless_collecting o t ≡ None
blocked None t e = cc
blocked (Some c) t e = refl

-- ---- the label of a close

pub label_of_close : (i : Inode) (p : List Event) (file : ℕ) (sums : Digest
    × Digest) (o : Option Collection) (m : Meta) (a : List Pair) → Collects file o
    → ((c : Collection) → o ≡ Some c → (sums.0 ≡ digest_from c) × (sums.1 ≡ digest_of Sha1 c.bytes))
    → labelled_by i (option_map digest_from o) m a ≡ labelled_on i.settings.evm sums.0 m a
label_of_close i p file sums None m a h s = absurd h
label_of_close i p file sums (Some c) m a h s = ap (λ (d : Digest). labelled_on i.settings.evm d m
    a) (sym ((s c refl).0))

-- the digests of the collection are the same once room is made
pub sums_from : (old mid : CellValue) (sums : Digest × Digest) → mid.list ≡ old.list
    → IsSameCell old mid → HasSums old.inode (newest_first old.list) sums
    → HasSums mid.inode (newest_first mid.list) sums
sums_from old mid sums l s h =
    subst (λ (v : CellValue). HasSums v.inode (newest_first v.list) sums) (sym
    (same_value old mid l s)) h
