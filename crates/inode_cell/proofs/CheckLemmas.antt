-- The violation that a check finds.
use Rattle.std.proofs.Common.{◌≡◌, ℕ, Bool, false, List, Option, Some, None, refl, sym, ◌∙◌, ap, subst}
use Rattle.ima_templates.specs.declared.entry.Entry.{Entry}
use Rattle.ima_templates.specs.declared.entry.Placed.{Placed}
use Rattle.inode_events.specs.Asked.{asked, list_after, outcome, placed_for, violation_in}
use Rattle.inode_events.specs.Files.{held, holds, is_writer, is_writing, readers, writers}
use Rattle.inode_events.specs.Inode.{Inode}
use Rattle.inode_events.specs.Legal.{May}
use Rattle.inode_events.specs.Marks.{must_measure}
use Rattle.inode_events.specs.NewestFirst.{newest_first}
use Rattle.inode_events.specs.Says.{check_told, place_of}
use Rattle.inode_events.specs.Stage.{is_gone, stage}
use Rattle.inode_events.specs.declared.deed.Deed.{Deed}
use Rattle.inode_events.specs.declared.deed.Deed.TheVariants as deed
use Rattle.inode_events.specs.declared.deed.How.{How}
use Rattle.inode_events.specs.declared.told.Event.{Event}
use Rattle.inode_events.specs.declared.told.Told.{Told}
use Rattle.inode_events.specs.policy.declared.access.Action.{Action}
use Rattle.inode_events.specs.policy.declared.rule.Func.{Func}
use Rattle.inode_state.proofs.laws_of_journals.Lives.{check_alive}
use Rattle.inode_answers.specs.Answers.{found_told}
use Rattle.inode_answers.specs.declared.answers.Found.{Found}
use Rattle.inode_cell.specs.Listing.{with_asked}
use Rattle.inode_cell.specs.Value.{CellValue, IsSameCell}
use Rattle.inode_cell.proofs.GrantLemmas.{moved}

-- how the file was opened says whether it is open for writing
writing_by : (inner cell : CellValue) (file : ℕ) (func : Func) (action : Action) (rules : ℕ)
    (how : Option How) (w : Bool) → inner ≡ cell
    → May cell.inode (newest_first cell.list) (deed.Check file func action rules)
    → (is_gone (stage inner.inode file (newest_first inner.list)) ≡ false
    → how ≡ held file (newest_first inner.list))
    → w ≡ holds is_writer how → w ≡ is_writing file (newest_first cell.list)
writing_by inner cell file func action rules how w view may found is =
    is ∙ ap (holds is_writer) (subst (λ (v : CellValue). is_gone (stage v.inode file (newest_first
    v.list)) ≡ false → how ≡ held file (newest_first v.list)) view found
    (check_alive (stage cell.inode file (newest_first cell.list)) may))

-- the deed asks for this entry, and tells this of the list
pub record Enters (i : Inode) (q : List Event) (d : Deed) (l : List Entry) (e : Option Entry) (t :
    Told) : Type 0 where
  pub entry : e ≡ asked i d q
  pub told : outcome i l d q ≡ Some t

-- a check enters the violation that it found, at the place of its entry
check_enters : (i : Inode) (q : List Event) (file : ℕ) (func : Func) (action : Action) (rules :
    ℕ) (l : List Entry) (e : Option Entry) (w : Bool) (first found : Found) (placed : Placed)
    (n : ℕ) (t : Told) → w ≡ is_writing file q
    → found_told first ≡ check_told w action.measure (readers q) (writers q) (must_measure q) 0
    → e ≡ violation_in i (found_told first) → placed ≡ placed_for l e → n ≡ place_of placed
    → found_told found ≡ check_told w action.measure (readers q) (writers q) (must_measure q) n
    → t ≡ found_told found → Enters i q (deed.Check file func action rules) l e t
check_enters i q file func action rules l e w first found placed n t writing f is p place g told =
    let check : Bool → ℕ → Told =
    λ b k. check_told b action.measure (readers q) (writers q) (must_measure q) k in
    let d : Deed = deed.Check file func action rules in
    let asks : e ≡ asked i d q =
    is ∙ ap (violation_in i) (f ∙ ap (λ (b : Bool). check b 0) writing) in
    let there : place_of (placed_for l (asked i d q)) ≡ n =
    sym (place ∙ ap place_of (p ∙ ap (placed_for l) asks)) in
    record {
      entry = asks;
      told = ap Some ((λ j. check (sym writing j) (there j)) ∙ sym g ∙ sym told);
    }

-- the same once room is made, by what the calls on the way answer
pub entering : (inner cell mid there : CellValue) (file : ℕ) (func : Func) (action : Action) (rules :
    ℕ) (how : Option How) (w : Bool) (first found : Found) (l : List Entry) (e : Option Entry)
    (placed : Placed) (n : ℕ) (t : Told) → inner ≡ cell
    → May cell.inode (newest_first cell.list) (deed.Check file func action rules)
    → (is_gone (stage inner.inode file (newest_first inner.list)) ≡ false
    → how ≡ held file (newest_first inner.list))
    → w ≡ holds is_writer how
    → found_told first ≡ check_told w action.measure (readers (newest_first cell.list)) (writers
    (newest_first cell.list)) (must_measure (newest_first cell.list)) 0
    → e ≡ violation_in cell.inode (found_told first)
    → mid.list ≡ cell.list → IsSameCell cell mid → there ≡ mid
    → placed ≡ placed_for l e → n ≡ place_of placed
    → ((writing measure must : Bool) (rs ws : ℕ)
    → found_told first ≡ check_told writing measure rs ws must 0
    → found_told found ≡ check_told writing measure rs ws must n)
    → t ≡ found_told found
    → Enters there.inode (newest_first there.list) (deed.Check file func action rules) l e t
entering inner cell mid there file func action rules how w first found l e placed n t view may held_by
    writing f is list same view2 p place at told =
    let q = newest_first cell.list in
    moved cell mid there list same view2
    (λ (i : Inode) (q : List Event). Enters i q (deed.Check file func action rules) l e t)
    (check_enters cell.inode q file func action rules l e w first found placed n t
    (writing_by inner cell file func action rules how w view may held_by writing) f is p place
    (at w action.measure (must_measure q) (readers q) (writers q) f) told)

pub with_same : (l : List Entry) (o : Option Entry) (t : Told)
    → with_asked l o ≡ list_after l o (Some t)
with_same l None t = refl
with_same l (Some e) t = refl
