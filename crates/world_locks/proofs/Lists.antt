-- The measurement list and the rules under their locks belong to the constants after each step.
use Rattle.std.proofs.Common.{◌≡◌, ℕ, List, [], ◌∷◌, ◌++◌, map, Option, Some, None, refl, sym, ◌∙◌, ap}
use Rattle.std.specs.Prelude.{OnErr, OnOk, Result, Ok, Err, slice_get}
use Rattle.std.proofs.lemmas.List.{map-append}
use Rattle.grow_list.specs.Shown.{Grown, IsSameList, Passed}
use Rattle.ima_templates.specs.Same.{add, add_by, place_of_same}
use Rattle.ima_templates.specs.declared.entry.Entry.{Entry}
use Rattle.inode_meta.specs.declared.step.Who.{Who}
use Rattle.inode_events.specs.Asked.{asked, list_after}
use Rattle.inode_events.specs.NewestFirst.{newest_first}
use Rattle.inode_events.specs.declared.deed.Deed.{Deed}
use Rattle.inode_events.specs.declared.told.Event.{Event}
use Rattle.inode_events.specs.declared.told.Told.{Told}
use Rattle.policy_cell.specs.Policy.{PolicyValue}
use Rattle.policy_cell.specs.declared.cell.RuleEntry.{RuleEntry}
use Rattle.world_close.specs.worlds.WorldConsts.{WorldConsts}
use Rattle.world_close.specs.worlds.World.{AreRulesOf, IsBookOf, WorldInodeValue}
use Rattle.world_close.specs.worlds.declared.hash_state.HashState.{HashState}
use Rattle.task_steps.specs.Acting.{WorldInodeDid}

-- ---- the measurement list

-- an entry added to the measurement list leaves the first entry as it was
added_first : (x : Entry) (xs : List Entry) (e : Entry)
    → slice_get (add (x ∷ xs) e) 0 ≡ Some x
added_first x xs e = at (place_of_same (x ∷ xs) e) where
  at : (o : Option ℕ) → slice_get (add_by o (x ∷ xs) e) 0 ≡ Some x
  at None = refl
  at (Some k) = refl

-- each deed leaves the first entry of the measurement list as it was
first_stays : (list : List Entry) (b : Entry) (e : Option Entry) (o : Option Told)
    → slice_get list 0 ≡ Some b → slice_get (list_after list e o) 0 ≡ Some b
first_stays [] b e o h = absurd (cc)
first_stays (x ∷ xs) b e None h = h
first_stays (x ∷ xs) b None (Some t) h = h
first_stays (x ∷ xs) b (Some e) (Some t) h = added_first x xs e ∙ h

pub book_still : (consts : WorldConsts) (st st2 : WorldInodeValue) (book book2 : Grown Entry)
    (pass pass2 : Passed Event) (listed listed2 : Passed Entry) (who : Who) (d : Deed)
    (g g2 : HashState) (o : Option Told)
    → WorldInodeDid st st2 book book2 pass pass2 listed listed2 who d g g2 o
    → IsBookOf consts book → IsBookOf consts book2
book_still consts st st2 book book2 pass pass2 listed listed2 who d g g2 o did is = record {
  name = did.book_name ∙ is.name;
  boot = ap (λ (xs : List Entry). slice_get xs 0) did.leaves.book
      ∙ first_stays book.list consts.boot (asked st.cell.inode d (newest_first st.cell.list))
      o is.boot;
  callers = did.book_callers ∙ is.callers;
}

-- ---- the rules

-- a look at the rules leaves them as they were
pub rules_still : (consts : WorldConsts) (rules rules2 : PolicyValue) → rules2.base ≡ rules.base
    → IsSameList rules.appended rules2.appended → AreRulesOf consts rules
    → AreRulesOf consts rules2
rules_still consts rules rules2 base list is = record {
  name = list.name ∙ is.name;
  base = base ∙ is.base;
  callers = list.callers ∙ is.callers;
  numbers = list.numbers ∙ is.numbers
      ∙ ap (λ (xs : List RuleEntry). map (λ (r : RuleEntry). r.who.task) xs) (sym list.list);
}

-- a rule appended by the task of its `Who` leaves the invariant of the rules intact
pub rules_more : (consts : WorldConsts) (rules rules2 : PolicyValue) (e : RuleEntry) (n : ℕ)
    → (rules2.base ≡ rules.base) × (rules2.appended.name ≡ rules.appended.name)
    × (rules2.appended.callers ≡ rules.appended.callers)
    → rules2.appended.list ≡ rules.appended.list ++ e ∷ []
    → rules2.appended.numbers ≡ rules.appended.numbers ++ n ∷ [] → n ≡ e.who.task
    → AreRulesOf consts rules → AreRulesOf consts rules2
rules_more consts rules rules2 e n kept list numbers by is = record {
  name = kept.1 ∙ is.name;
  base = kept.0 ∙ is.base;
  callers = kept.2 ∙ is.callers;
  numbers = numbers
      ∙ ap (λ (ns : List ℕ). ns ++ n ∷ []) is.numbers
      ∙ ap (λ (m : ℕ). map (λ (r : RuleEntry). r.who.task) rules.appended.list ++ m ∷ []) by
      ∙ sym (map-append (λ (r : RuleEntry). r.who.task) rules.appended.list (e ∷ []))
      ∙ ap (λ (xs : List RuleEntry). map (λ (r : RuleEntry). r.who.task) xs) (sym list);
}

-- whether or not the rule was appended, the rules belong to the constants
pub rules_appended : {A E : Type 0} (Q : Type 0) (consts : WorldConsts)
    (rules rules2 : PolicyValue) (e : RuleEntry) (n : ℕ) (r : Result A E)
    → (rules2.base ≡ rules.base) × (rules2.appended.name ≡ rules.appended.name)
    × (rules2.appended.callers ≡ rules.appended.callers)
    → OnOk r (rules2.appended.list ≡ rules.appended.list ++ e ∷ [])
    → OnOk r (rules2.appended.numbers ≡ rules.appended.numbers ++ n ∷ [])
    → OnErr r (IsSameList rules.appended rules2.appended × Q) → n ≡ e.who.task
    → AreRulesOf consts rules → AreRulesOf consts rules2
rules_appended Q consts rules rules2 e n (Ok a) kept list numbers same by is =
    rules_more consts rules rules2 e n kept list numbers by is
rules_appended Q consts rules rules2 e n (Err x) kept list numbers same by is =
    rules_still consts rules rules2 kept.0 same.0 is
