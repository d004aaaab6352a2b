-- The number of rules that a journal's checks count, against what the inode's pass of the rules
-- saw.
use Rattle.std.specs.Prelude.{◌≡◌, ℕ, ◌+◌, ◌≤◌, All, List, [], ◌∷◌, ◌++◌, length, Option}
use Rattle.std.specs.List.{AllZip}
use mathlib.Core.List.{IsPrefix}
use Rattle.grow_list.specs.Shown.{Passed}
use Rattle.inode_events.specs.meta.declared.step.Who.{Who}
use Rattle.inode_events.specs.Asked.{made}
use Rattle.inode_events.specs.NewestFirst.{newest_first}
use Rattle.inode_events.specs.declared.deed.Deed.{Deed}
use Rattle.inode_events.specs.declared.deed.Deed.TheVariants as deed
use Rattle.inode_events.specs.declared.told.Event.{Event}
use Rattle.inode_events.specs.declared.told.Told.{Told}
use Rattle.run_model.specs.Served.{RulesRise, last_counted}
use Rattle.run_model.specs.rules.declared.cell.RuleEntry.{RuleEntry}

-- the number never falls along the journal, and the last one is at most the number of base rules
-- plus those that the pass has seen
pub record ScriptFileRules (base : ℕ) (journal : List Event) (seen : List RuleEntry) : Type 0 where
  pub rise : RulesRise base (newest_first journal)
  pub last : last_counted base (newest_first journal) ≤ base + length seen

-- a check counts at least `least` and at most `most` rules
abbrev pub CountsFrom : ℕ → ℕ → Deed → Type 0
CountsFrom least most (deed.Check file func action rules) = (least ≤ rules) × (rules ≤ most)
CountsFrom least most d = Unit {0}

-- a check counts exactly this number of rules
abbrev pub CountsAll : ℕ → Deed → Type 0
CountsAll count (deed.Check file func action rules) = rules ≡ count
CountsAll count d = Unit {0}

abbrev pub RiseAtFirst : Type 0
RiseAtFirst =
    (base : ℕ) (e : Event) (seen : List RuleEntry) → e.deed ≡ deed.Birth
    → ScriptFileRules base (e ∷ []) seen

abbrev pub RiseByLook : Type 0
RiseByLook =
    (base : ℕ) (journal : List Event) (seen seen2 : List RuleEntry) → IsPrefix seen seen2
    → ScriptFileRules base journal seen → ScriptFileRules base journal seen2

abbrev pub RiseByEvent : Type 0
RiseByEvent =
    (base : ℕ) (journal : List Event) (seen : List RuleEntry) (e : Event)
    → ScriptFileRules base journal seen
    → CountsFrom (last_counted base (newest_first journal)) (base + length seen) e.deed
    → ScriptFileRules base (journal ++ e ∷ []) seen

abbrev pub RiseByOutcome : Type 0
RiseByOutcome =
    (base : ℕ) (journal : List Event) (seen seen2 : List RuleEntry) (who : Who) (d : Deed)
    (o : Option Told) → IsPrefix seen seen2 → ScriptFileRules base journal seen
    → CountsAll (base + length seen2) d → ScriptFileRules base (journal ++ made who d o) seen2

abbrev pub RiseForAll : Type 0
RiseForAll =
    (base : ℕ) (journals : List (List Event)) (passes : List (Passed RuleEntry))
    → AllZip (λ journal q. ScriptFileRules base journal q.seen) journals passes
    → All (λ (journal : List Event). RulesRise base (newest_first journal)) journals
