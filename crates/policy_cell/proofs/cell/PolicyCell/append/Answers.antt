use Rattle.std.proofs.Common.{◌≡◌, ℕ, List, [], ◌∷◌, ◌++◌, length, sym, ap, refl, subst, ◌∙◌}
use mathlib.Core.List.{IsPrefix}
use Rattle.inode_meta.specs.declared.step.Who.{Who}
use Rattle.rule_match.specs.policy.RuleValue.{RuleValue}
use Rattle.policy_cell.specs.Policy.{in_force}
use Rattle.policy_cell.specs.declared.cell.RuleEntry.{RuleEntry}
use Rattle.policy_cell.proofs.Rules.{appended, forced, kept}
use Rattle.policy_cell.proofs.cell.PolicyCell.append.Goals as goal

pub invariant_of-self : goal.invariant_of-self
invariant_of-self c = kept c.self.inside _ c.self.invariant refl c.in_err-copy.ensures.err
    c.append_indexed.ensures.list.list

pub push-requires-clause-room : goal.push-requires-clause-room
push-requires-clause-room c = c.in_ok-copy.ensures.room

pub push-requires-clause-name : goal.push-requires-clause-name
push-requires-clause-name c =
    c.requires ∙ sym (ap (λ v. v.appended.name) c.self.view_is)
    ∙ sym c.append_indexed.ensures.list.name

pub invariant_of-self-2 : goal.invariant_of-self-2
invariant_of-self-2 c =
    let entry : RuleEntry = record { who = c.args.who; rule = c.in_ok-copy.copy } in
    appended c.self.inside _ c.args.rule.now entry c.self.invariant refl
    c.in_ok-copy.ensures.index
    (c.push.ensures.list ∙ ap (λ (l : List RuleEntry). l ++ entry ∷ [])
    c.append_indexed.ensures.list.list)
    c.in_ok-copy.ensures.copy

pub returns-clause-place : goal.returns-clause-place
returns-clause-place c = ap length
    (c.rules.ensures.rules ∙ forced c.self.inside c.self.invariant
    ∙ ap in_force c.self.view_is)

pub returns-clause-list : goal.returns-clause-list
returns-clause-list c =
    let list : c.append_indexed.new.appended.list ≡ c.args.self.now.appended.list =
    c.append_indexed.ensures.list.list ∙ ap (λ v. v.appended.list) c.self.view_is in
    c.push.ensures.list
    ∙ ap (λ (l : List RuleEntry). l ++ record { who = c.args.who; rule = c.in_ok-copy.copy } ∷ [])
    list
    ∙ ap (λ (r : RuleValue). c.args.self.now.appended.list
    ++ record { who = c.args.who; rule = r } ∷ [])
    c.in_ok-copy.ensures.copy

pub returns-clause-numbers : goal.returns-clause-numbers
returns-clause-numbers c =
    c.push.ensures.numbers
    ∙ ap (λ (ns : List ℕ). ns ++ c.args.pass.now.number ∷ [])
    (c.append_indexed.ensures.list.numbers ∙ ap (λ v. v.appended.numbers) c.self.view_is)

pub returns-clause-before : goal.returns-clause-before
returns-clause-before c =
    subst (λ (l : List RuleEntry). IsPrefix c.args.pass.now.seen l)
    (c.append_indexed.ensures.list.list ∙ ap (λ v. v.appended.list) c.self.view_is)
    c.push.ensures.before

-- the place of an entry in the list is that of its rule among the appended ones
told : (now before : List (ℕ × RuleEntry)) (place at : ℕ) (who : Who) (copy rule : RuleValue)
    → now ≡ before ++ (place, record { who = who; rule = copy }) ∷ [] → place ≡ at → copy ≡ rule
    → now ≡ before ++ (at, record { who = who; rule = rule }) ∷ []
told now before place at who copy rule pushed is same = rw (← is, ← same) pushed

pub returns-clause-mine : goal.returns-clause-mine
returns-clause-mine c =
    told c.push.new.pass.mine c.args.pass.now.mine c.push.result
    (length c.args.self.now.appended.list) c.args.who c.in_ok-copy.copy c.args.rule.now
    c.push.ensures.mine
    (c.push.ensures.place
    ∙ ap length
    (c.append_indexed.ensures.list.list ∙ ap (λ v. v.appended.list) c.self.view_is))
    c.in_ok-copy.ensures.copy

pub returns-clause-seen : goal.returns-clause-seen
returns-clause-seen c = c.push.ensures.seen

pub returns-clause-own : goal.returns-clause-own
returns-clause-own c = c.push.ensures.own

pub returns-clause-placed : goal.returns-clause-placed
returns-clause-placed c = c.push.ensures.placed
