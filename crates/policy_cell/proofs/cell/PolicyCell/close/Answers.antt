use Rattle.std.proofs.Common.{◌≡◌, ℕ, ◌<◌, length, All, ap, subst}
use Rattle.std.specs.Prelude.{count_by}
use mathlib.Core.List.{IsPrefix}
use Rattle.grow_list.specs.Entries.{has_place}
use Rattle.grow_list.specs.Shown.{Grown}
use Rattle.policy_cell.specs.declared.cell.RuleEntry.{RuleEntry}
use Rattle.policy_cell.proofs.cell.PolicyCell.close.Goals as goal

pub returns-clause-seen : goal.returns-clause-seen
returns-clause-seen c =
    subst (λ (g : Grown RuleEntry). All (λ p. IsPrefix p.seen g.list) c.args.passes.items)
    (ap (λ v. v.appended) c.self.view_is) c.close.ensures.seen

pub returns-clause-places : goal.returns-clause-places
returns-clause-places c =
    subst (λ (g : Grown RuleEntry). (k : ℕ) → k < length g.list
    → count_by (λ p. has_place k p.mine) c.args.passes.items ≡ 1)
    (ap (λ v. v.appended) c.self.view_is) c.close.ensures.places
