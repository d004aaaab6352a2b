use Rattle.std.proofs.Common.{ap, ◌∙◌}
use Rattle.grow_list.specs.Views.{listed}
use Rattle.grow_list.proofs.Closing.{all_saw, places, accounts_at}
use Rattle.grow_list.proofs.list.Grow.close.Goals as goal

pub returns-clause-seen : goal.returns-clause-seen
returns-clause-seen g c =
    let is = c.self.view_is in
    let l = listed c.self.inside.seat.me.0 in
    all_saw c.args.self l c.args.passes.items (c.self.invariant.list ∙ ap (λ v. v.list) is)
    (accounts_at c.end.new.list.me.0 c.self.inside.seat.me.0 c.args.passes.items
    (ap (λ m. m.0) c.end.ensures.list.me) c.take_back.ensures.accounts)

pub returns-clause-places : goal.returns-clause-places
returns-clause-places g c =
    let is = c.self.view_is in
    let l = listed c.self.inside.seat.me.0 in
    places c.args.self l c.args.passes.items (c.self.invariant.list ∙ ap (λ v. v.list) is)
    (ap (λ v. v.numbers) is) (c.self.invariant.callers ∙ ap (λ v. v.callers) is)
    c.end.ensures.complete c.requires
    (accounts_at c.end.new.list.me.0 c.self.inside.seat.me.0 c.args.passes.items
    (ap (λ m. m.0) c.end.ensures.list.me) c.take_back.ensures.accounts)
