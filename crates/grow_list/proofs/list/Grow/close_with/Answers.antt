use Rattle.std.proofs.Common.{◌≡◌, ◌∷◌, sym, ap, ◌∙◌}
use Rattle.std.proofs.lemmas.List.Elements.{All-cons, All-head, All-tail, All-weaker}
use Rattle.grow_list.specs.Views.{listed, held}
use Rattle.grow_list.specs.Shown.{Accounts}
use Rattle.grow_list.proofs.Closing.{accounts, accounts_at, tallies_at, all_saw, places}
use Rattle.grow_list.proofs.list.Grow.close_with.Goals as goal

pub end_pass-requires-clause-seats : goal.end_pass-requires-clause-seats
end_pass-requires-clause-seats g c =
    let name = ap (λ v. v.name) c.self.view_is in
    let own = All-head (λ p. p.name ≡ c.args.self.name) c.args.own c.args.passes.items
    c.requires.of_list in (
      c.end.ensures.list.table_id ∙ c.self.invariant.board,
      sym c.into_place.ensures.pass.name ∙ own
          ∙ sym name ∙ c.self.invariant.board,
    )

pub take_back-requires-clause-of_list : goal.take_back-requires-clause-of_list
take_back-requires-clause-of_list g c =
    let name = ap (λ v. v.name) c.self.view_is in
    let here = sym name ∙ sym c.end.ensures.list.table_id ∙ sym c.end_pass.ensures.list.table_id in
    All-weaker (λ p. p.name ≡ c.args.self.name) (λ p. p.name ≡ c.end_pass.new.list.table_id)
    (λ p e. e ∙ here) c.args.passes.items
    (All-tail (λ p. p.name ≡ c.args.self.name) c.args.own c.args.passes.items c.requires.of_list)

pub returns-clause-seen : goal.returns-clause-seen
returns-clause-seen g c =
    let is = c.self.view_is in
    let l = listed c.self.inside.seat.me.0 in
    let end = ap (λ m. m.0) c.end.ensures.list.me in
    let pass = c.into_place.ensures.pass in
    let place = held c.into_place.result.me.0 in
    let own = accounts l c.args.own place pass.number pass.seen pass.mine
    (tallies_at c.end.new.list.me.0 c.self.inside.seat.me.0 place end c.end_pass.ensures.tallies)
    in
    let others = accounts_at c.end_pass.new.list.me.0 c.self.inside.seat.me.0 c.args.passes.items
    (ap (λ m. m.0) c.end_pass.ensures.list.me ∙ end) c.take_back.ensures.accounts in
    all_saw c.args.self l (c.args.own ∷ c.args.passes.items) (c.self.invariant.list
    ∙ ap (λ v. v.list) is) (All-cons (Accounts l) c.args.own c.args.passes.items own others)

pub returns-clause-places : goal.returns-clause-places
returns-clause-places g c =
    let is = c.self.view_is in
    let l = listed c.self.inside.seat.me.0 in
    let end = ap (λ m. m.0) c.end.ensures.list.me in
    let pass = c.into_place.ensures.pass in
    let place = held c.into_place.result.me.0 in
    let own = accounts l c.args.own place pass.number pass.seen pass.mine
    (tallies_at c.end.new.list.me.0 c.self.inside.seat.me.0 place end c.end_pass.ensures.tallies)
    in
    let others = accounts_at c.end_pass.new.list.me.0 c.self.inside.seat.me.0 c.args.passes.items
    (ap (λ m. m.0) c.end_pass.ensures.list.me ∙ end) c.take_back.ensures.accounts in
    places c.args.self l (c.args.own ∷ c.args.passes.items) (c.self.invariant.list
    ∙ ap (λ v. v.list) is) (ap (λ v. v.numbers) is) (c.self.invariant.callers
    ∙ ap (λ v. v.callers) is)
    c.end.ensures.complete c.requires
    (All-cons (Accounts l) c.args.own c.args.passes.items own others)
