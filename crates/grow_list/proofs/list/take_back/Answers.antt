use Rattle.std.proofs.Common.{◌≡◌, [], ◌∷◌, ◌++◌, sym, ap, ◌∙◌, arith}
use Rattle.std.proofs.lemmas.List.{append_assoc}
use Rattle.std.proofs.lemmas.List.Elements.{All-push, All-rest}
use Rattle.grow_list.specs.Views.{listed, held}
use Rattle.grow_list.specs.Shown.{Accounts}
use Rattle.grow_list.proofs.Closing.{accounts, tallies_at, All-yielded}
use Rattle.grow_list.proofs.list.take_back.Goals as goal

pub loop-pass-preserved : goal.loop-pass-preserved
loop-pass-preserved g c =
    let old = c.loop-pass.invariant in
    let new = c.end_pass.ensures.list in
    let step = c.in-Some.ensures.steps in
    let pass = c.into_place.ensures.pass in
    let view = ap (λ m. m.0) old.moved.me in
    record {
      split = old.split ∙ ap (λ xs. c.loop-pass.yielded ++ xs) step.0
          ∙ sym (append_assoc c.loop-pass.yielded (c.in-Some.pass ∷ []) c.next.new.self.rest.items);
      of_list = All-rest (λ p. p.name ≡ c.args.list.now.table_id) _ _ _ step.0 old.of_list;
      moved = record {
        table_id = new.table_id ∙ old.moved.table_id;
        id = new.id ∙ old.moved.id;
        me = new.me ∙ (λ i. (view i, ap (λ m. m.1) old.moved.me i));
      };
      accounts = All-push (Accounts (listed c.args.list.now.me.0)) c.loop-pass.yielded
          c.in-Some.pass old.accounts
          (accounts (listed c.args.list.now.me.0) c.in-Some.pass (held c.into_place.result.me.0)
          pass.number pass.seen pass.mine
          (tallies_at c.loop-pass.list.me.0 c.args.list.now.me.0 (held c.into_place.result.me.0)
          view c.end_pass.ensures.tallies));
    }

pub returns-clause-accounts : goal.returns-clause-accounts
returns-clause-accounts g c =
    let old = c.loop-pass.invariant in
    All-yielded (Accounts (listed c.args.list.now.me.0)) c.args.passes.items c.loop-pass.yielded
    c.loop-pass.pass-iterator.rest.items old.split (omega (arith, c.in-None.ensures.steps.0))
    old.accounts
