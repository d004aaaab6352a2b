use Rattle.std.proofs.Common.{◌≡◌, sym, ap, ◌∙◌, subst}
use Rattle.grow_list.specs.declared.views.SeatView.TheVariants.{OfList, OfPass, ListBeside, PassBeside}
use Rattle.grow_list.specs.Views.{listed, held, heard, learned}
use Rattle.grow_list.specs.Steps.{Agrees, Owns}
use Rattle.grow_list.proofs.Meetings.{heard-settled, learned-settled, tallies}
use Rattle.grow_list.proofs.meeting.pass_sees_list.Given as given
use Rattle.grow_list.proofs.meeting.pass_sees_list.Goals as goal

-- the views between the steps
list_beside : (g : given.Over) (c : goal.After-pass_learns g) → c.join_pass_to_list.new.list.me.0
    ≡ ListBeside (listed c.args.list.now.me.0) (held c.args.pass.now.me.0)
list_beside g c = ap (λ m. m.0) c.join_pass_to_list.ensures.list.me

list_heard : (g : given.Over) (c : goal.After-pass_learns g) → c.list_learns.new.list.me.0
    ≡ OfList (listed c.args.list.now.me.0)
list_heard g c =
    ap (λ m. m.0) c.list_learns.ensures.list.me
    ∙ ap (λ v. OfList (heard (listed v) (held v))) (list_beside g c)
    ∙ ap OfList (heard-settled (listed c.args.list.now.me.0) (held c.args.pass.now.me.0)
    c.requires.list.settled)

pass_visited : (g : given.Over) (c : goal.After-pass_learns g)
    → c.join_list_to_pass.new.pass.me.0
    ≡ PassBeside (held c.args.pass.now.me.0) (listed c.args.list.now.me.0)
pass_visited g c =
    ap (λ m. m.0) c.join_list_to_pass.ensures.pass.me
    ∙ (λ i. PassBeside (held (ap (λ m. m.0) c.join_pass_to_list.ensures.pass.me i))
    (listed (list_heard g c i)))

pub list_learns-requires : goal.list_learns-requires
list_learns-requires g c =
    let list = c.join_pass_to_list.ensures.list in
    let view = ap (λ m. m.0) list.me in
    record {
      seat = (list.table_id ∙ c.requires.seats.0, list.id ∙ c.requires.list.first);
      words = c.requires.words;
      view = view ∙ ap (λ v. ListBeside (listed v) (held v)) (sym view);
    }

pub join_list_to_pass-requires : goal.join_list_to_pass-requires
join_list_to_pass-requires g c =
    let list = c.list_learns.ensures.list in
    let pass = c.join_pass_to_list.ensures.pass in
    let heard = ap (λ m. m.0) list.me in
    let still = ap (λ m. m.0) pass.me in
    record {
      seats = (
        list.table_id ∙ c.join_pass_to_list.ensures.list.table_id ∙ c.requires.seats.0,
        pass.table_id ∙ c.requires.seats.1,
      );
      words = c.requires.words;
      views = (
        heard ∙ ap (λ v. OfList (listed v)) (sym heard),
        still ∙ c.requires.pass.view ∙ ap (λ v. OfPass (held v)) (sym still),
      );
    }

pub pass_learns-requires : goal.pass_learns-requires
pass_learns-requires g c =
    let met = c.join_pass_to_list.ensures.pass in
    let visit = c.join_list_to_pass.ensures.pass in
    let view = ap (λ m. m.0) visit.me in
    record {
      seat = (
        visit.table_id ∙ met.table_id ∙ c.requires.seats.1,
        visit.id ∙ met.id ∙ c.requires.pass.own
            ∙ ap (λ v. (held v).seat) (sym (ap (λ m. m.0) met.me))
            ∙ ap (λ v. (held v).seat) (sym view),
      );
      words = c.requires.words;
      view = view ∙ ap (λ v. PassBeside (held v) (listed v)) (sym view);
    }

pub returns-clause-list : goal.returns-clause-list
returns-clause-list g c =
    let first = c.join_pass_to_list.ensures.list in
    let second = c.list_learns.ensures.list in
    let third = c.join_list_to_pass.ensures.list in
    let view : c.join_list_to_pass.new.list.me.0 ≡ c.args.list.now.me.0 =
    ap (λ m. m.0) third.me ∙ list_heard g c ∙ sym c.requires.list.view in
    let slots : c.join_list_to_pass.new.list.me.1 ≡ c.args.list.now.me.1 =
    ap (λ m. m.1) third.me ∙ ap (λ m. m.1) second.me ∙ ap (λ m. m.1) first.me in
    record {
      table_id = third.table_id ∙ second.table_id ∙ first.table_id;
      id = third.id ∙ second.id ∙ first.id;
      me = λ i. (view i, slots i);
    }

pub returns-clause-tallies : goal.returns-clause-tallies
returns-clause-tallies g c =
    tallies (listed c.args.list.now.me.0) (held c.args.pass.now.me.0) c.requires.list.settled
    (subst (λ v. Agrees (listed v) (held v)) (list_beside g c) c.list_learns.ensures.agrees)
    (subst (λ v. Owns (held v) (listed v)) (pass_visited g c) c.pass_learns.ensures.owns)

pub returns-clause-pass : goal.returns-clause-pass
returns-clause-pass g c =
    let first = c.join_pass_to_list.ensures.pass in
    let second = c.join_list_to_pass.ensures.pass in
    let third = c.pass_learns.ensures.pass in
    let view = ap (λ m. m.0) third.me
    ∙ ap (λ v. OfPass (learned (held v) (listed v))) (pass_visited g c)
    ∙ ap OfPass (learned-settled (listed c.args.list.now.me.0) (held c.args.pass.now.me.0)
    (returns-clause-tallies g c)) in
    let slots : c.pass_learns.new.pass.me.1 ≡ c.args.pass.now.me.1 =
    ap (λ m. m.1) third.me ∙ ap (λ m. m.1) second.me ∙ ap (λ m. m.1) first.me in
    record {
      table_id = third.table_id ∙ second.table_id ∙ first.table_id;
      id = third.id ∙ second.id ∙ first.id;
      me = λ i. (view i, slots i);
    }
