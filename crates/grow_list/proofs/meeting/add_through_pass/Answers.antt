use Rattle.std.proofs.Common.{◌≡◌, ◌+◌, [], ◌∷◌, length, refl, sym, ap, ◌∙◌, subst}
use Rattle.grow_list.specs.declared.views.SeatView.{SeatView}
use Rattle.grow_list.specs.declared.views.SeatView.TheVariants.{OfList, OfPass, ListBeside}
use Rattle.grow_list.specs.Views.{listed, held, longer, heard, learned}
use Rattle.grow_list.specs.Meetings.{Tallies, caught_up, grown, enlarged}
use Rattle.grow_list.proofs.Meetings.{learned-longer, heard-longer, tallies-grown}
use Rattle.grow_list.proofs.meeting.add_through_pass.Given as given
use Rattle.grow_list.proofs.meeting.add_through_pass.Goals as goal

-- the views before the last step
list_added : (g : given.Over) (c : goal.After-take_in g) → c.add.new.list.me.0
    ≡ OfList (longer (listed c.args.list.now.me.0) (held c.args.pass.now.me.0).number
    (c.args.entry.now ∷ []))
list_added g c =
    let beside : c.join_pass_to_list.new.list.me.0
    ≡ ListBeside (listed c.args.list.now.me.0)
    (caught_up (held c.args.pass.now.me.0) (listed c.args.list.now.me.0)) =
    ap (λ m. m.0) c.join_pass_to_list.ensures.list.me
    ∙ (λ i. ListBeside (listed (ap (λ m. m.0) c.pass_sees_list.ensures.list.me i))
    (held (ap (λ m. m.0) c.pass_sees_list.ensures.pass.me i))) in
    ap (λ m. m.0) c.add.ensures.me
    ∙ ap (λ v. OfList (longer (listed v) (held v).number (c.args.entry.now ∷ []))) beside

pass_met : (g : given.Over) (c : goal.After-take_in g) → c.join_pass_to_list.new.pass.me.0
    ≡ OfPass (caught_up (held c.args.pass.now.me.0) (listed c.args.list.now.me.0))
pass_met g c = ap (λ m. m.0) c.join_pass_to_list.ensures.pass.me
    ∙ ap (λ m. m.0) c.pass_sees_list.ensures.pass.me

pass_after : (g : given.Over) (c : goal.After-take_in g) → c.take_in.new.pass.me.0
    ≡ OfPass (enlarged (held c.args.pass.now.me.0) (listed c.args.list.now.me.0) c.args.entry.now)
pass_after g c =
    ap (λ m. m.0) c.take_in.ensures.pass.me
    ∙ (λ i. OfPass (learned (held (pass_met g c i)) (listed (list_added g c i))))
    ∙ ap OfPass (learned-longer (listed c.args.list.now.me.0) (held c.args.pass.now.me.0)
    c.args.entry.now c.pass_sees_list.ensures.tallies)

list_after : (g : given.Over) (c : goal.After-take_in g) → c.take_in.new.list.me.0
    ≡ OfList (grown (listed c.args.list.now.me.0) (held c.args.pass.now.me.0).number
    c.args.entry.now)
list_after g c =
    let l = listed c.args.list.now.me.0 in
    let p = held c.args.pass.now.me.0 in
    let e = c.args.entry.now in
    ap (λ m. m.0) c.take_in.ensures.list.me
    ∙ (λ i. OfList
    (heard (listed (list_added g c i))
    (learned (held (pass_met g c i)) (listed (list_added g c i)))))
    ∙ (λ i. OfList
    (heard (longer l p.number (e ∷ [])) (learned-longer l p e c.pass_sees_list.ensures.tallies i)))
    ∙ ap OfList (heard-longer l p e c.pass_sees_list.ensures.tallies)

pub returns-clause-pass : goal.returns-clause-pass
returns-clause-pass g c =
    let slots : c.take_in.new.pass.me.1 ≡ c.args.pass.now.me.1 =
    ap (λ m. m.1) c.take_in.ensures.pass.me ∙ ap (λ m. m.1) c.join_pass_to_list.ensures.pass.me
    ∙ ap (λ m. m.1) c.pass_sees_list.ensures.pass.me in
    record {
      table_id = c.take_in.ensures.pass.table_id ∙ c.join_pass_to_list.ensures.pass.table_id
          ∙ c.pass_sees_list.ensures.pass.table_id;
      id = c.take_in.ensures.pass.id ∙ c.join_pass_to_list.ensures.pass.id
          ∙ c.pass_sees_list.ensures.pass.id;
      me = λ i. (pass_after g c i, slots i);
    }

pub returns-clause-list : goal.returns-clause-list
returns-clause-list g c =
    let slots : c.take_in.new.list.me.1 ≡ c.args.list.now.me.1 =
    ap (λ m. m.1) c.take_in.ensures.list.me ∙ ap (λ m. m.1) c.add.ensures.me
    ∙ ap (λ m. m.1) c.join_pass_to_list.ensures.list.me
    ∙ ap (λ m. m.1) c.pass_sees_list.ensures.list.me in
    record {
      table_id = c.take_in.ensures.list.table_id ∙ c.add.ensures.table_id
          ∙ c.join_pass_to_list.ensures.list.table_id ∙ c.pass_sees_list.ensures.list.table_id;
      id = c.take_in.ensures.list.id ∙ c.add.ensures.id ∙ c.join_pass_to_list.ensures.list.id
          ∙ c.pass_sees_list.ensures.list.id;
      me = λ i. (list_after g c i, slots i);
    }

pub add-requires : goal.add-requires
add-requires g c =
    let seen = c.pass_sees_list.ensures.list in
    let list = c.join_pass_to_list.ensures.list in
    let view = ap (λ m. m.0) list.me in
    let kept = ap (λ m. m.0) seen.me in
    record {
      seat = (
        list.table_id ∙ seen.table_id ∙ c.requires.seats.0,
        list.id ∙ seen.id ∙ c.requires.list.first,
      );
      words = c.requires.words;
      view = view ∙ ap (λ v. ListBeside (listed v) (held v)) (sym view);
      settled = ap (λ v. (listed v).pending) view ∙ ap (λ v. (listed v).pending) kept
          ∙ c.requires.list.settled;
      due = c.requires.due ∙ ap (λ v. length (listed v).list + 1) (sym kept)
          ∙ ap (λ v. length (listed v).list + 1) (sym view);
      entry = refl;
    }

pub returns-clause-after : goal.returns-clause-after
returns-clause-after g c =
    subst (λ (x : SeatView g.row.E.Denot × SeatView g.row.E.Denot). Tallies (listed x.0) (held x.1))
    (λ i. (sym (list_after g c) i, sym (pass_after g c) i))
    (tallies-grown (listed c.args.list.now.me.0) (held c.args.pass.now.me.0) c.args.entry.now
    c.pass_sees_list.ensures.tallies)
