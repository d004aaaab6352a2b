use Rattle.std.proofs.Common.{sym, ◌∙◌}
use Rattle.order_outcomes.specs.Sets.{place_for}
use Rattle.order_outcomes.proofs.Placing.{has_it, put_at}
use Rattle.order_outcomes.proofs.sets.add_text.Goals as goal

pub returns-in_ok-insert : goal.returns-in_ok-insert
returns-in_ok-insert c =
    c.in_ok-insert.ensures.items
    ∙ sym (put_at c.args.text c.args.texts.now.items c.in-Some.place
    (sym (c.in-Some.ensures.place
    ∙ (λ i. place_for (c.as_slice-2.ensures.bytes i) (c.as_slice.ensures.value i)))))

pub returns-in_default : goal.returns-in_default
returns-in_default c =
    sym (has_it c.args.text c.args.texts.now.items
    (sym ((λ i. place_for (c.as_slice-2.ensures.bytes i) (c.as_slice.ensures.value i)))
    ∙ sym c.place_for.ensures.place ∙ c.in_default.is))
