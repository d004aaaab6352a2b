-- One more entry was added, as the definition says.
use Rattle.std.proofs.Common.{List, ap, sym, ◌∙◌}
use Rattle.std.specs.List.{fold}
use Rattle.ima_templates.specs.Same.{add}
use Rattle.ima_templates.specs.declared.entry.Entry.{Entry}
use Rattle.list_carry.proofs.going_on.add_each.Goals as goal

pub loop-e-preserved : goal.loop-e-preserved
loop-e-preserved c =
    let step = c.in-Some.ensures.steps in
    record {
      going = c.in_ok-add.ensures.going;
      rest = ap (λ (l : List Entry). fold add l c.next.new.self.rest.items)
          c.in_ok-add.ensures.list
          ∙ ap (λ (es : List Entry). fold add c.loop-e.book.list es) (sym step.0)
          ∙ c.loop-e.invariant.rest;
    }
