use Rattle.std.proofs.Common.{◌≡◌, ◌∙◌, List, ap, subst}
use Rattle.inode_events.specs.templates.declared.entry.Entry.{Entry}
use Rattle.run_model.specs.EndedValue.{EndedValue}
use Rattle.order_outcomes.specs.alike.Alike.{AreIn}
use Rattle.order_sights.proofs.sight.same_lists.Goals as goal

pub returns : goal.returns
returns c = λ t.
    let list : c.as_slice-list.result.now ≡ c.args.a.now.list =
    c.as_slice-list.ensures.value ∙ ap (λ (e : EndedValue). e.list) c.a.view_is in
    let other : c.as_slice-other.result.now ≡ c.args.b.now.list =
    c.as_slice-other.ensures.value ∙ ap (λ (e : EndedValue). e.list) c.b.view_is in
    record {
      counts = c.same_counts.ensures c.if-not-same_counts.false;
      there = subst (λ (l : List Entry). AreIn l c.args.a.now.list) other
          (subst (λ (l : List Entry). AreIn c.as_slice-other.result.now l) list
          (c.are_in.ensures c.if-not-are_in.false));
      back = subst (λ (l : List Entry). AreIn l c.args.b.now.list) list
          (subst (λ (l : List Entry). AreIn c.as_slice-list.result.now l) other
          (c.are_in-2.ensures t));
    }
