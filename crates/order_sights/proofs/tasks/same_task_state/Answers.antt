use Rattle.std.proofs.Common.{◌∙◌, List, Option, sym, subst}
use Rattle.std.specs.Prelude.{option_map}
use Rattle.call_steps.specs.CallState.{Progress}
use Rattle.call_steps.specs.declared.held.Handle.{Handle}
use Rattle.task_state.specs.Value.{progress_in}
use Rattle.order_sights.specs.Pairs.{HandlesPaired, IsProgressPaired}
use Rattle.order_sights.proofs.tasks.same_task_state.Goals as goal

pub returns : goal.returns
returns c = λ t. record {
  at = sym c.at-there.ensures ∙ sym c.if-here-there.false ∙ c.at-here.ensures;
  progress = subst (λ (o : Option Progress). IsProgressPaired c.args.pairs.now o
      c.args.b.now.position.call_state.progress) c.progress.ensures
      (subst (λ (o : Option Progress). IsProgressPaired c.args.pairs.now
      (option_map progress_in c.progress.result) o) c.progress-2.ensures
      (c.same_progress.ensures c.if-not-same_progress.false));
  handles = subst (λ (hs : List Handle). HandlesPaired c.args.pairs.now hs
      c.args.b.now.position.call_state.handles) c.handles.ensures
      (subst (λ (hs : List Handle). HandlesPaired c.args.pairs.now c.handles.result.now hs)
      c.handles-2.ensures (c.same_handles.ensures c.if-not-same_handles.false));
  replies = sym c.replies-2.ensures ∙ sym (c.same_all.ensures t) ∙ c.replies.ensures;
}
