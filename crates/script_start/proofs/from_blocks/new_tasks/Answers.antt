use Rattle.std.proofs.Common.{◌≡◌, ◌∷◌, ℕ, List, arith, length, sym, subst, rules}
use Rattle.script_text.specs.declared.blocks.TaskBlock.{TaskBlock}
use Rattle.task_core.specs.worlds.Tasks.{PassesValue, Tasked}
use Rattle.script_start.specs.NewTasks.{IsNew}
use Rattle.script_start.proofs.NewTaskLemmas.{AreMade, none_made, one_more_made}
use Rattle.script_start.proofs.from_blocks.new_tasks.Goals as goal

pub loop-block-preserved : goal.loop-block-preserved
loop-block-preserved c =
    let rest : c.loop-block.block-iterator.rest.items
    ≡ c.in-Some.block ∷ c.next.new.self.rest.items = search rules in
    let number : c.len-number.result ≡ length c.loop-block.tasks.items = search rules in
    one_more_made c.args.blocks.items c.loop-block.block-iterator.rest.items
    c.next.new.self.rest.items c.args.passes.items c.loop-block.left.items
    c.pop_front.new.self.items c.loop-block.tasks.items c.push.new.self.items
    c.in-Some.block c.in-Some-pop_front.own c.in_ok-task_of.field-0 c.loop-block.invariant rest
    c.in-Some-pop_front.ensures.items c.in_ok-push.ensures.items
    (subst (λ (n : ℕ). IsNew n c.in-Some.block c.in-Some-pop_front.own c.in_ok-task_of.field-0)
    number c.in_ok-task_of.ensures)

pub loop-block-init : goal.loop-block-init
loop-block-init c =
    subst (λ (x : List TaskBlock × (List PassesValue × List Tasked)).
    AreMade c.args.blocks.items x.0 c.args.passes.items x.1.0 x.1.1)
    (λ i. (
      sym c.into_iter-block-iterator.ensures.into_iter_gives.0 i,
      (sym c.from-left.ensures.0 i, sym c.new-tasks.ensures.items i),
    ))
    (none_made c.args.blocks.items c.args.passes.items)

pub returns : goal.returns
returns c = record {
  count = omega (
    arith,
    c.loop-block.invariant.within,
    c.in-None.ensures.steps.0,
    c.loop-block.block-iterator.rest.ok,
  );
  each = c.loop-block.invariant.each;
}
