-- One more task has looked.
use Rattle.std.proofs.Common.{◌<◌, ◌≤◌, length, refl, sym, subst, ◌∙◌, arith}
use Rattle.std.proofs.lemmas.Option.{slice_get_read}
use Rattle.std.proofs.lemmas.List.{length-set}
use Rattle.run_model.specs.Turns.{State}
use Rattle.world_model.specs.WorldConsts.{WorldConsts}
use Rattle.world_model.specs.Runs.{HasMade}
use Rattle.world_model.specs.Tasks.{IsTask}
use Rattle.world_close.proofs.Settling.{looked_all, looked_more, looked_none}
use Rattle.task_core.proofs.close.look_all.Goals as goal

pub loop-k-init : goal.loop-k-init
loop-k-init c = record {
  consts = refl;
  state = refl;
  end = omega (arith, c.len-k-end.ensures);
  looked = looked_none c.args.world.now.consts c.args.world.now.state c.args.tasks.now.items
      c.requires;
}

pub look-requires : goal.look-requires
look-requires c =
    let old = c.loop-k.invariant in
    let t = c.index_mut.result.now in
    let below : c.loop-k.k < length c.loop-k.tasks.items =
    omega (arith, old.end, c.loop-k-test.true) in
    let at = slice_get_read c.loop-k.tasks.items (length c.loop-k.tasks.items) c.loop-k.k t refl
    below c.index_mut.ensures.value in
    subst (λ (f : WorldConsts). IsTask f t) (sym old.consts)
    (old.looked.tasks.each c.loop-k.k t at).task

pub loop-k-preserved : goal.loop-k-preserved
loop-k-preserved c =
    let old = c.loop-k.invariant in
    let t = c.index_mut.result.now in
    let e = c.look.ensures in
    let below : c.loop-k.k < length c.loop-k.tasks.items =
    omega (arith, old.end, c.loop-k-test.true) in
    let at = slice_get_read c.loop-k.tasks.items (length c.loop-k.tasks.items) c.loop-k.k t refl
    below c.index_mut.ensures.value in
    let consts = e.consts ∙ old.consts in
    let state = e.state ∙ old.state in
    record {
      consts = consts;
      state = state;
      end = old.end ∙ sym (length-set c.loop-k.tasks.items c.loop-k.k c.look.new.self);
      looked = looked_more c.args.world.now.consts c.args.world.now.state c.loop-k.k
          c.args.tasks.now.items c.loop-k.tasks.items t c.look.new.self at
          (subst (λ (x : WorldConsts × State). HasMade x.0 x.1 c.look.new.self)
          (λ i. (consts i, state i)) e.made)
          (subst (λ (f : WorldConsts). IsTask f c.look.new.self) consts e.still) e.same.0 e.same.1
          old.looked;
    }

pub returns-clause-made : goal.returns-clause-made
returns-clause-made c =
    let old = c.loop-k.invariant in
    let all : length c.loop-k.tasks.items ≤ c.loop-k.k = omega (arith, old.end, c.loop-k-test.false)
    in
    looked_all c.args.world.now.consts c.args.world.now.state c.loop-k.k c.args.tasks.now.items
    c.loop-k.tasks.items all old.looked
