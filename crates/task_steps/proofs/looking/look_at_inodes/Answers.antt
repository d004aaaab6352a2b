-- One pass after another looks at its journal.
use Rattle.std.proofs.Common.{◌<◌, length, sym, ◌∙◌, arith}
use Rattle.task_steps.proofs.Looks.{at_index, looks_end, looks_init, looks_more}
use Rattle.task_steps.proofs.looking.look_at_inodes.Goals as goal

pub loop-i-init : goal.loop-i-init
loop-i-init c = looks_init c.args.world_inodes.now.items c.args.passes.now.items

pub look_at-requires : goal.look_at-requires
look_at-requires c =
    let within : c.loop-i.i < length c.loop-i.world_inodes.items =
    omega (arith, c.loop-i.invariant.kept.even) in
    let pass_within : c.loop-i.i < length c.loop-i.passes.items =
    omega (arith, c.loop-i.invariant.even) in
    c.requires.names c.loop-i.i c.index_mut.result.now c.index_mut-in-loop-i.result.now
    (sym (c.loop-i.invariant.after_world_inodes c.loop-i.i (omega arith))
    ∙ at_index c.loop-i.world_inodes.items c.loop-i.i c.index_mut.result.now c.index_mut.result.now
    within c.index_mut.ensures.value)
    (sym (c.loop-i.invariant.after c.loop-i.i (omega arith))
    ∙ at_index c.loop-i.passes.items c.loop-i.i c.index_mut-in-loop-i.result.now
    c.index_mut-in-loop-i.result.now pass_within c.index_mut-in-loop-i.ensures.value)

pub loop-i-preserved : goal.loop-i-preserved
loop-i-preserved c =
    let within : c.loop-i.i < length c.loop-i.world_inodes.items =
    omega (arith, c.loop-i.invariant.kept.even) in
    let pass_within : c.loop-i.i < length c.loop-i.passes.items =
    omega (arith, c.loop-i.invariant.even) in
    looks_more c.loop-i.i c.args.world_inodes.now.items c.loop-i.world_inodes.items
    c.args.passes.now.items c.loop-i.passes.items c.index_mut.result.now c.look_at.new.world_inode
    c.index_mut-in-loop-i.result.now c.look_at.new.pass c.loop-i.invariant
    (at_index c.loop-i.world_inodes.items c.loop-i.i c.index_mut.result.now c.index_mut.result.now
    within c.index_mut.ensures.value)
    (at_index c.loop-i.passes.items c.loop-i.i c.index_mut-in-loop-i.result.now
    c.index_mut-in-loop-i.result.now pass_within c.index_mut-in-loop-i.ensures.value)
    c.look_at.ensures.world_inode c.look_at.ensures.pass

pub returns-clause-passes : goal.returns-clause-passes
returns-clause-passes c =
    looks_end c.loop-i.i c.args.world_inodes.now.items c.loop-i.world_inodes.items
    c.args.passes.now.items
    c.loop-i.passes.items c.loop-i.invariant (omega (arith, c.loop-i.invariant.even))
