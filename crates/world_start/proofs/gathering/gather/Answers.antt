use Rattle.std.proofs.Common.{◌≡◌, length, subst, sym, arith, ap, rules}
use Rattle.world_close.specs.worlds.Tasks.{PassesValue}
use Rattle.std.specs.Prelude.{List}
use Rattle.world_start.specs.Started.{AreGathered}
use Rattle.world_start.proofs.GatherLemmas.{gathered_all, gathered_more, gathered_none}
use Rattle.world_start.proofs.gathering.gather.Goals as goal

pub loop-own-init : goal.loop-own-init
loop-own-init c =
    subst (λ (l : List PassesValue). AreGathered c.args.columns c.args.columns l)
    (sym c.new-passes.ensures.items)
    (gathered_none c.args.columns c.requires.sems c.requires.book c.requires.rules)

pub loop-own-preserved : goal.loop-own-preserved
loop-own-preserved c =
    subst (λ (l : List PassesValue). AreGathered c.args.columns c.next.new.self l)
    (sym c.in_ok-push.ensures.items)
    (gathered_more c.args.columns c.loop-own.columns c.next.new.self c.loop-own.passes.items
    c.in-Some.own c.in-Some.ensures.some c.loop-own.invariant)

pub loop-own-smaller : goal.loop-own-smaller
loop-own-smaller c = let e = ap length c.in-Some.ensures.some.rows in omega arith

pub returns : goal.returns
returns c =
    let empty : length c.loop-own.columns.rows ≡ 0 = search rules in
    let all = gathered_all c.args.columns c.loop-own.columns c.loop-own.passes.items empty
    c.loop-own.invariant in
    record { rows = all.rows; sems = all.sems; book = all.book; rules = all.rules }
