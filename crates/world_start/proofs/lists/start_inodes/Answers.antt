use Rattle.std.proofs.Common.{List, length, ap, subst, sym, ◌∙◌}
use Rattle.std.proofs.lemmas.Result.{err_from_is_err_and}
use Rattle.grow_list.specs.Shown.{Passed}
use Rattle.inode_events.specs.declared.told.Event.{Event}
use Rattle.world_start.specs.Started.{AreRows}
use Rattle.world_start.proofs.lists.start_inodes.Goals as goal

pub gather-requires : goal.gather-requires
gather-requires c =
    let w = c.new-columns.ensures in
    let rows = ap length w.rows ∙ c.in_ok-world_inodes.ensures.rows.0 in
    record {
      sems = ap length w.sems ∙ c.requires.signal_passes ∙ sym rows;
      book = ap length w.book ∙ c.requires.task_list_passes ∙ sym rows;
      rules = ap length w.rules ∙ c.requires.appenders ∙ sym rows;
    }

pub returns-clause-rows : goal.returns-clause-rows
returns-clause-rows c =
    subst (λ (l : List (List (Passed Event))). AreRows c.in_ok-world_inodes.world_inodes.items
    c.args.tasks l) (sym (c.in_ok-passes.ensures.rows ∙ c.new-columns.ensures.rows))
    c.in_ok-world_inodes.ensures.rows

pub returns-clause-sems : goal.returns-clause-sems
returns-clause-sems c = c.in_ok-passes.ensures.sems ∙ c.new-columns.ensures.sems

pub returns-clause-book : goal.returns-clause-book
returns-clause-book c = c.in_ok-passes.ensures.book ∙ c.new-columns.ensures.book

pub returns-clause-rules : goal.returns-clause-rules
returns-clause-rules c = c.in_ok-passes.ensures.rules ∙ c.new-columns.ensures.rules

pub returns-in_err-world_inodes : goal.returns-in_err-world_inodes
returns-in_err-world_inodes c =
    let p = err_from_is_err_and c.from_residual.result c.from_residual.ensures.1 in
    rw (p.1) (record { world_inodes = tt; rows = tt; sems = tt; book = tt; rules = tt })

pub returns-in_err-passes : goal.returns-in_err-passes
returns-in_err-passes c =
    let p = err_from_is_err_and c.from_residual-in_err-passes.result c.from_residual-in_err-passes.ensures.1 in
    rw (p.1) (record { world_inodes = tt; rows = tt; sems = tt; book = tt; rules = tt })
