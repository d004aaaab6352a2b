-- The final state of the closed lists and the tasks.
use Rattle.std.proofs.Common.{◌∙◌, ◌≤◌, List, length, refl, subst, ap, arith}
use Rattle.std.specs.List.{list_any}
use Rattle.std.proofs.lemmas.List.{length-map}
use Rattle.std.proofs.lemmas.Result.{err_from_is_err_and}
use Rattle.inode_events.specs.NewestFirst.{newest_first}
use Rattle.inode_events.specs.Semaphores.{left}
use Rattle.policy_cell.specs.declared.cell.RuleEntry.{RuleEntry}
use Rattle.policy_rules.specs.RuleValue.{RuleValue}
use Rattle.world_model.specs.WorldConsts.{WorldConsts}
use Rattle.world_model.specs.Tasks.{PassesValue, Tasked}
use Rattle.world_model.specs.World.{WorldValue}
use Rattle.world_close.specs.Closed.{AreSpares, ListsValue, WorldClosed}
use Rattle.world_close.specs.Leaves.{are_stuck, may_append}
use Rattle.task_core.proofs.Closing.{are_rules, are_signals, are_world_inodes, base_is, ended_by, fewer_own, is_book, passes_are}
use Rattle.task_core.proofs.close.end.Goals as goal

-- the requires, in order: inodes, book, sems, rules, spares, count, passes
pub close_lists-requires : goal.close_lists-requires
close_lists-requires g c =
    let w = c.world.inside.parts in
    let is = ap (λ (v : WorldValue). v.consts) c.world.view_is ∙ c.requires.0 in
    let parts = c.world.invariant.parts in (
      are_world_inodes w.settings w.world_inodes.items w.supers.items w.book w.sems w.rules w.tasks
          g.consts is parts,
      (
        is_book w.settings w.world_inodes.items w.supers.items w.book w.sems w.rules
            w.tasks g.consts
            is parts,
        (
          are_signals w.settings w.world_inodes.items w.supers.items w.book w.sems w.rules w.tasks
              g.consts is parts,
          (
            are_rules w.settings w.world_inodes.items w.supers.items w.book w.sems w.rules w.tasks
                g.consts is parts,
            (
              subst (λ (f : WorldConsts). AreSpares f w.spares.items) is c.world.invariant.spares,
              (
                ap length c.in-Ok.ensures.passes
                    ∙ length-map c.args.tasks.items (λ (t : Tasked). t.passes) ∙ c.requires.1.0,
                passes_are g.consts c.args.tasks.items c.in-Ok.passes.items
                    c.requires.1.1.0 c.in-Ok.ensures.passes,
              ),
            ),
          ),
        ),
      ),
    )

pub overflow_sub-base : goal.overflow_sub-base
overflow_sub-base g c =
    let w = c.world.inside.parts in
    let own = ap (λ (l : ListsValue). l.rules) c.lists.view_is ∙ c.in_ok-lists.ensures.rules in
    let force = c.rules-in_force.ensures.rules ∙ c.rules.ensures in
    let fewer : c.len.result ≤ length c.rules-in_force.result.now =
    fewer_own w.rules (length c.rules-in_force.result.now) c.len.result
    (ap (λ (l : List RuleValue). length l) force)
    (omega (
      arith,
      c.len.ensures,
      c.lists.inside.rules.ok,
      ap (λ (l : List RuleEntry). length l) own,
    )) in
    omega (arith, fewer)

pub returns-in_err-lists : goal.returns-in_err-lists
returns-in_err-lists g c =
    let p = err_from_is_err_and c.from_residual.result c.from_residual.ensures.1 in
    rw (p.1) tt

pub returns : goal.returns
returns g c =
    let w = c.world.inside.parts in
    let tasks = c.args.tasks.items in
    let closed = c.in_ok-lists.ensures in
    let is = ap (λ (v : WorldValue). v.consts) c.world.view_is ∙ c.requires.0 in
    let at = ap (λ (v : WorldValue). v.state) c.world.view_is in
    let own = ap (λ (l : ListsValue). l.rules) c.lists.view_is ∙ closed.rules in
    let force = c.rules-in_force.ensures.rules ∙ c.rules.ensures in
    ended_by w.settings w.world_inodes.items w.supers.items w.book w.sems w.rules w.tasks
    g.consts is
    c.world.invariant.parts tasks c.args.world.state _ at c.requires.1.1.0 c.requires.1.0
    c.requires.1.1.1
    (subst (λ (l : List PassesValue). WorldClosed g.consts w.world_inodes.items
    w.book.list w.sems.list w.rules.appended.list l) c.in-Ok.ensures.passes closed.closed)
    (ap (λ (l : ListsValue). l.inodes) c.lists.view_is ∙ closed.inodes)
    (ap (λ (l : ListsValue). l.list) c.lists.view_is ∙ closed.list)
    (ap (λ (l : ListsValue). l.banks) c.lists.view_is ∙ closed.banks)
    c.in-Ok.ensures.ended
    (c.are_stuck-stuck.ensures
    ∙ ap (λ (l : List Tasked). are_stuck (λ sem. left sem (newest_first w.sems.list)) l)
    c.as_slice.ensures.value) refl own
    (base_is w.rules (length c.rules-in_force.result.now) c.len.result
    (ap (λ (l : List RuleValue). length l) force)
    (omega (
      arith,
      c.len.ensures,
      c.lists.inside.rules.ok,
      ap (λ (l : List RuleEntry). length l) own,
    )))
    (c.may_grow-grows.ensures
    ∙ ap (λ (l : List Tasked). list_any may_append l) c.as_slice-2.ensures.value)
