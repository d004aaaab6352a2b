use Rattle.std.proofs.Common.{◌≡◌, ℕ, ◌+◌, ◌-◌, ◌<◌, [], List, length, map, refl, arith, sym, subst, ◌∙◌, ap}
use Rattle.std.specs.Prelude.{All, max}
use Rattle.grow_list.specs.Shown.{Passed}
use Rattle.ima_templates.specs.declared.entry.Entry.{Entry}
use Rattle.policy_cell.specs.declared.cell.RuleEntry.{RuleEntry}
use Rattle.policy_rules.specs.RuleValue.{RuleValue}
use Rattle.world_close.specs.worlds.Tasks.{PassesValue}
use Rattle.world_close.specs.worlds.Parts.{consts_by}
use Rattle.world_start.specs.Start.{AreConstsOf}
use Rattle.world_start.specs.Started.{AreFresh}
use Rattle.world_start.proofs.Fresh.{unused}
use Rattle.world_start.proofs.PartLemmas.{are_rules, are_signals, are_spares, are_world_inodes, begins, first_passes, is_book, is_consts}
use Rattle.world_start.proofs.lists.start_lists.Goals as goal

pub returns-clause-consts : goal.returns-clause-consts
returns-clause-consts c =
    let e = c.in_ok-cells.ensures in
    let world_inodes = c.in_ok-world_inodes.world_inodes.items in
    let k = c.in_ok-cells.cells in
    subst (λ (x : List ℕ × List RuleValue). AreConstsOf c.args.settings c.args.boot
    c.args.inodes.items c.args.supers.items x.0 x.1 c.args.tasks
    (consts_by c.args.settings world_inodes c.args.supers.items k.book k.sems k.rules c.args.tasks))
    (λ i. (c.new-seats.ensures.places i, e.base i))
    (is_consts c.args.settings c.args.boot c.args.inodes.items c.args.supers.items c.args.tasks
    c.new-seats.result world_inodes k.book k.sems k.rules
    c.in_ok-world_inodes.ensures.world_inodes e.book)

pub returns-clause-begins : goal.returns-clause-begins
returns-clause-begins c =
    let e = c.in_ok-cells.ensures in
    let k = c.in_ok-cells.cells in
    begins c.args.settings c.args.boot c.args.inodes.items c.args.supers.items c.args.tasks
    c.new-seats.result c.in_ok-world_inodes.world_inodes.items k.book k.sems k.rules
    c.in_ok-world_inodes.ensures.world_inodes e.book e.sems e.added

pub returns-clause-world_inodes : goal.returns-clause-world_inodes
returns-clause-world_inodes c =
    let e = c.in_ok-cells.ensures in
    let k = c.in_ok-cells.cells in
    let n : c.len-count.result ≡ length c.args.inodes.items =
    omega (arith, c.len-count.ensures, c.args.inodes.ok) in
    are_world_inodes c.args.settings c.args.boot c.args.inodes.items c.args.supers.items
    c.args.tasks c.new-seats.result c.in_ok-world_inodes.world_inodes.items k.book k.sems k.rules
    c.in_ok-world_inodes.ensures.world_inodes
    (subst (λ (x : ℕ × List (Passed Entry)). AreFresh k.book.name (λ j. j + 1) x.0 x.1)
    (λ i. (n i, sym c.new-seats.ensures.list_passes i)) e.list_passes)
    (subst (λ (x : ℕ × List (Passed RuleEntry)). AreFresh k.rules.appended.name
    (λ j. c.args.tasks + j) x.0 x.1)
    (λ i. (n i, sym c.new-seats.ensures.rule_passes i)) e.rule_passes)
    (subst (λ (l : List ℕ). All (λ (p : ℕ). p < length c.args.supers.items) l)
    (sym c.new-seats.ensures.places) c.requires.places)

pub returns-clause-book : goal.returns-clause-book
returns-clause-book c =
    let e = c.in_ok-cells.ensures in
    let k = c.in_ok-cells.cells in
    let n : c.len-count.result ≡ length c.args.inodes.items =
    omega (arith, c.len-count.ensures, c.args.inodes.ok) in
    is_book c.args.settings c.args.boot c.args.inodes.items c.args.supers.items c.args.tasks
    c.new-seats.result c.in_ok-world_inodes.world_inodes.items k.book k.sems k.rules
    c.in_ok-world_inodes.ensures.world_inodes e.book
    (subst (λ (m : ℕ). k.book.callers ≡ 1 + m + c.args.tasks) n e.listed)

pub returns-clause-sems : goal.returns-clause-sems
returns-clause-sems c =
    let e = c.in_ok-cells.ensures in
    let k = c.in_ok-cells.cells in
    are_signals c.args.settings c.args.boot c.args.inodes.items c.args.supers.items c.args.tasks
    c.new-seats.result c.in_ok-world_inodes.world_inodes.items k.book k.sems k.rules
    c.in_ok-world_inodes.ensures.world_inodes e.signalled

pub returns-clause-rules : goal.returns-clause-rules
returns-clause-rules c =
    let e = c.in_ok-cells.ensures in
    let k = c.in_ok-cells.cells in
    let n : c.len-count.result ≡ length c.args.inodes.items =
    omega (arith, c.len-count.ensures, c.args.inodes.ok) in
    are_rules c.args.settings c.args.boot c.args.inodes.items c.args.supers.items c.args.tasks
    c.new-seats.result c.in_ok-world_inodes.world_inodes.items k.book k.sems k.rules
    c.in_ok-world_inodes.ensures.world_inodes e.added e.numbers
    (subst (λ (m : ℕ). k.rules.appended.callers ≡ max 1 (c.args.tasks + m)) n e.appended)

pub returns-clause-spares : goal.returns-clause-spares
returns-clause-spares c =
    let e = c.in_ok-cells.ensures in
    let k = c.in_ok-cells.cells in
    let n : c.len-count.result ≡ length c.args.inodes.items =
    omega (arith, c.len-count.ensures, c.args.inodes.ok) in
    are_spares c.args.settings c.args.boot c.args.inodes.items c.args.supers.items c.args.tasks
    c.new-seats.result c.in_ok-world_inodes.world_inodes.items k.book k.sems k.rules
    c.in_ok-world_inodes.ensures.world_inodes k.spares.items
    (subst (λ (m : ℕ). AreFresh k.rules.appended.name (λ j. c.args.tasks + m + j)
    (max 1 (c.args.tasks + m) - (c.args.tasks + m)) k.spares.items) n e.spares)

pub returns-clause-passes : goal.returns-clause-passes
returns-clause-passes c =
    let e = c.in_ok-cells.ensures in
    let k = c.in_ok-cells.cells in
    let n : c.len-count.result ≡ length c.args.inodes.items =
    omega (arith, c.len-count.ensures, c.args.inodes.ok) in
    let p = c.in_ok-world_inodes.ensures in
    let passes = c.in_ok-world_inodes.passes.items in
    first_passes c.args.settings c.args.boot c.args.inodes.items c.args.supers.items c.args.tasks
    c.new-seats.result c.in_ok-world_inodes.world_inodes.items k.book k.sems k.rules
    p.world_inodes passes (map (λ (q : PassesValue). q.inodes) passes) k.task_signal_passes.items
    k.task_list_passes.items k.task_appenders.items refl p.sems p.book p.rules p.rows
    e.task_signal_passes
    (subst (λ (m : ℕ). AreFresh k.book.name (λ j. m + j + 1) c.args.tasks k.task_list_passes.items)
    n e.task_list_passes) e.task_appenders

pub start_inodes-requires-clause-places : goal.start_inodes-requires-clause-places
start_inodes-requires-clause-places c =
    ap length c.new-seats.ensures.places ∙ c.requires.even

pub start_inodes-requires-clause-list_passes : goal.start_inodes-requires-clause-list_passes
start_inodes-requires-clause-list_passes c =
    let e = c.in_ok-cells.ensures in
    let k = c.in_ok-cells.cells in
    let n : c.len-count.result ≡ length c.args.inodes.items =
    omega (arith, c.len-count.ensures, c.args.inodes.ok) in
    ap length c.new-seats.ensures.list_passes ∙ e.list_passes.even ∙ n

pub start_inodes-requires-clause-rule_passes : goal.start_inodes-requires-clause-rule_passes
start_inodes-requires-clause-rule_passes c =
    let e = c.in_ok-cells.ensures in
    let k = c.in_ok-cells.cells in
    let n : c.len-count.result ≡ length c.args.inodes.items =
    omega (arith, c.len-count.ensures, c.args.inodes.ok) in
    ap length c.new-seats.ensures.rule_passes ∙ e.rule_passes.even ∙ n

pub start_inodes-requires-clause-unused : goal.start_inodes-requires-clause-unused
start_inodes-requires-clause-unused c =
    let e = c.in_ok-cells.ensures in
    let k = c.in_ok-cells.cells in
    subst (λ (l : List (Passed Entry)). All (λ (q : Passed Entry). q.mine ≡ []) l)
    (sym c.new-seats.ensures.list_passes)
    (unused k.book.name (λ j. j + 1) c.len-count.result k.list_passes.items e.list_passes)

pub start_inodes-requires-clause-signal_passes : goal.start_inodes-requires-clause-signal_passes
start_inodes-requires-clause-signal_passes c = c.in_ok-cells.ensures.task_signal_passes.even

pub start_inodes-requires-clause-task_list_passes :
    goal.start_inodes-requires-clause-task_list_passes
start_inodes-requires-clause-task_list_passes c = c.in_ok-cells.ensures.task_list_passes.even

pub start_inodes-requires-clause-appenders : goal.start_inodes-requires-clause-appenders
start_inodes-requires-clause-appenders c = c.in_ok-cells.ensures.task_appenders.even
