-- The journal keeps the list that has begun, and the state that its birth leaves.
use Rattle.std.proofs.Common.{ℕ, ◌<◌, refl, sym, ap, subst, arith}
use Rattle.std.proofs.lemmas.Result.{err_from_is_err_and}
use Rattle.inode_events.specs.Inode.{Inode, nobody}
use Rattle.inode_state.proofs.Keeping.{keeps_born}
use Rattle.inode_state.specs.Value.{JournalValue, birth_in}
use Rattle.inode_state.proofs.journal.InodeJournal.start.Goals as goal

pub invariant_of-kept : goal.invariant_of-kept
invariant_of-kept c =
    let g = c.in_ok-journal.journal in
    let begun = c.in_ok-journal.ensures in
    let i : Inode = record {
      path = c.args.path;
      settings = c.args.settings;
      birth = birth_in g.list;
    } in
    keeps_born i g c.in_ok-journal.own c.born-state.result c.args.image (ap birth_in begun.list)
    begun.list begun.numbers begun.own_name begun.own_number begun.own_mine
    (subst (λ (n : ℕ). 0 < n) (sym begun.callers) (omega arith)) (c.born-state.ensures i nobody)

pub returns-in_err-journal-clause-inode : goal.returns-in_err-journal-clause-inode
returns-in_err-journal-clause-inode c =
    let p = err_from_is_err_and c.from_residual.result c.from_residual.ensures.1 in
    rw (p.1) tt

pub returns-in_err-journal-clause-list : goal.returns-in_err-journal-clause-list
returns-in_err-journal-clause-list c =
    let p = err_from_is_err_and c.from_residual.result c.from_residual.ensures.1 in
    rw (p.1) tt

pub returns-in_err-journal-clause-callers : goal.returns-in_err-journal-clause-callers
returns-in_err-journal-clause-callers c =
    let p = err_from_is_err_and c.from_residual.result c.from_residual.ensures.1 in
    rw (p.1) tt

pub returns-in_err-journal-clause-count : goal.returns-in_err-journal-clause-count
returns-in_err-journal-clause-count c =
    let p = err_from_is_err_and c.from_residual.result c.from_residual.ensures.1 in
    rw (p.1) tt

pub returns-in_err-journal-clause-passes : goal.returns-in_err-journal-clause-passes
returns-in_err-journal-clause-passes c =
    let p = err_from_is_err_and c.from_residual.result c.from_residual.ensures.1 in
    rw (p.1) tt

pub returns-in_err-journal-clause-others : goal.returns-in_err-journal-clause-others
returns-in_err-journal-clause-others c =
    let p = err_from_is_err_and c.from_residual.result c.from_residual.ensures.1 in
    rw (p.1) tt

pub returns-clause-inode : goal.returns-clause-inode
returns-clause-inode c =
    let list = c.in_ok-journal.ensures.list in
    λ j. record {
      path = c.args.path;
      settings = c.args.settings;
      birth = birth_in (list j);
    }

pub returns-clause-passes : goal.returns-clause-passes
returns-clause-passes c = c.in_ok-journal.ensures.shown

pub returns-clause-others : goal.returns-clause-others
returns-clause-others c =
    let g = c.in_ok-journal.journal in
    let j : JournalValue = record {
      inode = record {
        path = c.args.path;
        settings = c.args.settings;
        birth = birth_in g.list;
      };
      name = g.name;
      callers = g.callers;
      spare = 0;
      list = g.list;
    } in
    let others = c.in_ok-journal.ensures.others j refl refl in
    record { of_journal = others.of_journal; one_each = others.one_each }
