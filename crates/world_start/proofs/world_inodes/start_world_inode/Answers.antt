use Rattle.std.proofs.Common.{ℕ, [], ◌∷◌, List, length, sym, ap, ◌∙◌, arith}
use Rattle.std.specs.Prelude.{slice_get}
use Rattle.std.proofs.lemmas.Result.{err_from_is_err_and}
use Rattle.grow_list.specs.Shown.{Passed}
use Rattle.inode_events.specs.Inode.{Inode}
use Rattle.inode_events.specs.declared.told.Event.{Event}
use Rattle.world_close.specs.states.Value.{birth_of}
use Rattle.world_start.proofs.world_inodes.start_world_inode.Goals as goal

pub share_out-requires : goal.share_out-requires
share_out-requires c =
    let moved = c.from.ensures.0 in
    let e = c.in_ok-cell.ensures in
    record {
      even = ap length moved ∙ e.count ∙ sym c.requires.rows;
      column = λ k below.
          ap (λ (l : List (Passed Event)). slice_get l k) moved
          ∙ e.passes k (omega (arith, below, ap length moved, e.count));
    }

pub returns-clause-world_inode : goal.returns-clause-world_inode
returns-clause-world_inode c =
    let e = c.in_ok-cell.ensures in
    record {
      settings = ap (λ (i : Inode). i.settings) e.inode ∙ c.in_ok-copy.ensures;
      list = e.list ∙ ap (λ (i : Inode). birth_of i.birth ∷ []) (sym e.inode);
      callers = e.callers;
    }

pub returns-clause-file : goal.returns-clause-file
returns-clause-file c =
    ap (λ (i : Inode). (i.path, i.birth)) c.in_ok-cell.ensures.inode
    ∙ ap (λ (path : List ℕ). (path, c.args.file.1)) c.as_slice.ensures.bytes

pub returns-clause-listed : goal.returns-clause-listed
returns-clause-listed c =
    let e = c.in_ok-cell.ensures.book in λ i. (e.0 i, e.1 i)

pub returns-clause-given : goal.returns-clause-given
returns-clause-given c = c.in_ok-share_out.ensures.given

pub returns-in_err-copy : goal.returns-in_err-copy
returns-in_err-copy c =
    let p = err_from_is_err_and c.from_residual.result c.from_residual.ensures.1 in
    rw (p.1) (record {
      world_inode = tt;
      file = tt;
      place = tt;
      listed = tt;
      counted = tt;
      count = tt;
      given = tt;
    })

pub returns-in_err-cell : goal.returns-in_err-cell
returns-in_err-cell c =
    let p = err_from_is_err_and c.from_residual-in_err-cell.result
    c.from_residual-in_err-cell.ensures.1 in
    rw (p.1) (record {
      world_inode = tt;
      file = tt;
      place = tt;
      listed = tt;
      counted = tt;
      count = tt;
      given = tt;
    })

pub returns-in_err-share_out : goal.returns-in_err-share_out
returns-in_err-share_out c =
    let p = err_from_is_err_and c.from_residual-in_err-share_out.result
    c.from_residual-in_err-share_out.ensures.1 in
    rw (p.1) (record {
      world_inode = tt;
      file = tt;
      place = tt;
      listed = tt;
      counted = tt;
      count = tt;
      given = tt;
    })
