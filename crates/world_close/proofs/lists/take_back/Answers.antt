use Rattle.std.proofs.Common.{ℕ, List, ◌++◌, length, ap, subst, sym, ◌∙◌}
use Rattle.std.proofs.lemmas.List.{length-map}
use Rattle.grow_list.specs.Shown.{Passed}
use Rattle.inode_events.specs.declared.told.Event.{Event}
use Rattle.world_model.specs.Tasks.{PassesValue}
use Rattle.world_close.specs.Closed.{ClosedValue, journal_name}
use Rattle.world_close.specs.Rows.{AreNamed, RowsFit}
use Rattle.world_close.proofs.Listing.{are_named, rows_fit}
use Rattle.world_close.proofs.lists.take_back.Goals as goal

-- the requires, in order: inodes, count, passes
pub close_world_inodes-requires : goal.close_world_inodes-requires
close_world_inodes-requires g c =
    let world_inodes = c.requires.0 in
    let count = c.requires.1.0 in
    let passes = c.requires.1.1 in
    let rows = c.in_ok-by_list.ensures.rows in (
      subst (λ (l : List (List (Passed Event))). RowsFit (length c.args.world_inodes.items)
          (journal_name g.consts) l) (sym rows)
          (rows_fit g.consts c.args.passes.items (length c.args.world_inodes.items)
          world_inodes.even passes),
      subst (λ (n : ℕ). AreNamed (journal_name g.consts) n c.args.world_inodes.items)
          (sym (ap length rows ∙ length-map c.args.passes.items (λ (p : PassesValue). p.inodes)))
          (are_named g.consts c.args.world_inodes.items (length c.args.passes.items) count
          world_inodes),
    )

pub returns : goal.returns
returns g c =
    let inodes = ap (λ (v : ClosedValue). v.inodes) c.closed.view_is
    ∙ c.in_ok-closed.ensures.inodes_are in
    let book = ap (λ (v : ClosedValue). v.book) c.closed.view_is in
    let rule_passes = ap (λ (v : ClosedValue). v.rules) c.closed.view_is
    ∙ c.in_ok-closed.ensures.rules_are in
    record {
      book = c.in_ok-closed.closed.book;
      closed = c.in_ok-closed.ensures.closed;
      inodes_are = inodes;
      list_passes_are = c.in_ok-list_passes.ensures
          ∙ (λ i. book i ++ c.in_ok-by_list.ensures.book i);
      signals_are = c.in_ok-by_list.ensures.sems;
      appenders_are = c.in_ok-appenders.ensures
          ∙ (λ i. c.in_ok-by_list.ensures.rules i ++ rule_passes i ++ c.args.spares.items);
    }
