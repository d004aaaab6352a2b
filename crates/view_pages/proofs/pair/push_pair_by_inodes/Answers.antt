use Rattle.std.proofs.lemmas.Result.{on_ok_weaker}
use Rattle.view_page.proofs.Joined.{◌▹◌}
use Rattle.view_pages.proofs.pair.push_pair_by_inodes.Goals as goal

pub returns : goal.returns
returns c =
    on_ok_weaker c.push_parts.result
    (λ pushed. c.in_ok-push_head.ensures ▹ c.in_ok-push_both_tiles.ensures
    ▹ c.in_ok-push_pairs.ensures ▹ c.in_ok-push_linked_tables.ensures ▹ pushed)
    c.push_parts.ensures
