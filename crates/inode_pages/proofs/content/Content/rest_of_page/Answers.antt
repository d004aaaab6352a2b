use Rattle.std.proofs.Common.{◌∙◌, ap, ◌-◌, ◌%◌}
use Rattle.inode_pages.specs.Content.{bytes_at, piece_bytes}
use Rattle.inode_pages.proofs.Paging.{rest_of_piece}
use Rattle.inode_pages.proofs.content.Content.rest_of_page.Goals as goal

pub returns : goal.returns
returns c = c.bytes_at.ensures
    ∙ ap (λ p. bytes_at p (c.args.at % piece_bytes) (piece_bytes - c.args.at % piece_bytes))
    c.piece-page.ensures.piece ∙ rest_of_piece c.args.self.now c.args.at
