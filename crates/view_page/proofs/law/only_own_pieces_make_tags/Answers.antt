use Rattle.view_page.proofs.PiecesSafe.{only_own_pieces_make_tags}
use Rattle.view_page.proofs.law.only_own_pieces_make_tags.Goals as goal

pub returns : goal.returns
returns c = only_own_pieces_make_tags
