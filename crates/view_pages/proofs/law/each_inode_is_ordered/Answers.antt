use Rattle.view_pages.proofs.Ordered.{is_ordered}
use Rattle.view_pages.proofs.law.each_inode_is_ordered.Goals as goal

pub returns : goal.returns
returns c = is_ordered
