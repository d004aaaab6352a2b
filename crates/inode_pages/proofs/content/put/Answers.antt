use Rattle.std.proofs.Common.{rules}
use Rattle.inode_pages.proofs.Paging.{set_parts}
use Rattle.inode_pages.proofs.content.put.Goals as goal

pub returns-then-k-len-clause-items : goal.returns-then-k-len-clause-items
returns-then-k-len-clause-items c = set_parts c.args.pages.now.items c.args.k c.args.page
    (search rules)
