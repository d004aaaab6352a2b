use Rattle.std.proofs.Common.{◌∙◌, ◌%◌, ap, arith}
use Rattle.inode_pages.specs.Content.{bytes_at}
use Rattle.inode_pages.proofs.Changes.{after_cut_between, after_cut_within}
use Rattle.inode_pages.proofs.content.Content.cut.Goals as goal

pub invariant_of-self : goal.invariant_of-self
invariant_of-self c =
    (after_cut_between c.args.self.now c.self.inside.pages.items c.truncate.new.self.items
    c.args.len c.self.view_is c.self.invariant c.requires.shorter c.if-rest-eq0.true
    c.truncate.ensures.items).0

pub returns-then-rest-eq0-clause-ok : goal.returns-then-rest-eq0-clause-ok
returns-then-rest-eq0-clause-ok c =
    (after_cut_between c.args.self.now c.self.inside.pages.items c.truncate.new.self.items
    c.args.len c.self.view_is c.self.invariant c.requires.shorter c.if-rest-eq0.true
    c.truncate.ensures.items).1

pub invariant_of-self-2 : goal.invariant_of-self-2
invariant_of-self-2 c =
    (after_cut_within c.args.self.now c.self.inside.pages.items c.in_ok-last.last
    c.truncate-2.new.self.items c.args.len c.self.view_is c.self.invariant c.requires.shorter
    (omega arith)
    (c.in_ok-last.ensures.bytes ∙ c.in_ok-bytes.ensures.items ∙ c.bytes_at.ensures
    ∙ ap (λ p. bytes_at p 0 (c.args.len % 4096)) c.piece.ensures.piece)
    c.truncate-2.ensures.items).0

pub returns-clause-ok : goal.returns-clause-ok
returns-clause-ok c =
    (after_cut_within c.args.self.now c.self.inside.pages.items c.in_ok-last.last
    c.truncate-2.new.self.items c.args.len c.self.view_is c.self.invariant c.requires.shorter
    (omega arith)
    (c.in_ok-last.ensures.bytes ∙ c.in_ok-bytes.ensures.items ∙ c.bytes_at.ensures
    ∙ ap (λ p. bytes_at p 0 (c.args.len % 4096)) c.piece.ensures.piece)
    c.truncate-2.ensures.items).1
