use Rattle.std.proofs.Common.{ap, ◌∙◌}
use Rattle.inode_meta.specs.declared.identity.Meta.{Meta}
use Rattle.rule_match.specs.Decision.{access_of, decide_of}
use Rattle.inode_cell.proofs.cell.InodeCell.check.Goals as goal

pub returns-clause-action : goal.returns-clause-action
returns-clause-action c = c.decide-action.ensures
    ∙ ap (λ (m : Meta). decide_of c.args.rules.now (access_of c.args.cred.now c.args.place.now m
    c.args.func c.args.mask)) c.meta-meta.ensures
