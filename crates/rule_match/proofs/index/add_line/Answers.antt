use Rattle.std.proofs.Common.{ℕ, List, [], ◌∷◌, ◌++◌, Some, None, cond, sym, ap, ◌∙◌, rules}
use Rattle.std.specs.HashMap as hash
use Rattle.rule_match.specs.Group.{same_group}
use Rattle.rule_match.specs.LineTable.{LineTable}
use Rattle.rule_match.proofs.Added.{line_added, lines_kept}
use Rattle.rule_match.proofs.index.add_line.Goals as goal

pub returns-in-Ok-clause-ok : goal.returns-in-Ok-clause-ok
returns-in-Ok-clause-ok c = λ g.
    line_added c.args.lines.now (c.get_mut.follows.lender c.push.new.self) c.args.group
    (Some c.in-Some.of_group.now) (Some c.push.new.self) (sym c.in-Some.ensures.value)
    ((c.get_mut.follows.holds c.push.new.self).3 (search rules)).0 g c.args.line
    c.in-Ok.ensures.items

pub returns-in-Err-clause-err : goal.returns-in-Err-clause-err
returns-in-Err-clause-err c = λ g.
    lines_kept c.args.lines.now (c.get_mut.follows.lender c.push.new.self) c.args.group
    (Some c.in-Some.of_group.now) (Some c.push.new.self) (sym c.in-Some.ensures.value)
    ((c.get_mut.follows.holds c.push.new.self).3 (search rules)).0 g c.in-Err.ensures.items

pub returns-clause-ok : goal.returns-clause-ok
returns-clause-ok c = λ g.
    line_added c.args.lines.now c.insert.new.self c.args.group None (Some c.push-2.new.self)
    (sym c.in_default.ensures.value)
    (λ q. c.in_ok-insert.ensures.updates.0 q
    ∙ ap (λ (table : LineTable). cond (same_group c.args.group q) (Some c.push-2.new.self)
    (hash.get same_group table q))
    c.get_mut.follows.holds-at-none)
    g c.args.line
    (c.in_ok-push.ensures.items
    ∙ ap (λ (l : List ℕ). l ++ c.args.line ∷ []) c.new-of_group.ensures.items)
