use Rattle.std.proofs.Common.{◌≡◌, ◌+◌, [], ◌∷◌, ◌++◌, length, cond, sym, ap, ◌∙◌, rules}
use Rattle.rule_match.specs.Group.{same_group}
use Rattle.rule_match.specs.Groups.{group_of, lines_from}
use Rattle.rule_match.proofs.Lines.{lines_from-push}
use Rattle.rule_match.proofs.index.Index.push.Goals as goal

pub invariant_of-self-2 : goal.invariant_of-self-2
invariant_of-self-2 c =
    let group : c.of.result ≡ group_of c.args.rule = search rules in
    let line : c.len.result ≡ 0 + length c.self.inside.rules.items = search rules in
    let items : c.push_reserved.new.self.items ≡ c.self.inside.rules.items ++ c.args.rule ∷ [] =
    search rules in
    record {
      lines = λ g.
          c.in_ok-add_line.ensures.ok g
          ∙ (λ i. c.self.invariant.lines g i ++ cond (same_group (group i) g) (line i ∷ []) [])
          ∙ sym (lines_from-push g 0 c.self.inside.rules.items c.args.rule)
          ∙ ap (lines_from g 0) (sym items);
    }
