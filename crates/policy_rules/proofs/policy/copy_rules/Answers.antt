use Rattle.std.proofs.Common.{◌≡◌, ℕ, ◌+◌, ◌<◌, ◌∙◌, List, [], ◌∷◌, ◌++◌, length, take, get_or, ap, sym, arith}
use Rattle.std.proofs.lemmas.List.{take_more}
use Rattle.policy_rules.proofs.policy.copy_rules.Goals as goal

one_more : {X : Type 0} (xs so_far now : List X) (n : ℕ) (x copy : X) → n < length xs
    → x ≡ get_or xs n x → copy ≡ x → so_far ≡ take n xs → now ≡ so_far ++ copy ∷ []
    → now ≡ take (n + 1) xs
one_more xs so_far now n x copy lt item same before pushed =
    pushed ∙ ap (λ l. l ++ copy ∷ []) before
    ∙ ap (λ y. take n xs ++ y ∷ []) (same ∙ item)
    ∙ sym (take_more xs n x lt)

pub push_reserved-requires : goal.push_reserved-requires
push_reserved-requires c = omega arith

pub loop-rule-preserved : goal.loop-rule-preserved
loop-rule-preserved c = record {
  count = c.push_reserved.ensures.len ∙ ap (λ n. n + 1) c.loop-rule.invariant.count;
  room = c.push_reserved.ensures.capacity ∙ c.loop-rule.invariant.room;
  items = one_more c.args.rules.now c.loop-rule.copy.items _ c.loop-rule.rule-index
      c.rule-item.result c.in_ok-copy-2.field-0 c.loop-rule-test.true c.rule-item.is
      c.in_ok-copy-2.ensures c.loop-rule.invariant.items c.push_reserved.ensures.items;
}
