use Rattle.std.proofs.Common.{[], ◌∷◌, ◌++◌, sym, ◌∙◌, subst}
use Rattle.std.proofs.lemmas.List.{take_all, take_more}
use Rattle.xattr_store.specs.Attrs.{IsAttrs}
use Rattle.xattr_store.proofs.attrs.Attrs.copy.Goals as goal

pub loop-pair-preserved : goal.loop-pair-preserved
loop-pair-preserved c =
    c.in_ok-push.ensures.items
    ∙ (λ i. c.loop-pair.invariant i ++ (c.in_ok-copy_of.ensures ∙ c.pair-item.is) i ∷ [])
    ∙ sym (take_more c.deref-pair-items.result.now c.loop-pair.pair-index c.pair-item.result
    c.loop-pair-test.true)

pub invariant_of-result : goal.invariant_of-result
invariant_of-result c =
    subst IsAttrs
    (sym (c.loop-pair.invariant
    ∙ take_all c.loop-pair.pair-index c.deref-pair-items.result.now c.loop-pair-test.false
    ∙ c.deref-pair-items.ensures.value)) c.self.invariant

pub returns : goal.returns
returns c =
    c.loop-pair.invariant
    ∙ take_all c.loop-pair.pair-index c.deref-pair-items.result.now c.loop-pair-test.false
    ∙ c.deref-pair-items.ensures.value ∙ c.self.view_is
