use Rattle.std.proofs.Common.{◌∙◌, sym}
use Rattle.order_sights.proofs.inodes.same_cell.Goals as goal

pub returns : goal.returns
returns c = λ t. record {
  first = c.state.result.now;
  second = c.state-2.result.now;
  state = c.state.ensures;
  state2 = c.state-2.ensures;
  same = c.same_state.ensures c.if-not-same_state.false;
  content = sym c.content-2.ensures ∙ sym (c.same_content.ensures c.if-not-same_content.false)
      ∙ c.content.ensures;
  attributes = sym c.attrs-2.ensures ∙ sym c.as_slice-2.ensures ∙ sym (c.same_all.ensures t)
      ∙ c.as_slice.ensures ∙ c.attrs.ensures;
}
