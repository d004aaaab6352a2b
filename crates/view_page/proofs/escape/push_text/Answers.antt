use Rattle.std.proofs.Common.{ℕ, List, ◌++◌, append-nil, sym, ap, ◌∙◌}
use Rattle.std.proofs.lemmas.List.{take_all}
use Rattle.view_page.specs.Escape.{escaped, escaped_byte}
use Rattle.list_lemmas.proofs.Appending.{one_more}
use Rattle.view_page.proofs.escape.push_text.Goals as goal

pub loop-byte-init : goal.loop-byte-init
loop-byte-init c = sym (append-nil c.args.out.now.items)

pub loop-byte-preserved : goal.loop-byte-preserved
loop-byte-preserved c =
    one_more c.args.out.now.items escaped_byte c.args.text.now c.loop-byte.byte-index 0
    c.loop-byte-test.true c.loop-byte.invariant c.in_ok-push_byte.ensures

pub returns : goal.returns
returns c =
    c.loop-byte.invariant
    ∙ ap (λ (bytes : List ℕ). c.args.out.now.items ++ escaped bytes)
    (take_all c.loop-byte.byte-index c.args.text.now c.loop-byte-test.false)
