-- The value is the front of the array that the label was written to.
use Rattle.std.proofs.Common.{◌≡◌, ℕ, List, ◌++◌, length, take, ap, sym, ◌∙◌, subst}
use Rattle.std.specs.Prelude.{OnOk}
use Rattle.std.proofs.lemmas.List.{take_at}
use Rattle.inode_events.specs.Integrity.{ima_name}
use Rattle.inode_events.specs.evm.Status.{renewed}
use Rattle.xattr_store.specs.Attrs.{put}
use Rattle.inode_answers.proofs.attributes.label_on.Goals as goal

front : (out l rest : List ℕ) (n : ℕ) → out ≡ l ++ rest → n ≡ length l → take n out ≡ l
front out l rest n is len = ap (take n) is ∙ take_at l rest n (sym len)

pub returns-clause-ok : goal.returns-clause-ok
returns-clause-ok c =
    let w = c.write_label-len.ensures in
    subst (λ (b : List ℕ). OnOk c.change.result (c.change.new.attrs ≡ renewed c.args.evm.now
    (put ima_name b c.args.attrs.now) c.args.meta.now))
    (front c.write_label-len.new.out _ _ c.write_label-len.result w.written w.length)
    c.change.ensures.ok
