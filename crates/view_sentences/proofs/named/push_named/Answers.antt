use Rattle.std.proofs.Common.{ℕ, ◌+◌, List, ◌++◌, drop, get_or, ap, sym, ◌∙◌, arith}
use Rattle.std.proofs.lemmas.List.{at_drop_all, at_drop_more}
use Rattle.view_page.specs.Parts.{page_of}
use Rattle.view_sentences.specs.Sentences.{comma_by, holder, named_from}
use Rattle.view_page.specs.declared.part.Part.{Part}
use Rattle.view_page.proofs.Joined.{going, gone}
use Rattle.view_sentences.proofs.named.push_named.Goals as goal

pub loop-n-preserved : goal.loop-n-preserved
loop-n-preserved c =
    let text : List ℕ = c.args.text.now in
    let i : ℕ = c.loop-n.n in
    going text _ c.loop-n.out.items c.push_after_comma.new.out.items
    (comma_by i ++ holder c.args.journal.now (get_or c.args.files.now i 0))
    (named_from c.args.journal.now (i + 1) (drop (i + 1) c.args.files.now))
    c.in_ok-push_after_comma.ensures
    (ap (λ (ps : List Part). c.loop-n.out.items ++ page_of text ps)
    (sym (at_drop_more (named_from c.args.journal.now i) c.args.files.now i 0
    c.loop-n-test.true))
    ∙ c.loop-n.invariant)

pub returns : goal.returns
returns c =
    gone c.args.text.now c.args.out.now.items c.loop-n.out.items
    (named_from c.args.journal.now 0 c.args.files.now) _
    (at_drop_all (named_from c.args.journal.now c.loop-n.n) c.args.files.now c.loop-n.n
    (omega arith))
    c.loop-n.invariant
