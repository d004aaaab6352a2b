use Rattle.std.proofs.Common.{ℕ, ◌+◌, List, ◌++◌, drop, get_or, ap, sym, ◌∙◌, arith}
use Rattle.std.proofs.lemmas.List.{at_drop_all, at_drop_more}
use Rattle.view_overview.specs.Overview.{mark, marks_from, none}
use Rattle.view_page.specs.Parts.{page_of}
use Rattle.view_page.specs.declared.part.Part.{Part}
use Rattle.view_page.proofs.Joined.{going, gone}
use Rattle.view_overview.proofs.overview.push_marks_of.Goals as goal

pub loop-k-preserved : goal.loop-k-preserved
loop-k-preserved c =
    let text : List ℕ = c.args.text.now in
    let i : ℕ = c.loop-k.k in
    going text _ c.loop-k.out.items c.push_mark.new.out.items
    (mark c.args.rank c.args.width i (get_or c.args.buckets.now i none))
    (marks_from c.args.rank c.args.width (i + 1) (drop (i + 1) c.args.buckets.now))
    c.in_ok-push_mark.ensures
    (ap (λ (ps : List Part). c.loop-k.out.items ++ page_of text ps)
    (sym (at_drop_more (marks_from c.args.rank c.args.width i) c.args.buckets.now i none
    c.loop-k-test.true))
    ∙ c.loop-k.invariant)

pub returns : goal.returns
returns c =
    gone c.args.text.now c.args.out.now.items c.loop-k.out.items
    (marks_from c.args.rank c.args.width 0 c.args.buckets.now) _
    (at_drop_all (marks_from c.args.rank c.args.width c.loop-k.k) c.args.buckets.now c.loop-k.k
    (omega arith))
    c.loop-k.invariant
