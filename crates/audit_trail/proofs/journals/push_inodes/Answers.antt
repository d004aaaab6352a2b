use Rattle.std.proofs.Common.{Some, refl, sym, ◌∙◌, ap, arith}
use Rattle.std.proofs.lemmas.Option.{slice_get-get_or}
use Rattle.report_text.proofs.Joins.{lines_end, lines_on}
use Rattle.world_model.specs.model.events.EndedInode.{EndedInodeValue}
use Rattle.audit_trail.proofs.Printing.{counts_end, counts_on}
use Rattle.audit_trail.specs.Sites.{lines_from, numbered_lines}
use Rattle.audit_trail.proofs.journals.push_inodes.Goals as goal

pub push_inode-requires-clause-legal : goal.push_inode-requires-clause-legal
push_inode-requires-clause-legal c = λ s e.
    c.requires.legal c.loop-number.number s c.index-inodes-number.result e
    (slice_get-get_or c.args.inodes.now c.loop-number.number c.index-inodes-number.result
    c.loop-number-test.true
    ∙ ap (λ (i : EndedInodeValue). Some i) (sym c.index-inodes-number.is))

pub loop-number-preserved : goal.loop-number-preserved
loop-number-preserved c = record {
  text = lines_on (lines_from c.args.context.now) (numbered_lines c.args.context.now)
      (λ n x xs. refl) _ _ _ c.args.inodes.now c.loop-number.number c.index-inodes-number.result
      c.loop-number-test.true c.index-inodes-number.is c.loop-number.invariant.text
      c.in_ok-count.ensures.text;
  count = counts_on (lines_from c.args.context.now) (numbered_lines c.args.context.now)
      (λ n x xs. refl) _ c.loop-number.count c.in_ok-count.field-0 c.args.inodes.now
      c.loop-number.number c.index-inodes-number.result c.loop-number-test.true
      c.index-inodes-number.is c.loop-number.invariant.count c.in_ok-count.ensures.count;
  grows = omega (arith, c.loop-number.invariant.grows, c.in_ok-count.ensures.grows);
}

pub returns-clause-text : goal.returns-clause-text
returns-clause-text c =
    lines_end (lines_from c.args.context.now) (λ k. refl) _ _ c.args.inodes.now
    c.loop-number.number c.loop-number-test.false c.loop-number.invariant.text

pub returns-clause-count : goal.returns-clause-count
returns-clause-count c =
    counts_end (lines_from c.args.context.now) (λ k. refl) _ c.loop-number.count c.args.inodes.now
    c.loop-number.number c.loop-number-test.false c.loop-number.invariant.count
