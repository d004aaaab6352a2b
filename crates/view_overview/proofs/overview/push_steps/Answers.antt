use Rattle.view_overview.specs.Overview.{none, step}
use Rattle.view_page.proofs.Joined.{no_parts, one_more}
use Rattle.view_overview.proofs.overview.push_steps.Goals as goal

pub loop-bucket-init : goal.loop-bucket-init
loop-bucket-init c = no_parts c.args.text.now c.args.out.now.items

pub loop-bucket-preserved : goal.loop-bucket-preserved
loop-bucket-preserved c =
    one_more (step c.args.count c.args.width c.args.most) c.args.buckets.now
    c.loop-bucket.bucket-index none c.loop-bucket-test.true c.loop-bucket.invariant
    c.in_ok-push_step.ensures
