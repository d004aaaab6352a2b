use Rattle.std.proofs.Common.{List, ap, ◌∙◌}
use Rattle.view_overview.specs.Overview.{buckets_of, overview_by}
use Rattle.view_overview.specs.declared.buckets.Bucket.{Bucket}
use Rattle.view_overview.specs.declared.buckets.Scale.{Scale}
use Rattle.view_page.proofs.Joined.{as_parts}
use Rattle.view_overview.proofs.overview.push_overview.Goals as goal

pub returns : goal.returns
returns c =
    as_parts c.in_ok-push_overview_by.ensures
    (ap (λ (bs : List Bucket). overview_by c.scale_of-scale.result bs c.args.windows.now)
    (c.deref.ensures.value ∙ c.in_ok-buckets.ensures.is)
    ∙ ap (λ (s : Scale). overview_by s (buckets_of s c.args.journal.now) c.args.windows.now)
    c.scale_of-scale.ensures.is)
