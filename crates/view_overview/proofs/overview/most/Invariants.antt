use Rattle.std.proofs.Common.{◌≡◌, ◌<◌, drop}
use Rattle.view_overview.specs.Overview.{most_from}
use Rattle.view_overview.proofs.overview.most.Given as goal

abbrev pub invariant-loop-bucket : goal.invariant-loop-bucket
invariant-loop-bucket l = record {
  same : most_from l.count l.most (drop l.bucket-index l.buckets) ≡ most_from l.count 1 l.buckets;
  some : 0 < l.most;
}
