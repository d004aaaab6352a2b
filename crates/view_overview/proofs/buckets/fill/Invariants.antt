use Rattle.std.proofs.Common.{◌≡◌, drop}
use Rattle.view_page.specs.journals.Walk.{shown_by, start}
use Rattle.view_page.specs.journals.WalkView.{walk_of}
use Rattle.view_overview.specs.Overview.{filled}
use Rattle.view_page.proofs.about_journals.WalkPlaces.{IsAt}
use Rattle.view_overview.proofs.buckets.fill.Given as goal

-- the other events make of the buckets what all do
abbrev pub invariant-loop-place : goal.invariant-loop-place
invariant-loop-place l = record {
  at : IsAt l.place (walk_of l.walk);
  same : filled l.scale l.buckets l.place (drop l.place l.journal)
      (shown_by (walk_of l.walk) (drop l.place l.journal))
      ≡ filled l.scale l.fn.buckets 0 l.journal (shown_by start l.journal);
}
