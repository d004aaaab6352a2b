use Rattle.std.proofs.Common.{◌≡◌, drop}
use Rattle.view_page.specs.journals.Walk.{start}
use Rattle.view_page.specs.journals.WalkView.{walk_of}
use Rattle.view_sentences.specs.Holders.{walked_all}
use Rattle.view_page.proofs.about_journals.WalkPlaces.{IsAt}
use Rattle.view_sentences.proofs.holders.walked.Given as goal

-- the walk over the events so far, which goes on over the others
abbrev pub invariant-loop-event : goal.invariant-loop-event
invariant-loop-event l = record {
  at : IsAt l.event-index (walk_of l.walk);
  same : walked_all (walk_of l.walk) (drop l.event-index l.journal)
      ≡ walked_all start l.journal;
}
