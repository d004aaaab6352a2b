use Rattle.std.proofs.Common.{◌≡◌, ◌+◌, ◌≤◌, ◌++◌, drop, length, take}
use Rattle.view_page.specs.journals.Walk.{shown_by, start}
use Rattle.view_page.specs.journals.WalkView.{walk_of}
use Rattle.view_sentences.specs.Sentences.{told_from}
use Rattle.view_page.proofs.about_journals.WalkPlaces.{IsAt}
use Rattle.view_sentences.proofs.tales.told_places.Given as goal

-- the first places so far and those of the other events, and how many there are
abbrev pub invariant-loop-place : goal.invariant-loop-place
invariant-loop-place l = record {
  at : IsAt l.place (walk_of l.walk);
  few : length l.places.items ≤ 20;
  small : l.n ≤ l.place;
  places : take 20 (l.places.items
      ++ told_from l.place (drop l.place l.journal)
      (shown_by (walk_of l.walk) (drop l.place l.journal)))
      ≡ take 20 (told_from 0 l.journal (shown_by start l.journal));
  count : l.n
      + length (told_from l.place (drop l.place l.journal)
      (shown_by (walk_of l.walk) (drop l.place l.journal)))
      ≡ length (told_from 0 l.journal (shown_by start l.journal));
}
