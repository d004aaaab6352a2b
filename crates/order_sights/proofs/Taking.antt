-- What is taken along a journal is what its open collection has.
use Rattle.std.proofs.Common.{◌≡◌, ℕ, ◌+◌, ◌<◌, Bool, true, false, List, [], ◌∷◌, ◌++◌, get_or, length, take, Option, Some, None, refl, ap, sym, ◌∙◌}
use Rattle.inode_events.specs.Inode.{Inode}
use Rattle.inode_events.specs.Integrity.{Collection, Integrity, collected_more, collecting, collecting_after, integrity}
use Rattle.inode_events.specs.NewestFirst.{newest_first}
use Rattle.inode_events.specs.State.{content, content_after}
use Rattle.inode_events.specs.declared.deed.Deed.{Deed}
use Rattle.inode_events.specs.declared.deed.Deed.TheVariants as deed
use Rattle.inode_events.specs.declared.told.Event.{Event}
use Rattle.inode_events.specs.declared.told.Told.{Told}
use Rattle.inode_events.specs.declared.told.Told.TheVariants as told
use Rattle.inode_events.specs.pages.Content.{piece_at}
use Rattle.order_sights.specs.Taken.{taken, taken_after, taken_more}
use Rattle.order_sights.specs.TakenValue.{TakenValue}
use Rattle.order_outcomes.proofs.Walking.{past_next}

-- the collection has taken this
pub record HasTaken (c : Collection) (t : TakenValue) : Type 0 where
  pub pieces : c.pieces ≡ t.pieces
  pub bytes : c.bytes ≡ t.bytes

abbrev pub TakenIs : Option Collection → TakenValue → Type 0
TakenIs None t = Unit {0}
TakenIs (Some c) t = HasTaken c t

-- and takes its next piece
more_is : (content : List ℕ) (complete : Bool) (o : Option Collection) (t : TakenValue)
    → TakenIs o t → TakenIs (collected_more content complete o) (taken_more content t)
more_is content complete None t h = tt
more_is content complete (Some c) t h = record {
  pieces = ap (λ (n : ℕ). n + 1) h.pieces;
  bytes = λ j. h.bytes j ++ piece_at content (h.pieces j);
}

-- after one event more
taken_next : (inode : Inode) (d : Deed) (t : Told) (p : List Event) (old : Integrity)
    (k : TakenValue) → TakenIs old.collecting k
    → TakenIs (collecting_after inode d t p old) (taken_after d t (content p) k)
taken_next inode (deed.Take file) told.Begun p old k h = record { pieces = refl; bytes = refl }
taken_next inode (deed.CloseTake file) told.Begun p old k h =
    record { pieces = refl; bytes = refl }
taken_next inode (deed.Chunk file) told.More p old k h =
    more_is (content p) false old.collecting k h
taken_next inode (deed.Chunk file) told.Last p old k h =
    more_is (content p) true old.collecting k h
taken_next inode (deed.CloseChunk file) told.More p old k h =
    more_is (content p) false old.collecting k h
taken_next inode (deed.CloseChunk file) told.Last p old k h =
    more_is (content p) true old.collecting k h
taken_next inode (deed.Finish file) (told.Grant grant) p old k h = tt
taken_next inode (deed.CloseFinish file) told.Dropped p old k h = tt
taken_next inode (deed.CloseFinish file) told.LabelledDropped p old k h = tt
taken_next inode d t p old k h = h

-- the open collection of a journal
pub taken_is : (inode : Inode) (p : List Event) → TakenIs (collecting inode p) (taken p)
taken_is inode [] = tt
taken_is inode (e ∷ p) =
    taken_next inode e.deed e.told p (integrity inode p) (taken p) (taken_is inode p)

-- ---- along a journal

-- the content after one event more
pub content_more : (journal : List Event) (k : ℕ) (e : Event) (old new : List ℕ)
    → k < length journal → e ≡ get_or journal k e → old ≡ content (newest_first (take k journal))
    → new ≡ content_after e.deed e.told old → new ≡ content (newest_first (take (k + 1) journal))
content_more journal k e old new lt is h after =
    after ∙ ap (content_after e.deed e.told) h ∙ sym (ap content (past_next journal k e lt is))

-- what is taken after it
pub taken_further : (journal : List Event) (k : ℕ) (e : Event) (bytes : List ℕ)
    (old new : TakenValue) → k < length journal → e ≡ get_or journal k e
    → bytes ≡ content (newest_first (take k journal)) → old ≡ taken (newest_first (take k journal))
    → new ≡ taken_after e.deed e.told bytes old → new ≡ taken (newest_first (take (k + 1) journal))
taken_further journal k e bytes old new lt is c h after =
    after ∙ (λ j. taken_after e.deed e.told (c j) (h j))
    ∙ sym (ap taken (past_next journal k e lt is))
