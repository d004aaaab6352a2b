-- A file at a collecting stage is the one that the open collection is for, and its stage says
-- whether the collection is complete.
use Rattle.std.proofs.Common.{◌≡◌, ℕ, ◌==◌, Bool, true, false, cond, List, [], ◌∷◌, length, Option, Some, None, if◌then◌else◌, refl, sym, ◌∙◌, ap}
use Rattle.std.proofs.lemmas.Bool.{eq-eqb, eqb-true}
use Rattle.report_read.specs.reports.model.events.Checks.{asks}
use Rattle.report_read.specs.reports.model.events.Inode.{Inode}
use Rattle.report_read.specs.reports.model.events.Integrity.{Collection, collected_more, collecting, collecting_after, integrity}
use Rattle.report_read.specs.reports.model.events.Legal.{EachFollows, Follows}
use Rattle.report_read.specs.reports.model.events.Says.{unless_collecting}
use Rattle.report_read.specs.reports.model.events.Stage.{Asked, CloseCollected, CloseCollecting, Collected, Collecting, Counted, Gone, Settled, Stage, next_stage, stage, touches}
use Rattle.report_read.specs.reports.model.events.State.{content}
use Rattle.report_read.specs.reports.model.events.declared.deed.Deed.{Deed}
use Rattle.report_read.specs.reports.model.events.declared.deed.Deed.TheVariants as deed
use Rattle.report_read.specs.reports.model.events.declared.told.Event.{Event}
use Rattle.report_read.specs.reports.model.events.declared.told.Told.{Told}
use Rattle.report_read.specs.reports.model.events.declared.told.Told.TheVariants as told
use Rattle.report_read.specs.reports.model.events.meta.declared.step.Who.{Who}

-- whether the collection of a file at this stage is complete
abbrev pub progress : Stage → Option Bool
progress Collecting = Some false
progress Collected = Some true
progress CloseCollecting = Some false
progress CloseCollected = Some true
progress _ = None

-- whether the collection is complete, if it is for this file
abbrev pub progress_of : Option Collection → ℕ → Option Bool
progress_of None file = None
progress_of (Some c) file = if c.file == file then Some c.complete else None

abbrev pub Stages : Inode → List Event → Type 0
Stages inode before =
    (file : ℕ) (b : Bool) → progress (stage inode file before) ≡ Some b
    → progress_of (collecting inode before) file ≡ Some b

-- ---- events that leave the collection

-- the event leaves the stage
stays : (x : Bool) (old : Stage) (b : Bool) → progress (cond x old old) ≡ Some b
    → progress old ≡ Some b
stays true old b e = e
stays false old b e = e

-- after the event, its file isn't at a collecting stage
leaves : (x : Bool) (after old : Stage) (o : Option Bool) (b : Bool) → progress after ≡ None
    → (progress old ≡ Some b → o ≡ Some b) → progress (cond x after old) ≡ Some b → o ≡ Some b
leaves true after old o b n h e = cc
leaves false after old o b n h e = h e

-- a file that was just checked is at no collecting stage
asked_none : (b : Bool) → progress (cond b Asked Settled) ≡ None
asked_none true = refl
asked_none false = refl

-- ---- events of the collection

-- a collection begins only when none is open
none_open : (o : Option Collection) (t u : Told) → unless_collecting o t ≡ Some u → o ≡ None
none_open None t u e = refl
none_open (Some c) t u e = cc

-- if no collection is open, no file has one
none_busy : (o : Option Collection) (file : ℕ) (b : Bool) → o ≡ None
    → progress_of o file ≡ Some b → ⊥
none_busy None file b n e = cc
none_busy (Some c) file b n e = cc

-- a collection that begins is its file's, and isn't complete
begins : (x : Bool) (after old : Stage) (b : Bool) → progress after ≡ Some false
    → (progress old ≡ Some b → ⊥) → progress (cond x after old) ≡ Some b
    → cond x (Some false) None ≡ Some b
begins true after old b a n e = sym a ∙ e
begins false after old b a n e = absurd (n e)

-- the collection is for the file
pub of_file : (c : Collection) (file : ℕ) (b : Bool) → progress_of (Some c) file ≡ Some b
    → (c.file ≡ file) × (c.complete ≡ b)
of_file c file b h = at (c.file == file) refl h where
  at : (x : Bool) → (c.file == file) ≡ x → cond x (Some c.complete) None ≡ Some b
      → (c.file ≡ file) × (c.complete ≡ b)
  at true e k = (eqb-true c.file file e, cc)
  at false e k = cc

-- of two files, the collection is for one
other_file : (o : Option Collection) (g f : ℕ) (b d : Bool) → progress_of o g ≡ Some d
    → progress_of o f ≡ Some b → (g == f) ≡ false → ⊥
other_file None g f b d h k n = cc
other_file (Some c) g f b d h k n =
    let e : g ≡ f = sym (of_file c g d h).0 ∙ (of_file c f b k).0 in
    let same : (g == f) ≡ true = eq-eqb g f e in
    cc

-- a chunk goes on with the collection of its file
chunks : (o : Option Collection) (bytes : List ℕ) (complete d : Bool) (g f : ℕ) (after old : Stage)
    (b : Bool) → progress_of o g ≡ Some d → (g ≡ f → progress after ≡ Some complete)
    → (progress old ≡ Some b → progress_of o f ≡ Some b)
    → progress (cond (g == f) after old) ≡ Some b
    → progress_of (collected_more bytes complete o) f ≡ Some b
chunks None bytes complete d g f after old b h a i e = cc
chunks (Some c) bytes complete d g f after old b h a i e = at (g == f) refl e where
  at : (x : Bool) → (g == f) ≡ x → progress (cond x after old) ≡ Some b
      → cond (c.file == f) (Some complete) None ≡ Some b
  at true q k =
      let done : progress after ≡ Some complete = a (eqb-true g f q) in
      let here : (c.file == f) ≡ true = ap (λ (m : ℕ). m == f) (of_file c g d h).0 ∙ q in
      rw here (sym done ∙ k)
  at false q k = absurd (other_file (Some c) g f b d h (i k) q)

-- a finish ends the collection of its file
finishes : (o : Option Collection) (g f : ℕ) (after old : Stage) (b d : Bool)
    → progress_of o g ≡ Some d → progress after ≡ None
    → (progress old ≡ Some b → progress_of o f ≡ Some b)
    → progress (cond (g == f) after old) ≡ Some b → None ≡ Some b
finishes o g f after old b d h a i e = at (g == f) refl e where
  at : (x : Bool) → (g == f) ≡ x → progress (cond x after old) ≡ Some b → None ≡ Some b
  at true q k = cc
  at false q k = absurd (other_file o g f b d h (i k) q)

-- ---- all events

-- the stage of the same file
at_stage : (inode : Inode) (before : List Event) (g f : ℕ) (l : Stage) → stage inode g before ≡ l
    → g ≡ f → progress (stage inode f before) ≡ progress l
at_stage inode before g f l h e =
    ap (λ (n : ℕ). progress (stage inode n before)) (sym e) ∙ ap progress h

-- after each event that may follow
stages_on : (inode : Inode) (before : List Event) (who : Who) (d : Deed) (t : Told)
    → Follows inode before who d t → Stages inode before → (f : ℕ) (b : Bool)
    → progress (next_stage inode f (length before) d t (stage inode f before)) ≡ Some b
    → progress_of (collecting_after inode d t before (integrity inode before)) f ≡ Some b
stages_on inode before who (deed.Count how) told.Held h s f b e =
    leaves (length before == f) Counted (stage inode f before)
    (progress_of (collecting inode before) f) b refl (s f b) e
stages_on inode before who (deed.Check g func action rules) t h s f b e =
    leaves (g == f) (cond (asks inode action) Asked Settled) (stage inode f before)
    (progress_of (collecting inode before) f) b (asked_none (asks inode action)) (s f b) e
stages_on inode before who (deed.Take g) told.Begun h s f b e =
    begins (g == f) Collecting (stage inode f before) b refl
    (λ k. none_busy (collecting inode before) f b (none_open (collecting inode before) _ _ h.2)
    (s f b k)) e
stages_on inode before who (deed.Take g) (told.Grant grant) h s f b e =
    leaves (g == f) Settled (stage inode f before) (progress_of (collecting inode before) f) b refl
    (s f b) e
stages_on inode before who (deed.Chunk g) told.More h s f b e =
    chunks (collecting inode before) (content before) false false g f (stage inode f before)
    (stage inode f before) b (s g false (ap progress h.1))
    (at_stage inode before g f Collecting h.1) (s f b) e
stages_on inode before who (deed.Chunk g) told.Last h s f b e =
    chunks (collecting inode before) (content before) true false g f Collected
    (stage inode f before) b (s g false (ap progress h.1)) (λ q. refl) (s f b) e
stages_on inode before who (deed.Finish g) (told.Grant grant) h s f b e =
    finishes (collecting inode before) g f Settled (stage inode f before) b true
    (s g true (ap progress h.1)) refl (s f b) e
stages_on inode before who (deed.Close g) told.Dropped h s f b e =
    leaves (g == f) Gone (stage inode f before) (progress_of (collecting inode before) f) b refl
    (s f b) e
stages_on inode before who (deed.CloseTake g) told.Begun h s f b e =
    begins (g == f) CloseCollecting (stage inode f before) b refl
    (λ k. none_busy (collecting inode before) f b (none_open (collecting inode before) _ _ h.2)
    (s f b k)) e
stages_on inode before who (deed.CloseTake g) told.Dropped h s f b e =
    leaves (g == f) Gone (stage inode f before) (progress_of (collecting inode before) f) b refl
    (s f b) e
stages_on inode before who (deed.CloseChunk g) told.More h s f b e =
    chunks (collecting inode before) (content before) false false g f (stage inode f before)
    (stage inode f before) b (s g false (ap progress h.1))
    (at_stage inode before g f CloseCollecting h.1) (s f b) e
stages_on inode before who (deed.CloseChunk g) told.Last h s f b e =
    chunks (collecting inode before) (content before) true false g f CloseCollected
    (stage inode f before) b (s g false (ap progress h.1)) (λ q. refl) (s f b) e
stages_on inode before who (deed.CloseFinish g) told.Dropped h s f b e =
    finishes (collecting inode before) g f Gone (stage inode f before) b true
    (s g true (ap progress h.1)) refl (s f b) e
stages_on inode before who (deed.CloseFinish g) told.LabelledDropped h s f b e =
    finishes (collecting inode before) g f Gone (stage inode f before) b true
    (s g true (ap progress h.1)) refl (s f b) e
stages_on inode before who d t h s f b e =
    s f b (stays (touches f (length before) d) (stage inode f before) b e)

-- along a legal journal
pub stages : (inode : Inode) (events : List Event) → EachFollows inode events
    → Stages inode events
stages inode [] h f b e = cc
stages inode (x ∷ before) h f b e =
    stages_on inode before x.who x.deed x.told h.0 (stages inode before h.1) f b e
