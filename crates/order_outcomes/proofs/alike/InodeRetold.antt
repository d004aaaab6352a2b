-- An event whose outcome reports another place of the list: nothing but the place depends on it.
use Rattle.std.proofs.Common.{◌≡◌, ℕ, Bool, true, false, ◌&&◌, ◌||◌, cond, nat_le, List, [], ◌∷◌, length, Option, None, option_map, refl, ap, ap₂, ◌∙◌}
use Rattle.std.specs.Prelude.{◌==◌}
use Rattle.report_text.specs.model.History.{event}
use Rattle.report_text.specs.model.events.Files.{counted, dropped, files, with_file, without_file, writers}
use Rattle.report_text.specs.model.events.Inode.{Inode}
use Rattle.report_text.specs.model.events.Integrity.{Collection, Digests, Integrity, attributes_after, collecting, collecting_after, digests_given, in_force, integrity, voids_digest}
use Rattle.report_text.specs.model.events.Marks.{must_measure, must_measure_after, update, update_after}
use Rattle.report_text.specs.model.events.Says.{place_of}
use Rattle.report_text.specs.model.events.State.{content, content_after, drops_writer, metadata, metadata_after, modified_in, modified_since, modifies, new, new_after, present, present_after, raises_writers, span, versions, versions_after}
use Rattle.report_text.specs.model.events.Verdicts.{Key, verdict_given, verdict_in_force, voids_verdicts}
use Rattle.report_text.specs.model.events.declared.deed.Deed.{Deed}
use Rattle.report_text.specs.model.events.declared.deed.Deed.TheVariants as deed
use Rattle.report_text.specs.model.events.declared.deed.How.{How}
use Rattle.report_text.specs.model.events.declared.told.Event.{Event}
use Rattle.report_text.specs.model.events.declared.told.Told.{Told}
use Rattle.report_text.specs.model.events.declared.told.Told.TheVariants as told
use Rattle.report_text.specs.model.events.labels.declared.verdict.Verdict.{Verdict}
use Rattle.report_text.specs.model.events.meta.declared.identity.Meta.{Meta}
use Rattle.report_text.specs.model.events.meta.declared.step.Who.{Who}
use Rattle.report_text.specs.model.events.templates.declared.entry.Placed.{Placed}
use Rattle.order_outcomes.specs.Calls.{verdict_told}
use Rattle.order_outcomes.specs.alike.Alike.{CollectionSeen, DigestsSeen, collection_seen, digests_seen}

-- the outcome with another reply of the list, if it reports one
abbrev pub told_with : Placed → Told → Told
told_with q (told.OpenWriters place) = told.OpenWriters (place_of q)
told_with q (told.ToMToU place) = told.ToMToU (place_of q)
told_with q (told.Grant grant) =
    told.Grant (record grant { placed = option_map (λ (old : Placed). q) grant.placed })
told_with q t = t

-- ---- one event

-- the file exists
present_with : (q : Placed) (d : Deed) (t : Told) (old : Bool)
    → present_after d (told_with q t) old ≡ present_after d t old
present_with q deed.Birth (told.Image image) old = refl
present_with q (deed.Count how) told.Held old = refl
present_with q d t old = refl

-- the event drops a writer
drops_with : (q : Placed) (d : Deed) (t : Told) → drops_writer d (told_with q t) ≡ drops_writer d t
drops_with q (deed.CloseTake file) told.Dropped = refl
drops_with q (deed.CloseFinish file) told.Dropped = refl
drops_with q (deed.CloseFinish file) told.LabelledDropped = refl
drops_with q d t = refl

-- the file is new
new_with : (q : Placed) (d : Deed) (t : Told) (p : List Event) (old : Bool)
    → new_after d (told_with q t) p old ≡ new_after d t p old
new_with q (deed.Count how) told.Held p old = refl
new_with q (deed.Count how) t p old = refl
new_with q d t p old =
    ap (λ (b : Bool). cond (b && (writers p == 1)) false old) (drops_with q d t)

-- the file system counts changes
versions_with : (q : Placed) (d : Deed) (t : Told) (old : Bool)
    → versions_after d (told_with q t) old ≡ versions_after d t old
versions_with q deed.Birth (told.Image image) old = refl
versions_with q d t old = refl

-- the content
content_with : (q : Placed) (d : Deed) (t : Told) (old : List ℕ)
    → content_after d (told_with q t) old ≡ content_after d t old
content_with q deed.Birth (told.Image image) old = refl
content_with q (deed.Write file from bytes) told.Done old = refl
content_with q (deed.Trunc file len) told.Done old = refl
content_with q d t old = refl

-- the metadata
metadata_with : (q : Placed) (d : Deed) (t : Told) (old : Meta)
    → metadata_after d (told_with q t) old ≡ metadata_after d t old
metadata_with q deed.Birth (told.Image image) old = refl
metadata_with q (deed.SetMeta change) told.Done old = refl
metadata_with q d t old = refl

-- the event counts the first writer
raises_with : (q : Placed) (d : Deed) (t : Told) (p : List Event)
    → raises_writers d (told_with q t) p ≡ raises_writers d t p
raises_with q (deed.Count how) told.Held p = refl
raises_with q d t p = refl

-- it modifies the content
modifies_with : (q : Placed) (d : Deed) (t : Told) → modifies d (told_with q t) ≡ modifies d t
modifies_with q (deed.Write file from bytes) told.Done = refl
modifies_with q (deed.Trunc file len) told.Done = refl
modifies_with q d t = refl

-- it counts a file
counted_with : (q : Placed) (d : Deed) (t : Told) → counted d (told_with q t) ≡ counted d t
counted_with q (deed.Count how) told.Held = refl
counted_with q d t = refl

-- it drops a file
dropped_with : (q : Placed) (d : Deed) (t : Told) → dropped d (told_with q t) ≡ dropped d t
dropped_with q (deed.Close file) told.Dropped = refl
dropped_with q (deed.CloseTake file) told.Dropped = refl
dropped_with q (deed.CloseFinish file) told.Dropped = refl
dropped_with q (deed.CloseFinish file) told.LabelledDropped = refl
dropped_with q d t = refl

-- the mark of a measured file
must_measure_with : (q : Placed) (d : Deed) (t : Told) (p : List Event) (old : Bool)
    → must_measure_after d (told_with q t) p old ≡ must_measure_after d t p old
must_measure_with q (deed.Check file func action rules) told.Quiet p old = refl
must_measure_with q d t p old = refl

-- the mark of a writer whose label must be updated
update_with : (q : Placed) (d : Deed) (t : Told) (p : List Event) (old : Bool)
    → update_after d (told_with q t) p old ≡ update_after d t p old
update_with q (deed.Take file) (told.Grant grant) p old = refl
update_with q (deed.Take file) t p old = refl
update_with q (deed.Finish file) (told.Grant grant) p old = refl
update_with q (deed.Finish file) t p old = refl
update_with q d t p old =
    ap (λ (b : Bool). cond (b && (writers p == 1)) false old) (drops_with q d t)

-- the attributes
attributes_with : (q : Placed) (inode : Inode) (d : Deed) (t : Told) (p : List Event)
    (old : Integrity)
    → attributes_after inode d (told_with q t) p old ≡ attributes_after inode d t p old
attributes_with q inode deed.Birth (told.Image image) p old = refl
attributes_with q inode (deed.SetAttr name bytes admin) told.Done p old = refl
attributes_with q inode (deed.SetMeta change) told.Done p old = refl
attributes_with q inode (deed.Take file) (told.Grant grant) p old = refl
attributes_with q inode (deed.Finish file) (told.Grant grant) p old = refl
attributes_with q inode (deed.CloseFinish file) told.LabelledDropped p old = refl
attributes_with q inode d t p old = refl

-- the open collection
collecting_with : (q : Placed) (inode : Inode) (d : Deed) (t : Told) (p : List Event)
    (old : Integrity)
    → collecting_after inode d (told_with q t) p old ≡ collecting_after inode d t p old
collecting_with q inode (deed.Take file) told.Begun p old = refl
collecting_with q inode (deed.CloseTake file) told.Begun p old = refl
collecting_with q inode (deed.Chunk file) told.More p old = refl
collecting_with q inode (deed.CloseChunk file) told.More p old = refl
collecting_with q inode (deed.Finish file) (told.Grant grant) p old = refl
collecting_with q inode (deed.CloseFinish file) told.Dropped p old = refl
collecting_with q inode d t p old = refl

-- the event voids the digests
voids_with : (q : Placed) (d : Deed) (t : Told) (p : List Event) (o : Option Digests)
    → voids_digest d (told_with q t) p o ≡ voids_digest d t p o
voids_with q (deed.SetAttr name bytes admin) told.Done p o = refl
voids_with q (deed.Take file) (told.Grant grant) p o = refl
voids_with q (deed.Finish file) (told.Grant grant) p o = refl
voids_with q (deed.CloseTake file) told.Dropped p o = refl
voids_with q (deed.CloseFinish file) told.Dropped p o = refl
voids_with q d t p o = refl

-- the digests that come into force
given_with : (q : Placed) (d : Deed) (t : Told) (old : Integrity)
    → digests_given d (told_with q t) old ≡ digests_given d t old
given_with q (deed.Finish file) (told.Grant grant) old = refl
given_with q d t old = refl

-- the event voids the verdicts
voids_verdicts_with : (q : Placed) (d : Deed) (t : Told) (p : List Event) (o : Option Digests)
    → voids_verdicts d (told_with q t) p o ≡ voids_verdicts d t p o
voids_verdicts_with q (deed.SetMeta change) told.Done p o = refl
voids_verdicts_with q (deed.SetMeta change) t p o = refl
voids_verdicts_with q d t p o = voids_with q d t p o

-- it gives a verdict
verdict_with : (q : Placed) (key : Key) (d : Deed) (t : Told) (p : List Event)
    (old : Option Verdict)
    → verdict_given key d (told_with q t) p old ≡ verdict_given key d t p old
verdict_with q key (deed.Take file) (told.Grant grant) p old = refl
verdict_with q key (deed.Finish file) (told.Grant grant) p old = refl
verdict_with q key d t p old = refl

-- the verdict that the call is told
pub told_verdict_with : (q : Placed) (t : Told) → verdict_told (told_with q t) ≡ verdict_told t
told_verdict_with q (told.Grant grant) = refl
told_verdict_with q t = refl

-- ---- a journal with that event

module _ (inode : Inode) (who : Who) (d : Deed) (t : Told) (q : Placed) (p : List Event) where
  -- the journal with the event, and with the place of the other list
  abbrev before : List Event
  before = event who d t ∷ p

  abbrev again : List Event
  again = event who d (told_with q t) ∷ p

  pub present_again : present again ≡ present before
  present_again = present_with q d t (present p)

  pub new_again : new again ≡ new before
  new_again = new_with q d t p (new p)

  pub versions_again : versions again ≡ versions before
  versions_again = versions_with q d t (versions p)

  pub content_again : content again ≡ content before
  content_again = content_with q d t (content p)

  pub metadata_again : metadata again ≡ metadata before
  metadata_again = metadata_with q d t (metadata p)

  pub files_again : files again ≡ files before
  files_again =
      ap₂ (λ (c : Option How) (o : Option ℕ). with_file (length p) c (without_file o (files p)))
      (counted_with q d t) (dropped_with q d t)

  pub must_measure_again : must_measure again ≡ must_measure before
  must_measure_again = must_measure_with q d t p (must_measure p)

  pub update_again : update again ≡ update before
  update_again = update_with q d t p (update p)

  pub span_again : modified_in (span again) ≡ modified_in (span before)
  span_again =
      ap (λ (b : Bool). modified_in (cond b [] (event who d (told_with q t) ∷ span p)))
      (raises_with q d t p) ∙ at (raises_writers d t p)
    where
      at : (b : Bool) → modified_in (cond b [] (event who d (told_with q t) ∷ span p))
          ≡ modified_in (cond b [] (event who d t ∷ span p))
      at true = refl
      at false = ap (λ (b : Bool). b || modified_in (span p)) (modifies_with q d t)

  -- modified since a place
  since_again : (place : ℕ) → modified_since place again ≡ modified_since place before
  since_again place =
      ap (λ (b : Bool). (b && nat_le place (length p)) || modified_since place p)
      (modifies_with q d t)

  -- the three parts of the integrity state
  integrity_again : integrity inode again ≡ integrity inode before
  integrity_again =
      let attributes = attributes_with q inode d t p (integrity inode p) in
      let opened = collecting_with q inode d t p (integrity inode p) in
      let voids = voids_with q d t p (in_force inode p) in
      let given = given_with q d t (integrity inode p) in
      λ j. record {
        attributes = attributes j;
        collecting = opened j;
        digests = cond (voids j) None (given j);
      }

  pub attributes_again : (integrity inode again).attributes ≡ (integrity inode before).attributes
  attributes_again = ap (λ (i : Integrity). i.attributes) integrity_again

  -- what is seen of the open collection
  pub collection_again : option_map (collection_seen again) (collecting inode again)
      ≡ option_map (collection_seen before) (collecting inode before)
  collection_again =
      λ j. option_map (λ (c : Collection). seen c (since_again c.begin j))
      (integrity_again j).collecting
    where
      seen : Collection → Bool → CollectionSeen
      seen c stale = record {
        closing = c.closing;
        algo = c.algo;
        pieces = c.pieces;
        bytes = c.bytes;
        complete = c.complete;
        stale = stale;
      }

  -- and of the digests in force
  pub digests_again : option_map (digests_seen again) (in_force inode again)
      ≡ option_map (digests_seen before) (in_force inode before)
  digests_again =
      λ j. option_map (λ (f : Digests). seen f (since_again f.begin j)) (integrity_again j).digests
    where
      seen : Digests → Bool → DigestsSeen
      seen f stale = record { digest = f.digest; sha1 = f.sha1; stale = stale }

  pub verdicts_again : (key : Key)
      → verdict_in_force inode key again ≡ verdict_in_force inode key before
  verdicts_again key =
      ap₂ (λ (b : Bool) (v : Option Verdict). cond b None v)
      (voids_verdicts_with q d t p (in_force inode p))
      (verdict_with q key d t p (verdict_in_force inode key p))
