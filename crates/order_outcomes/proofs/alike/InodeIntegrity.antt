-- The integrity state of an inode after one more event, in two journals in which the same files
-- have other names.
use Rattle.std.proofs.Common.{◌≡◌, ℕ, suc, Bool, true, false, ◌&&◌, ◌||◌, not, cond, List, ◌∷◌, length, Option, None, option_map, refl, ap, ap₂, sym, ◌∙◌, arith}
use Rattle.report_text.specs.model.History.{event}
use Rattle.report_text.specs.model.events.Inode.{Inode}
use Rattle.report_text.specs.model.events.Integrity.{Digests, attr_set, attributes, attributes_after, collecting, collected_more, collecting_after, digest_from, digests_after, digests_given, drop_voids, fixed_by, in_force, integrity, is_stale, label_in, labelled_by, voids_digest}
use Rattle.report_text.specs.model.events.State.{changed, content, metadata, new, versions}
use Rattle.report_text.specs.model.events.declared.deed.Deed.{Deed}
use Rattle.report_text.specs.model.events.declared.deed.Deed.TheVariants as deed
use Rattle.report_text.specs.model.events.declared.told.Event.{Event}
use Rattle.report_text.specs.model.events.declared.told.Told.{Told}
use Rattle.report_text.specs.model.events.declared.told.Told.TheVariants as told
use Rattle.report_text.specs.model.events.evm.Status.{renewed}
use Rattle.report_text.specs.model.events.hashes.declared.digest.Digest.{Digest}
use Rattle.report_text.specs.model.events.labels.Labels.{collect_algo}
use Rattle.report_text.specs.model.events.meta.declared.identity.Meta.{Meta}
use Rattle.report_text.specs.model.events.meta.declared.step.Who.{Who}
use Rattle.report_text.specs.model.events.templates.xattrs.Attrs.{Pair}
use Rattle.order_outcomes.proofs.alike.InodeFiles.{modifies_named}
use Rattle.order_outcomes.proofs.alike.InodeLaws.{deed_named}
use Rattle.order_outcomes.proofs.alike.InodeSeen.{begun_collected, begun_given, begun_more, begun_same, chosen, chosen_in, collection_kept, collection_staler, digest_in, digest_seen, digests_kept, digests_more, digests_staler, given_in, given_seen, more_in, more_seen, stale_in, stale_seen}
use Rattle.order_outcomes.proofs.alike.InodeState.{last_drop_same}
use Rattle.order_outcomes.specs.alike.Alike.{CollectionSeen, DigestsSeen, HasBegun, HaveBegun, IsInodeAlike, collection_seen, digests_seen}
use Rattle.report_text.specs.model.events.NewestFirst.{newest_first}
use Rattle.report_text.specs.model.events.templates.declared.entry.Entry.{Entry}

-- ---- collections and digests began before the event

-- the open collection
pub collecting_begun : (inode : Inode) (d : Deed) (t : Told) (p : List Event)
    → HasBegun (length p) (collecting inode p)
    → HasBegun (suc (length p)) (collecting_after inode d t p (integrity inode p))
collecting_begun inode (deed.Take file) told.Begun p h = omega arith
collecting_begun inode (deed.CloseTake file) told.Begun p h = omega arith
collecting_begun inode (deed.Chunk file) told.More p h =
    begun_collected (suc (length p)) (content p) false (collecting inode p)
    (begun_more (length p) (collecting inode p) h)
collecting_begun inode (deed.Chunk file) told.Last p h =
    begun_collected (suc (length p)) (content p) true (collecting inode p)
    (begun_more (length p) (collecting inode p) h)
collecting_begun inode (deed.CloseChunk file) told.More p h =
    begun_collected (suc (length p)) (content p) false (collecting inode p)
    (begun_more (length p) (collecting inode p) h)
collecting_begun inode (deed.CloseChunk file) told.Last p h =
    begun_collected (suc (length p)) (content p) true (collecting inode p)
    (begun_more (length p) (collecting inode p) h)
collecting_begun inode (deed.Finish file) (told.Grant grant) p h = tt
collecting_begun inode (deed.CloseFinish file) told.Dropped p h = tt
collecting_begun inode (deed.CloseFinish file) told.LabelledDropped p h = tt
collecting_begun inode d t p h = begun_more (length p) (collecting inode p) h

-- digests that come into force or stay
given_begun : (inode : Inode) (d : Deed) (t : Told) (p : List Event)
    → HasBegun (length p) (collecting inode p) → HaveBegun (length p) (in_force inode p)
    → HaveBegun (suc (length p)) (digests_given d t (integrity inode p))
given_begun inode (deed.Finish file) (told.Grant grant) p h f =
    begun_given (suc (length p)) (collecting inode p) (begun_more (length p) (collecting inode p) h)
given_begun inode d t p h f = digests_more (length p) (in_force inode p) f

-- the digests in force
pub digests_begun : (inode : Inode) (d : Deed) (t : Told) (p : List Event)
    → HasBegun (length p) (collecting inode p) → HaveBegun (length p) (in_force inode p)
    → HaveBegun (suc (length p)) (digests_after d t p (integrity inode p))
digests_begun inode d t p h f =
    at (voids_digest d t p (in_force inode p)) (digests_given d t (integrity inode p))
    (given_begun inode d t p h f)
  where
    at : (b : Bool) (o : Option Digests) → HaveBegun (suc (length p)) o
        → HaveBegun (suc (length p)) (cond b None o)
    at true o g = tt
    at false o g = g

-- ---- the integrity state

module _ (inode : Inode) (list list2 : List Entry) (used : ℕ → Bool) (r : ℕ → ℕ) (j j2 : List Event)
    (s : IsInodeAlike inode list list2 used r j j2) where
  -- the digests in force are equal
  pub chosen_same : option_map (λ (f : Digests). f.digest) (in_force inode (newest_first j2))
      ≡ option_map (λ (f : Digests). f.digest) (in_force inode (newest_first j))
  chosen_same =
      chosen_in (newest_first j2) (in_force inode (newest_first j2))
      ∙ ap (λ (o : Option DigestsSeen). option_map chosen o) s.digests
      ∙ sym (chosen_in (newest_first j) (in_force inode (newest_first j)))

  -- so are those that the collections give
  pub taken_same : option_map digest_from (collecting inode (newest_first j2))
      ≡ option_map digest_from (collecting inode (newest_first j))
  taken_same =
      digest_in (newest_first j2) (collecting inode (newest_first j2))
      ∙ ap (λ (o : Option CollectionSeen). option_map digest_seen o) s.collection
      ∙ sym (digest_in (newest_first j) (collecting inode (newest_first j)))

  -- the attributes after the event
  pub attributes_grown : (d : Deed) (t : Told)
      → attributes_after inode (deed_named r d) t (newest_first j2)
      (integrity inode (newest_first j2))
      ≡ attributes_after inode d t (newest_first j) (integrity inode (newest_first j))
  attributes_grown deed.Birth (told.Image image) = refl
  attributes_grown (deed.SetAttr name bytes admin) told.Done =
      ap₂ (λ (m : Meta) (a : List Pair). attr_set inode name bytes m a) s.metadata_in
      s.attributes_in
  attributes_grown (deed.SetMeta change) told.Done =
      ap₂ (λ (m : Meta) (a : List Pair). renewed inode.settings.evm a (changed change m))
      s.metadata_in s.attributes_in
  attributes_grown (deed.Take file) (told.Grant grant) =
      ap (λ (o : Option Digest). fixed_by inode grant.labelled o (metadata (newest_first j2))
      (attributes inode (newest_first j2))) chosen_same
      ∙ ap₂ (λ (m : Meta) (a : List Pair). fixed_by inode grant.labelled
      (option_map (λ (f : Digests). f.digest) (in_force inode (newest_first j))) m a) s.metadata_in
      s.attributes_in
  attributes_grown (deed.Finish file) (told.Grant grant) =
      ap (λ (o : Option Digest). fixed_by inode grant.labelled o (metadata (newest_first j2))
      (attributes inode (newest_first j2))) taken_same
      ∙ ap₂ (λ (m : Meta) (a : List Pair). fixed_by inode grant.labelled
      (option_map digest_from (collecting inode (newest_first j))) m a) s.metadata_in
      s.attributes_in
  attributes_grown (deed.CloseFinish file) told.LabelledDropped =
      ap (λ (o : Option Digest). labelled_by inode o (metadata (newest_first j2))
      (attributes inode (newest_first j2))) taken_same
      ∙ ap₂ (λ (m : Meta) (a : List Pair). labelled_by inode
      (option_map digest_from (collecting inode (newest_first j))) m a) s.metadata_in
      s.attributes_in
  attributes_grown d t = s.attributes_in

  -- ---- the open collection

  -- the same is seen of a collection that the event leaves open
  kept_same : (who : Who) (d : Deed) (t : Told)
      → option_map (collection_seen (event who (deed_named r d) t ∷ newest_first j2))
      (collecting inode (newest_first j2))
      ≡ option_map (collection_seen (event who d t ∷ newest_first j))
      (collecting inode (newest_first j))
  kept_same who d t =
      collection_kept who (deed_named r d) t (newest_first j2) (collecting inode (newest_first j2))
      s.sound2.collection
      ∙ ap₂ (λ (b : Bool) (o : Option CollectionSeen). option_map (collection_staler b) o)
      (modifies_named r d t) s.collection
      ∙ sym (collection_kept who d t (newest_first j) (collecting inode (newest_first j))
      s.sound.collection)

  -- and of one that takes its next piece
  more_same : (who : Who) (d : Deed) (t : Told) (complete : Bool)
      → option_map (collection_seen (event who (deed_named r d) t ∷ newest_first j2))
      (collected_more (content (newest_first j2)) complete (collecting inode (newest_first j2)))
      ≡ option_map (collection_seen (event who d t ∷ newest_first j))
      (collected_more (content (newest_first j)) complete (collecting inode (newest_first j)))
  more_same who d t complete =
      more_in (event who (deed_named r d) t ∷ newest_first j2) (content (newest_first j2)) complete
      (collecting inode (newest_first j2))
      ∙ ap₂ (λ (c : List ℕ) (o : Option CollectionSeen). option_map (more_seen c complete) o)
      s.content_in (kept_same who d t)
      ∙ sym (more_in (event who d t ∷ newest_first j) (content (newest_first j)) complete
      (collecting inode (newest_first j)))

  -- the open collection after the event
  pub collection_grown : (who : Who) (d : Deed) (t : Told)
      → option_map (collection_seen (event who (deed_named r d) t ∷ newest_first j2))
      (collecting_after inode (deed_named r d) t (newest_first j2)
      (integrity inode (newest_first j2)))
      ≡ option_map (collection_seen (event who d t ∷ newest_first j))
      (collecting_after inode d t (newest_first j) (integrity inode (newest_first j)))
  collection_grown who (deed.Take file) told.Begun =
      begun_same (newest_first j) (newest_first j2) false
      (collect_algo (label_in (attributes inode (newest_first j2))) inode.settings.hash)
      (collect_algo (label_in (attributes inode (newest_first j))) inode.settings.hash)
      (ap (λ (a : List Pair). collect_algo (label_in a) inode.settings.hash) s.attributes_in)
  collection_grown who (deed.CloseTake file) told.Begun =
      begun_same (newest_first j) (newest_first j2) true inode.settings.hash
      inode.settings.hash refl
  collection_grown who (deed.Chunk file) told.More =
      more_same who (deed.Chunk file) told.More false
  collection_grown who (deed.Chunk file) told.Last =
      more_same who (deed.Chunk file) told.Last true
  collection_grown who (deed.CloseChunk file) told.More =
      more_same who (deed.CloseChunk file) told.More false
  collection_grown who (deed.CloseChunk file) told.Last =
      more_same who (deed.CloseChunk file) told.Last true
  collection_grown who (deed.Finish file) (told.Grant grant) = refl
  collection_grown who (deed.CloseFinish file) told.Dropped = refl
  collection_grown who (deed.CloseFinish file) told.LabelledDropped = refl
  collection_grown who d t = kept_same who d t

  -- ---- the digests in force

  -- the digests of both are stale
  stale_same : is_stale (in_force inode (newest_first j2)) (newest_first j2)
      ≡ is_stale (in_force inode (newest_first j)) (newest_first j)
  stale_same =
      stale_seen (newest_first j2) (in_force inode (newest_first j2))
      ∙ ap (λ (o : Option DigestsSeen). stale_in o) s.digests
      ∙ sym (stale_seen (newest_first j) (in_force inode (newest_first j)))

  -- the last writer's drop voids the digests of both
  drop_voids_same : (d : Deed) (t : Told)
      → drop_voids (deed_named r d) t (newest_first j2) (in_force inode (newest_first j2))
      ≡ drop_voids d t (newest_first j) (in_force inode (newest_first j))
  drop_voids_same d t =
      ap₂ (λ (a b : Bool). a && b)
      (last_drop_same r (newest_first j) (newest_first j2) s.writers_in d t)
      (ap (λ (n : Bool). n || not (versions (newest_first j2))
      || is_stale (in_force inode (newest_first j2)) (newest_first j2)) s.new_in
      ∙ ap₂ (λ (v b : Bool). new (newest_first j) || not v || b) s.versions_in stale_same)

  -- the event voids the digests of both
  pub voids_same : (d : Deed) (t : Told)
      → voids_digest (deed_named r d) t (newest_first j2) (in_force inode (newest_first j2))
      ≡ voids_digest d t (newest_first j) (in_force inode (newest_first j))
  voids_same (deed.SetAttr name bytes admin) told.Done = refl
  voids_same (deed.Take file) (told.Grant grant) = refl
  voids_same (deed.Finish file) (told.Grant grant) = refl
  voids_same (deed.CloseFinish file) told.LabelledDropped = refl
  voids_same d t = drop_voids_same d t

  -- the same is seen of digests that come into force or stay
  given_same : (who : Who) (d : Deed) (t : Told)
      → option_map (digests_seen (event who (deed_named r d) t ∷ newest_first j2))
      (digests_given (deed_named r d) t (integrity inode (newest_first j2)))
      ≡ option_map (digests_seen (event who d t ∷ newest_first j))
      (digests_given d t (integrity inode (newest_first j)))
  given_same who (deed.Finish file) (told.Grant grant) =
      given_in (event who (deed.Finish (r file)) (told.Grant grant) ∷ newest_first j2)
      (collecting inode (newest_first j2))
      ∙ ap (λ (o : Option CollectionSeen). option_map given_seen o)
      (kept_same who (deed.Finish file) (told.Grant grant))
      ∙ sym (given_in (event who (deed.Finish file) (told.Grant grant) ∷ newest_first j)
      (collecting inode (newest_first j)))
  given_same who d t =
      digests_kept who (deed_named r d) t (newest_first j2) (in_force inode (newest_first j2))
      s.sound2.digests
      ∙ ap₂ (λ (b : Bool) (o : Option DigestsSeen). option_map (digests_staler b) o)
      (modifies_named r d t) s.digests
      ∙ sym (digests_kept who d t (newest_first j) (in_force inode (newest_first j))
      s.sound.digests)

  -- the digests in force after the event
  pub digests_grown : (who : Who) (d : Deed) (t : Told)
      → option_map (digests_seen (event who (deed_named r d) t ∷ newest_first j2))
      (digests_after (deed_named r d) t (newest_first j2) (integrity inode (newest_first j2)))
      ≡ option_map (digests_seen (event who d t ∷ newest_first j))
      (digests_after d t (newest_first j) (integrity inode (newest_first j)))
  digests_grown who d t =
      ap (λ (b : Bool). option_map (digests_seen (event who (deed_named r d) t ∷ newest_first j2))
      (cond b None (digests_given (deed_named r d) t (integrity inode (newest_first j2)))))
      (voids_same d t)
      ∙ at (voids_digest d t (newest_first j) (in_force inode (newest_first j)))
    where
      at : (b : Bool) → option_map (digests_seen (event who (deed_named r d) t ∷ newest_first j2))
          (cond b None (digests_given (deed_named r d) t (integrity inode (newest_first j2))))
          ≡ option_map (digests_seen (event who d t ∷ newest_first j))
          (cond b None (digests_given d t (integrity inode (newest_first j))))
      at true = refl
      at false = given_same who d t
