-- A walk agrees with a journal after one more event, if it agreed with it before.
use Rattle.std.proofs.Common.{◌≡◌, ℕ, Bool, true, false, cond, List, [], ◌∷◌, Option, Some, None, refl, sym, ◌∙◌, ap}
use Rattle.std.specs.Prelude.{◌&&◌, not, option_map}
use Rattle.std.specs.Str.{bytes_eq}
use Rattle.std.proofs.lemmas.Option.{none-some, same_Some}
use Rattle.world_model.proofs.laws_of_journals.Fresh.{take_grants}
use Rattle.world_model.specs.model.events.Inode.{Inode}
use Rattle.world_model.specs.model.events.Integrity as journal
use Rattle.world_model.specs.model.events.Integrity.{Collection, Digests, attributes, attributes_after, collected_more, collecting, digest_from, digests_of, fixed_by, ima_name, in_force, integrity, label_in, labelled_by, voids_digest}
use Rattle.world_model.specs.model.events.Legal.{Follows}
use Rattle.world_model.specs.model.events.Says.{is_too_long, placed_in, set_attr_told, unless_collecting}
use Rattle.world_model.specs.model.events.State.{changed, content, content_after, metadata, metadata_after, present}
use Rattle.world_model.specs.model.events.declared.deed.Deed.{Deed}
use Rattle.world_model.specs.model.events.declared.deed.Deed.TheVariants as deed
use Rattle.world_model.specs.model.events.declared.told.Event.{Event}
use Rattle.world_model.specs.model.events.declared.told.Told.{Told}
use Rattle.world_model.specs.model.events.declared.told.Told.TheVariants as told
use Rattle.world_model.specs.model.events.evm.Input.{evm_name}
use Rattle.world_model.specs.model.events.evm.Status.{renewed}
use Rattle.world_model.specs.model.events.hashes.Digest.{digest_of}
use Rattle.world_model.specs.model.events.hashes.declared.digest.Digest.{Digest}
use Rattle.world_model.specs.model.events.labels.Labels.{collect_algo}
use Rattle.world_model.specs.model.events.meta.declared.identity.Meta.{Meta}
use Rattle.world_model.specs.model.events.meta.declared.step.Who.{Who}
use Rattle.world_model.specs.model.events.templates.xattrs.Attrs.{Pair}
use Rattle.world_model.specs.inodes.answers.Changes.{changed_on}
use Rattle.audit_trail.specs.Steps.{IsKeptOf, IsWellFormed, attrs_after, begun, closed_by, finished_after, gathered_after, left_after, mended_by, sets_content, taken_digest, taken_more}
use Rattle.audit_trail.specs.Walk.{GoesOn, IsWalk, taken_of}
use Rattle.audit_trail.specs.declared.walk.Walk.{Walk}

-- ---- well-formed events

-- a change that is done isn't blocked
freed : (o : Option Collection) (t : Told) → unless_collecting o t ≡ Some told.Done → t ≡ told.Done
freed None t e = same_Some t told.Done e
freed (Some c) t e = absurd (none-some told.Done e)

-- a value that is set isn't too long
not_too_long : (absent evm admin long : Bool) (rest : Told)
    → cond absent told.NotFound (cond evm told.EvmName (cond admin told.NotAdmin
    (cond long told.TooLong rest))) ≡ told.Done → long ≡ false
not_too_long true evm admin long rest e = cc
not_too_long false true admin long rest e = cc
not_too_long false false true long rest e = cc
not_too_long false false false true rest e = cc
not_too_long false false false false rest e = refl

-- each event that follows a legal journal is well-formed
pub well_formed : (i : Inode) (p : List Event) (who : Who) (d : Deed) (t : Told)
    → Follows i p who d t → IsWellFormed d t
well_formed i p who (deed.Write file from bytes) told.Done f = f.1.2
well_formed i p who (deed.SetAttr name bytes admin) told.Done f =
    not_too_long (not (present p)) (bytes_eq name evm_name) (bytes_eq name ima_name && not admin)
    (is_too_long bytes) _
    (freed (collecting i p) (set_attr_told i name bytes admin p) f.2)
well_formed i p who d t f = tt

-- ---- attributes

mended_same : (i : Inode) (mends : Bool) (o : Option Digest) (meta : Meta) (attrs : List Pair)
    → mended_by i.settings.evm mends o meta attrs ≡ fixed_by i mends o meta attrs
mended_same i true None meta attrs = refl
mended_same i true (Some d) meta attrs = refl
mended_same i false None meta attrs = refl
mended_same i false (Some d) meta attrs = refl

closed_same : (i : Inode) (o : Option Digest) (meta : Meta) (attrs : List Pair)
    → closed_by i.settings.evm o meta attrs ≡ labelled_by i o meta attrs
closed_same i None meta attrs = refl
closed_same i (Some d) meta attrs = refl

-- the digest of a collection is that of what it took
taken_same : (o : Option Collection)
    → option_map taken_digest (option_map taken_of o) ≡ option_map digest_from o
taken_same None = refl
taken_same (Some c) = refl

module _ (i : Inode) (p : List Event) (w : Walk) (h : IsWalk i p w) where
  -- what mode fix writes
  mended_on_walk : (mends : Bool) (mine its : Option Digest) → mine ≡ its
      → mended_by i.settings.evm mends mine w.meta w.attrs
      ≡ fixed_by i mends its (metadata p) (attributes i p)
  mended_on_walk mends mine its e =
      (λ j. mended_by i.settings.evm mends (e j) (h.metadata j) (h.attributes j))
      ∙ mended_same i mends its (metadata p) (attributes i p)

  -- the attributes after the event
  attrs_on : (who : Who) (d : Deed) (t : Told) → Follows i p who d t
      → attrs_after i.settings.evm w.meta
      (option_map taken_digest (finished_after d t
      (gathered_after i.settings.hash d t w.content w.attrs w.collecting) w.finished)) d t w.attrs
      ≡ attributes_after i d t p (integrity i p)
  attrs_on who deed.Birth (told.Image image) f = refl
  attrs_on who (deed.SetAttr name bytes admin) told.Done f =
      λ j. changed_on i.settings.evm name bytes (h.metadata j) (h.attributes j)
  attrs_on who (deed.SetMeta change) told.Done f =
      λ j. renewed i.settings.evm (h.attributes j) (changed change (h.metadata j))
  attrs_on who (deed.Take file) (told.Grant grant) f =
      let x = take_grants i p file (placed_in (told.Grant grant)) grant (collecting i p)
      (in_force i p) f.2 in
      mended_on_walk grant.labelled (option_map taken_digest w.finished)
      (option_map (λ (y : Digests). y.digest) (in_force i p))
      (h.in_force x.0 x.1.0
      ∙ sym (ap (option_map (λ (y : Digests). y.digest)) x.1.0))
  attrs_on who (deed.Finish file) (told.Grant grant) f =
      mended_on_walk grant.labelled (option_map taken_digest w.collecting)
      (option_map digest_from (collecting i p))
      (ap (option_map taken_digest) h.collecting ∙ taken_same (collecting i p))
  attrs_on who (deed.CloseFinish file) told.LabelledDropped f =
      let same : option_map taken_digest w.collecting ≡ option_map digest_from (collecting i p) =
      ap (option_map taken_digest) h.collecting ∙ taken_same (collecting i p) in
      (λ j. closed_by i.settings.evm (same j) (h.metadata j) (h.attributes j))
      ∙ closed_same i (option_map digest_from (collecting i p)) (metadata p) (attributes i p)
  attrs_on who d t f = h.attributes

-- ---- collections

-- one more piece
more_same : (bytes : List ℕ) (complete : Bool) (o : Option Collection)
    → option_map (taken_more bytes) (option_map taken_of o)
    ≡ option_map taken_of (collected_more bytes complete o)
more_same bytes complete None = refl
more_same bytes complete (Some c) = refl

-- a digest that the event doesn't void was there before
kept_some : (voids : Bool) (o : Option Digests) (f : Digests) → cond voids None o ≡ Some f
    → o ≡ Some f
kept_some true o f e = absurd (none-some f e)
kept_some false o f e = e

-- the digests that a finished collection gives
given_some : (o : Option Collection) (f : Digests) → option_map digests_of o ≡ Some f
    → option_map taken_digest (option_map taken_of o) ≡ Some f.digest
given_some None f e = absurd (none-some f e)
given_some (Some c) f e = ap (λ (x : Digests). Some x.digest) (same_Some (digests_of c) f e)

module _ (i : Inode) (p : List Event) (w : Walk) (h : IsWalk i p w) where
  more_on : (complete : Bool) → option_map (taken_more w.content) w.collecting
      ≡ option_map taken_of (collected_more (content p) complete (collecting i p))
  more_on complete =
      (λ j. option_map (taken_more (h.content j)) (h.collecting j))
      ∙ more_same (content p) complete (collecting i p)

  -- the open collection after the event
  collecting_on : (d : Deed) (t : Told)
      → left_after d t (gathered_after i.settings.hash d t w.content w.attrs w.collecting)
      ≡ option_map taken_of (journal.collecting_after i d t p (integrity i p))
  collecting_on (deed.Take file) told.Begun =
      ap (λ (a : List Pair). Some (begun (collect_algo (label_in a) i.settings.hash))) h.attributes
  collecting_on (deed.CloseTake file) told.Begun = refl
  collecting_on (deed.Chunk file) told.More = more_on false
  collecting_on (deed.Chunk file) told.Last = more_on true
  collecting_on (deed.CloseChunk file) told.More = more_on false
  collecting_on (deed.CloseChunk file) told.Last = more_on true
  collecting_on (deed.Finish file) (told.Grant grant) = refl
  collecting_on (deed.CloseFinish file) told.Dropped = refl
  collecting_on (deed.CloseFinish file) told.LabelledDropped = refl
  collecting_on d t = h.collecting

  -- the digest in force after the event
  in_force_on : (d : Deed) (t : Told) (f : Digests)
      → journal.digests_after d t p (integrity i p) ≡ Some f
      → option_map taken_digest (finished_after d t
      (gathered_after i.settings.hash d t w.content w.attrs w.collecting) w.finished)
      ≡ Some f.digest
  in_force_on (deed.Finish file) (told.Grant grant) f e =
      ap (option_map taken_digest) h.collecting
      ∙ given_some (collecting i p) f
      (kept_some grant.labelled (option_map digests_of (collecting i p)) f e)
  in_force_on (deed.CloseFinish file) told.LabelledDropped f e = absurd (none-some f e)
  in_force_on d t f e =
      h.in_force f (kept_some (voids_digest d t p (in_force i p)) (in_force i p) f e)

-- ---- the digest that is kept

-- other events leave the content
content_same : (d : Deed) (t : Told) (bytes : List ℕ) → sets_content d t ≡ false
    → content_after d t bytes ≡ bytes
content_same deed.Birth (told.Image image) bytes e = cc
content_same (deed.Write file from new) told.Done bytes e = cc
content_same (deed.Trunc file len) told.Done bytes e = cc
content_same d t bytes e = refl

-- what is kept of a digest after the event is still one of the content
pub kept_on : (content : List ℕ) (kept : Option Digest) → IsKeptOf content kept → (d : Deed)
    (t : Told) → IsKeptOf (content_after d t content) (cond (sets_content d t) None kept)
kept_on content kept h d t = λ x e. choose x (sets_content d t) refl e where
  choose : (x : Digest) (b : Bool) → sets_content d t ≡ b → cond b None kept ≡ Some x
      → x ≡ digest_of x.algo (content_after d t content)
  choose x true s q = absurd (none-some x q)
  choose x false s q = h x q ∙ ap (digest_of x.algo) (sym (content_same d t content s))

-- ---- the whole walk

-- the walk agrees with one event more
pub walk_on : (i : Inode) (p : List Event) (w new : Walk) (e : Event)
    → Follows i p e.who e.deed e.told → IsWalk i p w → GoesOn i.settings e w new
    → IsWalk i (e ∷ p) new
walk_on i p w new e f h g = record {
  content = g.content ∙ ap (content_after e.deed e.told) h.content;
  attributes = g.attrs ∙ attrs_on i p w h e.who e.deed e.told f;
  metadata = g.meta ∙ ap (metadata_after e.deed e.told) h.metadata;
  collecting = g.collecting ∙ collecting_on i p w h e.deed e.told;
  in_force = λ x q. ap (option_map taken_digest) g.finished
      ∙ in_force_on i p w h e.deed e.told x q;
  cached = g.cached;
}

-- the walk before the first event
pub walk_begins : (i : Inode) (w : Walk) → w.content ≡ [] → w.attrs ≡ []
    → w.meta ≡ metadata [] → w.collecting ≡ None → w.digest ≡ None → IsWalk i [] w
walk_begins i w content attrs meta collecting digest = record {
  content = content;
  attributes = attrs;
  metadata = meta;
  collecting = collecting;
  in_force = λ f e. absurd (none-some f e);
  cached = λ d e. absurd (none-some d (sym digest ∙ e));
}
