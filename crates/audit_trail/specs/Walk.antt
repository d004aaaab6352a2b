-- A walk over a journal: the inode as the events so far left it, and when the walk agrees with
-- them.
use Rattle.std.specs.Prelude.{◌≡◌, List, Option, Some, option_map}
use Rattle.world_model.specs.model.events.Inode.{Inode}
use Rattle.world_model.specs.model.events.Integrity.{Collection, Digests, attributes, collecting, in_force, label_in}
use Rattle.world_model.specs.model.events.State.{content, content_after, metadata, metadata_after}
use Rattle.world_model.specs.model.events.declared.settings.Settings.{Settings}
use Rattle.world_model.specs.model.events.declared.told.Event.{Event}
use Rattle.world_model.specs.model.events.hashes.Digest.{digest_of}
use Rattle.world_model.specs.model.events.hashes.declared.algo.Algo.{Algo}
use Rattle.world_model.specs.model.events.hashes.declared.digest.Digest.{Digest}
use Rattle.world_model.specs.model.events.labels.Labels.{collect_algo}
use Rattle.audit_trail.specs.Steps.{IsKeptOf, attrs_after, finished_after, gathered_after, left_after, taken_digest}
use Rattle.audit_trail.specs.TakenValue.{TakenValue}
use Rattle.audit_trail.specs.declared.walk.Walk.{Walk}

-- the digest of the content as it is, by the algorithm that the label names
abbrev pub digest_at : Algo → Walk → Digest
digest_at hash w = digest_of (collect_algo (label_in w.attrs) hash) w.content

-- a digest that the walk keeps is one of the content
abbrev pub IsCached : Walk → Type 0
IsCached w = IsKeptOf w.content w.digest

-- a collection without what only the journal needs of it
abbrev pub taken_of : Collection → TakenValue
taken_of c = record { algo = c.algo; pieces = c.pieces; bytes = c.bytes }

-- the walk has passed these events of the inode, newest first
pub record IsWalk (inode : Inode) (events : List Event) (w : Walk) : Type 0 where
  pub content : w.content ≡ content events
  pub attributes : w.attrs ≡ attributes inode events
  pub metadata : w.meta ≡ metadata events
  pub collecting : w.collecting ≡ option_map taken_of (collecting inode events)
  -- a digest in force is that of the last finished collection
  pub in_force : (f : Digests) → in_force inode events ≡ Some f
      → option_map taken_digest w.finished ≡ Some f.digest
  pub cached : IsCached w

-- what the first walk has passed, the second has passed too
abbrev pub StillWalks : Walk → Walk → Type 0
StillWalks old new = (inode : Inode) (events : List Event) → IsWalk inode events old
    → IsWalk inode events new

-- ---- one more event

-- the open collection, with what the event took
abbrev pub gathered_by : Settings → Event → Walk → Option TakenValue
gathered_by settings e w =
    gathered_after settings.hash e.deed e.told w.content w.attrs w.collecting

-- the last finished collection, with the one that the event finished
abbrev pub finished_by : Settings → Event → Walk → Option TakenValue
finished_by settings e w = finished_after e.deed e.told (gathered_by settings e w) w.finished

-- the walk passes the event
pub record GoesOn (settings : Settings) (e : Event) (old new : Walk) : Type 0 where
  pub content : new.content ≡ content_after e.deed e.told old.content
  pub attrs : new.attrs ≡ attrs_after settings.evm old.meta
      (option_map taken_digest (finished_by settings e old)) e.deed e.told old.attrs
  pub meta : new.meta ≡ metadata_after e.deed e.told old.meta
  pub collecting : new.collecting ≡ left_after e.deed e.told (gathered_by settings e old)
  pub finished : new.finished ≡ finished_by settings e old
  pub cached : IsCached new
