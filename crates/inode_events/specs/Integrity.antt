-- The integrity state of an inode: its extended attributes, the open collection, and the digest in
-- force. The three depend on each other: a label names the algorithm of the next collection, and
-- fix mode writes the digest in force as the label.
use Rattle.std.specs.Prelude.{ℕ, ◌+◌, Bool, true, false, ◌&&◌, ◌||◌, not, List, [], ◌∷◌, ◌++◌, length, Option, Some, None, option_map, if◌then◌else◌}
use Rattle.hash_algos.specs.Digest.{digest_of}
use Rattle.hash_algos.specs.declared.algo.Algo.{Algo}
use Rattle.hash_algos.specs.declared.algo.Algo.TheVariants.{Sha1}
use Rattle.hash_algos.specs.declared.digest.Digest.{Digest}
use Rattle.inode_meta.specs.declared.appraisal.EvmStatus.{EvmStatus}
use Rattle.inode_meta.specs.declared.identity.Meta.{Meta}
use Rattle.evm_verify.specs.Changes.{protects}
use Rattle.evm_verify.specs.Status.{evm_status, renewed}
use Rattle.label_values.specs.Labels.{collect_algo, label_of}
use Rattle.label_values.specs.Verdicts.{is_old}
use Rattle.ima_templates.specs.xattrs.Attrs.{Pair, value, put, without}
pub use Rattle.ima_templates.specs.xattrs.Names.{ima_name}
use Rattle.inode_pages.specs.Content.{piece_at}
use Rattle.inode_events.specs.Inode.{Inode}
use Rattle.inode_events.specs.State.{changed, content, is_last_drop, metadata, new, versions, modified_since}
use Rattle.inode_events.specs.declared.deed.Deed.{Deed}
use Rattle.inode_events.specs.declared.deed.Deed.TheVariants as deed
use Rattle.inode_events.specs.declared.told.Event.{Event}
use Rattle.inode_events.specs.declared.told.Told.{Told}
use Rattle.inode_events.specs.declared.told.Told.TheVariants as told

-- ---- the state

-- a collection in progress: its file, whether it is for the file's close, its algorithm, the index
-- of the event that began it, how many pieces and which bytes it took, and whether the last piece
-- was taken
pub record Collection : Type 0 where
  pub file : ℕ
  pub closing : Bool
  pub algo : Algo
  pub begin : ℕ
  pub pieces : ℕ
  pub bytes : List ℕ
  pub complete : Bool

-- the digests of one content, by the algorithm that was chosen and by SHA-1, with the index of the
-- take that began their collection
pub record Digests : Type 0 where
  pub digest : Digest
  pub sha1 : Digest
  pub begin : ℕ

pub record Integrity : Type 0 where
  pub attributes : List Pair
  pub collecting : Option Collection
  pub digests : Option Digests

-- ---- attributes

-- the value of `security.ima`
abbrev pub label_in : List Pair → Option (List ℕ)
label_in attrs = value ima_name attrs

-- the attributes after one is set, or removed if there is no value
abbrev pub attr_changed : List ℕ → Option (List ℕ) → List Pair → List Pair
attr_changed name None attrs = without name attrs
attr_changed name (Some bytes) attrs = put name bytes attrs

-- a call that changes a protected attribute renews the HMAC
abbrev pub attr_set : Inode → List ℕ → Option (List ℕ) → Meta → List Pair → List Pair
attr_set inode name bytes meta attrs =
    if protects inode.settings.evm name
    then renewed inode.settings.evm (attr_changed name bytes attrs) meta
    else attr_changed name bytes attrs

-- the kernel renews the HMAC when it writes a label itself
abbrev pub labelled_with : Inode → Digest → Meta → List Pair → List Pair
labelled_with inode digest meta attrs =
    renewed inode.settings.evm (put ima_name (label_of digest) attrs) meta

-- fix mode writes the label and renews the HMAC; if the HMAC has the older form, it only renews the
-- HMAC
abbrev pub fixed_with : Inode → Digest → Meta → List Pair → List Pair
fixed_with inode digest meta attrs =
    if is_old (evm_status inode.settings.evm attrs meta) then renewed inode.settings.evm attrs meta
    else labelled_with inode digest meta attrs

abbrev pub fixed_by : Inode → Bool → Option Digest → Meta → List Pair → List Pair
fixed_by inode true (Some digest) meta attrs = fixed_with inode digest meta attrs
fixed_by inode _ _ meta attrs = attrs

abbrev pub labelled_by : Inode → Option Digest → Meta → List Pair → List Pair
labelled_by inode (Some digest) meta attrs = labelled_with inode digest meta attrs
labelled_by inode None meta attrs = attrs

-- ---- collections

-- a collection that has just begun
abbrev pub collection_of : ℕ → Bool → Algo → ℕ → Collection
collection_of file closing algo begin =
    record {
      file = file;
      closing = closing;
      algo = algo;
      begin = begin;
      pieces = 0;
      bytes = [];
      complete = false;
    }

-- the collection after it took its next piece of the present content
abbrev pub collected_more : List ℕ → Bool → Option Collection → Option Collection
collected_more content complete None = None
collected_more content complete (Some c) =
    Some (record c {
      pieces = c.pieces + 1;
      bytes = c.bytes ++ piece_at content c.pieces;
      complete = complete;
    })

-- the digest that a collection gives, by its own algorithm
abbrev pub digest_from : Collection → Digest
digest_from c = digest_of c.algo c.bytes

abbrev pub digests_of : Collection → Digests
digests_of c = record { digest = digest_from c; sha1 = digest_of Sha1 c.bytes; begin = c.begin }

abbrev pub collecting_after : Inode → Deed → Told → List Event → Integrity → Option Collection
collecting_after inode (deed.Take file) told.Begun before old =
    Some (collection_of file false (collect_algo (label_in old.attributes) inode.settings.hash)
    (length before))
collecting_after inode (deed.CloseTake file) told.Begun before old =
    Some (collection_of file true inode.settings.hash (length before))
collecting_after inode (deed.Chunk file) told.More before old =
    collected_more (content before) false old.collecting
collecting_after inode (deed.Chunk file) told.Last before old =
    collected_more (content before) true old.collecting
collecting_after inode (deed.CloseChunk file) told.More before old =
    collected_more (content before) false old.collecting
collecting_after inode (deed.CloseChunk file) told.Last before old =
    collected_more (content before) true old.collecting
collecting_after inode (deed.Finish file) (told.Grant grant) before old = None
collecting_after inode (deed.CloseFinish file) told.Dropped before old = None
collecting_after inode (deed.CloseFinish file) told.LabelledDropped before old = None
collecting_after inode _ _ before old = old.collecting

-- ---- the events that void the digest

-- the content may have changed since the digest was taken
abbrev pub is_stale : Option Digests → List Event → Bool
is_stale None before = false
is_stale (Some digests) before = modified_since digests.begin before

-- at the close of the last writer the kernel checks the inode's version. A new file, and a file on
-- a file system that doesn't count changes, is treated as changed.
abbrev pub drop_voids : Deed → Told → List Event → Option Digests → Bool
drop_voids d t before digests =
    is_last_drop d t before && (new before || not (versions before) || is_stale digests before)

-- the event voids the digest in force, and with it all verdicts: an attribute was set or removed, a
-- label was written, or the last writer left a content that is treated as changed
abbrev pub voids_digest : Deed → Told → List Event → Option Digests → Bool
voids_digest (deed.SetAttr name bytes admin) told.Done before digests = true
voids_digest (deed.Take file) (told.Grant grant) before digests = grant.labelled
voids_digest (deed.Finish file) (told.Grant grant) before digests = grant.labelled
voids_digest (deed.CloseFinish file) told.LabelledDropped before digests = true
voids_digest d t before digests = drop_voids d t before digests

-- ---- the three parts together

abbrev pub attributes_after : Inode → Deed → Told → List Event → Integrity → List Pair
attributes_after inode deed.Birth (told.Image image) before old = image.attrs
attributes_after inode (deed.SetAttr name bytes admin) told.Done before old =
    attr_set inode name bytes (metadata before) old.attributes
attributes_after inode (deed.SetMeta change) told.Done before old =
    renewed inode.settings.evm old.attributes (changed change (metadata before))
attributes_after inode (deed.Take file) (told.Grant grant) before old =
    fixed_by inode grant.labelled (option_map (λ f. f.digest) old.digests)
    (metadata before) old.attributes
attributes_after inode (deed.Finish file) (told.Grant grant) before old =
    fixed_by inode grant.labelled (option_map digest_from old.collecting)
    (metadata before) old.attributes
attributes_after inode (deed.CloseFinish file) told.LabelledDropped before old =
    labelled_by inode (option_map digest_from old.collecting) (metadata before) old.attributes
attributes_after inode _ _ before old = old.attributes

-- the digests that come into force with the event: those of a finished take
abbrev pub digests_given : Deed → Told → Integrity → Option Digests
digests_given (deed.Finish file) (told.Grant grant) old = option_map digests_of old.collecting
digests_given _ _ old = old.digests

abbrev pub digests_after : Deed → Told → List Event → Integrity → Option Digests
digests_after d t before old =
    if voids_digest d t before old.digests then None else digests_given d t old

abbrev pub integrity_after : Inode → Deed → Told → List Event → Integrity → Integrity
integrity_after inode d t before old = record {
  attributes = attributes_after inode d t before old;
  collecting = collecting_after inode d t before old;
  digests = digests_after d t before old;
}

abbrev pub integrity : Inode → List Event → Integrity
integrity inode [] = record { attributes = []; collecting = None; digests = None }
integrity inode (e ∷ before) = integrity_after inode e.deed e.told before (integrity inode before)

-- the extended attributes after the journal
abbrev pub attributes : Inode → List Event → List Pair
attributes inode before = (integrity inode before).attributes

-- the open collection: that of a take or close-take with the outcome begun that isn't finished yet.
-- While one is open the kernel's integrity mutex is held.
abbrev pub collecting : Inode → List Event → Option Collection
collecting inode before = (integrity inode before).collecting

-- the digests in force: those of the last finished take, unless they have been voided since
abbrev pub in_force : Inode → List Event → Option Digests
in_force inode before = (integrity inode before).digests

-- the label of the inode, and its EVM status
abbrev pub label : Inode → List Event → Option (List ℕ)
label inode before = label_in (attributes inode before)

abbrev pub status : Inode → List Event → EvmStatus
status inode before = evm_status inode.settings.evm (attributes inode before) (metadata before)

-- the algorithm by which a collection that begins now would hash the file
abbrev pub chosen_algo : Inode → List Event → Algo
chosen_algo inode before = collect_algo (label inode before) inode.settings.hash
