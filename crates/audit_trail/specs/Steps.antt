-- What one event changes of an inode, as a walk over its journal carries it along.
use Rattle.std.specs.Prelude.{◌≡◌, ℕ, ◌+◌, ◌<◌, Bool, true, false, List, [], ◌++◌, length, Option, Some, None, option_map}
use Rattle.world_model.specs.inodes.answers.Changes.{changed_on, fixed_on, labelled_on}
use Rattle.world_model.specs.model.events.Integrity.{label_in}
use Rattle.world_model.specs.model.events.Says.{is_too_long}
use Rattle.world_model.specs.model.events.State.{changed}
use Rattle.world_model.specs.model.events.declared.deed.Deed.{Deed}
use Rattle.world_model.specs.model.events.declared.deed.Deed.TheVariants as deed
use Rattle.world_model.specs.model.events.declared.told.Told.{Told}
use Rattle.world_model.specs.model.events.declared.told.Told.TheVariants as told
use Rattle.world_model.specs.model.events.evm.Setup.{Setup}
use Rattle.world_model.specs.model.events.evm.Status.{renewed}
use Rattle.world_model.specs.model.events.hashes.Digest.{digest_of}
use Rattle.world_model.specs.model.events.hashes.declared.algo.Algo.{Algo}
use Rattle.world_model.specs.model.events.hashes.declared.digest.Digest.{Digest}
use Rattle.world_model.specs.model.events.labels.Labels.{collect_algo}
use Rattle.world_model.specs.model.events.meta.declared.identity.Meta.{Meta}
use Rattle.world_model.specs.model.events.pages.Content.{piece_at}
use Rattle.world_model.specs.model.events.templates.xattrs.Attrs.{Pair}
use Rattle.audit_trail.specs.TakenValue.{TakenValue}

-- what a legal journal says of an event that changes content or attributes: a write has bytes, and
-- a value that was set isn't too long
abbrev pub IsWellFormed : Deed → Told → Type 0
IsWellFormed (deed.Write file from bytes) told.Done = 0 < length bytes
IsWellFormed (deed.SetAttr name bytes admin) told.Done = is_too_long bytes ≡ false
IsWellFormed _ _ = Unit {0}

-- the event sets the content
abbrev pub sets_content : Deed → Told → Bool
sets_content deed.Birth (told.Image image) = true
sets_content (deed.Write file from bytes) told.Done = true
sets_content (deed.Trunc file len) told.Done = true
sets_content _ _ = false

-- a digest that is kept is one of the content
abbrev pub IsKeptOf : List ℕ → Option Digest → Type 0
IsKeptOf content kept = (d : Digest) → kept ≡ Some d → d ≡ digest_of d.algo content

-- ---- collections

-- a collection that has just begun
abbrev pub begun : Algo → TakenValue
begun algo = record { algo = algo; pieces = 0; bytes = [] }

-- the collection after it took its next piece of the content
abbrev pub taken_more : List ℕ → TakenValue → TakenValue
taken_more content t = record t {
  pieces = t.pieces + 1;
  bytes = t.bytes ++ piece_at content t.pieces;
}

-- the digest that the collection gives
abbrev pub taken_digest : TakenValue → Digest
taken_digest t = digest_of t.algo t.bytes

-- the open collection after the event, which may begin it or take a piece
abbrev pub gathered_after : Algo → Deed → Told → List ℕ → List Pair → Option TakenValue
    → Option TakenValue
gathered_after hash (deed.Take file) told.Begun content attrs old =
    Some (begun (collect_algo (label_in attrs) hash))
gathered_after hash (deed.CloseTake file) told.Begun content attrs old = Some (begun hash)
gathered_after hash (deed.Chunk file) told.More content attrs old =
    option_map (taken_more content) old
gathered_after hash (deed.Chunk file) told.Last content attrs old =
    option_map (taken_more content) old
gathered_after hash (deed.CloseChunk file) told.More content attrs old =
    option_map (taken_more content) old
gathered_after hash (deed.CloseChunk file) told.Last content attrs old =
    option_map (taken_more content) old
gathered_after hash _ _ content attrs old = old

-- the open collection after the event, which may end it
abbrev pub left_after : Deed → Told → Option TakenValue → Option TakenValue
left_after (deed.Finish file) (told.Grant grant) old = None
left_after (deed.CloseFinish file) told.Dropped old = None
left_after (deed.CloseFinish file) told.LabelledDropped old = None
left_after _ _ old = old

-- the last collection whose digest came into force or was written as a label
abbrev pub finished_after : Deed → Told → Option TakenValue → Option TakenValue
    → Option TakenValue
finished_after (deed.Finish file) (told.Grant grant) current old = current
finished_after (deed.CloseFinish file) told.LabelledDropped current old = current
finished_after _ _ current old = old

-- ---- attributes

-- the attributes after mode fix, if it mends them and there is a digest
abbrev pub mended_by : Setup → Bool → Option Digest → Meta → List Pair → List Pair
mended_by evm true (Some digest) meta attrs = fixed_on evm digest meta attrs
mended_by evm _ _ meta attrs = attrs

-- the attributes after a close writes the label, if there is a digest
abbrev pub closed_by : Setup → Option Digest → Meta → List Pair → List Pair
closed_by evm (Some digest) meta attrs = labelled_on evm digest meta attrs
closed_by evm None meta attrs = attrs

-- the attributes after the event. The digest is the one that the kernel writes, if it writes one.
abbrev pub attrs_after : Setup → Meta → Option Digest → Deed → Told → List Pair → List Pair
attrs_after evm meta digest deed.Birth (told.Image image) old = image.attrs
attrs_after evm meta digest (deed.SetAttr name bytes admin) told.Done old =
    changed_on evm name bytes meta old
attrs_after evm meta digest (deed.SetMeta change) told.Done old =
    renewed evm old (changed change meta)
attrs_after evm meta digest (deed.Take file) (told.Grant grant) old =
    mended_by evm grant.labelled digest meta old
attrs_after evm meta digest (deed.Finish file) (told.Grant grant) old =
    mended_by evm grant.labelled digest meta old
attrs_after evm meta digest (deed.CloseFinish file) told.LabelledDropped old =
    closed_by evm digest meta old
attrs_after evm meta digest _ _ old = old
