-- How a deed changes what its task has hashed.
use Rattle.std.specs.Prelude.{Bool, true, false, Option, None, Some}
use Rattle.hash_algos.specs.DigestValue.{DigestValue}
use Rattle.world_model.specs.inodes.answers.declared.answers.Piece.{Piece}
use Rattle.world_model.specs.inodes.answers.declared.answers.Piece.TheVariants as piece
use Rattle.inode_events.specs.Integrity.{Collection}
use Rattle.inode_events.specs.declared.deed.Deed.{Deed}
use Rattle.inode_events.specs.declared.deed.Deed.TheVariants as deed
use Rattle.task_steps.specs.declared.locking.DeedLocks.{DeedLocks}
use Rattle.task_steps.specs.declared.locking.DeedLocks.TheVariants as locks
use Rattle.world_model.specs.Tasks.{HasSummed, HasTakenIn}
use Rattle.world_model.specs.declared.hash_state.HashState.{HashState}
use Rattle.world_model.specs.declared.hash_state.HashState.TheVariants as hash_state

-- the piece is hashed, and after the last piece the digests are computed
abbrev pub HasGathered : Piece → HashState → Collection → Type 0
HasGathered piece.More g c = HasTakenIn g c
HasGathered piece.Last g c = HasSummed g c

-- the digests, if all pieces are hashed
abbrev pub sums_in : HashState → Option (DigestValue × DigestValue)
sums_in (hash_state.Done chosen sha1) = Some (chosen, sha1)
sums_in _ = None

-- the deed neither consults the measurement list nor belongs to a collection
abbrev pub IsPlainDeed : Deed → Type 0
IsPlainDeed (deed.Check file func action rules) = ⊥
IsPlainDeed (deed.Take file) = ⊥
IsPlainDeed (deed.Finish file) = ⊥
IsPlainDeed (deed.Chunk file) = ⊥
IsPlainDeed (deed.CloseTake file) = ⊥
IsPlainDeed (deed.CloseChunk file) = ⊥
IsPlainDeed (deed.CloseFinish file) = ⊥
IsPlainDeed _ = Unit {0}

-- the deed begins, continues or ends a collection, and doesn't consult the measurement list
abbrev pub IsCollectingDeed : Deed → Type 0
IsCollectingDeed (deed.Chunk file) = Unit {0}
IsCollectingDeed (deed.CloseTake file) = Unit {0}
IsCollectingDeed (deed.CloseChunk file) = Unit {0}
IsCollectingDeed (deed.CloseFinish file) = Unit {0}
IsCollectingDeed _ = ⊥

abbrev pub goes_on : Deed → Bool
goes_on (deed.Chunk file) = true
goes_on (deed.CloseTake file) = true
goes_on (deed.CloseChunk file) = true
goes_on (deed.CloseFinish file) = true
goes_on _ = false

-- the deed may add to the measurement list
abbrev pub IsListedDeed : Deed → Type 0
IsListedDeed (deed.Check file func action rules) = Unit {0}
IsListedDeed (deed.Take file) = Unit {0}
IsListedDeed (deed.Finish file) = Unit {0}
IsListedDeed _ = ⊥

-- the deed doesn't consult the measurement list
abbrev pub IsAloneDeed : Deed → Type 0
IsAloneDeed (deed.Check file func action rules) = ⊥
IsAloneDeed (deed.Take file) = ⊥
IsAloneDeed (deed.Finish file) = ⊥
IsAloneDeed _ = Unit {0}

-- the deed continues a collection by one page
abbrev pub IsPageDeed : Deed → Type 0
IsPageDeed (deed.Chunk file) = Unit {0}
IsPageDeed (deed.CloseChunk file) = Unit {0}
IsPageDeed _ = ⊥

-- the deed needs these locks, and no others
abbrev pub NeedsLocks : Deed → DeedLocks → Type 0
NeedsLocks d locks.WithList = IsListedDeed d
NeedsLocks d locks.Page = IsPageDeed d
NeedsLocks d locks.Alone = IsAloneDeed d × (IsPageDeed d → ⊥)
