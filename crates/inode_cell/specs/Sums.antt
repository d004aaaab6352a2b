-- The digests that a task hands in to end a collection.
use Rattle.std.specs.Prelude.{◌≡◌, List, Some}
use Rattle.hash_algos.specs.Digest.{digest_of}
use Rattle.hash_algos.specs.declared.algo.Algo.TheVariants.{Sha1}
use Rattle.hash_algos.specs.declared.digest.Digest.{Digest}
use Rattle.inode_events.specs.Inode.{Inode}
use Rattle.inode_events.specs.Integrity.{Collection, collecting, digest_from}
use Rattle.inode_events.specs.declared.told.Event.{Event}

-- the digests are those of the bytes that the open collection took, by its algorithm and by SHA-1
abbrev pub HasSums : Inode → List Event → Digest × Digest → Type 0
HasSums inode p sums = (c : Collection) → collecting inode p ≡ Some c → (sums.0 ≡ digest_from c)
    × (sums.1 ≡ digest_of Sha1 c.bytes)
