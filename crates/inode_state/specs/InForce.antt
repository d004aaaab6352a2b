-- The digest in force, compared with the journal's definition.
use Rattle.std.specs.Prelude.{◌≡◌, ℕ, Bool, true, false, ◌&&◌, List, Option, Some, None, option_map, if◌then◌else◌}
use Rattle.hash_algos.specs.Digest.{digest_of}
use Rattle.hash_algos.specs.declared.algo.Algo.TheVariants.{Sha1}
use Rattle.hash_algos.specs.declared.digest.Digest.{Digest}
use Rattle.inode_events.specs.Inode.{Inode}
use Rattle.inode_events.specs.Integrity as journal
use Rattle.inode_events.specs.declared.deed.Deed.{Deed}
use Rattle.inode_events.specs.declared.deed.Deed.TheVariants as deed
use Rattle.inode_events.specs.declared.told.Event.{Event}
use Rattle.inode_events.specs.declared.told.Told.{Told}
use Rattle.inode_events.specs.declared.told.Told.TheVariants as told
use Rattle.inode_state.specs.Writes.{reaches}
use Rattle.inode_state.specs.declared.collecting.Collecting.{Collecting}
use Rattle.inode_state.specs.declared.in_force.InForce.{InForce}
use Rattle.inode_state.specs.declared.in_force.Sums.{Sums}

abbrev pub digests_seen : InForce → journal.Digests
digests_seen f = record { digest = f.sums.digest; sha1 = f.sums.sha1; begin = f.begin }

abbrev pub in_force_seen : Option InForce → Option journal.Digests
in_force_seen None = None
in_force_seen (Some f) = Some (digests_seen f)

-- the digest in force by its collection's algorithm
abbrev pub digest_in : Option InForce → Option Digest
digest_in None = None
digest_in (Some digests) = Some digests.sums.digest

abbrev pub sums_of : journal.Collection → Sums
sums_of c = record { digest = journal.digest_from c; sha1 = digest_of Sha1 c.bytes }

-- the digests of the collection that the deed ends
abbrev pub AreSums : Inode → Deed → List Event → Option Sums → Type 0
AreSums inode (deed.Finish file) p sums = option_map sums_of (journal.collecting inode p) ≡ sums
AreSums inode _ p sums = Unit {0}

-- ---- after one more event

abbrev pub stale_now : Option InForce → Option ℕ → Bool
stale_now None last = false
stale_now (Some f) last = reaches f.begin last

abbrev pub voids_now : Deed → Told → Bool → Bool → Bool
voids_now (deed.SetAttr name bytes admin) told.Done drop changed = true
voids_now (deed.Take file) (told.Grant grant) drop changed = grant.labelled
voids_now (deed.Finish file) (told.Grant grant) drop changed = grant.labelled
voids_now (deed.CloseFinish file) told.LabelledDropped drop changed = true
voids_now d t drop changed = drop && changed

abbrev pub given_now : Option Collecting → Option Sums → Option InForce
given_now (Some c) (Some sums) = Some (record { sums = sums; begin = c.begin })
given_now _ _ = None

abbrev pub in_force_next : Deed → Told → Option Collecting → Option Sums → Option InForce
    → Option InForce
in_force_next (deed.Finish file) (told.Grant grant) collecting sums old = given_now collecting sums
in_force_next _ _ collecting sums old = old

abbrev pub in_force_after_lem : Deed → Told → Bool → Option Collecting → Option Sums
    → Option InForce → Option InForce
in_force_after_lem d t voids collecting sums old = if voids then None else in_force_next d t
    collecting sums old
