-- The state of an inode in two moments, as the next steps see it.
use Rattle.std.specs.Prelude.{◌≡◌, ℕ, Option, Some, None, is_none}
use Rattle.inode_state.specs.Writes.{reaches}
use Rattle.inode_state.specs.declared.collecting.Collecting.{Collecting}
use Rattle.inode_state.specs.declared.in_force.InForce.{InForce}
use Rattle.inode_state.specs.declared.state.State.{State}
use Rattle.order_outcomes.specs.alike.Alike.{DigestsSeen}

-- the digests in force, by the place of the last write
abbrev pub force_seen : Option ℕ → Option InForce → Option DigestsSeen
force_seen last None = None
force_seen last (Some f) =
    Some (record {
      digest = f.sums.digest;
      sha1 = f.sums.sha1;
      stale = reaches f.begin last;
    })

-- the collections took the same number of pieces, and both are stale or neither
pub record IsCollectionSame (last last2 : Option ℕ) (c d : Collecting) : Type 0 where
  pub closing : is_none d.asked ≡ is_none c.asked
  pub algo : d.algo ≡ c.algo
  pub pieces : d.pieces ≡ c.pieces
  pub complete : d.complete ≡ c.complete
  pub stale : reaches d.begin last2 ≡ reaches c.begin last

abbrev pub AreCollectionsSame : Option ℕ → Option ℕ → Option Collecting → Option Collecting → Type 0
AreCollectionsSame last last2 None None = Unit {0}
AreCollectionsSame last last2 (Some c) (Some d) = IsCollectionSame last last2 c d
AreCollectionsSame last last2 _ _ = ⊥

pub record IsStateSame (a b : State) : Type 0 where
  pub counts : b.counts ≡ a.counts
  pub marks : b.marks ≡ a.marks
  pub in_span : b.writes.in_span ≡ a.writes.in_span
  pub meta : b.meta ≡ a.meta
  pub force : force_seen b.writes.last b.in_force ≡ force_seen a.writes.last a.in_force
  pub collecting : AreCollectionsSame a.writes.last b.writes.last a.collecting b.collecting
  pub verdicts : b.verdicts.kept.items ≡ a.verdicts.kept.items
