-- What a take or finish needs for its grant.
use Rattle.std.specs.Prelude.{◌≡◌, ℕ, List, Option, Some, None}
use Rattle.hash_algos.specs.declared.algo.Algo.TheVariants.{Sha1}
use Rattle.hash_algos.specs.declared.digest.Digest.{Digest}
use Rattle.ima_templates.specs.declared.entry.Entry.{Entry}
use Rattle.ima_templates.specs.declared.entry.Placed.{Placed}
use Rattle.inode_meta.specs.declared.step.Who.{Who}
use Rattle.inode_events.specs.Asked.{asked, measured_if}
use Rattle.inode_events.specs.Checks.{last_check}
use Rattle.inode_events.specs.Grants.{grant_of, placed_if_measured}
use Rattle.inode_events.specs.Inode.{Inode}
use Rattle.inode_events.specs.Integrity.{Collection, Digests, attributes, attributes_after, fixed_by, integrity}
use Rattle.inode_events.specs.Says.{says}
use Rattle.inode_events.specs.Stage.{Stage, Asked as AskedFor, Collected}
use Rattle.inode_events.specs.State.{content, content_after, metadata}
use Rattle.inode_events.specs.declared.deed.Deed.{Deed}
use Rattle.inode_events.specs.declared.told.Event.{Event}
use Rattle.inode_events.specs.declared.told.Grant.{Grant}
use Rattle.inode_events.specs.declared.told.Told.TheVariants as told
use Rattle.inode_events.specs.policy.declared.access.Action.{Action}
use Rattle.inode_state.specs.Collecting.{IsAsked}
use Rattle.inode_state.specs.Facts.{AreFacts}
use Rattle.inode_state.specs.declared.collecting.Asked.{Asked}
use Rattle.inode_state.specs.declared.in_force.Sums.{Sums}
use Rattle.inode_state.specs.declared.facts.Facts.{Facts}

-- the digests, with a begin of 0, which no grant reads
abbrev pub digests_in : Sums → Digests
digests_in sums = record { digest = sums.digest; sha1 = sums.sha1; begin = 0 }

-- the deed grants the file by these digests, and `a` is what the file's last check asked for
pub record IsGranting (inode : Inode) (p : List Event) (who : Who) (d : Deed) (file : ℕ) (a :
    Asked) (sums : Sums) (k : Facts) : Type 0 where
  pub check : IsAsked (last_check file p) a
  pub sha1 : sums.sha1.algo ≡ Sha1
  pub tells : (placed : Placed) → says inode p placed d ≡ Some (told.Grant (grant_of inode file
      placed sums.digest p))
  pub asks : asked inode d p ≡ measured_if (last_check file p).action.measure inode file (Some
      (digests_in sums)) p
  pub leaves : (g : Grant) → attributes_after inode d (told.Grant g) p (integrity inode p) ≡
      fixed_by inode g.labelled (Some sums.digest) (metadata p) (attributes inode p)
  pub keeps : (g : Grant) → content_after d (told.Grant g) (content p) ≡ content p
  pub facts : (g : Grant) → AreFacts inode p (record { who = who; deed = d; told = told.Grant g }) k

-- the grant, with its entry where the action measures
abbrev pub placing : Action → Placed → Grant → Grant
placing action placed g = record g { placed = placed_if_measured action placed }

-- the deed enters the grant, which lists `e` and mends the attributes by the digest
pub record IsEntering (inode : Inode) (p : List Event) (who : Who) (d : Deed) (action : Action)
    (digest : Digest) (g : Grant) (e : Option Entry) (k : Facts) : Type 0 where
  pub tells : (placed : Placed) → says inode p placed d ≡ Some (told.Grant (placing action placed g))
  pub lists : e ≡ asked inode d p
  pub leaves : (h : Grant) → attributes_after inode d (told.Grant h) p (integrity inode p) ≡
      fixed_by inode h.labelled (Some digest) (metadata p) (attributes inode p)
  pub keeps : (h : Grant) → content_after d (told.Grant h) (content p) ≡ content p
  pub facts : (h : Grant) → AreFacts inode p (record { who = who; deed = d; told = told.Grant h }) k

-- the digests without the begin of their collection
abbrev pub sums_in : Digests → Sums
sums_in ds = record { digest = ds.digest; sha1 = ds.sha1 }

abbrev pub sums_in_force : Option Digests → Option Sums
sums_in_force None = None
sums_in_force (Some ds) = Some (sums_in ds)

-- the stages at which a take and a finish find their file
abbrev pub asked_stage : Stage
asked_stage = AskedFor

abbrev pub collected_stage : Stage
collected_stage = Collected

-- the open collection is of this file
abbrev pub Collects : ℕ → Option Collection → Type 0
Collects file None = ⊥
Collects file (Some c) = c.file ≡ file
