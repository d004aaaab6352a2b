-- The condition under which a grant reflects the file at the time of the grant.
use Rattle.std.specs.Prelude.{ℕ, Bool, true, not, List, Option, Some, None, option_map}
use Rattle.label_values.specs.Verdicts.{is_pass}
use Rattle.policy_rules.specs.declared.access.Action.{Action}
use Rattle.inode_events.specs.Inode.{Inode}
use Rattle.inode_events.specs.Integrity.{Collection, Digests, collecting, in_force}
use Rattle.inode_events.specs.State.{modified_since}
use Rattle.inode_events.specs.Verdicts.{fresh_verdict}
use Rattle.inode_events.specs.declared.deed.Deed.{Deed}
use Rattle.inode_events.specs.declared.deed.Deed.TheVariants as deed
use Rattle.inode_events.specs.declared.told.Event.{Event}

-- the file of a deed that can get a grant
abbrev pub granted_file : Deed → Option ℕ
granted_file (deed.Take file) = Some file
granted_file (deed.Finish file) = Some file
granted_file _ = None

abbrev pub collection_begin : Collection → ℕ
collection_begin c = c.begin

abbrev pub digests_begin : Digests → ℕ
digests_begin f = f.begin

-- the begin of the digest on which the grant is based: the one in force for a take, the one of the
-- collection that ends for a finish
abbrev pub grant_begin : Inode → Deed → List Event → Option ℕ
grant_begin inode (deed.Take file) before = option_map digests_begin (in_force inode before)
grant_begin inode (deed.Finish file) before = option_map collection_begin (collecting inode before)
grant_begin inode _ before = None

abbrev pub unmodified_since : Option ℕ → List Event → Bool
unmodified_since None before = true
unmodified_since (Some place) before = not (modified_since place before)

-- the grant is for an unmodified file: no write or truncation was done between the begin of its
-- digest and the grant
abbrev pub granted_unmodified : Inode → Deed → List Event → Bool
granted_unmodified inode d before = unmodified_since (grant_begin inode d before) before

-- digest and HMAC match: the verdict over the present state passes
abbrev pub fits : Inode → Action → List Event → Bool
fits inode action before = is_pass (fresh_verdict inode action.need action.algos before)
