-- The number of times that a file is hashed.
use Rattle.std.specs.Prelude.{ℕ, ◌+◌, Bool, true, false, List, [], ◌∷◌, if◌then◌else◌}
use Rattle.inode_events.specs.Inode.{Inode}
use Rattle.inode_events.specs.Integrity.{in_force, voids_digest}
use Rattle.inode_events.specs.declared.deed.Deed.{Deed}
use Rattle.inode_events.specs.declared.deed.Deed.TheVariants as deed
use Rattle.inode_events.specs.declared.told.Event.{Event}
use Rattle.inode_events.specs.declared.told.Told.{Told}
use Rattle.inode_events.specs.declared.told.Told.TheVariants as told

-- the event is a take that begins a collection
abbrev pub begins_take : Deed → Told → Bool
begins_take (deed.Take file) told.Begun = true
begins_take _ _ = false

-- the number of takes that began a collection
abbrev pub takes_begun : List Event → ℕ
takes_begun [] = 0
takes_begun (e ∷ before) =
    if begins_take e.deed e.told then 1 + takes_begun before else takes_begun before

-- the number of events that void the digest, whether or not one was in force
abbrev pub times_voided : Inode → List Event → ℕ
times_voided inode [] = 0
times_voided inode (e ∷ before) =
    if voids_digest e.deed e.told before (in_force inode before) then 1 + times_voided inode before
    else times_voided inode before

-- the number of events that void the digest before the last take that began a collection
abbrev pub times_voided_before_last : Inode → List Event → ℕ
times_voided_before_last inode [] = 0
times_voided_before_last inode (e ∷ before) = if begins_take e.deed e.told
    then times_voided inode before else times_voided_before_last inode before
