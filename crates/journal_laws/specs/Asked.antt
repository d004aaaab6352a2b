-- The effect of the list's answer on the entry that a deed asks for.
use Rattle.std.specs.Prelude.{Option, Some, None}
use Rattle.ima_templates.specs.declared.entry.Entry.{Entry}
use Rattle.ima_templates.specs.declared.entry.Placed.{Placed}
use Rattle.ima_templates.specs.declared.entry.Placed.TheVariants.{Added, Already}
use Rattle.inode_events.specs.Listing.{Listed}

-- the entry that the answer adds to the list, or finds there
abbrev pub added_by : Placed → Entry → Option Listed
added_by (Added place) e = Some (place, e)
added_by (Already place) e = None

abbrev pub found_by : Placed → Entry → Option Listed
found_by (Added place) e = None
found_by (Already place) e = Some (place, e)

-- the entry that the answer adds or finds, if the deed asks for one
abbrev pub added_for : Placed → Option Entry → Option Listed
added_for placed None = None
added_for placed (Some e) = added_by placed e

abbrev pub found_for : Placed → Option Entry → Option Listed
found_for placed None = None
found_for placed (Some e) = found_by placed e
