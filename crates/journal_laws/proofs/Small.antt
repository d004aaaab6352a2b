-- Small facts about tests and choices.
use Rattle.std.proofs.Common.{◌≡◌, Bool, true, false, ◌||◌, cond, refl}
use Rattle.inode_meta.specs.declared.step.Who.{Who}
use Rattle.inode_events.specs.declared.deed.Deed.{Deed}
use Rattle.inode_events.specs.declared.told.Event.{Event}
use Rattle.inode_events.specs.declared.told.Told.{Told}

-- an event from its parts
abbrev pub event : Who → Deed → Told → Event
event who d t = record { who = who; deed = d; told = t }

-- a choice between two equal values
pub cond_same : {A : Type 0} (b : Bool) (x : A) → cond b x x ≡ x
cond_same true x = refl
cond_same false x = refl

-- "or" with false
pub or_none : (b : Bool) → (b || false) ≡ b
or_none true = refl
or_none false = refl
