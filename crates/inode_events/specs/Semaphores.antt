-- The journal of the semaphores: its deeds are posts and waits, and it determines only the present
-- count of each semaphore.
use Rattle.std.specs.Prelude.{◌≡◌, ℕ, ◌+◌, ◌-◌, ◌==◌, nat_lt, Bool, false, List, [], ◌∷◌, Option, Some, None, if◌then◌else◌}
use Rattle.inode_events.specs.declared.deed.Deed.{Deed}
use Rattle.inode_events.specs.declared.deed.Deed.TheVariants as deed
use Rattle.inode_events.specs.declared.told.Event.{Event}
use Rattle.inode_events.specs.declared.told.Told.{Told}
use Rattle.inode_events.specs.declared.told.Told.TheVariants as told

abbrev pub is_post : ℕ → Deed → Bool
is_post sem (deed.Post other) = other == sem
is_post sem _ = false

abbrev pub is_wait : ℕ → Deed → Bool
is_wait sem (deed.Wait other) = other == sem
is_wait sem _ = false

-- the numbers of posts and of waits of a semaphore
abbrev pub posts : ℕ → List Event → ℕ
posts sem [] = 0
posts sem (e ∷ before) = if is_post sem e.deed then 1 + posts sem before else posts sem before

abbrev pub waits : ℕ → List Event → ℕ
waits sem [] = 0
waits sem (e ∷ before) = if is_wait sem e.deed then 1 + waits sem before else waits sem before

-- the count of a semaphore, initially 0
abbrev pub left : ℕ → List Event → ℕ
left sem before = posts sem before - waits sem before

-- The outcome of the next deed. `None` means that it is blocked: a wait at a count of 0. No other
-- deed is in this journal.
abbrev pub semaphore_says : List Event → Deed → Option Told
semaphore_says before (deed.Post sem) = Some told.Done
semaphore_says before (deed.Wait sem) = if nat_lt 0 (left sem before) then Some told.Done else None
semaphore_says before _ = None

-- a journal of the semaphores, read from its newest event back, is legal: each event has the
-- outcome that those before it determine
abbrev pub LegalSemaphores : List Event → Type 0
LegalSemaphores [] = Unit {0}
LegalSemaphores (e ∷ before) = (semaphore_says before e.deed ≡ Some e.told) × LegalSemaphores before
