-- Examples of journals of the semaphores.
use Rattle.std.proofs.Common.{◌≡◌, List, [], ◌∷◌, Some, None, refl}
use Rattle.inode_events.specs.Inode.{nobody}
use Rattle.inode_events.specs.Semaphores.{LegalSemaphores, left, semaphore_says}
use Rattle.inode_events.specs.declared.deed.Deed.{Deed}
use Rattle.inode_events.specs.declared.deed.Deed.TheVariants as deed
use Rattle.inode_events.specs.declared.told.Event.{Event}
use Rattle.inode_events.specs.declared.told.Told.TheVariants as told

-- an event with the outcome done
abbrev done : Deed → Event
done d = record { who = nobody; deed = d; told = told.Done }

-- two posts of 1 and one of 0, and a wait for 1, newest first
abbrev signals : List Event
signals = done (deed.Wait 1) ∷ done (deed.Post 1) ∷ done (deed.Post 0) ∷ done (deed.Post 1) ∷ []

-- the journal `signals` is legal
signals_are_legal : LegalSemaphores signals
signals_are_legal = (refl, (refl, (refl, (refl, tt))))

-- each semaphore has a count of its own
counts_left : (left 1 signals ≡ 1) × (left 0 signals ≡ 1) × (left 2 signals ≡ 0)
counts_left = (refl, refl, refl)

-- a wait is blocked at a count of 0, and done otherwise. A post is never blocked, and no other deed
-- is in this journal.
waits_block : (semaphore_says signals (deed.Wait 1) ≡ Some told.Done)
    × (semaphore_says (done (deed.Wait 1) ∷ signals) (deed.Wait 1) ≡ None)
    × (semaphore_says signals (deed.Wait 2) ≡ None)
    × (semaphore_says [] (deed.Post 2) ≡ Some told.Done)
    × (semaphore_says signals deed.Birth ≡ None)
waits_block = (refl, refl, refl, refl, refl)

-- a journal with a wait at a count of 0 isn't legal
early_wait : LegalSemaphores (done (deed.Wait 0) ∷ []) → ⊥
early_wait legal = cc legal.0
