-- In a legal journal of the semaphores there is a post for each wait.
use Rattle.std.proofs.Common.{◌≡◌, ℕ, ◌+◌, ◌<◌, ◌≤◌, ◌==◌, Bool, true, false, cond, List, [], ◌∷◌, None, Some, refl, subst, arith}
use Rattle.std.specs.Prelude.{nat_lt}
use borrow.Author.Tests.{eqb-true, ltb-true}
use Rattle.inode_events.specs.Semaphores.{LegalSemaphores, is_post, is_wait, left, posts, semaphore_says, waits}
use Rattle.inode_events.specs.declared.deed.Deed.{Deed}
use Rattle.inode_events.specs.declared.deed.Deed.TheVariants as deed
use Rattle.inode_events.specs.declared.told.Event.{Event}
use Rattle.inode_events.specs.declared.told.Told.TheVariants as told

-- there are at most as many waits as posts
pub paid : (sem : ℕ) (p : List Event) → LegalSemaphores p → waits sem p ≤ posts sem p
paid sem [] a = omega arith
paid sem (e ∷ p) a = at e.deed a.0 (paid sem p a.1) where
  wait : (other : ℕ) → (b : Bool) → (other == sem) ≡ b → (g : Bool) → nat_lt 0 (left other p) ≡ g
      → cond g (Some told.Done) None ≡ Some e.told → waits sem p ≤ posts sem p
      → cond b (1 + waits sem p) (waits sem p) ≤ posts sem p
  wait other b q false l h ih = absurd (cc)
  wait other false q true l h ih = ih
  wait other true q true l h ih =
      let more : 0 < left other p = ltb-true 0 (left other p) l in
      let here : 0 < left sem p = subst (λ (k : ℕ). 0 < left k p) (eqb-true other sem q) more in
      omega arith

  post : (b : Bool) → waits sem p ≤ posts sem p
      → waits sem p ≤ cond b (1 + posts sem p) (posts sem p)
  post true ih = omega arith
  post false ih = ih

  at : (d : Deed) → semaphore_says p d ≡ Some e.told → waits sem p ≤ posts sem p
      → cond (is_wait sem d) (1 + waits sem p) (waits sem p) ≤ cond (is_post sem d)
      (1 + posts sem p) (posts sem p)
  at (deed.Post other) h ih = post (other == sem) ih
  at (deed.Wait other) h ih = wait other (other == sem) refl (nat_lt 0 (left other p)) refl h ih
  at d h ih = absurd (cc)
