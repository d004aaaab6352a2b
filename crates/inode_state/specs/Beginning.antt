-- The list and the passes of a new journal.
use Rattle.std.specs.Prelude.{◌≡◌, ℕ, ◌+◌, ◌<◌, List, [], ◌∷◌, Some, length, slice_get}
use Rattle.grow_list.specs.Shown.{Grown, Passed}
use Rattle.inode_events.specs.declared.image.Image.{Image}
use Rattle.inode_events.specs.declared.told.Event.{Event}
use Rattle.inode_state.specs.Value.{HasOthers, JournalValue, birth_of, new_pass}

-- the list has only the birth with this image, which the own pass added, and there is a pass for
-- each task, which has seen the birth
pub record HasBegun (image : Image) (tasks : ℕ) (g : Grown Event) (own : Passed Event) (passes : List
    (Passed Event)) : Type 0 where
  pub list : g.list ≡ birth_of image ∷ []
  pub numbers : g.numbers ≡ 0 ∷ []
  pub callers : g.callers ≡ tasks + 1
  pub own_name : own.name ≡ g.name
  pub own_number : own.number ≡ 0
  pub own_mine : own.mine ≡ (0, birth_of image) ∷ []
  pub count : length passes ≡ tasks
  pub shown : (k : ℕ) → k < tasks → slice_get passes k ≡ Some (new_pass g.name g.list (k + 1))
  pub others : (j : JournalValue) → j.name ≡ g.name → j.callers ≡ g.callers → HasOthers j passes
