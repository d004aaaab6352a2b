-- An event that has a link is in a window of its inode's drawing.
use Rattle.std.proofs.Common.{◌≡◌, ◌==◌, Bool, true, false, ◌||◌, List, [], ◌∷◌, refl, inl, inr}
use Rattle.std.specs.List.{list_any}
use Rattle.std.proofs.lemmas.Bool.{cases_Bool}
use Rattle.view_plan.specs.Plan.{is_drawn, windows_in}
use Rattle.view_pages.specs.Promises.{has_place}
use Rattle.view_plan.specs.declared.plan.Shown.{Shown}
use Rattle.view_plan.specs.declared.slots.At.{At}

-- one of two tests, of which the second follows
either : (b x y : Bool) → (x ≡ true → y ≡ true) → (b || x) ≡ true → (b || y) ≡ true
either true x y h both = refl
either false x y h both = h both

pub drawn_in : (at : At) (ss : List Shown) → is_drawn at ss ≡ true
    → list_any (has_place at.place) (windows_in at.inode ss) ≡ true
drawn_in at [] h = h
drawn_in at (s ∷ ss) h =
    elim (cases_Bool (s.inode == at.inode)) [
      | inl t ↦ rw t
          (either (has_place at.place s.window) (is_drawn at ss)
          (list_any (has_place at.place) (windows_in at.inode ss)) (drawn_in at ss) (rw t at h))
      | inr f ↦ rw f (drawn_in at ss (rw f at h))
    ]
