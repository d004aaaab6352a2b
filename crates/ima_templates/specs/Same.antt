-- The condition under which two entries are the same, and the effect of adding an entry to a list.
use Rattle.std.specs.Prelude.{◌≡◌, ℕ, ◌<◌, ◌==◌, slice_get, Bool, true, false, not, ◌&&◌, List, [], ◌∷◌, ◌++◌, length, Option, Some, None}
use Rattle.std.specs.List.{position}
use Rattle.std.specs.Str.{bytes_eq}
use Rattle.inode_meta.specs.declared.measurement.Template.{Template}
use Rattle.inode_meta.specs.declared.measurement.Template.TheVariants.{Ima, ImaNg, ImaSig, ImaBuf}
use Rattle.ima_templates.specs.declared.entry.Entry.{Entry}
use Rattle.ima_templates.specs.declared.entry.Placed.{Placed}
use Rattle.ima_templates.specs.declared.entry.Placed.TheVariants.{Added, Already}
use Rattle.ima_templates.specs.Data.{template_data}

abbrev pub same_template : Template → Template → Bool
same_template Ima Ima = true
same_template ImaNg ImaNg = true
same_template ImaSig ImaSig = true
same_template ImaBuf ImaBuf = true
same_template _ _ = false

-- the digests, the names and the third fields are equal
abbrev pub SameFields : Entry → Entry → Type 0
SameFields a b = (a.digest ≡ b.digest) × (a.name ≡ b.name) × (a.sig ≡ b.sig)

-- the templates are the same and the template data are equal
abbrev pub same_data : Entry → Entry → Bool
same_data a b = same_template a.template b.template && bytes_eq (template_data a) (template_data b)

-- the registers and the templates are the same, the template data are equal, and neither entry is a
-- violation
unfoldable pub same : Entry → Entry → Bool
same a b = not a.violation && not b.violation && a.pcr == b.pcr && same_data a b

-- the index of the first entry that is the same as e
abbrev pub place_of_same : List Entry → Entry → Option ℕ
place_of_same list e = position (λ earlier. same earlier e) list

-- the outcome of adding an entry, by the index of the first one that is the same: that index, or
-- else the end of the list
abbrev pub placed_by : Option ℕ → ℕ → Placed
placed_by (Some place) end = Already place
placed_by None end = Added end

abbrev pub placed : List Entry → Entry → Placed
placed list e = placed_by (place_of_same list e) (length list)

-- the list after adding an entry, which is appended only if no entry is the same
abbrev pub add_by : Option ℕ → List Entry → Entry → List Entry
add_by (Some place) list e = list
add_by None list e = list ++ e ∷ []

abbrev pub add : List Entry → Entry → List Entry
add list e = add_by (place_of_same list e) list e

-- the entry that was added, with its index: none if the same entry was already there
abbrev pub gained : Placed → Entry → List (ℕ × Entry)
gained (Added place) e = (place, e) ∷ []
gained (Already place) e = []

-- no entry is the same as an earlier one
abbrev pub IsDistinct : List Entry → Type 0
IsDistinct list = (a b : ℕ) (x y : Entry) → a < b → slice_get list a ≡ Some x
    → slice_get list b ≡ Some y → same x y ≡ false
