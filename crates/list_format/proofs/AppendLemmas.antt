-- The results of several appends in a row, and the part of a record with the template data.
use Rattle.std.proofs.Common.{◌≡◌, ◌≢◌, ℕ, Bool, true, false, cond, List, ◌++◌, length, take, refl, ◌∙◌}
use Rattle.list_lemmas.proofs.Kept.{appended_both, kept_append}
use Rattle.inode_meta.specs.declared.measurement.Template.{Template}
use Rattle.inode_meta.specs.declared.measurement.Template.TheVariants.{Ima, ImaNg, ImaSig, ImaBuf}
use Rattle.ima_templates.specs.declared.entry.Entry.{Entry}
use Rattle.ima_templates.specs.Data.{sized, template_data}
use Rattle.list_format.specs.Record.{shown_data}

-- the result of three appends
pub appended-3 : (o o1 o2 o3 x y z : List ℕ) → o1 ≡ o ++ x → o2 ≡ o1 ++ y → o3 ≡ o2 ++ z
    → o3 ≡ o ++ ((x ++ y) ++ z)
appended-3 o o1 o2 o3 x y z first second third =
    appended_both o o2 o3 (x ++ y) z (appended_both o o1 o2 x y first second) third

-- the result of four appends
pub appended-4 : (o o1 o2 o3 o4 x y z u : List ℕ) → o1 ≡ o ++ x → o2 ≡ o1 ++ y → o3 ≡ o2 ++ z
    → o4 ≡ o3 ++ u
    → o4 ≡ o ++ (((x ++ y) ++ z) ++ u)
appended-4 o o1 o2 o3 o4 x y z u first second third fourth =
    appended_both o o3 o4 ((x ++ y) ++ z) u (appended-3 o o1 o2 o3 x y z first second third) fourth

-- except for `ima`, a record has the template data after its length
pub shown_data-sized : (e : Entry) (t : Template) → t ≢ Ima
    → sized (template_data e) ≡ shown_data t e
shown_data-sized e Ima not_ima = absurd (not_ima refl)
shown_data-sized e ImaNg not_ima = refl
shown_data-sized e ImaSig not_ima = refl
shown_data-sized e ImaBuf not_ima = refl

-- what was there before an append stays, also if a second append is left out
pub kept_unless : (b : Bool) (o o1 o2 x y : List ℕ) (n : ℕ) → length o ≡ n → o1 ≡ o ++ x
    → o2 ≡ cond b (o1 ++ y) o1 → take n o2 ≡ o
kept_unless true o o1 o2 x y n long first last =
    kept_append o o2 (x ++ y) n long (appended_both o o1 o2 x y first last)
kept_unless false o o1 o2 x y n long first last = kept_append o o2 x n long (last ∙ first)
