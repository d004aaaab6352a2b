-- A path is found at the index of its file.
use Rattle.std.proofs.Common.{◌≡◌, ℕ, zero, suc, ◌+◌, ◌<◌, Bool, true, false, not, List, [], ◌∷◌, ◌++◌, length, map, slice_get, Option, Some, None, is_some, refl, sym, ap, subst, ◌∙◌, inl, inr, arith, length-append, append_assoc}
use Rattle.std.specs.Cmp.Lexicographic.{bytes_decides}
use Rattle.std.specs.List.{list_all}
use Rattle.std.specs.Str.{bytes_eq}
use Rattle.std.proofs.lemmas.Bool.{cases_Bool, false≢true}
use Rattle.text_forms.specs.Paths.{is_path}
use Rattle.script_text.specs.Forms.{are_apart, has_place, path_of_block}
use Rattle.call_lines.specs.Places.{one_on, place_in}
use Rattle.script_text.specs.declared.blocks.FileBlock.{FileBlock}
use Rattle.call_lines.proofs.Holding.{left_true, right_true}
use Rattle.call_lines.specs.Form.{path_at}
use Rattle.call_lines.proofs.Again.{AreKnown}

reflexive : (bs : List ℕ) → bytes_eq bs bs ≡ true
reflexive bs = (bytes_decides bs bs).1 refl

on_none : (o : Option ℕ) → is_some (one_on o) ≡ is_some o
on_none None = refl
on_none (Some n) = refl

-- a path after different ones has their number as its index
pub place_first : (before rest : List (List ℕ)) (w : List ℕ) → has_place before w ≡ false
    → place_in (before ++ w ∷ rest) w ≡ Some (length before)
place_first [] rest w h = rw (reflexive w) refl
place_first (p ∷ ps) rest w h = elim (cases_Bool (bytes_eq w p)) [
  | inl e ↦
      let no : true ≡ false = rw e at h in absurd (cc no)
  | inr e ↦
      let others : has_place ps w ≡ false = sym (on_none (place_in ps w)) ∙ (rw e at h) in
      let more : length ps + 1 ≡ length (p ∷ ps) = omega arith in
      rw (e, place_first ps rest w others) (ap (λ (n : ℕ). Some n) more)
]

pub flip : (b : Bool) → not b ≡ true → b ≡ false
flip true h = absurd (false≢true h)
flip false h = refl

-- a path is found at its index
pub place_again : (before ws : List (List ℕ)) → are_apart has_place before ws ≡ true → (k : ℕ)
    (w : List ℕ) → slice_get ws k ≡ Some w → place_in (before ++ ws) w ≡ Some (length before + k)
place_again before [] h k w e = absurd (cc e)
place_again before (v ∷ vs) h zero w e =
    let fresh = has_place before v in
    let rest = are_apart has_place (before ++ v ∷ []) vs in
    let same : v ≡ w = cc e in
    let new : fresh ≡ false = flip fresh (left_true (not fresh) rest h) in
    let none : length before ≡ length before + 0 = omega arith in
    ap (λ (u : List ℕ). place_in (before ++ v ∷ vs) u) (sym same)
    ∙ place_first before vs v new ∙ ap (λ (n : ℕ). Some n) none
place_again before (v ∷ vs) h (suc k) w e =
    let fresh = has_place before v in
    let rest = are_apart has_place (before ++ v ∷ []) vs in
    let more : length (before ++ v ∷ []) + k ≡ length before + suc k =
    omega (arith, length-append before (v ∷ [])) in
    ap (λ (ps : List (List ℕ)). place_in ps w) (sym (append_assoc before (v ∷ []) vs))
    ∙ place_again (before ++ v ∷ []) vs (right_true (not fresh) rest h) k w e
    ∙ ap (λ (n : ℕ). Some n) more

-- the files of a script, whose paths are all different
pub record AreFound (files : List FileBlock) (paths : List (List ℕ)) : Type 0 where
  pub are : paths ≡ map path_of_block files
  pub apart : are_apart has_place [] (map path_of_block files) ≡ true
  pub forms : list_all is_path (map path_of_block files) ≡ true

-- the path at an index
got : (paths : List (List ℕ)) (k : ℕ) → k < length paths
    → slice_get paths k ≡ Some (path_at paths k)
got [] k lt = absurd (omega (arith, lt))
got (p ∷ ps) zero lt = refl
got (p ∷ ps) (suc k) lt = got ps k (omega (arith, lt))

-- the path at an index has the form of a path
form_at : (paths : List (List ℕ)) (k : ℕ) → k < length paths → list_all is_path paths ≡ true
    → is_path (path_at paths k) ≡ true
form_at [] k lt h = absurd (omega (arith, lt))
form_at (p ∷ ps) zero lt h = left_true (is_path p) (list_all is_path ps) h
form_at (p ∷ ps) (suc k) lt h =
    form_at ps k (omega (arith, lt)) (right_true (is_path p) (list_all is_path ps) h)

all_known : (paths : List (List ℕ)) → are_apart has_place [] paths ≡ true
    → list_all is_path paths ≡ true → AreKnown paths
all_known paths apart forms = record {
  form = λ i lt. form_at paths i lt forms;
  place = λ i lt.
      let from_zero : 0 + i ≡ i = omega arith in
      place_again [] paths apart i (path_at paths i) (got paths i lt)
      ∙ ap (λ (k : ℕ). Some k) from_zero;
}

-- the paths of the files of a script are known
pub paths_known : (files : List FileBlock) (paths : List (List ℕ)) → AreFound files paths
    → AreKnown paths
paths_known files paths found =
    subst AreKnown (sym found.are) (all_known (map path_of_block files) found.apart found.forms)
