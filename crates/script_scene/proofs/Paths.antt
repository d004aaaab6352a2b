-- A path of a script, as a path of the measurement list.
use Rattle.std.proofs.Common.{◌≡◌, ℕ, zero, suc, ◌-◌, ◌<◌, ◌≤◌, ◌==◌, Bool, true, false, cond, ◌&&◌, not, List, [], ◌∷◌, length, get_or, refl, sym, ap, ◌∙◌, arith}
use Rattle.std.specs.Prelude.{nat_le}
use Rattle.std.specs.List.{slice_split, onto_first, list_all, suffix_len, All}
use Rattle.std.proofs.lemmas.List.{length-drop}
use Rattle.std.proofs.lemmas.List.Sums.{suffix_len_is}
use Rattle.std.proofs.lemmas.Bool.Decides.{nat_tests}
use Rattle.inode_meta.specs.declared.measurement.Template.TheVariants.{Ima}
use Rattle.run_model.specs.policy.forms.Paths.{is_path}
use Rattle.run_model.specs.policy.forms.Words.{is_word, is_visible}
use Rattle.run_model.specs.policy.forms.Tokens.{is_filled}
use Rattle.ima_templates.specs.Path.{IsMeasuredPath, IsGraphic, last_component}

-- the left one of two tests that hold
pub and_left : (a b : Bool) → (a && b) ≡ true → a ≡ true
and_left true b h = refl
and_left false b h = h

-- the right one of two tests that hold
pub and_right : (a b : Bool) → (a && b) ≡ true → b ≡ true
and_right true b h = h
and_right false b h = absurd (cc)

-- a visible byte may occur in a path of an entry
visible_is_graphic : (b : ℕ) → is_visible b ≡ true → IsGraphic b
visible_is_graphic b h = (grind (arith, nat_tests), grind (arith, nat_tests))

-- the test on numbers decides the order
at_most_by : (n m : ℕ) → nat_le n m ≡ true → n ≤ m
at_most_by n m h = grind (arith, nat_tests)

equal_by : (n m : ℕ) → (n == m) ≡ true → n ≡ m
equal_by n m h = grind (arith, nat_tests)

-- each byte is graphic, by recursion on the list
abbrev AllGraphic : List ℕ → Type 0
AllGraphic [] = Unit {0}
AllGraphic (b ∷ bs) = IsGraphic b × AllGraphic bs

-- bytes that are all graphic by recursion are so at each index
all_graphic : (bs : List ℕ) → AllGraphic bs → All IsGraphic bs
all_graphic [] h k d lt = absurd (omega (arith, lt))
all_graphic (b ∷ bs) h zero d lt = h.0
all_graphic (b ∷ bs) h (suc k) d lt = all_graphic bs h.1 k d (omega (arith, lt))

-- all bytes of the part are visible
abbrev visible : List ℕ → Bool
visible part = list_all is_visible part

-- the parts of a path between its slashes
abbrev parts_of : List ℕ → List (List ℕ)
parts_of bs = slice_split (λ c. c == 47) bs

-- the components of a path are visible
words_visible : (parts : List (List ℕ)) → list_all (is_word 255) parts ≡ true
    → list_all visible parts ≡ true
words_visible [] h = refl
words_visible (part ∷ parts) h =
    let here : visible part ≡ true =
    and_right (is_filled part && nat_le (length part) 255) (visible part)
    (and_left (is_word 255 part) _ h) in
    let rest = words_visible parts (and_right (is_word 255 part) _ h) in
    rw (here, rest) refl

-- if a part with one more byte in front is visible, so are the byte and the part
onto_visible : (b : ℕ) (parts : List (List ℕ)) → list_all visible (onto_first b parts) ≡ true
    → (is_visible b ≡ true) × (list_all visible parts ≡ true)
onto_visible b [] h = (and_left (is_visible b) true (and_left (is_visible b && true) true h), refl)
onto_visible b (part ∷ parts) h =
    let here = and_left (is_visible b && visible part) (list_all visible parts) h in
    let rest = and_right (is_visible b && visible part) (list_all visible parts) h in (
      and_left (is_visible b) (visible part) here,
      rw (and_right (is_visible b) (visible part) here, rest) refl,
    )

-- a slash may occur in a path of an entry
slash_is_graphic : (b : ℕ) → (b == 47) ≡ true → IsGraphic b
slash_is_graphic b h = (grind (arith, nat_tests), grind (arith, nat_tests))

-- one more byte in front: a slash, or a byte of the first part
parts_step : (b : ℕ) (bs : List ℕ) (slash : Bool) → (b == 47) ≡ slash
    → (list_all visible (parts_of bs) ≡ true → AllGraphic bs)
    → list_all visible (cond slash ([] ∷ parts_of bs) (onto_first b (parts_of bs))) ≡ true
    → IsGraphic b × AllGraphic bs
parts_step b bs true e more h = (slash_is_graphic b e, more h)
parts_step b bs false e more h =
    let both = onto_visible b (parts_of bs) h in
    (visible_is_graphic b both.0, more both.1)

-- visible parts separated by slashes are graphic
parts_graphic : (bs : List ℕ) → list_all visible (parts_of bs) ≡ true → AllGraphic bs
parts_graphic [] h = tt
parts_graphic (b ∷ bs) h = parts_step b bs (b == 47) refl (parts_graphic bs) h

-- ---- the last component

-- the length of the last part, if there is one
abbrev last_length : List (List ℕ) → ℕ
last_length [] = 0
last_length (w ∷ []) = length w
last_length (w ∷ v ∷ ws) = last_length (v ∷ ws)

-- the last part has no slash, and is preceded by a slash or by nothing
record IsCut (xs : List ℕ) (ws : List (List ℕ)) : Type 0 where
  filled : 1 ≤ length ws
  within : last_length ws ≤ length xs
  several : 2 ≤ length ws → last_length ws < length xs
  one : length ws ≤ 1 → last_length ws ≡ length xs
  clear : (k : ℕ) → length xs - last_length ws ≤ k → k < length xs
      → not (get_or xs k 0 == 47) ≡ true
  slash : 0 < length xs - last_length ws
      → not (get_or xs (length xs - last_length ws - 1) 0 == 47) ≡ false

-- one more part in front
cut_slash : (x : ℕ) (xs : List ℕ) (ws : List (List ℕ)) → (x == 47) ≡ true → IsCut xs ws
    → IsCut (x ∷ xs) ([] ∷ ws)
cut_slash x xs [] is c = absurd (omega (arith, c.filled))
cut_slash x xs (w ∷ ws) is c =
    let l = last_length (w ∷ ws) in
    let inside = c.within in record {
      filled = omega arith;
      within = omega (arith, inside);
      several = λ _. omega (arith, inside);
      one = λ few. absurd (omega (arith, few));
      clear = λ k from below. clear_at k from below;
      slash = λ _. before (length xs - l) refl;
    } where
      clear_at : (k : ℕ) → suc (length xs) - last_length (w ∷ ws) ≤ k → k < suc (length xs)
          → not (get_or (x ∷ xs) k 0 == 47) ≡ true
      clear_at zero from below = absurd (omega (arith, from, c.within))
      clear_at (suc k) from below = c.clear k (omega (arith, from, c.within))
          (omega (arith, below))

      before : (n : ℕ) → length xs - last_length (w ∷ ws) ≡ n
          → not (get_or (x ∷ xs) (suc (length xs) - last_length (w ∷ ws) - 1) 0 == 47) ≡ false
      before zero e =
          let place : suc (length xs) - last_length (w ∷ ws) - 1 ≡ 0 = omega (arith, e, c.within) in
          rw place (ap not is)
      before (suc n) e =
          let place : suc (length xs) - last_length (w ∷ ws) - 1 ≡ suc n =
          omega (arith, e, c.within) in
          let there : length xs - last_length (w ∷ ws) - 1 ≡ n = omega (arith, e) in
          rw place (ap (λ m. not (get_or xs m 0 == 47)) (sym there)
          ∙ c.slash (omega (arith, e)))

-- one more byte in the first part
cut_onto : (x : ℕ) (xs : List ℕ) (ws : List (List ℕ)) → (x == 47) ≡ false → IsCut xs ws
    → IsCut (x ∷ xs) (onto_first x ws)
cut_onto x xs [] not_it c = absurd (omega (arith, c.filled))
cut_onto x xs (w ∷ []) not_it c =
    let all = c.one (omega arith) in record {
      filled = omega arith;
      within = omega (arith, all);
      several = λ many. absurd (omega (arith, many));
      one = λ _. omega (arith, all);
      clear = λ k from below. clear_at k below;
      slash = λ some. absurd (omega (arith, some, all));
    } where
      clear_at : (k : ℕ) → k < suc (length xs) → not (get_or (x ∷ xs) k 0 == 47) ≡ true
      clear_at zero below = ap not not_it
      clear_at (suc k) below = c.clear k (omega (arith, c.one (omega arith))) (omega (arith, below))
cut_onto x xs (w ∷ v ∷ ws) not_it c =
    let less = c.several (omega arith) in record {
      filled = omega arith;
      within = omega (arith, less);
      several = λ _. omega (arith, less);
      one = λ few. absurd (omega (arith, few));
      clear = λ k from below. clear_at k from below;
      slash = λ _. before;
    } where
      clear_at : (k : ℕ) → suc (length xs) - last_length (v ∷ ws) ≤ k → k < suc (length xs)
          → not (get_or (x ∷ xs) k 0 == 47) ≡ true
      clear_at zero from below = absurd (omega (arith, from, c.several (omega arith)))
      clear_at (suc k) from below = c.clear k (omega (arith, from, c.within))
          (omega (arith, below))

      before : not (get_or (x ∷ xs) (suc (length xs) - last_length (v ∷ ws) - 1) 0 == 47) ≡ false
      before =
          let less = c.several (omega arith) in
          let place : suc (length xs) - last_length (v ∷ ws) - 1
          ≡ suc (length xs - last_length (v ∷ ws) - 1) = omega (arith, less) in
          rw place (c.slash (omega (arith, less)))

-- one more byte in front
cut_more : (x : ℕ) (xs : List ℕ) (ws : List (List ℕ)) (slash : Bool) → (x == 47) ≡ slash
    → IsCut xs ws → IsCut (x ∷ xs) (cond slash ([] ∷ ws) (onto_first x ws))
cut_more x xs ws true is c = cut_slash x xs ws is c
cut_more x xs ws false is c = cut_onto x xs ws is c

-- the parts of any bytes are cut at the slashes
cut_of : (xs : List ℕ) → IsCut xs (parts_of xs)
cut_of [] = record {
  filled = omega arith;
  within = omega arith;
  several = λ many. absurd (omega (arith, many));
  one = λ _. refl;
  clear = λ k from below. absurd (omega (arith, below));
  slash = λ some. absurd (omega (arith, some));
}
cut_of (x ∷ xs) = cut_more x xs (parts_of xs) (x == 47) refl (cut_of xs)

-- the last of some components has 1 to 255 bytes
last_word : (ws : List (List ℕ)) → 1 ≤ length ws → list_all (is_word 255) ws ≡ true
    → (1 ≤ last_length ws) × (last_length ws ≤ 255)
last_word [] some h = absurd (omega (arith, some))
last_word (w ∷ []) some h = word_length w (and_left (is_word 255 w) true h) where
  word_length : (w : List ℕ) → is_word 255 w ≡ true → (1 ≤ length w) × (length w ≤ 255)
  word_length [] e = absurd (cc e)
  word_length (b ∷ bs) e = (
    omega arith,
    at_most_by (length (b ∷ bs)) 255
        (and_left (nat_le (length (b ∷ bs)) 255) (visible (b ∷ bs)) e),
  )
last_word (w ∷ v ∷ ws) some h =
    last_word (v ∷ ws) (omega arith) (and_right (is_word 255 w) (list_all (is_word 255) (v ∷ ws)) h)

-- the text after the last slash is the last part
last_is : (xs : List ℕ) → length (last_component (47 ∷ xs)) ≡ last_length (parts_of xs)
last_is xs =
    let c = cut_slash 47 xs (parts_of xs) refl (cut_of xs) in
    let l = last_length ([] ∷ parts_of xs) in
    let found : suffix_len (λ x. not (x == 47)) (47 ∷ xs) ≡ l =
    suffix_len_is (λ x. not (x == 47)) (47 ∷ xs) (length (47 ∷ xs) - l) 0
    (omega (arith, c.within)) (λ k from below. c.clear k from below) c.slash
    ∙ omega (arith, c.within) in
    length-drop (length (47 ∷ xs) - suffix_len (λ x. not (x == 47)) (47 ∷ xs)) (47 ∷ xs)
    ∙ omega (arith, found, c.within)
    ∙ skipped (parts_of xs) (cut_of xs).filled where
      skipped : (ws : List (List ℕ)) → 1 ≤ length ws → last_length ([] ∷ ws) ≡ last_length ws
      skipped [] some = absurd (omega (arith, some))
      skipped (w ∷ ws) some = refl

-- each template can represent a path of a script
pub measured_path : (path : List ℕ) → is_path path ≡ true → IsMeasuredPath Ima path
measured_path [] h = absurd (cc)
measured_path (b ∷ parts) h =
    let front = and_left (b == 47 && nat_le (length (b ∷ parts)) 1024)
    (list_all (is_word 255) (parts_of parts)) h in
    let words = and_right (b == 47 && nat_le (length (b ∷ parts)) 1024)
    (list_all (is_word 255) (parts_of parts)) h in
    let slash = and_left (b == 47) (nat_le (length (b ∷ parts)) 1024) front in
    let is : b ≡ 47 = equal_by b 47 slash in
    let short : nat_le (length (b ∷ parts)) 1024 ≡ true =
    and_right (b == 47) (nat_le (length (b ∷ parts)) 1024) front in
    let last = last_word (parts_of parts) (cut_of parts).filled words in
    let length_is : length (last_component (b ∷ parts)) ≡ last_length (parts_of parts) =
    ap (λ (x : ℕ). length (last_component (x ∷ parts))) is ∙ last_is parts in
    record {
      not_empty = omega arith;
      at_most = at_most_by (length (b ∷ parts)) 1024 short;
      graphic = all_graphic (b ∷ parts) (
        slash_is_graphic b slash,
        parts_graphic parts (words_visible (parts_of parts) words),
      );
      component = λ _. (omega (arith, length_is, last.0), omega (arith, length_is, last.1));
    }
