-- The open files of an inode after one more event, in two journals in which the same files have
-- other names.
use Rattle.std.proofs.Common.{◌≡◌, ℕ, ◌+◌, ◌<◌, ◌≤◌, Bool, true, false, cond, List, [], ◌∷◌, length, Option, Some, None, is_some, option_map, refl, ap, ap₂, sym, subst, ◌∙◌, arith}
use Rattle.std.specs.Prelude.{◌==◌}
use Rattle.std.proofs.lemmas.Bool.{cond-false, cond-true, eqb-true, eq-eqb, ne_eqb}
use Rattle.journal_laws.proofs.Tallies.{find-less, tally-less}
use Rattle.report_text.specs.model.History.{event}
use Rattle.report_text.specs.model.events.Checks.{Check, check_after}
use Rattle.report_text.specs.model.events.Files.{counted, dropped, files, find_file, held, holds, less_file, tally, with_file, without_file}
use Rattle.report_text.specs.model.events.State.{drops_writer, modifies}
use Rattle.report_text.specs.model.events.declared.deed.Deed.{Deed}
use Rattle.report_text.specs.model.events.declared.deed.Deed.TheVariants as deed
use Rattle.report_text.specs.model.events.declared.deed.How.{How}
use Rattle.report_text.specs.model.events.declared.told.Event.{Event}
use Rattle.report_text.specs.model.events.declared.told.Told.{Told}
use Rattle.report_text.specs.model.events.declared.told.Told.TheVariants as told
use Rattle.report_text.specs.model.events.meta.declared.step.Who.{Who}
use Rattle.order_outcomes.proofs.alike.InodeLaws.{IsUsed, deed_named, file_in}

-- ---- a file is held once, and not before it is counted

-- a file that isn't held isn't held after another one is dropped
none_less : (f g : ℕ) (hs : List (ℕ × How)) → find_file g hs ≡ None
    → find_file g (less_file f hs) ≡ None
none_less f g [] h = refl
none_less f g (x ∷ xs) h = at (none_less f g xs) (x.0 == g) refl h (x.0 == f) where
  at : (find_file g xs ≡ None → find_file g (less_file f xs) ≡ None) → (b : Bool)
      → (x.0 == g) ≡ b → cond b (Some x.1) (find_file g xs) ≡ None → (c : Bool)
      → find_file g (cond c xs (x ∷ less_file f xs)) ≡ None
  at ih true e n c = cc
  at ih false e n true = n
  at ih false e n false = cond-false (x.0 == g) (Some x.1) (find_file g (less_file f xs)) e ∙ ih n

-- nor after any event that drops a file or none
none_without : (o : Option ℕ) (g : ℕ) (hs : List (ℕ × How)) → find_file g hs ≡ None
    → find_file g (without_file o hs) ≡ None
none_without None g hs h = h
none_without (Some f) g hs h = none_less f g hs h

-- a file that is counted leaves how another is held
find_with : (g place : ℕ) (c : Option How) (hs : List (ℕ × How)) → (place == g) ≡ false
    → find_file g (with_file place c hs) ≡ find_file g hs
find_with g place None hs n = refl
find_with g place (Some how) hs n = cond-false (place == g) (Some how) (find_file g hs) n

-- no file has the name of a later event
not_counted : (g : ℕ) (p : List Event) → length p ≤ g → held g p ≡ None
not_counted g [] h = refl
not_counted g (e ∷ p) h =
    find_with g (length p) (counted e.deed e.told) (without_file (dropped e.deed e.told) (files p))
    (ne_eqb (length p) g (λ same. omega arith))
    ∙ none_without (dropped e.deed e.told) g (files p) (not_counted g p (omega arith))

-- the file is in the list at most once
abbrev IsOnce : ℕ → List (ℕ × How) → Type 0
IsOnce f hs = find_file f (less_file f hs) ≡ None

-- a file that is held at most once is so after another one is dropped
once_less : (f g : ℕ) (hs : List (ℕ × How)) → IsOnce f hs → IsOnce f (less_file g hs)
once_less f g [] h = refl
once_less f g (x ∷ xs) h =
    at (once_less f g xs) (x.0 == f) refl h (x.0 == g) where
      at : (IsOnce f xs → IsOnce f (less_file g xs)) → (b : Bool) → (x.0 == f) ≡ b
          → find_file f (cond b xs (x ∷ less_file f xs)) ≡ None → (c : Bool)
          → IsOnce f (cond c xs (x ∷ less_file g xs))
      at ih true e n true = none_less f f xs n
      at ih true e n false =
          ap (find_file f) (cond-true (x.0 == f) (less_file g xs) (x ∷ less_file f (less_file g xs))
          e) ∙ none_less g f xs n
      at ih false e n true =
          sym (cond-false (x.0 == f) (Some x.1) (find_file f (less_file f xs)) e) ∙ n
      at ih false e n false =
          ap (find_file f) (cond-false (x.0 == f) (less_file g xs)
          (x ∷ less_file f (less_file g xs)) e)
          ∙ cond-false (x.0 == f) (Some x.1) (find_file f (less_file f (less_file g xs))) e
          ∙ ih (sym (cond-false (x.0 == f) (Some x.1) (find_file f (less_file f xs)) e) ∙ n)

-- and after any event that drops a file or none
once_without : (o : Option ℕ) (f : ℕ) (hs : List (ℕ × How)) → IsOnce f hs
    → IsOnce f (without_file o hs)
once_without None f hs h = h
once_without (Some g) f hs h = once_less f g hs h

-- and after a file is counted, if it wasn't held before
once_with : (f place : ℕ) (c : Option How) (hs : List (ℕ × How))
    → ((place == f) ≡ true → find_file f hs ≡ None) → IsOnce f hs → IsOnce f (with_file place c hs)
once_with f place None hs new h = h
once_with f place (Some how) hs new h = at (place == f) refl where
  at : (b : Bool) → (place == f) ≡ b
      → find_file f (cond b hs ((place, how) ∷ less_file f hs)) ≡ None
  at true e = new e
  at false e = cond-false (place == f) (Some how) (find_file f (less_file f hs)) e ∙ h

-- a file is held at most once
held_once : (f : ℕ) (p : List Event) → IsOnce f (files p)
held_once f [] = refl
held_once f (e ∷ p) =
    once_with f (length p) (counted e.deed e.told) (without_file (dropped e.deed e.told) (files p))
    (λ same. let last : length p ≤ f = omega (arith, eqb-true (length p) f same) in
    none_without (dropped e.deed e.told) f (files p) (not_counted f p last))
    (once_without (dropped e.deed e.told) f (files p) (held_once f p))

-- ---- the deed on the file's other name

-- it counts the same
pub counted_named : (r : ℕ → ℕ) (d : Deed) (t : Told)
    → counted (deed_named r d) t ≡ counted d t
counted_named r deed.Birth t = refl
counted_named r d t = refl

-- it drops the file under its other name
pub dropped_named : (r : ℕ → ℕ) (d : Deed) (t : Told)
    → dropped (deed_named r d) t ≡ option_map r (dropped d t)
dropped_named r (deed.Close file) told.Dropped = refl
dropped_named r (deed.CloseTake file) told.Dropped = refl
dropped_named r (deed.CloseFinish file) told.Dropped = refl
dropped_named r (deed.CloseFinish file) told.LabelledDropped = refl
dropped_named r d t = refl

-- a file that is dropped is used
pub dropped_used : (used : ℕ → Bool) (d : Deed) (t : Told) → IsUsed used (file_in d)
    → IsUsed used (dropped d t)
dropped_used used (deed.Close file) told.Dropped u = u
dropped_used used (deed.CloseTake file) told.Dropped u = u
dropped_used used (deed.CloseFinish file) told.Dropped u = u
dropped_used used (deed.CloseFinish file) told.LabelledDropped u = u
dropped_used used d t u = tt

-- it modifies the same
pub modifies_named : (r : ℕ → ℕ) (d : Deed) (t : Told)
    → modifies (deed_named r d) t ≡ modifies d t
modifies_named r deed.Birth t = refl
modifies_named r d t = refl

-- it drops a writer too
pub drops_named : (r : ℕ → ℕ) (d : Deed) (t : Told)
    → drops_writer (deed_named r d) t ≡ drops_writer d t
drops_named r deed.Birth t = refl
drops_named r d t = refl

-- 1 if the test holds, else 0
abbrev one_if : Bool → ℕ
one_if b = cond b 1 0

-- a file that is counted adds to the files of its kind
tally_with : (test : How → Bool) (c : Option How) (place2 place : ℕ) (hs2 hs : List (ℕ × How))
    → tally test hs2 ≡ tally test hs
    → tally test (with_file place2 c hs2) ≡ tally test (with_file place c hs)
tally_with test None place2 place hs2 hs h = h
tally_with test (Some how) place2 place hs2 hs h =
    ap (λ (n : ℕ). one_if (test how) + n) h

-- ---- the files after it

module _ (used : ℕ → Bool) (r : ℕ → ℕ) (p q : List Event)
    (apart : (f g : ℕ) → used f ≡ true → used g ≡ true → (r f == r g) ≡ (f == g))
    (how : (file : ℕ) → used file ≡ true → held (r file) q ≡ held file p) where
  -- a dropped file leaves the files alike
  held_less : (f g : ℕ) → used f ≡ true → used g ≡ true
      → find_file (r g) (less_file (r f) (files q)) ≡ find_file g (less_file f (files p))
  held_less f g uf ug = at (f == g) refl where
    at : (b : Bool) → (f == g) ≡ b
        → find_file (r g) (less_file (r f) (files q)) ≡ find_file g (less_file f (files p))
    at true e =
        subst (λ (x : ℕ). find_file (r x) (less_file (r f) (files q))
        ≡ find_file x (less_file f (files p))) (eqb-true f g e)
        (held_once (r f) q ∙ sym (held_once f p))
    at false e =
        find-less (r f) (r g) (files q) (apart f g uf ug ∙ e) ∙ how g ug
        ∙ sym (find-less f g (files p) e)

  -- so does an event that drops a file or none
  held_without : (o : Option ℕ) (g : ℕ) → IsUsed used o → used g ≡ true
      → find_file (r g) (without_file (option_map r o) (files q))
      ≡ find_file g (without_file o (files p))
  held_without None g uo ug = how g ug
  held_without (Some f) g uo ug = held_less f g uo ug

  -- a dropped file leaves as many files of each kind in both
  tally_less_same : (test : How → Bool) (f : ℕ) → used f ≡ true
      → tally test (files q) ≡ tally test (files p)
      → tally test (less_file (r f) (files q)) ≡ tally test (less_file f (files p))
  tally_less_same test f uf h =
      let second = tally-less test (r f) (files q) in
      let first = tally-less test f (files p) in
      let same : one_if (holds test (held (r f) q)) ≡ one_if (holds test (held f p))
      = ap (λ (o : Option How). one_if (holds test o)) (how f uf) in
      omega (arith, second, first, same, h)

  -- so does an event that drops a file or none
  tally_without : (test : How → Bool) (o : Option ℕ) → IsUsed used o
      → tally test (files q) ≡ tally test (files p)
      → tally test (without_file (option_map r o) (files q)) ≡ tally test (without_file o (files p))
  tally_without test None uo h = h
  tally_without test (Some f) uo h = tally_less_same test f uo h

  -- a file that was used before is held alike
  pub held_grown : (who : Who) (d : Deed) (t : Told) → IsUsed used (file_in d) → (g : ℕ)
      → used g ≡ true → g < length p → r g < length q
      → held (r g) (event who (deed_named r d) t ∷ q) ≡ held g (event who d t ∷ p)
  held_grown who d t u g ug below below2 =
      let o = dropped d t in
      let o2 = dropped (deed_named r d) t in
      find_with (r g) (length q) (counted (deed_named r d) t) (without_file o2 (files q))
      (ne_eqb (length q) (r g) (λ same. omega arith))
      ∙ ap (λ (x : Option ℕ). find_file (r g) (without_file x (files q))) (dropped_named r d t)
      ∙ held_without o g (dropped_used used d t u) ug
      ∙ sym (find_with g (length p) (counted d t) (without_file o (files p))
      (ne_eqb (length p) g (λ same. omega arith)))

  -- the numbers of open files of each kind stay equal
  pub tally_grown : (who : Who) (d : Deed) (t : Told) → IsUsed used (file_in d)
      → (test : How → Bool) → tally test (files q) ≡ tally test (files p)
      → tally test (files (event who (deed_named r d) t ∷ q))
      ≡ tally test (files (event who d t ∷ p))
  tally_grown who d t u test h =
      let o = dropped d t in
      let o2 = dropped (deed_named r d) t in
      let left : tally test (without_file o2 (files q)) ≡ tally test (without_file o (files p))
      = ap (λ (x : Option ℕ). tally test (without_file x (files q))) (dropped_named r d t)
      ∙ tally_without test o (dropped_used used d t u) h in
      ap (λ (c : Option How). tally test (with_file (length q) c (without_file o2 (files q))))
      (counted_named r d t)
      ∙ tally_with test (counted d t) (length q) (length p) (without_file o2 (files q))
      (without_file o (files p)) left

  -- its last check is alike
  pub check_grown : (d : Deed) → IsUsed used (file_in d) → (g : ℕ) → used g ≡ true
      → (old2 old : Check) → old2 ≡ old
      → check_after (r g) (deed_named r d) old2 ≡ check_after g d old
  check_grown (deed.Check file func action rules) u g ug old2 old h =
      ap₂ (λ (b : Bool) (c : Check). cond b (record { func = func; action = action }) c)
      (apart file g u ug) h
  check_grown d u g ug old2 old h = h

-- a file that the event counts is held as it was opened
find_new : (c : Option How) (n : ℕ) (hs : List (ℕ × How)) → is_some c ≡ true
    → find_file n (with_file n c hs) ≡ c
find_new None n hs h = cc
find_new (Some how) n hs h =
    cond-true (n == n) (Some how) (find_file n hs) (eq-eqb n n refl)

-- in both journals
pub held_new : (r : ℕ → ℕ) (p q : List Event) (who : Who) (d : Deed) (t : Told)
    → is_some (counted d t) ≡ true
    → held (length q) (event who (deed_named r d) t ∷ q) ≡ held (length p) (event who d t ∷ p)
held_new r p q who d t is =
    let same = counted_named r d t in
    find_new (counted (deed_named r d) t) (length q)
    (without_file (dropped (deed_named r d) t) (files q))
    (ap (λ (c : Option How). is_some c) same ∙ is)
    ∙ same
    ∙ sym (find_new (counted d t) (length p) (without_file (dropped d t) (files p)) is)

-- an event that counts a file checks none
pub unchecked_new : (d : Deed) (t : Told) → is_some (counted d t) ≡ true → (file : ℕ) (old : Check)
    → check_after file d old ≡ old
unchecked_new (deed.Check other func action rules) t is file old = cc
unchecked_new d t is file old = refl
