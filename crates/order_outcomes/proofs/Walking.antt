-- Walks along a list: what the part that is walked and the rest give.
use Rattle.std.proofs.Common.{◌≡◌, ℕ, ◌+◌, ◌<◌, ◌≤◌, List, [], ◌∷◌, ◌++◌, drop, get_or, length, take, Option, refl, sym, ap, ◌∙◌, append_assoc}
use Rattle.std.specs.Option.{option_or}
use Rattle.std.proofs.lemmas.List.{append-nil, at_drop_all, at_drop_more, take_more}
use Rattle.report_text.specs.model.events.NewestFirst.{newest_first, past_more}
use Rattle.report_text.specs.model.events.declared.told.Event.{Event}

-- ---- the first item that gives something

module _ {X Y : Type 0} (F : List X → Option Y) (f : X → Option Y) (xs : List X) (k : ℕ)
    (inv : F (drop k xs) ≡ F xs) where
  -- the next item decides, or the rest after it does
  pub or_more : (x : X) (o : Option Y)
      → ((y : X) (ys : List X) → F (y ∷ ys) ≡ option_or (f y) (F ys))
      → k < length xs → x ≡ get_or xs k x → o ≡ f x → option_or o (F (drop (k + 1) xs)) ≡ F xs
  or_more x o step lt is e =
      ap (λ p. option_or p (F (drop (k + 1) xs))) e ∙ sym (step x (drop (k + 1) xs))
      ∙ ap (λ y. F (y ∷ drop (k + 1) xs)) is ∙ sym (at_drop_more F xs k x lt) ∙ inv

  -- nothing is left
  pub or_end : length xs ≤ k → F [] ≡ F xs
  or_end le = sym (at_drop_all F xs k le) ∙ inv

-- ---- texts of all items, one after the other

module _ {X : Type 0} (F : List X → List ℕ) (f : X → List ℕ) (xs : List X) (k : ℕ)
    (o out : List ℕ) (inv : out ++ F (drop k xs) ≡ o) where
  -- the text of the next item is appended
  pub text_more : (x : X) (new : List ℕ) → ((y : X) (ys : List X) → F (y ∷ ys) ≡ f y ++ F ys)
      → k < length xs → x ≡ get_or xs k x → new ≡ out ++ f x → new ++ F (drop (k + 1) xs) ≡ o
  text_more x new step lt is e =
      ap (λ l. l ++ F (drop (k + 1) xs)) e ∙ append_assoc out (f x) (F (drop (k + 1) xs))
      ∙ ap (λ l. out ++ l) (sym (step x (drop (k + 1) xs))
      ∙ ap (λ y. F (y ∷ drop (k + 1) xs)) is ∙ sym (at_drop_more F xs k x lt)) ∙ inv

  -- nothing is left
  pub text_end : F [] ≡ [] → length xs ≤ k → out ≡ o
  text_end none le =
      sym (append-nil out) ∙ ap (λ l. out ++ l) (sym (at_drop_all F xs k le ∙ none)) ∙ inv

-- the same of texts that have the number of their item
module _ {X : Type 0} (F : ℕ → List X → List ℕ) (f : ℕ → X → List ℕ) (xs : List X) (k : ℕ)
    (o out : List ℕ) (inv : out ++ F k (drop k xs) ≡ o) where
  pub numbered_more : (x : X) (new : List ℕ)
      → ((n : ℕ) (y : X) (ys : List X) → F n (y ∷ ys) ≡ f n y ++ F (n + 1) ys)
      → k < length xs → x ≡ get_or xs k x → new ≡ out ++ f k x
      → new ++ F (k + 1) (drop (k + 1) xs) ≡ o
  numbered_more x new step lt is e =
      ap (λ l. l ++ F (k + 1) (drop (k + 1) xs)) e
      ∙ append_assoc out (f k x) (F (k + 1) (drop (k + 1) xs))
      ∙ ap (λ l. out ++ l) (sym (step k x (drop (k + 1) xs))
      ∙ ap (λ y. F k (y ∷ drop (k + 1) xs)) is ∙ sym (at_drop_more (F k) xs k x lt)) ∙ inv

  pub numbered_end : F k [] ≡ [] → length xs ≤ k → out ≡ o
  numbered_end none le =
      sym (append-nil out) ∙ ap (λ l. out ++ l) (sym (at_drop_all (F k) xs k le ∙ none)) ∙ inv

-- ---- journals

-- before the first event there are none
pub past_none : newest_first [] ≡ []
unfolding newest_first
past_none = refl

-- one event more is the newest
pub past_next : (journal : List Event) (k : ℕ) (e : Event) → k < length journal
    → e ≡ get_or journal k e
    → newest_first (take (k + 1) journal) ≡ e ∷ newest_first (take k journal)
past_next journal k e lt is =
    ap newest_first (take_more journal k e lt ∙ ap (λ x. take k journal ++ x ∷ []) (sym is))
    ∙ past_more (take k journal) e
