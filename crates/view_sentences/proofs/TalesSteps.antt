-- The events that have a sentence, as a walk over the journal finds them.
use Rattle.std.proofs.Common.{◌≡◌, ℕ, ◌+◌, ◌<◌, ◌≤◌, Bool, true, false, cond, List, [], ◌∷◌, ◌++◌, append_assoc, append-nil, drop, get_or, length, take, refl, sym, ap, ◌∙◌, arith}
use Rattle.std.specs.Prelude.{nat_lt}
use Rattle.std.proofs.lemmas.Bool.{ltb-false, ltb-true}
use Rattle.std.proofs.lemmas.List.{at_drop_all, at_drop_more, length_push, take-append-le, take_all}
use Rattle.view_page.specs.journals.Walk.{Walk, shown_by, start, state_of, walked}
use Rattle.view_page.specs.journals.declared.walk.State.{State}
use Rattle.view_page.specs.journals.reading.words.declared.event.Event.{Event}
use Rattle.view_page.proofs.about_journals.WalkLemmas.{states_by_walk}
use Rattle.view_sentences.specs.Sentences.{is_told, kept, told_from, told_places}

-- of the places so far and the others, the first ones are the same with one more kept
kept_places : (b : Bool) (places : List ℕ) (i : ℕ) (rest : List ℕ)
    → take 20 (kept b places i ++ rest) ≡ take 20 (places ++ cond b (i ∷ rest) rest)
kept_places false places i rest = refl
kept_places true places i rest = at (nat_lt (length places) 20) refl where
  at : (b : Bool) → nat_lt (length places) 20 ≡ b
      → take 20 (cond b (places ++ i ∷ []) places ++ rest) ≡ take 20 (places ++ i ∷ rest)
  at true e = ap (take 20) (append_assoc places (i ∷ []) rest)
  at false e =
      take-append-le 20 places rest (ltb-false (length places) 20 e)
      ∙ sym (take-append-le 20 places (i ∷ rest) (ltb-false (length places) 20 e))

-- and they stay few
pub kept_few : (b : Bool) (places next : List ℕ) (i : ℕ) → next ≡ kept b places i
    → length places ≤ 20 → length next ≤ 20
kept_few false places next i is few = omega (arith, ap length is, few)
kept_few true places next i is few = at (nat_lt (length places) 20) refl where
  at : (b : Bool) → nat_lt (length places) 20 ≡ b → length next ≤ 20
  at true e =
      let same : next ≡ places ++ i ∷ []
      = is ∙ ap (λ (t : Bool). cond t (places ++ i ∷ []) places) e in
      omega (arith, ap length same, length_push places i, ltb-true (length places) 20 e)
  at false e =
      let same : next ≡ places = is ∙ ap (λ (t : Bool). cond t (places ++ i ∷ []) places) e in
      omega (arith, ap length same, few)

-- the events from a place on, with those from the next one on
told_here : (journal : List Event) (i : ℕ) (d : Event) (w next : Walk) (t : Bool)
    → i < length journal → next ≡ walked (get_or journal i d) w
    → t ≡ is_told (get_or journal i d) (state_of next)
    → told_from i (drop i journal) (shown_by w (drop i journal))
    ≡ cond t (i ∷ told_from (i + 1) (drop (i + 1) journal) (shown_by next (drop (i + 1) journal)))
    (told_from (i + 1) (drop (i + 1) journal) (shown_by next (drop (i + 1) journal)))
told_here journal i d w next t within is tells =
    let e : Event = get_or journal i d in
    let rest : List Event = drop (i + 1) journal in
    at_drop_more (λ (es : List Event). told_from i es (shown_by w es)) journal i d within
    ∙ (ap (λ (x : Walk). cond (is_told e (state_of x))
    (i ∷ told_from (i + 1) rest (shown_by x rest)) (told_from (i + 1) rest (shown_by x rest)))
    (sym is)
    ∙ ap (λ (b : Bool). cond b (i ∷ told_from (i + 1) rest (shown_by next rest))
    (told_from (i + 1) rest (shown_by next rest))) (sym tells))

-- the places after one more event
pub tales_places : (journal : List Event) (i : ℕ) (d : Event) (w next : Walk) (t : Bool)
    (places more all : List ℕ) → i < length journal → next ≡ walked (get_or journal i d) w
    → t ≡ is_told (get_or journal i d) (state_of next) → more ≡ kept t places i
    → take 20 (places ++ told_from i (drop i journal) (shown_by w (drop i journal)))
    ≡ take 20 all
    → take 20 (more
    ++ told_from (i + 1) (drop (i + 1) journal) (shown_by next (drop (i + 1) journal)))
    ≡ take 20 all
tales_places journal i d w next t places more all within is tells keeps so_far =
    let rest : List ℕ
    = told_from (i + 1) (drop (i + 1) journal) (shown_by next (drop (i + 1) journal)) in
    ap (λ (x : List ℕ). take 20 (x ++ rest)) keeps
    ∙ (kept_places t places i rest
    ∙ (ap (λ (x : List ℕ). take 20 (places ++ x))
    (sym (told_here journal i d w next t within is tells)) ∙ so_far))

counted_more : (t : Bool) (n i : ℕ) (rest : List ℕ)
    → (n + cond t 1 0) + length rest ≡ n + length (cond t (i ∷ rest) rest)
counted_more true n i rest = omega arith
counted_more false n i rest = omega arith

-- and how many there are
pub tales_count : (journal : List Event) (i : ℕ) (d : Event) (w next : Walk) (t : Bool)
    (n more all : ℕ) → i < length journal → next ≡ walked (get_or journal i d) w
    → t ≡ is_told (get_or journal i d) (state_of next) → more ≡ n + cond t 1 0
    → n + length (told_from i (drop i journal) (shown_by w (drop i journal))) ≡ all
    → more + length (told_from (i + 1) (drop (i + 1) journal)
    (shown_by next (drop (i + 1) journal))) ≡ all
tales_count journal i d w next t n more all within is tells counts so_far =
    let rest : List ℕ
    = told_from (i + 1) (drop (i + 1) journal) (shown_by next (drop (i + 1) journal)) in
    ap (λ (x : ℕ). x + length rest) counts
    ∙ (counted_more t n i rest
    ∙ (ap (λ (x : List ℕ). n + length x)
    (sym (told_here journal i d w next t within is tells)) ∙ so_far))

-- a count grows by one at most
pub counted_small : (t : Bool) (n i : ℕ) → n ≤ i → n + cond t 1 0 ≤ i + 1
counted_small true n i h = omega (arith, h)
counted_small false n i h = omega (arith, h)

-- ---- after all events

pub all_places : (journal : List Event) (i : ℕ) (w : Walk) (places : List ℕ) → length journal ≤ i
    → length places ≤ 20
    → take 20 (places ++ told_from i (drop i journal) (shown_by w (drop i journal)))
    ≡ take 20 (told_from 0 journal (shown_by start journal))
    → places ≡ take 20 (told_places journal)
all_places journal i w places past few so_far =
    sym (take_all 20 places few)
    ∙ (ap (take 20) (sym (append-nil places))
    ∙ (ap (λ (x : List ℕ). take 20 (places ++ x))
    (sym (at_drop_all (λ (es : List Event). told_from i es (shown_by w es)) journal i past))
    ∙ (so_far ∙ ap (λ (ss : List State). take 20 (told_from 0 journal ss))
    (states_by_walk journal))))

pub all_count : (journal : List Event) (i : ℕ) (w : Walk) (n : ℕ) → length journal ≤ i
    → n + length (told_from i (drop i journal) (shown_by w (drop i journal)))
    ≡ length (told_from 0 journal (shown_by start journal))
    → n ≡ length (told_places journal)
all_count journal i w n past so_far =
    omega (
      arith,
      ap length (at_drop_all (λ (es : List Event). told_from i es (shown_by w es)) journal i past),
      so_far,
      ap (λ (ss : List State). length (told_from 0 journal ss)) (states_by_walk journal),
    )
