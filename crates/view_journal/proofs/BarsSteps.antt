-- A walk over a journal from its end, event by event.
use Rattle.std.proofs.Common.{◌≡◌, ◌≢◌, ℕ, zero, suc, ◌+◌, ◌-◌, ◌<◌, ◌==◌, Bool, true, false, cond, ◌&&◌, List, [], ◌∷◌, ◌++◌, length, append-nil, drop, get_or, reverse, take, Option, Some, None, refl, sym, ap, ◌∙◌, arith, inl, inr}
use Rattle.std.proofs.lemmas.Bool.{cases_Bool, eqb-false, eqb-true, ne_eqb}
use Rattle.std.proofs.lemmas.Grind.{get_or-set_at}
use Rattle.std.proofs.lemmas.List.{at_drop_more, get_or-set_other, length-drop, length-reverse, length-set, reverse-append, drop_all, take_all}
use Rattle.std.specs.Prelude.{nat_lt, unwrap_or}
use Rattle.std.specs.List.{list_any}
use Rattle.report_read.specs.words.declared.event.Event.{Event}
use Rattle.report_read.specs.words.declared.event.Kind.{Kind}
use Rattle.view_journal.specs.declared.bars.Bar.{Bar}
use Rattle.view_journal.specs.declared.window.Window.{Window}
use Rattle.view_journal.specs.Bars.{IsWalked, bar_by, bars_at, bars_from, drop_from, drop_in, is_file, kept, meets, most_bars, with_drop, with_reversed}
use Rattle.view_journal.specs.Files.{dropped, opened}

-- the first drop of a file from a place on
drop_by : (drops : List ℕ) (o : Option ℕ) (p f : ℕ) (rest : Option ℕ)
    → f < length drops → get_or drops f 0 ≡ unwrap_or rest 0
    → get_or (with_drop drops o p) f 0 ≡ unwrap_or (cond (is_file f o) (Some p) rest) 0
drop_by drops None p f rest lt h = h
drop_by drops (Some g) p f rest lt h =
    elim (cases_Bool (g == f)) [
      | inl t ↦
          let same : g ≡ f = eqb-true g f t in
          rw t (get_or-set_at drops g f p 0 (sym same) (omega (arith, same, lt)))
      | inr n ↦
          let other : f ≢ g = λ (e : f ≡ g). eqb-false g f n (sym e) in
          rw n (get_or-set_other drops g f p 0 other ∙ h)
    ]

-- a drop after place 0 is the one that its slot has
held_by : (b : Bool) (place : ℕ) (rest : Option ℕ) → (place == 0) ≡ false
    → drop_in (unwrap_or rest 0) ≡ rest
    → drop_in (unwrap_or (cond b (Some place) rest) 0) ≡ cond b (Some place) rest
held_by true place rest h k = rw h refl
held_by false place rest h k = k

after_birth : (place : ℕ) → (place + 1 == 0) ≡ false
after_birth place = ne_eqb (place + 1) 0 (λ (e : place + 1 ≡ 0). omega (arith, e))

held : (place file : ℕ) (es : List Event) → (place == 0) ≡ false
    → drop_in (unwrap_or (drop_from place file es) 0) ≡ drop_from place file es
held place file [] h = refl
held place file (e ∷ es) h =
    held_by (is_file file (dropped e.deed e.outcome)) place (drop_from (place + 1) file es) h
    (held (place + 1) file es (after_birth place))

-- there are as many drops as before
as_many_by : (drops : List ℕ) (o : Option ℕ) (p : ℕ)
    → length (with_drop drops o p) ≡ length drops
as_many_by drops None p = refl
as_many_by drops (Some g) p = length-set drops g p

-- one more bar at the end of the reversed list, or none
reversed_by : (b : Bool) (x : Bar) (xs : List Bar)
    → cond b (reverse xs ++ x ∷ []) (reverse xs) ≡ reverse (cond b (x ∷ xs) xs)
reversed_by true x xs = sym (reverse-append (x ∷ []) xs)
reversed_by false x xs = refl

-- the bar of an event, if it has one
bars_by : (ws : List Window) (p : ℕ) (e : Event) (es : List Event) (o : Option Kind)
    (rest : List Bar)
    → with_reversed ws p e o (drop_from (p + 1) p es) (p + length es) (reverse (kept ws rest))
    ≡ reverse (kept ws (bars_at p e o es ++ rest))
bars_by ws p e es None rest = refl
bars_by ws p e es (Some k) rest =
    let b : Bar = bar_by p e k (drop_from (p + 1) p es) (p + length es) in
    rw (length-reverse (kept ws rest))
    (reversed_by (list_any (meets b) ws && nat_lt (length (kept ws rest)) most_bars) b
    (kept ws rest))

-- the walk comes to a place from the one after it
pub walked_next : (ws : List Window) (journal : List Event) (place : ℕ)
    (drops next : List ℕ) (found more : List Bar) (d : Event) → place < length journal
    → IsWalked ws journal (place + 1) drops found
    → more ≡ with_reversed ws place (get_or journal place d)
    (opened (get_or journal place d).deed (get_or journal place d).outcome)
    (drop_in (get_or drops place 0)) (length journal - 1) found
    → next ≡ with_drop drops
    (dropped (get_or journal place d).deed (get_or journal place d).outcome) place
    → IsWalked ws journal place next more
walked_next ws journal place drops next found more d lt w bars_are drops_are =
    let e : Event = get_or journal place d in
    let es : List Event = drop (place + 1) journal in
    let size : length es ≡ length journal - (place + 1) = length-drop (place + 1) journal in
    let last : length journal - 1 ≡ place + length es = omega (arith, size, lt) in
    record {
      as_many = ap length drops_are
          ∙ (as_many_by drops (dropped e.deed e.outcome) place ∙ w.as_many);
      first = λ (f : ℕ) (l : f < length journal).
          ap (λ (x : List ℕ). get_or x f 0) drops_are
          ∙ (drop_by drops (dropped e.deed e.outcome) place f (drop_from (place + 1) f es)
          (omega (arith, l, w.as_many)) (w.first f l)
          ∙ sym (at_drop_more (λ (x : List Event). unwrap_or (drop_from place f x) 0) journal place d
          lt));
      bars = bars_are
          ∙ (ap (λ (x : Option ℕ).
          with_reversed ws place e (opened e.deed e.outcome) x (length journal - 1) found)
          (ap drop_in (w.first place lt) ∙ held (place + 1) place es (after_birth place))
          ∙ (ap (λ (x : ℕ).
          with_reversed ws place e (opened e.deed e.outcome) (drop_from (place + 1) place es) x
          found) last
          ∙ (ap (λ (x : List Bar).
          with_reversed ws place e (opened e.deed e.outcome) (drop_from (place + 1) place es)
          (place + length es) x) w.bars
          ∙ (bars_by ws place e es (opened e.deed e.outcome) (bars_from (place + 1) es)
          ∙ sym (at_drop_more (λ (x : List Event). reverse (kept ws (bars_from place x))) journal
          place d lt)))));
    }

-- one more file without a drop
pub none_more : (drops : List ℕ) → ((f : ℕ) → get_or drops f 0 ≡ 0) → (f : ℕ)
    → get_or (drops ++ 0 ∷ []) f 0 ≡ 0
none_more [] h zero = refl
none_more [] h (suc f) = refl
none_more (o ∷ drops) h zero = h 0
none_more (o ∷ drops) h (suc f) = none_more drops (λ (g : ℕ). h (suc g)) f

-- the walk begins with no drops and no bars
pub walked_start : (ws : List Window) (journal : List Event) (drops : List ℕ)
    (found : List Bar) → length drops ≡ length journal → ((f : ℕ) → get_or drops f 0 ≡ 0)
    → found ≡ [] → IsWalked ws journal (length journal) drops found
walked_start ws journal drops found size h is =
    let none : drop (length journal) journal ≡ [] = drop_all (length journal) journal (omega arith)
    in
    record {
      as_many = size;
      first = λ (f : ℕ) (l : f < length journal).
          h f
          ∙ ap (λ (x : List Event). unwrap_or (drop_from (length journal) f x) 0) (sym none);
      bars = is
          ∙ ap (λ (x : List Event). reverse (kept ws (bars_from (length journal) x))) (sym none);
    }

-- the slots after a step are those of the step
pub slots_kept : (old new : List ℕ) (n : ℕ) → length new ≡ length old → n ≡ length old
    → take n (new ++ drop (length new) old) ≡ new
slots_kept old new n same is =
    ap (λ (x : List ℕ). take n (new ++ x)) (drop_all (length new) old (omega (arith, same)))
    ∙ (ap (λ (x : List ℕ). take n x) (append-nil new)
    ∙ take_all n new (omega (arith, same, is)))
