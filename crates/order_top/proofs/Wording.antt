-- Turns that a word names.
use Rattle.std.proofs.Common.{◌≡◌, ◌==◌, ◌≤◌, ℕ, suc, Bool, true, false, not, nat_lt, List, [], ◌∷◌, ◌++◌, count_by, length, Option, Some, None, Result, Ok, Err, is_some, option_and_then, option_map, if◌then◌else◌, refl, ap, sym, subst, ◌∙◌, append_assoc, arith, eqb-true, ltb-false, ltb-true}
use Rattle.std.specs.Prelude.{IsErrAnd, IsSome}
use Rattle.std.proofs.lemmas.Bool.{true≢false}
use Rattle.std.proofs.lemmas.List.Splits.{length-slice_split}
use Rattle.std.proofs.lemmas.Option.{none-some, same_Some}
use Rattle.order_top.specs.Limits.{most_first, most_moments}
use Rattle.order_top.specs.Words.{AskedValue, IsAsked, asked_by, asked_of, asking, dotted, number_of, task_of, tasks_of, turns_of}
use Rattle.order_top.specs.declared.not_done.NotDone.{NotDone}
use Rattle.order_top.specs.declared.not_done.NotDone.TheVariants.{OutOfMemory}
use Rattle.order_top.specs.declared.words.Asked.{Asked}

-- ---- whether the parts are numbers of tasks

-- the first part is one
pub some_more : (w : List ℕ) (ws : List (List ℕ)) → is_some (task_of w) ≡ true
    → is_some (tasks_of (w ∷ ws)) ≡ is_some (tasks_of ws)
some_more w ws is = by (task_of w) (tasks_of ws) is
  where
    by : (o : Option ℕ) (rest : Option (List ℕ)) → is_some o ≡ true
        → is_some (option_and_then (λ k. option_map (λ ns. k ∷ ns) rest) o) ≡ is_some rest
    by None rest is = absurd (true≢false (sym is))
    by (Some n) None is = refl
    by (Some n) (Some ns) is = refl

-- the first part is none
pub some_none : (w : List ℕ) (ws : List (List ℕ)) → is_some (task_of w) ≡ false
    → is_some (tasks_of (w ∷ ws)) ≡ false
some_none w ws is = by (task_of w) is
  where
    by : (o : Option ℕ) → is_some o ≡ false
        → is_some (option_and_then (λ k. option_map (λ ns. k ∷ ns) (tasks_of ws)) o) ≡ false
    by None is = refl
    by (Some n) is = absurd (true≢false is)

-- whether the last part is one
pub some_last : (w : List ℕ) → is_some (tasks_of (w ∷ [])) ≡ is_some (task_of w)
some_last w = by (task_of w)
  where
    by : (o : Option ℕ) → is_some (option_and_then (λ k. option_map (λ ns. k ∷ ns) (Some [])) o)
        ≡ is_some o
    by None = refl
    by (Some n) = refl

-- ---- the turns so far

-- turns put before others, if there are others
abbrev pub onto : List ℕ → Option (List ℕ) → Option (List ℕ)
onto ts o = option_map (λ us. ts ++ us) o

onto_again : (ts : List ℕ) (n : ℕ) (o : Option (List ℕ))
    → onto ts (option_map (λ ns. n ∷ ns) o) ≡ onto (ts ++ n ∷ []) o
onto_again ts n None = refl
onto_again ts n (Some us) = ap Some (sym (append_assoc ts (n ∷ []) us))

pub onto_none : (o : Option (List ℕ)) → onto [] o ≡ o
onto_none None = refl
onto_none (Some us) = refl

-- the turns with that of the part, if it is the number of a task
abbrev pub longer_by : List ℕ → List ℕ → Option (List ℕ)
longer_by ts w = option_map (λ n. ts ++ n ∷ []) (task_of w)

module _ (ts : List ℕ) (w : List ℕ) (ws : List (List ℕ)) (whole : Option (List ℕ))
    (so_far : onto ts (tasks_of (w ∷ ws)) ≡ whole) where
  pub goes_on : (longer : List ℕ) → Some longer ≡ longer_by ts w
      → onto longer (tasks_of ws) ≡ whole
  goes_on longer made = by (task_of w) so_far made
    where
      by : (o : Option ℕ)
          → onto ts (option_and_then (λ k. option_map (λ ns. k ∷ ns) (tasks_of ws)) o) ≡ whole
          → Some longer ≡ option_map (λ n. ts ++ n ∷ []) o → onto longer (tasks_of ws) ≡ whole
      by None all is = absurd (none-some longer (sym is))
      by (Some n) all is =
          ap (λ (us : List ℕ). onto us (tasks_of ws)) (same_Some longer (ts ++ n ∷ []) is)
          ∙ sym (onto_again ts n (tasks_of ws)) ∙ all

  pub stops : None ≡ longer_by ts w → None ≡ whole
  stops made = by (task_of w) so_far made
    where
      by : (o : Option ℕ)
          → onto ts (option_and_then (λ k. option_map (λ ns. k ∷ ns) (tasks_of ws)) o) ≡ whole
          → None ≡ option_map (λ n. ts ++ n ∷ []) o → None ≡ whole
      by None all is = all
      by (Some n) all is = absurd (none-some (ts ++ n ∷ []) is)

-- the turns with that of the last part
pub ends : (ts : List ℕ) (w : List ℕ) (whole o : Option (List ℕ))
    → onto ts (tasks_of (w ∷ [])) ≡ whole → o ≡ longer_by ts w → o ≡ whole
ends ts w whole o so_far made = by (task_of w) so_far made
  where
    by : (n : Option ℕ)
        → onto ts (option_and_then (λ k. option_map (λ ns. k ∷ ns) (Some [])) n) ≡ whole
        → o ≡ option_map (λ k. ts ++ k ∷ []) n → o ≡ whole
    by None all is = is ∙ all
    by (Some n) all is = is ∙ all

-- ---- the whole word

-- whether so many dots are few
pub few_is : (word : List ℕ) (n : ℕ) → n ≡ count_by (λ b. b == 46) word
    → nat_lt n most_first ≡ not (nat_lt most_first (length (dotted word)))
few_is word n is =
    by (nat_lt n most_first) (nat_lt most_first (length (dotted word))) refl refl
  where
    by : (few many : Bool) → nat_lt n most_first ≡ few
        → nat_lt most_first (length (dotted word)) ≡ many → few ≡ not many
    by true false x y = refl
    by false true x y = refl
    by true true x y =
        let parts = length-slice_split (λ b. b == 46) word in
        let low = ltb-true n most_first x in
        let high = ltb-true most_first (length (dotted word)) y in
        absurd (omega (arith, is, parts, low, high))
    by false false x y =
        let parts = length-slice_split (λ b. b == 46) word in
        let high = ltb-false n most_first x in
        let low = ltb-false most_first (length (dotted word)) y in
        absurd (omega (arith, is, parts, low, high))

pub turns_none : (word : List ℕ) → (length word == 0) ≡ true → turns_of word ≡ Some []
turns_none [] empty = refl
turns_none (c ∷ cs) empty =
    let none = eqb-true (length (c ∷ cs)) 0 empty in
    absurd (omega (arith, none))

module _ (word : List ℕ) (filled : (length word == 0) ≡ false) where
  -- there are too many parts
  pub turns_many : not (nat_lt most_first (length (dotted word))) ≡ false → None ≡ turns_of word
  turns_many many = by word filled many
    where
      if_many : (b : Bool) (o : Option (List ℕ)) → not b ≡ false → None ≡ (if b then None else o)
      if_many true o h = refl
      if_many false o h = absurd (true≢false h)

      by : (w : List ℕ) → (length w == 0) ≡ false
          → not (nat_lt most_first (length (dotted w))) ≡ false → None ≡ turns_of w
      by [] none h = absurd (true≢false none)
      by (c ∷ cs) none h = if_many (nat_lt most_first (length (dotted (c ∷ cs))))
          (tasks_of (dotted (c ∷ cs))) h

  -- there are few
  pub turns_few : not (nat_lt most_first (length (dotted word))) ≡ true
      → tasks_of (dotted word) ≡ turns_of word
  turns_few few = by word filled few
    where
      if_few : (b : Bool) (o : Option (List ℕ)) → not b ≡ true → o ≡ (if b then None else o)
      if_few true o h = absurd (true≢false (sym h))
      if_few false o h = refl

      by : (w : List ℕ) → (length w == 0) ≡ false
          → not (nat_lt most_first (length (dotted w))) ≡ true → tasks_of (dotted w) ≡ turns_of w
      by [] none h = absurd (true≢false none)
      by (c ∷ cs) none h = if_few (nat_lt most_first (length (dotted (c ∷ cs))))
          (tasks_of (dotted (c ∷ cs))) h

-- ---- what is asked for

-- a word that names no turns
pub asks_none : (most : ℕ) (o : Option (List ℕ)) → is_some o ≡ false
    → option_map (asking most) o ≡ None
asks_none most None is = refl
asks_none most (Some ts) is = absurd (true≢false is)

pub asks_some : (most : ℕ) (o : Option (List ℕ)) → is_some o ≡ true
    → IsSome (option_map (asking most) o)
asks_some most None is = absurd (true≢false (sym is))
asks_some most (Some ts) is = refl

-- memory ran out over words that ask for something
pub out_of_memory : (o : Option AskedValue) (r : Result Asked NotDone) → IsSome o
    → IsErrAnd r (λ why. why ≡ OutOfMemory) → IsAsked o r
out_of_memory o (Ok a) some given = absurd given
out_of_memory o (Err why) some given =
    subst (λ (w : NotDone). IsAsked o (Err w)) (sym given) some

-- ---- how many turns

tasks_length : (ws : List (List ℕ)) (ts : List ℕ) → tasks_of ws ≡ Some ts → length ts ≡ length ws
tasks_length [] ts is = ap length (sym (same_Some [] ts is))
tasks_length (w ∷ ws) ts is = by (task_of w) (tasks_of ws) (tasks_length ws) is
  where
    by : (o : Option ℕ) (rest : Option (List ℕ))
        → ((us : List ℕ) → rest ≡ Some us → length us ≡ length ws)
        → option_and_then (λ k. option_map (λ ns. k ∷ ns) rest) o ≡ Some ts
        → length ts ≡ length (w ∷ ws)
    by None rest shorter made = absurd (none-some ts made)
    by (Some n) None shorter made = absurd (none-some ts made)
    by (Some n) (Some ns) shorter made =
        ap length (sym (same_Some (n ∷ ns) ts made)) ∙ ap suc (shorter ns refl)

short_turns : (word ts : List ℕ) → turns_of word ≡ Some ts → length ts ≤ most_first
short_turns [] ts is = let none = ap length (same_Some [] ts is) in omega (arith, none)
short_turns (c ∷ cs) ts is =
    by (nat_lt most_first (length (dotted (c ∷ cs)))) refl is
  where
    by : (many : Bool) → nat_lt most_first (length (dotted (c ∷ cs))) ≡ many
        → (if many then None else tasks_of (dotted (c ∷ cs))) ≡ Some ts → length ts ≤ most_first
    by true many made = absurd (none-some ts made)
    by false few made =
        let long = tasks_length (dotted (c ∷ cs)) ts made in
        let short = ltb-false most_first (length (dotted (c ∷ cs))) few in
        omega (arith, long, short)

by_few : (word first : List ℕ) (v : AskedValue) → asked_by word first ≡ Some v
    → length v.first ≤ most_first
by_few word first v is = by (number_of word) (turns_of first) refl is
  where
    by : (o : Option ℕ) (turns : Option (List ℕ)) → turns_of first ≡ turns
        → option_and_then (λ n. option_map (asking n) turns) o ≡ Some v
        → length v.first ≤ most_first
    by None turns at made = absurd (none-some v made)
    by (Some n) None at made = absurd (none-some v made)
    by (Some n) (Some ts) at made =
        let few = short_turns first ts at in
        let same = ap (λ (a : AskedValue). length a.first) (same_Some (asking n ts) v made) in
        omega (arith, few, same)

-- the words ask for at most so many first turns
pub asked_few : (words : List (List ℕ)) (v : AskedValue) → asked_of words ≡ Some v
    → length v.first ≤ most_first
asked_few [] v is =
    let same = ap (λ (a : AskedValue). length a.first)
    (same_Some (asking most_moments []) v is) in
    omega (arith, same)
asked_few (w ∷ []) v is = by_few w [] v is
asked_few (w ∷ f ∷ []) v is = by_few w f v is
asked_few (w ∷ f ∷ x ∷ xs) v is = absurd (none-some v is)
