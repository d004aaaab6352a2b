-- The bars of a task so far, and those that one more bar gives.
use Rattle.std.proofs.Common.{◌≡◌, ◌≢◌, ℕ, ◌+◌, ◌<◌, ◌≤◌, false, List, [], ◌∷◌, ◌++◌, length, append_assoc, append-nil, drop, get_or, refl, sym, ap, ◌∙◌}
use Rattle.std.proofs.lemmas.Bool.{eq-eqb, ne_eqb}
use Rattle.std.proofs.lemmas.List.{at_drop_all, at_drop_more}
use Rattle.report_read.specs.words.declared.event.Kind.TheVariants as kind
use Rattle.view_journal.specs.declared.bars.Bar.{Bar}
use Rattle.view_journal.specs.Bars.{own}

-- what stands for a bar where there is none
abbrev pub no_bar : Bar
no_bar = record { file = 0; kind = kind.Read; task = 0; last = 0; still = false }

pub own_next : (task : ℕ) (bs : List Bar) (i : ℕ) (d : Bar) (found more all : List Bar)
    → i < length bs → (get_or bs i d).task ≡ task → more ≡ found ++ get_or bs i d ∷ []
    → found ++ own task (drop i bs) ≡ all → more ++ own task (drop (i + 1) bs) ≡ all
own_next task bs i d found more all lt same pushed h =
    let b : Bar = get_or bs i d in
    let rest : List Bar = own task (drop (i + 1) bs) in
    let on : own task (b ∷ drop (i + 1) bs) ≡ b ∷ rest = rw (eq-eqb b.task task same) refl in
    ap (λ (x : List Bar). x ++ rest) pushed
    ∙ (append_assoc found (b ∷ []) rest
    ∙ (ap (λ (x : List Bar). found ++ x) (sym (at_drop_more (own task) bs i d lt ∙ on)) ∙ h))

pub other_next : (task : ℕ) (bs : List Bar) (i : ℕ) (d : Bar) (found all : List Bar)
    → i < length bs → (get_or bs i d).task ≢ task
    → found ++ own task (drop i bs) ≡ all → found ++ own task (drop (i + 1) bs) ≡ all
other_next task bs i d found all lt other h =
    let b : Bar = get_or bs i d in
    let on : own task (b ∷ drop (i + 1) bs) ≡ own task (drop (i + 1) bs)
    = rw (ne_eqb b.task task other) refl in
    ap (λ (x : List Bar). found ++ x) (sym (at_drop_more (own task) bs i d lt ∙ on)) ∙ h

pub own_all : (task : ℕ) (bs : List Bar) (i : ℕ) (found all : List Bar) → length bs ≤ i
    → found ++ own task (drop i bs) ≡ all → found ≡ all
own_all task bs i found all past h =
    sym (append-nil found)
    ∙ (ap (λ (x : List Bar). found ++ x) (sym (at_drop_all (own task) bs i past)) ∙ h)
