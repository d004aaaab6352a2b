-- Each kind of step keeps the rule, for a view given by the list and the pass that it knows.
use Rattle.std.proofs.Common.{◌≡◌, ℕ, ◌+◌, ◌<◌, List, [], ◌∷◌, length, None, eqb, sym, subst}
use prog.Atomic.{either}
use Rattle.atomic_table.specs.Table.{Me, Allows, Joins}
use Rattle.grow_list.specs.declared.views.Listed.{Listed}
use Rattle.grow_list.specs.declared.views.Held.{Held}
use Rattle.grow_list.specs.declared.views.SeatView.{SeatView}
use Rattle.grow_list.specs.declared.views.SeatView.TheVariants.{Spent, OfList, OfPass, ListBeside, PassBeside}
use Rattle.grow_list.specs.Views.{newcomer, listed, held, met, longer, heard, learned}
use Rattle.grow_list.specs.Rule.{HasStory}
use Rattle.grow_list.specs.Steps.{Agrees, Owns, IsComplete}
use Rattle.grow_list.proofs.Copies.{comes, visits}
use Rattle.grow_list.proofs.Loads.{hears, learns, closes}
use Rattle.grow_list.proofs.Writes.{adds, draws}

module _ {E : Type 0} where
  pub hears_as : (k slots id : ℕ) (me : Me (Unit {0}) (SeatView E)) → id ≡ 0 → me.0
      ≡ ListBeside (listed me.0) (held me.0)
      → Allows (HasStory k) slots id me 0 (λ n. n)
      (λ n w. (w ≡ (OfList (heard (listed me.0) (held me.0)), me.1))
      × Agrees (listed me.0) (held me.0))
  hears_as k slots id me first is =
      subst (λ (x : ℕ × SeatView E). Allows (HasStory k) slots x.0 (x.1, me.1) 0 (λ n. n)
      (λ n w. (w ≡ (OfList (heard (listed me.0) (held me.0)), me.1))
      × Agrees (listed me.0) (held me.0)))
      (λ i. (sym first i, sym is i))
      (hears k slots (listed me.0) (held me.0) me.1)

  pub learns_as : (k slots id : ℕ) (me : Me (Unit {0}) (SeatView E)) → id ≡ (held me.0).seat → me.0
      ≡ PassBeside (held me.0) (listed me.0)
      → Allows (HasStory k) slots id me 0 (λ n. n)
      (λ n w. (w ≡ (OfPass (learned (held me.0) (listed me.0)), me.1))
      × Owns (held me.0) (listed me.0))
  learns_as k slots id me own is =
      subst (λ (v : SeatView E). Allows (HasStory k) slots id (v, me.1) 0 (λ n. n)
      (λ n w. (w ≡ (OfPass (learned (held me.0) (listed me.0)), me.1))
      × Owns (held me.0) (listed me.0)))
      (sym is)
      (learns k slots id (held me.0) (listed me.0) me.1 own)

  pub adds_as : (k slots id : ℕ) (me : Me (Unit {0}) (SeatView E)) (e : E) (entry : List E)
      (new : ℕ) → id ≡ 0 → me.0 ≡ ListBeside (listed me.0) (held me.0) → entry ≡ e ∷ []
      → (listed me.0).pending ≡ None → new ≡ length (listed me.0).list + 1
      → Allows (HasStory k) slots id me 0 (λ _. new)
      (λ _ w. w ≡ (OfList (longer (listed me.0) (held me.0).number entry), me.1))
  adds_as k slots id me e entry new first is same none due =
      subst (λ (x : ℕ × SeatView E × List E). Allows (HasStory k) slots x.0 (x.1, me.1) 0 (λ _. new)
      (λ _ w. w ≡ (OfList (longer (listed me.0) (held me.0).number x.2), me.1)))
      (λ i. (sym first i, sym is i, sym same i))
      (adds k slots (listed me.0) (held me.0) e me.1 new none due)

  pub draws_as : (k slots id seat : ℕ) (me : Me (Unit {0}) (SeatView E)) (due new : ℕ) → seat ≡ id
      → me.0 ≡ OfList (listed me.0) → new ≡ due + 1 → due < (listed me.0).callers
      → Allows (HasStory k) slots id me 1 (λ n. either (eqb n due) new n) (λ n w. n ≡ due → w
      ≡ (OfPass (newcomer seat due (listed me.0).callers), me.1))
  draws_as k slots id seat me due new own is next within =
      subst (λ (x : ℕ × SeatView E). Allows (HasStory k) slots id (x.1, me.1) 1
      (λ n. either (eqb n due) new n) (λ n w. n ≡ due → w
      ≡ (OfPass (newcomer x.0 due (listed me.0).callers), me.1)))
      (λ i. (sym own i, sym is i))
      (draws k slots id (listed me.0) me.1 due new next within)

  pub closes_as : (k slots id : ℕ) (me : Me (Unit {0}) (SeatView E)) → id ≡ 0 → me.0
      ≡ OfList (listed me.0)
      → Allows (HasStory k) slots id me 0 (λ n. n) (λ n w. (w ≡ me) × IsComplete (listed me.0))
  closes_as k slots id me first is =
      subst (λ (x : ℕ × SeatView E). Allows (HasStory k) slots x.0 (x.1, me.1) 0 (λ n. n)
      (λ n w. (w ≡ (x.1, me.1)) × IsComplete (listed me.0)))
      (λ i. (sym first i, sym is i))
      (closes k slots (listed me.0) me.1)

  pub comes_as : (k seat : ℕ) (v : SeatView E) (other : ℕ) (w : SeatView E) (l : Listed E)
      (p : Held E)
      → v ≡ OfList l → w ≡ OfPass p
      → Joins {S = Unit {0}} (HasStory k) seat v other w (met v w) Spent
  comes_as k seat v other w l p list pass =
      subst (λ (x : SeatView E × SeatView E). Joins {S = Unit {0}} (HasStory k) seat x.0 other x.1
      (met x.0 x.1) Spent) (λ i. (sym list i, sym pass i)) (comes k seat l other p)

  pub visits_as : (k seat : ℕ) (v : SeatView E) (other : ℕ) (w : SeatView E) (p : Held E)
      (l : Listed E)
      → v ≡ OfPass p → w ≡ OfList l
      → Joins {S = Unit {0}} (HasStory k) seat v other w (met v w) Spent
  visits_as k seat v other w p l pass list =
      subst (λ (x : SeatView E × SeatView E). Joins {S = Unit {0}} (HasStory k) seat x.0 other x.1
      (met x.0 x.1) Spent) (λ i. (sym pass i, sym list i)) (visits k seat p other l)
