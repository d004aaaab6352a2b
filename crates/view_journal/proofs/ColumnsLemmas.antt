-- The columns of drawn places don't overlap.
use Rattle.std.proofs.Common.{◌≡◌, ℕ, ◌+◌, ◌-◌, ◌*◌, ◌<◌, ◌≤◌, ◌==◌, Bool, true, false, cond, List, [], ◌∷◌, Option, Some, None, arith, inl, inr}
use Rattle.std.specs.Prelude.{nat_le, nat_lt}
use Rattle.std.proofs.lemmas.Bool.{cases_Bool, le-ltb, leb-false, leb-true, lt-leb, ltb-false}
use Rattle.view_journal.specs.declared.window.Window.{Window}
use Rattle.view_journal.specs.Frame.{column, column_from, widest, window_end, window_start, within}
use Rattle.view_journal.specs.Promises.{ColumnsDiffer}
use Rattle.view_journal.specs.Windows.{AreWindows}

start_by : (b : Bool) (x : ℕ) → x ≤ cond b x (x + 90)
start_by true x = omega arith
start_by false x = omega arith

-- a window begins at the end of those before it, or after a gap
abbrev left : ℕ → ℕ → Window → ℕ → ℕ
left next x w p = window_start next x w + column * (p - w.first)

-- a column that stands within the widest drawing
within_is : (x u : ℕ) → within x ≡ Some u → x ≡ u
within_is x u h =
    elim (cases_Bool (nat_lt x widest)) [
      | inl t ↦ let is : Some x ≡ Some u = rw t at h in cc is
      | inr f ↦ let no = rw f at h in absurd (cc no)
    ]

-- a column that stands in one of the other windows
going : (b : Bool) (o : Option ℕ) (u : ℕ) → cond b o None ≡ Some u → o ≡ Some u
going true o u h = h
going false o u h = absurd (cc h)

start_after : (next x : ℕ) (w : Window) → x ≤ window_start next x w
start_after next x w = start_by (w.first == next) x

-- a column stands at the end of the windows before it or after that, and its place is `next` or
-- after that
column_after : (ws : List Window) (next x p u : ℕ) → AreWindows next ws
    → column_from next x ws p ≡ Some u → (x ≤ u) × (next ≤ p)
column_after [] next x p u o h = absurd (cc h)
column_after (w ∷ ws) next x p u o h =
    elim (cases_Bool (nat_lt p w.first)) [
      | inl t ↦ let no = rw t at h in absurd (cc no)
      | inr f ↦
          let inside : w.first ≤ p = ltb-false p w.first f in
          let on = rw f at h in
          elim (cases_Bool (nat_le p w.last)) [
            | inl t ↦
                let is : left next x w p ≡ u = within_is (left next x w p) u (rw t at on) in
                (omega (arith, is, start_after next x w), omega (arith, inside, o.0))
            | inr g ↦
                let there : column_from (w.last + 1) (window_end next x w) ws p ≡ Some u
                = going (nat_lt (window_end next x w) widest)
                (column_from (w.last + 1) (window_end next x w) ws p) u (rw g at on) in
                let rest = column_after ws (w.last + 1) (window_end next x w) p u
                o.2 there in
                (omega (arith, rest.0, start_after next x w), omega (arith, inside, o.0))
          ]
    ]

differ : (ws : List Window) (next x p q u v : ℕ) → AreWindows next ws → p < q
    → column_from next x ws p ≡ Some u → column_from next x ws q ≡ Some v → u + column ≤ v
differ [] next x p q u v o lt h k = absurd (cc h)
differ (w ∷ ws) next x p q u v o lt h k =
    elim (cases_Bool (nat_lt p w.first)) [
      | inl t ↦ let no = rw t at h in absurd (cc no)
      | inr f ↦
          let inside : w.first ≤ p = ltb-false p w.first f in
          let after : nat_lt q w.first ≡ false
          = le-ltb q w.first (omega (arith, inside, lt)) in
          let on = rw f at h in
          let on_q = rw after at k in
          elim (cases_Bool (nat_le p w.last)) [
            | inl t ↦
                let is : left next x w p ≡ u = within_is (left next x w p) u (rw t at on) in
                let last : p ≤ w.last = leb-true p w.last t in
                elim (cases_Bool (nat_le q w.last)) [
                  | inl s ↦
                      let is_q : left next x w q ≡ v
                      = within_is (left next x w q) v (rw s at on_q) in
                      omega (arith, is, is_q, lt, inside)
                  | inr g ↦
                      let there : column_from (w.last + 1) (window_end next x w) ws q
                      ≡ Some v
                      = going (nat_lt (window_end next x w) widest)
                      (column_from (w.last + 1) (window_end next x w) ws q) v
                      (rw g at on_q) in
                      let rest = column_after ws (w.last + 1) (window_end next x w) q v
                      o.2 there in
                      omega (arith, is, rest.0, last, inside)
                ]
            | inr g ↦
                let past : nat_le q w.last ≡ false
                = lt-leb q w.last (omega (arith, leb-false p w.last g, lt)) in
                differ ws (w.last + 1) (window_end next x w) p q u v o.2 lt
                (going (nat_lt (window_end next x w) widest)
                (column_from (w.last + 1) (window_end next x w) ws p) u (rw g at on))
                (going (nat_lt (window_end next x w) widest)
                (column_from (w.last + 1) (window_end next x w) ws q) v (rw past at on_q))
          ]
    ]

pub columns_differ : ColumnsDiffer
columns_differ ws p q x y o lt h k = differ ws 0 96 p q x y o lt h k
