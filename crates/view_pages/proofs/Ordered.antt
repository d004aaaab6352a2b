-- Each inode stands once in the order in which a page shows them.
use Rattle.std.proofs.Common.{◌≡◌, ℕ, ◌+◌, ◌==◌, ◌<◌, ◌≤◌, Bool, true, false, cond, List, [], ◌∷◌, ◌++◌, length, refl, ap, arith, inl, inr}
use Rattle.std.specs.Prelude.{◌&&◌, count_by, not}
use Rattle.std.proofs.lemmas.Bool.{cases_Bool, eqb-false, eqb-true}
use Rattle.std.proofs.lemmas.List.Sums.{sum_by-append, sum_by-cons}
use Rattle.view_page.specs.journals.reading.Report.{InodeValue}
use Rattle.view_plan.specs.Order.{graded, has, is_graded, order}
use Rattle.view_plan.specs.declared.order.Grade.TheVariants as grade

-- how often a number stands in a list
abbrev times : ℕ → List ℕ → ℕ
times n ns = count_by (λ m. m == n) ns

-- one or nothing
abbrev one : Bool → ℕ
one b = cond b 1 0

number_more : (n k : ℕ) (b : Bool) (ns : List ℕ)
    → times n (cond b (k ∷ ns) ns) ≡ cond b (one (k == n)) 0 + times n ns
number_more n k true ns = sum_by-cons (λ (m : ℕ). cond (m == n) 1 0) k ns
number_more n k false ns = omega arith

-- an inode has one grade
one_grade : (v m : Bool) (x : ℕ)
    → cond v x 0 + (cond (not v && m) x 0 + cond (not v && not m) x 0) ≡ x
one_grade true true x = omega arith
one_grade true false x = omega arith
one_grade false true x = omega arith
one_grade false false x = omega arith

-- how often a number stands among those of all grades
abbrev total : ℕ → ℕ → List InodeValue → ℕ
total n k is =
    times n (graded grade.Violated k is)
    + (times n (graded grade.Marked k is) + times n (graded grade.Plain k is))

total_more : (n k : ℕ) (i : InodeValue) (is : List InodeValue)
    → total n k (i ∷ is) ≡ one (k == n) + total n (k + 1) is
total_more n k i is =
    let v =
    number_more n k (is_graded grade.Violated i.events) (graded grade.Violated (k + 1) is) in
    let m = number_more n k (is_graded grade.Marked i.events) (graded grade.Marked (k + 1) is) in
    let p = number_more n k (is_graded grade.Plain i.events) (graded grade.Plain (k + 1) is) in
    let one_of =
    one_grade (has grade.Violated i.events) (has grade.Marked i.events) (one (k == n)) in
    omega (arith, v, m, p, one_of)

total_none : (n k : ℕ) (is : List InodeValue) → n < k → total n k is ≡ 0
total_none n k [] below = refl
total_none n k (i ∷ is) below =
    elim (cases_Bool (k == n)) [
      | inl t ↦ omega (arith, below, eqb-true k n t)
      | inr f ↦ omega (
        arith,
        total_none n (k + 1) is (omega (arith, below)),
        total_more n k i is,
        ap one f,
      )
    ]

total_one : (n k : ℕ) (is : List InodeValue) → k ≤ n → n < k + length is → total n k is ≡ 1
total_one n k [] from within = omega (arith, from, within)
total_one n k (i ∷ is) from within =
    elim (cases_Bool (k == n)) [
      | inl t ↦
          let same : k ≡ n = eqb-true k n t in
          omega (
            arith,
            total_none n (k + 1) is (omega (arith, same)),
            total_more n k i is,
            ap one t,
          )
      | inr f ↦
          let more : k + 1 ≤ n = omega (arith, from, eqb-false k n f) in
          let few : n < k + 1 + length is = omega (arith, within) in
          omega (arith, total_one n (k + 1) is more few, total_more n k i is, ap one f)
    ]

pub is_ordered : (inodes : List InodeValue) (n : ℕ) → n < length inodes
    → times n (order inodes) ≡ 1
is_ordered inodes n within =
    let first = sum_by-append (λ (m : ℕ). cond (m == n) 1 0) (graded grade.Violated 0 inodes)
    (graded grade.Marked 0 inodes ++ graded grade.Plain 0 inodes) in
    let second = sum_by-append (λ (m : ℕ). cond (m == n) 1 0) (graded grade.Marked 0 inodes)
    (graded grade.Plain 0 inodes) in
    omega (arith, first, second, total_one n 0 inodes (omega arith) (omega (arith, within)))
