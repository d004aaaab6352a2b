use Rattle.std.proofs.Common.{◌≡◌, ◌+◌, ◌-◌, ◌<◌, ◌≤◌, ⊎_elim, ℕ, List, ◌++◌, length, take, drop, sym, ap, ◌∙◌, subst, min, arith, length-append}
use Rattle.std.specs.Prelude.{IfOk, replicate, vec_len}
use Rattle.std.proofs.lemmas.Bool.{cases_lt}
use Rattle.std.proofs.lemmas.List.{append-nil, drop_all, length-drop, length-replicate, length-take, take-append-le, take-take, take_all}
use Rattle.inode_pages.specs.Content.{overwritten}
use Rattle.inode_pages.proofs.page.overwritten.Goals as goal

-- the first bytes of the page, and zeros up to the offset
front_is : (page a b : List ℕ) (from m k : ℕ) → m ≡ min from (length page) → a ≡ take m page
    → k ≡ length a → b ≡ take from a ++ replicate (from - k) 0
    → b ≡ take from (page ++ replicate (from - length page) 0)
front_is page a b from m k cut a_is long b_is =
    ⊎_elim
    (λ (within : from < length page).
    let all : m ≡ from = omega (arith, cut, within) in
    let none : from - k ≡ 0 =
    omega (arith, long, ap length a_is, length-take m page, all, within) in
    let same : take from a ≡ take from page =
    ap (take from) (a_is ∙ ap (λ n. take n page) all) ∙ take-take from from page (omega arith) in
    b_is ∙ (λ i. same i ++ replicate (none i) 0) ∙ append-nil (take from page)
    ∙ sym (take-append-le from page (replicate (from - length page) 0) (omega (arith, within))))
    (λ (past : length page ≤ from).
    let whole : a ≡ page =
    a_is ∙ take_all m page (omega (arith, cut, past)) in
    let rest : from - k ≡ from - length page = omega (arith, long, ap length whole) in
    b_is ∙ (λ i. take from (whole i) ++ replicate (rest i) 0)
    ∙ ap (λ l. l ++ replicate (from - length page) 0) (take_all from page past)
    ∙ sym (take_all from (page ++ replicate (from - length page) 0)
    (omega (
      arith,
      length-append page (replicate (from - length page) 0),
      length-replicate {A = ℕ} (from - length page) 0,
      past,
    ))))
    (cases_lt from (length page))

-- the bytes of the page after the write
back_is : (page : List ℕ) (end n : ℕ) → n ≡ min end (length page)
    → take (length page - n) (drop n page) ≡ drop end page
back_is page end n cut =
    take_all (length page - n) (drop n page) (omega (arith, length-drop n page))
    ∙ ⊎_elim
    (λ (within : end < length page).
    let same : n ≡ end = omega (arith, cut, within) in ap (λ k. drop k page) same)
    (λ (past : length page ≤ end).
    drop_all n page (omega (arith, cut, past)) ∙ sym (drop_all end page past))
    (cases_lt end (length page))

pub returns : goal.returns
returns c =
    let page = c.args.page.now in
    let bytes = c.args.bytes.now in
    let first = c.extend_from_slice.new.self in
    let cut : c.min.result ≡ min c.args.from (length page) = omega arith in
    let end : c.min-2.result ≡ min (c.args.from + length bytes) (length page) = omega arith in
    let front = front_is page first.items c.resize.new.self.items c.args.from c.min.result
    (vec_len first) cut
    (c.in_ok-extend_from_slice.ensures.items
    ∙ ap (λ (l : List ℕ). l ++ take c.min.result page) c.in_ok-new.ensures.items)
    (omega (arith, first.ok)) c.in_ok-resize.ensures.items in
    let all : c.extend_from_slice-3.new.self.items ≡ overwritten page c.args.from bytes =
    c.in_ok-extend_from_slice-3.ensures.items
    ∙ ap (λ (l : List ℕ). l
    ++ take (length page - c.min-2.result) (drop c.min-2.result page))
    (c.in_ok-extend_from_slice-2.ensures.items ∙ ap (λ (l : List ℕ). l ++ bytes) front)
    ∙ ap (λ (l : List ℕ). take c.args.from (page ++ replicate (c.args.from - length page) 0)
    ++ bytes ++ l) (back_is page (c.args.from + length bytes) c.min-2.result end) in
    subst (λ (l : List ℕ). IfOk c.from_vec.result (λ p. p ≡ l)) all c.from_vec.ensures.bytes
