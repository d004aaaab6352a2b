-- The views after the list and a pass meet, and after an entry is added.
use Rattle.std.proofs.Common.{◌≡◌, ℕ, ◌<◌, ◌≤◌, List, [], ◌∷◌, ◌++◌, length, Option, None, Some, Bool, true, false, cond, ◌&&◌, eqb, leb, refl, sym, ap, ◌∙◌, ⊎_elim, arith, length-append, eq-eqb}
use mathlib.Core.List.{IsPrefix}
use Rattle.std.proofs.lemmas.List.Elements.{All-same}
use Rattle.std.proofs.lemmas.Bool.{cond_below, cond_above, cases_lt, le-leb, and_from}
use Rattle.grow_list.specs.declared.views.Listed.{Listed}
use Rattle.grow_list.specs.declared.views.Held.{Held}
use Rattle.grow_list.specs.Views.{longest, marks, entries_in, longer, heard, learned}
use Rattle.grow_list.specs.Steps.{Agrees, Owns}
use Rattle.grow_list.specs.Meetings.{Tallies, caught_up, grown, enlarged}
use Rattle.grow_list.proofs.Prefixes.{prefix_append, prefix_same, prefix_whole, prefix_both}
use Rattle.grow_list.proofs.Counting.{entries-same, entries-below}

module _ {X : Type 0} where
  -- the longest of a list and its prefix is the list
  longest_whole : (xs ys : List X) → IsPrefix xs ys → longest xs ys ≡ ys
  longest_whole xs ys pre =
      ⊎_elim
      (λ (short : length xs < length ys). sym (cond_below (length xs) (length ys) ys xs short))
      (λ (long : length ys ≤ length xs). sym
      (cond_above (length xs) (length ys) ys xs ys long (sym (prefix_whole xs ys pre long))))
      (cases_lt (length xs) (length ys))

  either_none : (b : Bool) (mark : Option X) → mark ≡ None → cond b None mark ≡ mark
  either_none true mark none = sym none
  either_none false mark none = refl

module _ {E : Type 0} where
  -- if nothing is pending, the list's view doesn't change
  pub heard-settled : (l : Listed E) (p : Held E) → l.pending ≡ None → heard l p ≡ l
  heard-settled l p none =
      let e = either_none (marks p.number l.pending
      && leb (length (entries_in p.number l)) (length p.mine)) l.pending none in
      λ i. record { list = l.list; numbers = l.numbers; callers = l.callers; pending = e i }

  pub tallies : (l : Listed E) (p : Held E) → l.pending ≡ None → Agrees l p → Owns p l → Tallies l p
  tallies l p none a o = record {
    seen = a.seen;
    own = own;
    placed = All-same (λ x. x.0 < length l.list) p.mine (entries_in p.number l) (sym own)
        (entries-below p.number l.numbers l.list);
    number = a.number;
    even = a.even;
  }
    where
      own : entries_in p.number l ≡ p.mine
      own = prefix_both (entries_in p.number l) p.mine (o none) (a.mine none)

  pub learned-settled : (l : Listed E) (p : Held E) → Tallies l p → learned p l ≡ caught_up p l
  learned-settled l p t =
      let seen = longest_whole p.seen l.list t.seen in
      let mine = longest_whole p.mine (entries_in p.number l)
      (prefix_same p.mine (entries_in p.number l) (sym t.own)) ∙ t.own in
      λ i. record {
        seat = p.seat;
        number = p.number;
        callers = p.callers;
        seen = seen i;
        mine =
            mine i;
      }

  entries-longer : (l : Listed E) (p : Held E) (e : E) → Tallies l p
      → entries_in p.number (longer l p.number (e ∷ [])) ≡ p.mine ++ (length l.list, e) ∷ []
  entries-longer l p e t = entries-same p.number l.numbers l.list e t.even
      ∙ ap (λ (xs : List (ℕ × E)). xs ++ (length l.list, e) ∷ []) t.own

  -- after a push, the pass takes the pending entry in
  pub learned-longer : (l : Listed E) (p : Held E) (e : E) → Tallies l p
      → learned (caught_up p l) (longer l p.number (e ∷ [])) ≡ enlarged p l e
  learned-longer l p e t =
      let seen = longest_whole l.list (l.list ++ e ∷ []) (prefix_append l.list (e ∷ [])) in
      let more = entries-longer l p e t in
      let mine = ap (longest p.mine) more ∙ longest_whole p.mine (p.mine ++ (length l.list, e) ∷ [])
      (prefix_append p.mine ((length l.list, e) ∷ [])) in
      λ i. record {
        seat = p.seat;
        number = p.number;
        callers = p.callers;
        seen = seen i;
        mine =
            mine i;
      }

  -- after a push, the pending mark is cleared
  pub heard-longer : (l : Listed E) (p : Held E) (e : E) → Tallies l p
      → heard (longer l p.number (e ∷ [])) (enlarged p l e) ≡ grown l p.number e
  heard-longer l p e t =
      let short : length (entries_in p.number (longer l p.number (e ∷ []))) ≤ length
      (p.mine ++ (length l.list, e) ∷ []) = omega (arith, ap length (entries-longer l p e t))
      in
      let test = and_from (eqb p.number p.number)
      (leb (length (entries_in p.number (longer l p.number (e ∷ []))))
      (length (p.mine ++ (length l.list, e) ∷ []))) (eq-eqb p.number p.number refl)
      (le-leb (length (entries_in p.number (longer l p.number (e ∷ []))))
      (length (p.mine ++ (length l.list, e) ∷ [])) short) in
      let mark = ap (λ (b : Bool). cond b None (Some p.number)) test in
      λ i. record {
        list = l.list ++ e ∷ [];
        numbers = l.numbers ++ p.number ∷ [];
        callers =
            l.callers;
        pending = mark i;
      }

  -- after a push, the list and the pass agree again
  pub tallies-grown : (l : Listed E) (p : Held E) (e : E) → Tallies l p
      → Tallies (grown l p.number e) (enlarged p l e)
  tallies-grown l p e t = record {
    seen = prefix_same (l.list ++ e ∷ []) (l.list ++ e ∷ []) refl;
    own = own;
    placed = All-same (λ x. x.0 < length (l.list ++ e ∷ [])) (p.mine ++ (length l.list, e) ∷ [])
        (entries_in p.number (longer l p.number (e ∷ []))) (sym own)
        (entries-below p.number (l.numbers ++ p.number ∷ []) (l.list ++ e ∷ []));
    number = t.number;
    even = (let even =
        t.even in omega (
          arith,
          length-append l.numbers (p.number ∷ []),
          length-append l.list (e ∷ []),
        ));
  }
    where
      own : entries_in p.number (longer l p.number (e ∷ [])) ≡ p.mine ++ (length l.list, e) ∷ []
      own = entries-longer l p e t
