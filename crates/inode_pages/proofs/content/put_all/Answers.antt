use Rattle.std.proofs.Common.{◌≡◌, ◌+◌, ℕ, List, [], ◌∷◌, ◌++◌, length, take, drop, sym, ap, ◌∙◌, arith, append_assoc, length-append}
use Rattle.std.proofs.lemmas.List.{append-nil, drop-drop, drop_at, length-take, nil_from_length, take_at}
use Rattle.inode_pages.proofs.content.put_all.Goals as goal

-- one more item put in after a front of k items
put_next : {X : Type 0} (old front items new : List X) (k : ℕ) (x : X)
    → items ≡ front ++ drop k old → length front ≡ k
    → new ≡ take k items ++ x ∷ drop (k + 1) items
    → new ≡ front ++ x ∷ drop (k + 1) old
put_next old front items new k x is long new_is =
    new_is
    ∙ (λ i. (ap (take k) is ∙ take_at front (drop k old) k long) i
    ++ x ∷ (sym (drop-drop 1 k items) ∙ ap (drop 1) (ap (drop k) is
    ∙ drop_at front (drop k old) k long) ∙ drop-drop 1 k old) i)

pub loop-page-preserved : goal.loop-page-preserved
loop-page-preserved c =
    let old = c.args.pages.now.items in
    let front = take c.args.first old in
    let yielded = c.loop-page.yielded in
    let step = c.in-Some.ensures.steps in
    record {
      split = c.loop-page.invariant.split ∙ ap (λ l. yielded ++ l) step.0
          ∙ sym (append_assoc yielded (c.in-Some.page ∷ []) c.next.new.self.rest.items);
      place = omega (
        arith,
        c.loop-page.invariant.place,
        length-append yielded (c.in-Some.page ∷ []),
      );
      items = put_next old (front ++ yielded) c.loop-page.pages.items c.put.new.pages.items
          c.loop-page.k c.in-Some.page c.loop-page.invariant.items
          (omega (
            arith,
            c.loop-page.invariant.place,
            length-append front yielded,
            length-take c.args.first old,
            c.requires.place,
          ))
          c.put.ensures.items
          ∙ simp append_assoc;
      room = c.put.ensures.room ∙ c.loop-page.invariant.room;
    }

pub returns : goal.returns
returns c =
    let old = c.args.pages.now.items in
    let yielded = c.loop-page.yielded in
    let rest = c.loop-page.page-iterator.rest in
    let all : c.args.new.items ≡ yielded = c.loop-page.invariant.split
    ∙ ap (λ l. yielded ++ l) (nil_from_length rest.items
    (omega (arith, rest.ok, c.in-None.ensures.steps.0)))
    ∙ append-nil yielded in
    let end : c.loop-page.k ≡ c.args.first + length c.args.new.items =
    omega (arith, c.loop-page.invariant.place, ap length all) in
    c.loop-page.invariant.items
    ∙ (λ i. take c.args.first old ++ sym all i ++ drop (end i) old)
