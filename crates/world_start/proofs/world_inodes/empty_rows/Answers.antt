use Rattle.std.proofs.Common.{◌≡◌, [], ◌∷◌, List, length, sym, ap, ◌∙◌, subst, arith, length-append}
use Rattle.std.specs.Prelude.{All}
use Rattle.std.proofs.lemmas.List.Elements.{All-append, All-cons, All-nil}
use Rattle.grow_list.specs.Shown.{Passed}
use Rattle.inode_events.specs.declared.told.Event.{Event}
use Rattle.world_start.proofs.world_inodes.empty_rows.Goals as goal

pub loop-preserved : goal.loop-preserved
loop-preserved c =
    let IsEmpty : List (Passed Event) → Type 0 = λ row. row ≡ [] in
    let rows = c.loop.rows.items in
    let row = c.new-in-loop.result in
    let pushed = c.in_ok-push.ensures.items in
    record {
      count = omega (
        arith,
        c.loop.invariant.count,
        ap length pushed,
        length-append rows (row ∷ []),
      );
      empty = subst (λ (l : List (List (Passed Event))). All IsEmpty l) (sym pushed)
          (All-append IsEmpty rows (row ∷ []) c.loop.invariant.empty
          (All-cons IsEmpty row [] (c.new-in-loop.ensures ∙ c.new.ensures.items)
          (All-nil IsEmpty)));
    }
