-- One more pass has seen the list.
use Rattle.std.proofs.Common.{◌≡◌, ◌<◌, List, length, get_or, sym, ap, ◌∙◌, add-one, arith}
use Rattle.std.specs.Prelude.{slice_set}
use Rattle.grow_list.specs.Shown.{Passed}
use Rattle.inode_events.specs.declared.told.Event.{Event}
use Rattle.inode_state.specs.Value.{having_seen}
use Rattle.inode_state.proofs.Passes.{done, done_at, done_more}
use Rattle.inode_state.proofs.showing.show.Goals as goal

pub loop-k-preserved : goal.loop-k-preserved
loop-k-preserved c =
    let old = c.loop-k.invariant in
    let list : List Event = c.args.list.now.list in
    let f = having_seen list in
    let xs : List (Passed Event) = c.args.passes.now.items in
    let k = c.loop-k.k in
    let d : Passed Event = c.index_mut.result.now in
    let looked = c.look.ensures in
    let p_is : d ≡ get_or xs k d = c.index_mut.ensures.value
    ∙ ap (λ (l : List (Passed Event)). get_or l k d) old.passes
    ∙ done_at f xs k d in
    let name = looked.same_pass.0 in
    let number = looked.same_pass.1 in
    let seen = looked.seen ∙ looked.list.list ∙ old.list.list in
    let mine = looked.mine in
    let new_is : c.look.new.pass ≡ f d =
    λ i. record { name = name i; number = number i; seen = seen i; mine = mine i } in
    let below : k < length xs =
    omega (arith, c.loop-k-test.true, c.len-k-end.ensures) in
    record {
      list = record {
        name = looked.list.name ∙ old.list.name;
        callers = looked.list.callers ∙ old.list.callers;
        list = looked.list.list ∙ old.list.list;
        numbers = looked.list.numbers ∙ old.list.numbers;
      };
      passes = ap (λ (l : List (Passed Event)). slice_set l k c.look.new.pass) old.passes
          ∙ done_more f xs k c.look.new.pass d below (new_is ∙ ap f p_is)
          ∙ ap (λ n. done f n xs) (sym (add-one k));
    }
