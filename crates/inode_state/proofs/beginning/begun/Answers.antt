-- The own pass is the first of those that the list gives, and adds the birth.
use Rattle.std.proofs.Common.{◌≡◌, suc, ◌+◌, List, [], ◌∷◌, ◌++◌, length, ap, subst, sym, ◌∙◌, arith}
use Rattle.std.specs.Prelude.{slice_get}
use Rattle.std.proofs.lemmas.List.{length-map}
use Rattle.grow_list.proofs.Others.{first_is, rest_fresh, split_first}
use Rattle.grow_list.specs.Shown.{HasEach, Passed, fresh}
use Rattle.inode_events.specs.declared.told.Event.{Event}
use Rattle.inode_state.proofs.Own.{HasOthers-rest}
use Rattle.inode_state.proofs.Passes.{HasOthers-seen, seen_at}
use Rattle.inode_state.specs.Value.{HasOthers, birth_of, having_seen}
use Rattle.inode_state.proofs.beginning.begun.Goals as goal

own_is : (c : goal.After-show) → c.remove-own.result ≡ fresh c.in_ok-journal.journal.name 0
own_is c =
    first_is c.in_ok-journal.passes.items c.remove-own.result (fresh c.in_ok-journal.journal.name 0)
    (c.in_ok-journal.ensures.passes 0 (omega arith)) c.remove-own.ensures.value

split : (c : goal.After-show) → c.in_ok-journal.passes.items ≡ c.remove-own.result ∷
    c.remove-own.new.self.items
split c =
    split_first c.in_ok-journal.passes.items c.remove-own.result (fresh
    c.in_ok-journal.journal.name 0)
    (c.in_ok-journal.ensures.passes 0 (omega arith)) (own_is c)
    ∙ ap (λ (rest : List (Passed Event)). c.remove-own.result ∷ rest) (sym
    c.remove-own.ensures.items)

-- there are as many passes as tasks, before and after they see the birth
rest : (c : goal.After-show) → length c.remove-own.new.self.items ≡ c.args.tasks
rest c =
    let longer : length c.in_ok-journal.passes.items ≡ suc (length c.remove-own.new.self.items) =
    ap length (split c) in
    let count : length c.in_ok-journal.passes.items ≡ c.args.tasks + 1 =
    c.in_ok-journal.ensures.count in
    omega (arith, longer, count)

pub returns : goal.returns
returns c =
    let own = own_is c in
    let made = c.in_ok-journal.ensures in
    let room = c.reserve.ensures.list in
    let pushed = c.push.ensures in
    let shown = c.show.ensures.list in
    let left = c.remove-own.new.self.items in
    let name : c.show.new.list.name ≡ c.in_ok-journal.journal.name =
    shown.name ∙ pushed.kept.0 ∙ room.name in
    let callers : c.show.new.list.callers ≡ c.in_ok-journal.journal.callers =
    shown.callers ∙ pushed.kept.1 ∙ room.callers in
    let empty : c.reserve.new.self.list ≡ [] = room.list ∙ made.list.0 in
    let list : c.push.new.self.list ≡ birth_of c.args.image ∷ [] = pushed.list
    ∙ (λ i. empty i ++ c.in_ok-birth.ensures i ∷ []) in
    let fresh_is = rest_fresh c.in_ok-journal.passes.items left c.remove-own.result
    c.in_ok-journal.journal.name c.push.new.self.name (c.args.tasks + 1) (split c) made.count
    (pushed.kept.0 ∙ room.name) made.passes in
    record {
      list = shown.list ∙ list;
      numbers = shown.numbers ∙ pushed.numbers
          ∙ (λ i. (room.numbers ∙ made.list.1) i ++ (own i).number ∷ []);
      callers = callers ∙ made.list.2;
      own_name = pushed.same_pass.0 ∙ ap (λ (p : Passed Event). p.name) own ∙ sym name;
      own_number = pushed.same_pass.1 ∙ ap (λ (p : Passed Event). p.number) own;
      own_mine = pushed.mine ∙ (λ i. (own i).mine ++ (
        (pushed.place ∙ ap length empty) i,
        c.in_ok-birth.ensures i,
      ) ∷ []);
      count = ap length c.show.ensures.passes
          ∙ length-map left (having_seen c.push.new.self.list) ∙ rest c;
      shown = λ k below. ap (λ (ps : List (Passed Event)). slice_get ps k) c.show.ensures.passes
          ∙ seen_at c.push.new.self.name c.show.new.list.name c.push.new.self.list
          c.show.new.list.list left k (k + 1) shown.name shown.list
          (fresh_is k (omega (arith, rest c, below)));
      others = λ j n m. subst (HasOthers j) (sym c.show.ensures.passes)
          (HasOthers-seen j c.push.new.self.list left
          (HasOthers-rest c.in_ok-journal.journal j c.remove-own.result left (n ∙ name)
          (m ∙ callers) (ap (λ (p : Passed Event). p.number) own)
          (subst (HasEach c.in_ok-journal.journal) (split c) made.each)));
    }
