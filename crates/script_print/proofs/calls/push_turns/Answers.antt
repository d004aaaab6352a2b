use Rattle.std.proofs.Common.{◌∷◌, sym}
use Rattle.std.specs.Prelude.{decimal}
use Rattle.std.proofs.lemmas.List.{append-nil}
use Rattle.std.proofs.lemmas.Result.{err_from_is_err_and}
use Rattle.list_lemmas.proofs.Appending.{one_more}
use Rattle.script_spelling.proofs.Pieces.{text_all}
use Rattle.script_print.proofs.calls.push_turns.Goals as goal

pub loop-turn-init : goal.loop-turn-init
loop-turn-init c = sym (append-nil c.args.out.now.items)

pub loop-turn-preserved : goal.loop-turn-preserved
loop-turn-preserved c =
    one_more c.args.out.now.items (λ t. 32 ∷ decimal t) c.args.turns.now c.loop-turn.turn-index 0
    c.loop-turn-test.true c.loop-turn.invariant (rw c.from.ensures at c.in_ok-push_number.ensures)

pub returns-in_err-push_number : goal.returns-in_err-push_number
returns-in_err-push_number c =
    let p = err_from_is_err_and c.from_residual.result c.from_residual.ensures.1 in
    rw (p.1) tt

pub returns : goal.returns
returns c =
    text_all (λ t. 32 ∷ decimal t) c.args.turns.now c.loop-turn.turn-index c.args.out.now.items
    c.loop-turn.out.items c.loop-turn-test.false c.loop-turn.invariant
