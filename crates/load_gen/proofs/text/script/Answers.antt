use Rattle.std.proofs.Common.{ℕ, ◌≤◌, List, length, sym, subst}
use Rattle.load_gen.specs.Accepted.{IsAccepted}
use Rattle.load_gen.proofs.Accepted.{accepted}
use Rattle.load_gen.proofs.Lengths.{short}
use Rattle.load_gen.proofs.text.script.Goals as goal

pub returns-clause-text : goal.returns-clause-text
returns-clause-text c =
    rw (
      c.in_ok-extend_from_slice-3.ensures.items,
      c.in_ok-push_tasks.ensures,
      c.in_ok-extend_from_slice-2.ensures.items,
      c.in_ok-push_files.ensures.text,
      c.in_ok-push_files.ensures.state,
      c.in_ok-extend_from_slice.ensures.items,
      c.new-out.ensures.items,
      c.from.ensures,
    )

pub returns-clause-accepted : goal.returns-clause-accepted
returns-clause-accepted c =
    let P : List ℕ → Type 0 = λ t. IsAccepted t in
    subst P (sym (returns-clause-text c)) (accepted c.args.number)

pub returns-clause-short : goal.returns-clause-short
returns-clause-short c =
    subst (λ (t : List ℕ). length t ≤ 80000) (sym (returns-clause-text c)) (short c.args.number)
