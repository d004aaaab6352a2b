use Rattle.std.proofs.Common.{◌≡◌, ◌+◌, ◌-◌, ◌≤◌, length, take, drop, ap, sym, ◌∙◌, arith, length-append, length-drop, take-append-drop, drop_of_length-le}
use Rattle.std.proofs.lemmas.List.{take_rest}
use Rattle.std.specs.Prelude.{min}
use Rattle.ima_io.specs.Counts.{counted_on}
use Rattle.ima_io.specs.Memory.{Feed, fails_at}
use Rattle.ima_io.proofs.Parts.{front_given}
use Rattle.ima_io.proofs.memory.source.MemSourceSource.read.Goals as goal

pub returns-clause-bytes : goal.returns-clause-bytes
returns-clause-bytes c =
    let fields = c.self.inside in
    let bytes = c.deref-2.ensures.value in
    let n = c.min-n.result in
    let buf = c.args.buf.now in
    let rest : take (length c.deref-2.result.now - fields.given)
    (drop fields.given c.deref-2.result.now) ≡ drop fields.given fields.bytes.items
    = take_rest c.deref-2.result.now fields.given ∙ ap (drop fields.given) bytes in
    let fits : n ≤ length (drop fields.given fields.bytes.items) = omega (
      arith,
      c.min-n.ensures,
      ap length rest,
    ) in
    let room = length-append c.copy_from_slice.new.self (drop n buf) in
    let whole = ap length (take-append-drop n buf) in
    let parts = length-append (take n buf) (drop n buf) in (
      sym (ap (λ (seen : Feed). seen.left) c.self.view_is)
          ∙ front_given fields.bytes.items buf c.copy_from_slice.new.self fields.given n
          (c.copy_from_slice.ensures.after ∙ ap (take n) rest) fits,
      λ none some. drop_of_length-le fields.bytes.items
          (omega (
            arith,
            none,
            some,
            room,
            whole,
            parts,
            c.copy_from_slice.ensures.len,
            c.min-n.ensures,
            c.min.ensures,
            ap length rest,
            length-drop fields.given fields.bytes.items,
            c.self.invariant.1,
          )),
    )

pub returns-clause-failed : goal.returns-clause-failed
returns-clause-failed c =
    let fails = c.deref.ensures.value ∙ ap (λ (s : Feed). s.fails) c.self.view_is in
    sym c.if-fails.false ∙ c.contains-fails.ensures.value
    ∙ (λ i. fails_at (fails i) (c.self.view_is i).call)

pub returns-then-fails-clause-failed : goal.returns-then-fails-clause-failed
returns-then-fails-clause-failed c =
    let fails = c.deref.ensures.value ∙ ap (λ (s : Feed). s.fails) c.self.view_is in
    sym c.if-fails.true ∙ c.contains-fails.ensures.value
    ∙ (λ i. fails_at (fails i) (c.self.view_is i).call)

pub returns-clause-given : goal.returns-clause-given
returns-clause-given c =
    let most = c.min.ensures
    ∙ ap (λ (s : Feed). min (length c.args.buf.now) s.piece) c.self.view_is in
    let left = take_rest c.deref-2.result.now c.self.inside.given
    ∙ ap (drop c.self.inside.given) c.deref-2.ensures.value
    ∙ ap (λ (s : Feed). s.left) c.self.view_is in
    c.min-n.ensures ∙ (λ i. min (most i) (length (left i)))

pub returns-clause-after : goal.returns-clause-after
returns-clause-after c =
    let call = c.saturating_add-self-inside.ensures
    ∙ ap (λ (s : Feed). counted_on s.call) c.self.view_is in
    λ i. record {
      left = drop (c.self.inside.given + c.min-n.result) c.self.inside.bytes.items;
      piece = (c.self.view_is i).piece;
      fails = (c.self.view_is i).fails;
      call = call i;
      faults = (c.self.view_is i).faults;
    }

pub returns-then-fails-clause-after : goal.returns-then-fails-clause-after
returns-then-fails-clause-after c =
    let call = c.saturating_add-self-inside.ensures
    ∙ ap (λ (s : Feed). counted_on s.call) c.self.view_is in
    let faults = c.saturating_add-self-inside-then-fails.ensures
    ∙ ap (λ (s : Feed). counted_on s.faults) c.self.view_is in
    λ i. record {
      left = drop c.self.inside.given c.self.inside.bytes.items;
      piece = (c.self.view_is i).piece;
      fails = (c.self.view_is i).fails;
      call = call i;
      faults = faults i;
    }
