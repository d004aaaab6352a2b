-- The fields after a call, by those before it.
use Rattle.std.proofs.Common.{◌≡◌, ◌-◌, ◌++◌, length, take, ap, ◌∙◌, arith}
use Rattle.std.specs.Prelude.{min}
use Rattle.ima_io.specs.Counts.{counted_on}
use Rattle.ima_io.specs.Memory.{Store}
use Rattle.ima_io.proofs.memory.sink.MemSinkSink.write.Goals as goal

pub returns-clause-bytes : goal.returns-clause-bytes
returns-clause-bytes c =
    c.in-Ok.ensures.items
    ∙ ap (λ (s : Store). s.taken ++ take c.min-n.result c.args.piece.now) c.self.view_is

pub returns-clause-took : goal.returns-clause-took
returns-clause-took c =
    let most = c.min.ensures
    ∙ ap (λ (s : Store). min (length c.args.piece.now) s.piece) c.self.view_is in
    let left : c.self.inside.room - c.len.result
    ≡ c.self.inside.room - length c.self.inside.taken.items = omega arith in
    let room = left ∙ ap (λ (s : Store). s.room - length s.taken) c.self.view_is in
    c.min-n.ensures ∙ (λ i. min (most i) (room i))

pub returns-clause-after : goal.returns-clause-after
returns-clause-after c =
    let call = c.saturating_add-self-inside.ensures
    ∙ ap (λ (s : Store). counted_on s.call) c.self.view_is in
    λ i. record {
      taken = c.extend_from_slice.new.self.items;
      room = (c.self.view_is i).room;
      piece = (c.self.view_is i).piece;
      fails = (c.self.view_is i).fails;
      call = call i;
      faults = (c.self.view_is i).faults;
    }

pub returns-then-fails-clause-after : goal.returns-then-fails-clause-after
returns-then-fails-clause-after c =
    let call = c.saturating_add-self-inside.ensures
    ∙ ap (λ (s : Store). counted_on s.call) c.self.view_is in
    let faults = c.saturating_add-self-inside-then-fails.ensures
    ∙ ap (λ (s : Store). counted_on s.faults) c.self.view_is in
    λ i. record {
      taken = c.self.inside.taken.items;
      room = (c.self.view_is i).room;
      piece = (c.self.view_is i).piece;
      fails = (c.self.view_is i).fails;
      call = call i;
      faults = faults i;
    }
