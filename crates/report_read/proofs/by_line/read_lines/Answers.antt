use Rattle.std.proofs.Common.{arith}
use Rattle.report_read.proofs.Reading.{cut_length, goes_on, stops}
use Rattle.report_read.proofs.by_line.read_lines.Goals as goal

pub with_line-requires : goal.with_line-requires
with_line-requires c =
    omega (
      arith,
      cut_length 10 c.loop-line.rest.now c.in-Some.line.now c.in-Some.after.now
          c.in-Some.ensures.value,
    )

pub returns-in-Err : goal.returns-in-Err
returns-in-Err c =
    rw c.at.ensures
    (stops c.loop-line.offset c.loop-line.number c.loop-line.draft c.in-Some.line.now
    c.in-Some.after.now c.loop-line.rest.now _ c.in-Some.ensures.parts
    c.loop-line.invariant.so_far c.in-Err.err c.in-Err.ensures)

pub loop-line-preserved : goal.loop-line-preserved
loop-line-preserved c = record {
  so_far = goes_on c.loop-line.offset c.loop-line.number c.loop-line.draft c.in-Some.line.now
      c.in-Some.after.now c.loop-line.rest.now _ c.in-Some.ensures.parts
      c.loop-line.invariant.so_far c.with_line.new.draft c.in-Ok.ensures;
  place = omega (
    arith,
    cut_length 10 c.loop-line.rest.now c.in-Some.line.now
        c.in-Some.after.now c.in-Some.ensures.value,
  );
  few = omega (arith, c.in-Some.ensures.shorter);
}
