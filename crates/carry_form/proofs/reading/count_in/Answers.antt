-- The tests of a header are those of the definition.
use Rattle.std.proofs.Common.{refl}
use Rattle.carry_form.proofs.Cutting.{number-read, number-within}
use Rattle.carry_form.proofs.FormLemmas.{count_in-headless, count_in-short, count_in-trailing, count_in-whole, right-long}
use Rattle.carry_form.proofs.reading.count_in.Goals as goal

pub returns-then-not-has_header : goal.returns-then-not-has_header
returns-then-not-has_header c = count_in-headless c.args.b.now c.if-not-has_header.ensures

pub slice_bounds-read_u64-count : goal.slice_bounds-read_u64-count
slice_bounds-read_u64-count c =
    number-within 16 8 24 c.args.b.now (right-long c.args.b.now c.if-not-has_header.ensures) refl

pub slice_bounds-read_u64-start : goal.slice_bounds-read_u64-start
slice_bounds-read_u64-start c =
    number-within 16 8 24 c.args.b.now (right-long c.args.b.now c.if-not-has_header.ensures) refl

pub read_u64-stated-requires : goal.read_u64-stated-requires
read_u64-stated-requires c =
    number-read 16 8 24 c.args.b.now (right-long c.args.b.now c.if-not-has_header.ensures) refl

pub returns-then-length-stated : goal.returns-then-length-stated
returns-then-length-stated c =
    count_in-short c.args.b.now c.if-not-has_header.ensures c.read_u64-stated.result
    c.read_u64-stated.ensures c.if-length-stated.true

pub returns-then-stated-length : goal.returns-then-stated-length
returns-then-stated-length c =
    count_in-trailing c.args.b.now c.if-not-has_header.ensures c.read_u64-stated.result
    c.read_u64-stated.ensures c.if-stated-length.true

pub slice_bounds-read_u64-count-2 : goal.slice_bounds-read_u64-count-2
slice_bounds-read_u64-count-2 c =
    number-within 8 8 24 c.args.b.now (right-long c.args.b.now c.if-not-has_header.ensures) refl

pub slice_bounds-read_u64-start-2 : goal.slice_bounds-read_u64-start-2
slice_bounds-read_u64-start-2 c =
    number-within 8 8 24 c.args.b.now (right-long c.args.b.now c.if-not-has_header.ensures) refl

pub read_u64-requires : goal.read_u64-requires
read_u64-requires c =
    number-read 8 8 24 c.args.b.now (right-long c.args.b.now c.if-not-has_header.ensures) refl

pub returns : goal.returns
returns c =
    count_in-whole c.args.b.now c.if-not-has_header.ensures c.read_u64-stated.result
    c.read_u64-stated.ensures c.read_u64.result c.if-length-stated.false c.if-stated-length.false
    c.read_u64.ensures
