-- The numbers of a header are within the bytes, and its tests are those of the definition.
use Rattle.std.proofs.Common.{refl}
use Rattle.carry_form.proofs.Cutting.{number-read, number-within}
use Rattle.carry_form.proofs.FormLemmas.{headed-count, headless-short, headless-unmarked, headless-version}
use Rattle.carry_form.proofs.reading.has_header.Goals as goal

pub slice_bounds-read_u32-count : goal.slice_bounds-read_u32-count
slice_bounds-read_u32-count c = number-within 4 4 24 c.args.b.now c.if-b-lt-HEADER_LENGTH.false refl

pub slice_bounds-read_u32-start : goal.slice_bounds-read_u32-start
slice_bounds-read_u32-start c = number-within 4 4 24 c.args.b.now c.if-b-lt-HEADER_LENGTH.false refl

pub read_u32-requires : goal.read_u32-requires
read_u32-requires c = number-read 4 4 24 c.args.b.now c.if-b-lt-HEADER_LENGTH.false refl

pub slice_bounds-read_u64-count : goal.slice_bounds-read_u64-count
slice_bounds-read_u64-count c = number-within 8 8 24 c.args.b.now c.if-b-lt-HEADER_LENGTH.false refl

pub slice_bounds-read_u64-start : goal.slice_bounds-read_u64-start
slice_bounds-read_u64-start c = number-within 8 8 24 c.args.b.now c.if-b-lt-HEADER_LENGTH.false refl

pub read_u64-requires : goal.read_u64-requires
read_u64-requires c = number-read 8 8 24 c.args.b.now c.if-b-lt-HEADER_LENGTH.false refl

pub returns-then-b-lt-HEADER_LENGTH : goal.returns-then-b-lt-HEADER_LENGTH
returns-then-b-lt-HEADER_LENGTH c = headless-short c.args.b.now c.if-b-lt-HEADER_LENGTH.true

pub returns-then-ne : goal.returns-then-ne
returns-then-ne c =
    headless-unmarked c.args.b.now c.as_slice.result.now c.as_slice.ensures c.if-ne.ensures

pub returns-then-read_u32-eq-VERSION : goal.returns-then-read_u32-eq-VERSION
returns-then-read_u32-eq-VERSION c =
    headed-count c.args.b.now c.as_slice.result.now c.as_slice.ensures
    c.if-b-lt-HEADER_LENGTH.false c.if-ne.ensures c.read_u32.result c.read_u32.ensures
    c.read_u64.result c.if-read_u32-eq-VERSION.true c.read_u64.ensures

pub returns-else-read_u32-eq-VERSION : goal.returns-else-read_u32-eq-VERSION
returns-else-read_u32-eq-VERSION c =
    headless-version c.args.b.now c.as_slice.result.now c.as_slice.ensures
    c.if-b-lt-HEADER_LENGTH.false c.if-ne.ensures c.read_u32.result c.read_u32.ensures
    c.if-read_u32-eq-VERSION.false
