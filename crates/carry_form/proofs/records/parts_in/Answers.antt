-- The register and the bytes after the first six are within the bytes, and the parts are theirs.
use Rattle.std.proofs.Common.{refl}
use Rattle.carry_form.proofs.Cutting.{number-read, number-within}
use Rattle.std.specs.Prelude.{option_map}
use Rattle.carry_form.specs.Reading.{parts_of}
use Rattle.carry_form.proofs.RecordLemmas.{parts_in-long, parts_in-short}
use Rattle.carry_form.proofs.records.parts_in.Goals as goal

pub slice_bounds-read_u32-count : goal.slice_bounds-read_u32-count
slice_bounds-read_u32-count c = number-within 1 4 6 c.args.bytes.now c.if-bytes-lt6.false refl

pub slice_bounds-read_u32-start : goal.slice_bounds-read_u32-start
slice_bounds-read_u32-start c = number-within 1 4 6 c.args.bytes.now c.if-bytes-lt6.false refl

pub read_u32-pcr-requires : goal.read_u32-pcr-requires
read_u32-pcr-requires c = number-read 1 4 6 c.args.bytes.now c.if-bytes-lt6.false refl

pub slice_bounds-six_then-count : goal.slice_bounds-six_then-count
slice_bounds-six_then-count c = c.if-bytes-lt6.false

pub slice_bounds-six_then-start : goal.slice_bounds-six_then-start
slice_bounds-six_then-start c = c.if-bytes-lt6.false

pub returns-then-bytes-lt6 : goal.returns-then-bytes-lt6
returns-then-bytes-lt6 c = parts_in-short c.args.bytes.now c.if-bytes-lt6.true

pub returns : goal.returns
returns c =
    parts_in-long c.args.bytes.now (option_map parts_of c.six_then.result) c.read_u32-pcr.result
    c.if-bytes-lt6.false c.read_u32-pcr.ensures c.six_then.ensures
