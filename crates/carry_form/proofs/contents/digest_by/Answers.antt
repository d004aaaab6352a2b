-- A digest is made of bytes exactly if they are as many as those of the algorithm's digests.
use Rattle.carry_form.proofs.ContentLemmas.{digest_by-is}
use Rattle.carry_form.proofs.contents.digest_by.Goals as goal

pub returns : goal.returns
returns c =
    digest_by-is c.from_slice.result c.args.algo c.args.bytes.now c.from_slice.ensures.fits
    c.from_slice.ensures.value
