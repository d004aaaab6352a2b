-- The stored digests are the template digests of the fields.
use Rattle.std.proofs.Common.{◌∙◌}
use Rattle.hash_algos.specs.Hash.{hash}
use Rattle.hash_algos.specs.declared.algo.Algo.TheVariants.{Sha1, Sha256}
use Rattle.ima_templates.specs.Data.{data_by, template_data}
use Rattle.ima_templates.proofs.entry.Entry.of_fields.Goals as goal

pub invariant_of-result : goal.invariant_of-result
unfolding template_data
invariant_of-result c = record {
  entry = c.requires;
  sha1 = c.in_ok-sha1.ensures.sha1
      ∙ (λ i. hash Sha1 (data_by c.args.template c.args.digest (c.as_slice.ensures.bytes i)
      (c.as_slice-2.ensures.bytes i)));
  sha256 = c.in_ok-sha1.ensures.sha256
      ∙ (λ i. hash Sha256 (data_by c.args.template c.args.digest (c.as_slice.ensures.bytes i)
      (c.as_slice-2.ensures.bytes i)));
}
