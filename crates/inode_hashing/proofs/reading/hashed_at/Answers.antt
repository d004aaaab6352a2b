use Rattle.std.proofs.Common.{[], ◌∙◌, ap}
use Rattle.hash_algos.specs.DigestValue.{DigestValue}
use Rattle.inode_hashing.proofs.reading.hashed_at.Goals as goal

pub of-requires : goal.of-requires
of-requires c =
    ap (λ (d : DigestValue). d.algo)
    (c.finish.ensures _ (c.feed_from-count.ensures.taken [] c.new-running.ensures.empty))
    ∙ c.feed_from-count.ensures.algo ∙ c.new-running.ensures.algo
