use Rattle.std.proofs.Common.{◌≡◌, ℕ, ◌+◌, ◌++◌, List, take, arith, ap, sym, subst, ◌∙◌, append_assoc}
use Rattle.std.proofs.lemmas.List.{length-take}
use Rattle.hash_algos.specs.Running.{HasTaken}
use Rattle.inode_pages.specs.Content.{bytes_at}
use Rattle.inode_hashing.proofs.ReadLemmas.{bytes_at-add, part_filled}
use Rattle.inode_hashing.proofs.reading.feed_from.Goals as goal

pub loop-done-preserved : goal.loop-done-preserved
loop-done-preserved c =
    let old = c.loop-done.invariant in
    let content = c.args.content.now in
    let from = c.args.from in
    let done = c.loop-done.done in
    let room = c.min-room.result in
    let filled : c.read-read.new.buf ≡ bytes_at content (from + done) room =
    part_filled content (take room c.loop-done.page) c.read-read.new.buf (from + done) room
    c.read-read.result
    (omega (arith, length-take room c.loop-done.page, c.min-room.array_long))
    c.read-read.ensures.bytes c.read-read.ensures.count (omega arith) in
    let next : bytes_at content from done ++ c.read-read.new.buf
    ≡ bytes_at content from (done + room) =
    ap (λ (b : List ℕ). bytes_at content from done ++ b) filled
    ∙ sym (bytes_at-add content from done room) in
    record {
      within = omega arith;
      algo = c.feed.ensures.algo ∙ old.algo;
      taken = λ m h. subst (HasTaken c.feed.new.self)
          (append_assoc m (bytes_at content from done) c.read-read.new.buf
          ∙ ap (λ (b : List ℕ). m ++ b) next)
          (c.feed.ensures.taken (m ++ bytes_at content from done) (old.taken m h));
    }
