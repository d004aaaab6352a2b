-- Filling the buffer of a read, part by part.
use Rattle.std.proofs.Common.{◌≡◌, ℕ, ◌+◌, ◌≤◌, List, ◌++◌, length, take, drop, sym, ap, ◌∙◌, arith, length-append}
use Rattle.std.proofs.Math.Seq.{take-add}
use Rattle.std.proofs.lemmas.List.{drop-drop, length-take, take-take, take_at, drop_at}
use Rattle.inode_pages.specs.Content.{bytes_at}

-- n bytes at an offset, followed by the next m bytes
bytes_at-add : (content : List ℕ) (from n m : ℕ) → bytes_at content from (n + m)
    ≡ bytes_at content from n ++ bytes_at content (from + n) m
bytes_at-add content from n m = take-add n m (drop from content)
    ∙ ap (λ l. take n (drop from content) ++ take m l) (drop-drop n from content)

-- after `done` bytes were read and the next part was copied after them, `done + count` bytes are
-- read
pub read_on : (content old buf new part : List ℕ) (from done count room : ℕ) → buf
    ≡ bytes_at content from done ++ drop done old → length (bytes_at content from done) ≡ done
    → part ≡ bytes_at content (from + done) room → count ≤ length part → new ≡ take done buf
    ++ take count part ++ drop (done + count) buf
    → (new ≡ bytes_at content from (done + count) ++ drop (done + count) old)
    × (length (bytes_at content from (done + count)) ≡ done + count)
read_on content old buf new part from done count room buf_is whole part_is fits new_is =
    let more : take count part ≡ bytes_at content (from + done) count =
    ap (take count) part_is
    ∙ take-take count room (drop (from + done) content)
    (omega (arith, ap length part_is, length-take room (drop (from + done) content))) in
    let front : take done buf ≡ bytes_at content from done = ap (take done) buf_is
    ∙ take_at (bytes_at content from done) (drop done old) done whole in
    let back : drop (done + count) buf ≡ drop (done + count) old =
    sym (drop-drop count done buf)
    ∙ ap (drop count) (ap (drop done) buf_is
    ∙ drop_at (bytes_at content from done) (drop done old) done whole) ∙ drop-drop count done old
    in
    let both = bytes_at-add content from done count in (
      new_is ∙ (λ i. front i ++ more i ++ back i)
          ∙ ap (λ l. l ++ drop (done + count) old) (sym both),
      omega (
        arith,
        whole,
        ap length both,
        length-append (bytes_at content from done) (bytes_at content (from + done) count),
        ap length more,
        length-take count part,
      ),
    )
