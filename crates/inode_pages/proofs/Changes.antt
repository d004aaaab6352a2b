-- The pages of a content after a change.
use Rattle.std.proofs.Common.{◌≡◌, ℕ, ◌+◌, ◌-◌, ◌*◌, ◌/◌, ◌%◌, ◌<◌, ◌≤◌, ⊎_elim, List, [], ◌∷◌, ◌++◌, length, take, drop, Some, sym, ap, ◌∙◌, subst, min, max, arith, length-append}
use Rattle.std.specs.Prelude.{slice_get}
use Rattle.std.proofs.lemmas.Grind.{div_ceil_times}
use Rattle.std.specs.Int.{div_ceil}
use Rattle.std.specs.List.{concat}
use Rattle.std.proofs.Math.ListN.{set}
use Rattle.std.proofs.lemmas.Bool.{cases_lt}
use Rattle.std.proofs.lemmas.List.{drop-take, length-drop, length-take, take-take, take_all, take_more_set}
use Rattle.inode_pages.specs.Content.{bytes_at, overwritten, piece_at, most_bytes}
use Rattle.inode_pages.specs.Pages.{ArePagesOf, IsPaged}
use Rattle.inode_pages.proofs.Lookups.{get-append_left, get-append_right, get-drop, get-take}
use Rattle.inode_pages.proofs.Paging.{paged}
use Rattle.inode_pages.proofs.Writes.{length-written, piece_after, piece_before}

-- the pages, with as many of them replaced as there are new ones, from the number `first` on
patched : List (List ℕ) → ℕ → List (List ℕ) → List (List ℕ)
patched pages first new = take first pages ++ new ++ drop (first + length new) pages

module _ (pages new : List (List ℕ)) (first : ℕ) (within : first ≤ length pages) where
  length_of_first : length (take first pages) ≡ first
  length_of_first = omega (arith, length-take first pages)

  length_of_front : length (take first pages ++ new) ≡ first + length new
  length_of_front = omega (arith, length_of_first, length-append (take first pages) new)

  patched_length : length (patched pages first new) ≡ max (length pages) (first + length new)
  unfolding patched
  patched_length =
      omega (
        arith,
        length_of_front,
        length-append (take first pages ++ new) (drop (first + length new) pages),
        length-drop (first + length new) pages,
      )

  patched_before : (k : ℕ) → k < first → slice_get (patched pages first new) k ≡ slice_get pages k
  unfolding patched
  patched_before k before =
      get-append_left (take first pages ++ new) (drop (first + length new) pages) k
      (omega (arith, length_of_front))
      ∙ get-append_left (take first pages) new k (omega (arith, length_of_first))
      ∙ get-take first pages k before

  patched_new : (j : ℕ) → j < length new → slice_get (patched pages first new) (first + j)
      ≡ slice_get new j
  unfolding patched
  patched_new j below =
      get-append_left (take first pages ++ new) (drop (first + length new) pages) (first + j)
      (omega (arith, length_of_front))
      ∙ ap (λ n. slice_get (take first pages ++ new) (n + j)) (sym length_of_first)
      ∙ get-append_right (take first pages) new j

  patched_after : (j : ℕ) → slice_get (patched pages first new) (first + length new + j)
      ≡ slice_get pages (first + length new + j)
  unfolding patched
  patched_after j =
      ap (λ n. slice_get (take first pages ++ new ++ drop (first + length new) pages) (n + j))
      (sym length_of_front)
      ∙ get-append_right (take first pages ++ new) (drop (first + length new) pages) j
      ∙ get-drop (first + length new) pages j

-- The pages of a content after a write: the pages that the write affects, from the number `first`
-- on, are the pieces of the new content.
module _ (content bytes : List ℕ) (pages new : List (List ℕ)) (from first : ℕ) where
  after : List ℕ
  after = overwritten content from bytes

  written_each : ArePagesOf content pages → first ≡ min from (length content) / 4096
      → from + length bytes ≤ 4096 * (first + length new)
      → ((j : ℕ) → j < length new → slice_get new j ≡ Some (piece_at after (first + j)))
      → (k : ℕ) → k < max (length pages) (first + length new)
      → slice_get (patched pages first new) k ≡ Some (piece_at after k)
  unfolding after
  written_each are start reach each k below =
      let within : first ≤ length pages = omega (arith, are.enough, start) in
      ⊎_elim
      (λ (before : k < first).
      patched_before pages new first within k before ∙ are.each k (omega arith)
      ∙ ap Some (sym (piece_before content from bytes (4096 * k) 4096 (omega (arith, start))
      (omega (arith, start)))))
      (λ (further : first ≤ k). ⊎_elim
      (λ (inside : k < first + length new).
      let at : first + (k - first) ≡ k = omega arith in
      ap (slice_get (patched pages first new)) (sym at)
      ∙ patched_new pages new first within (k - first) (omega arith)
      ∙ each (k - first) (omega arith) ∙ ap (λ n. Some (piece_at after n)) at)
      (λ (past : first + length new ≤ k).
      let at : first + length new + (k - (first + length new)) ≡ k = omega arith in
      ap (slice_get (patched pages first new)) (sym at)
      ∙ patched_after pages new first within (k - (first + length new))
      ∙ ap (slice_get pages) at ∙ are.each k (omega arith)
      ∙ ap Some (sym (piece_after content from bytes (4096 * k) 4096 (omega arith))))
      (cases_lt k (first + length new)))
      (cases_lt k first)

  pub pages_after_write : ArePagesOf content pages → first ≡ min from (length content) / 4096
      → length new ≡ div_ceil (from + length bytes) 4096 - first
      → ((j : ℕ) → j < length new → slice_get new j
      ≡ Some (piece_at (overwritten content from bytes) (first + j)))
      → ArePagesOf (overwritten content from bytes) (take first pages ++ new
      ++ drop (first + length new) pages)
  unfolding patched after
  pages_after_write are start count each =
      let within : first ≤ length pages = omega (arith, are.enough, start) in
      let long = patched_length pages new first within in
      let ceil = div_ceil_times (from + length bytes) 4096 (omega arith) in
      let size = length-written content from bytes in
      record {
        enough = omega (arith, are.enough, long, size, count, start, ceil.0, ceil.1);
        needed = omega (arith, are.needed, long, size, count, start, ceil.0, ceil.1);
        each = λ k below. written_each are start (omega (arith, count, ceil.0)) each k
            (omega (arith, long));
      }

-- after the new pages are put in, the pages are those of the new content
pub after_write : (content bytes : List ℕ) (kept pages new result : List (List ℕ)) (from first : ℕ)
    → concat kept ≡ content → IsPaged kept → pages ≡ kept
    → first ≡ min from (length content) / 4096 → length new
    ≡ div_ceil (from + length bytes) 4096 - first
    → ((j : ℕ) → j < length new → slice_get new j
    ≡ Some (piece_at (overwritten content from bytes) (first + j)))
    → from + length bytes ≤ most_bytes → result ≡ take first pages ++ new
    ++ drop (first + length new) pages
    → IsPaged result × (concat result ≡ overwritten content from bytes)
after_write content bytes kept pages new result from first whole paged_before same start count each
    small is =
    let are = subst (λ (c : List ℕ). ArePagesOf c kept) whole paged_before.pages_are in
    let after = pages_after_write content bytes kept new from first are start count each in
    let here : result ≡ take first kept ++ new ++ drop (first + length new) kept = is
    ∙ ap (λ ps. take first ps ++ new ++ drop (first + length new) ps) same in
    paged (overwritten content from bytes) result
    (subst (λ (ps : List (List ℕ)). ArePagesOf (overwritten content from bytes) ps) (sym here)
    after)
    (omega (arith, length-written content from bytes, ap length whole, paged_before.small, small))

-- the pieces before the cut are unchanged; a cut may leave a part of the next one
piece_of_front : (content : List ℕ) (len k : ℕ) → 4096 * (k + 1) ≤ len
    → piece_at (take len content) k ≡ piece_at content k
piece_of_front content len k within =
    let more : 4096 * k + (len - 4096 * k) ≡ len = omega arith in
    ap (λ n. take 4096 (drop (4096 * k) (take n content))) (sym more)
    ∙ ap (take 4096) (drop-take (4096 * k) (len - 4096 * k) content)
    ∙ take-take 4096 (len - 4096 * k) (drop (4096 * k) content) (omega arith)

last_of_front : (content : List ℕ) (whole rest : ℕ) → rest ≤ 4096
    → piece_at (take (4096 * whole + rest) content) whole ≡ bytes_at (piece_at content whole) 0 rest
last_of_front content whole rest short =
    ap (take 4096) (drop-take (4096 * whole) rest content)
    ∙ take_all 4096 (take rest (drop (4096 * whole) content))
    (omega (arith, length-take rest (drop (4096 * whole) content)))
    ∙ sym (take-take rest 4096 (drop (4096 * whole) content) short)

-- a cut at a page boundary
pub cut_between : (content : List ℕ) (pages : List (List ℕ)) (len : ℕ) → ArePagesOf content pages
    → len < length content → len % 4096 ≡ 0
    → ArePagesOf (take len content) (take (len / 4096) pages)
cut_between content pages len are shorter even = record {
  enough = omega (arith, length-take len content, length-take (len / 4096) pages, are.enough);
  needed = omega (arith, length-take len content, length-take (len / 4096) pages, are.enough);
  each = λ k below.
      let within : k < len / 4096 = omega (arith, length-take (len / 4096) pages) in
      get-take (len / 4096) pages k within
      ∙ are.each k (omega (arith, length-take (len / 4096) pages))
      ∙ ap Some (sym (piece_of_front content len k (omega arith)));
}

-- a cut within a page
pub cut_within : (content : List ℕ) (pages : List (List ℕ)) (last : List ℕ) (len : ℕ)
    → ArePagesOf content pages → len < length content → 0 < len % 4096
    → last ≡ bytes_at (piece_at content (len / 4096)) 0 (len % 4096)
    → ArePagesOf (take len content) (take (len / 4096 + 1) (set pages (len / 4096) last))
cut_within content pages last len are shorter odd is = record {
  enough = omega (arith, length-take len content, long);
  needed = omega (arith, length-take len content, long);
  each = λ k below. ap (λ l. slice_get l k) front ∙ ⊎_elim
      (λ (before : k < len / 4096).
      get-append_left (take (len / 4096) pages) (last ∷ []) k (omega (arith, whole))
      ∙ get-take (len / 4096) pages k before ∙ are.each k (omega (arith, within))
      ∙ ap Some (sym (piece_of_front content len k (omega arith))))
      (λ (further : len / 4096 ≤ k).
      let here : len / 4096 ≡ k = omega (arith, long) in
      let at : length (take (len / 4096) pages) + 0 ≡ k = omega (arith, whole) in
      ap (slice_get (take (len / 4096) pages ++ last ∷ [])) (sym at)
      ∙ get-append_right (take (len / 4096) pages) (last ∷ []) 0
      ∙ ap Some is ∙ ap Some (sym (last_of_front content (len / 4096) (len % 4096) (omega arith)))
      ∙ (λ i. Some (piece_at (take (cut i) content) (here i))))
      (cases_lt k (len / 4096));
}
  where
    within : len / 4096 < length pages
    within = omega (arith, are.enough)

    front : take (len / 4096 + 1) (set pages (len / 4096) last) ≡ take (len / 4096) pages ++ last
        ∷ []
    front = take_more_set pages (len / 4096) last within

    whole : length (take (len / 4096) pages) ≡ len / 4096
    whole = omega (arith, within, length-take (len / 4096) pages)

    long : length (take (len / 4096 + 1) (set pages (len / 4096) last)) ≡ len / 4096 + 1
    long = omega (
      arith,
      whole,
      ap length front,
      length-append (take (len / 4096) pages) (last ∷ []),
    )

    cut : 4096 * (len / 4096) + len % 4096 ≡ len
    cut = omega arith

-- the pages after a cut at a page boundary are those of the new content
pub after_cut_between : (content : List ℕ) (kept result : List (List ℕ)) (len : ℕ) → concat kept
    ≡ content → IsPaged kept → len < length content → len % 4096 ≡ 0
    → result ≡ take (len / 4096) kept → IsPaged result × (concat result ≡ take len content)
after_cut_between content kept result len whole paged_before shorter even is =
    let are = subst (λ (c : List ℕ). ArePagesOf c kept) whole paged_before.pages_are in
    paged (take len content) result
    (subst (λ (ps : List (List ℕ)). ArePagesOf (take len content) ps) (sym is)
    (cut_between content kept len are shorter even))
    (omega (arith, length-take len content, ap length whole, paged_before.small))

pub after_cut_within : (content : List ℕ) (kept : List (List ℕ)) (last : List ℕ)
    (result : List (List ℕ)) (len : ℕ) → concat kept ≡ content → IsPaged kept → len < length content
    → 0 < len % 4096
    → last ≡ bytes_at (piece_at content (len / 4096)) 0 (len % 4096)
    → result ≡ take (len / 4096 + 1) (set kept (len / 4096) last) → IsPaged result
    × (concat result ≡ take len content)
after_cut_within content kept last result len whole paged_before shorter odd last_is is =
    let are = subst (λ (c : List ℕ). ArePagesOf c kept) whole paged_before.pages_are in
    paged (take len content) result
    (subst (λ (ps : List (List ℕ)). ArePagesOf (take len content) ps) (sym is)
    (cut_within content kept last len are shorter odd last_is))
    (omega (arith, length-take len content, ap length whole, paged_before.small))
