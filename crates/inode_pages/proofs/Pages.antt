-- The pages of a content, and its pieces.
use Rattle.std.proofs.Common.{◌≡◌, ℕ, ◌<◌, List, [], ◌∷◌, ◌++◌, get_or, length, Some, sym, ◌∙◌, ap, subst}
use Rattle.std.specs.List.{concat}
use Rattle.std.proofs.lemmas.List.{append-nil}
use Rattle.std.proofs.lemmas.List.Folds.{concat-append}
use Rattle.std.proofs.lemmas.Option.{same_Some, slice_get-get_or}
use Rattle.inode_pages.specs.Content.{piece_at}
use Rattle.inode_pages.specs.Pages.{ArePagesOf, IsPaged}

-- the bytes of pages with one more at the end
pub concat_push : (pages : List (List ℕ)) (page : List ℕ)
    → concat (pages ++ page ∷ []) ≡ concat pages ++ page
concat_push pages page =
    concat-append pages (page ∷ [])
    ∙ ap (λ (l : List ℕ). concat pages ++ l) (append-nil page)

-- a page of the content is its piece of that number
pub page_is : (content : List ℕ) (pages : List (List ℕ)) (k : ℕ) (page : List ℕ)
    → ArePagesOf content pages → k < length pages → page ≡ get_or pages k page
    → page ≡ piece_at content k
page_is content pages k page are l is =
    same_Some page (piece_at content k)
    (ap (λ (p : List ℕ). Some p) is ∙ sym (slice_get-get_or pages k page l) ∙ are.each k l)

-- what is found among the pages that are kept is the piece of that number
pub found_page : (content : List ℕ) (kept pages : List (List ℕ)) (k : ℕ) (page : List ℕ)
    → concat kept ≡ content → IsPaged kept → pages ≡ kept → k < length pages
    → page ≡ get_or pages k page → page ≡ piece_at content k
found_page content kept pages k page whole paged same within is =
    page_is content pages k page
    (subst (λ (ps : List (List ℕ)). ArePagesOf content ps) (sym same)
    (subst (λ (c : List ℕ). ArePagesOf c kept) whole paged.pages_are)) within is
