-- The inodes of two reports, one after the other.
use Rattle.std.proofs.Common.{◌≡◌, ℕ, ◌+◌, ◌<◌, List, ◌∷◌, ◌++◌, drop, get_or, length, sym, ap, ◌∙◌}
use Rattle.std.proofs.lemmas.List.{at_drop_more}
use Rattle.view_page.specs.journals.reading.Report.{InodeValue}
use Rattle.view_sentences.specs.Alike.{parted}
use Rattle.view_pages.specs.Pair.{number_by, numbers_from, pair_by, pairs_from, room_after}
use Rattle.view_page.specs.declared.part.Part.{Part}

-- two inodes, and those that are left
here : List ℕ → ℕ → ℕ → List InodeValue → List InodeValue → InodeValue → InodeValue → List Part
here text n room is js x y =
    pair_by text n room (parted text x.events y.events) x y
    ++ pairs_from text (n + 1) (room_after (parted text x.events y.events) room)
    (drop (n + 1) is) (drop (n + 1) js)

-- those from a number on are these two, and those that are left
pub pairs_here : (text : List ℕ) (n room : ℕ) (is js : List InodeValue) (x y : InodeValue)
    → n < length is → n < length js → x ≡ get_or is n x → y ≡ get_or js n y
    → pairs_from text n room (drop n is) (drop n js)
    ≡ pair_by text n room (parted text x.events y.events) x y
    ++ pairs_from text (n + 1) (room_after (parted text x.events y.events) room)
    (drop (n + 1) is) (drop (n + 1) js)
unfolding here
pairs_here text n room is js x y in_first in_second first second =
    at_drop_more (λ (xs : List InodeValue). pairs_from text n room xs (drop n js)) is n x in_first
    ∙ (at_drop_more (λ (ys : List InodeValue).
    pairs_from text n room (get_or is n x ∷ drop (n + 1) is) ys) js n y in_second
    ∙ (ap (λ (z : InodeValue). here text n room is js z (get_or js n y)) (sym first)
    ∙ ap (λ (z : InodeValue). here text n room is js x z) (sym second)))

-- the number of two inodes, and those of the inodes that are left
number_here : List ℕ → ℕ → ℕ → List InodeValue → List InodeValue → InodeValue → InodeValue
    → List ℕ
number_here text n room is js x y =
    number_by (parted text x.events y.events) room n
    ++ numbers_from text (n + 1) (room_after (parted text x.events y.events) room)
    (drop (n + 1) is) (drop (n + 1) js)

-- the numbers from one on are that of these two, and those that are left
pub numbers_here : (text : List ℕ) (n room : ℕ) (is js : List InodeValue) (x y : InodeValue)
    → n < length is → n < length js → x ≡ get_or is n x → y ≡ get_or js n y
    → numbers_from text n room (drop n is) (drop n js)
    ≡ number_by (parted text x.events y.events) room n
    ++ numbers_from text (n + 1) (room_after (parted text x.events y.events) room)
    (drop (n + 1) is) (drop (n + 1) js)
unfolding number_here
numbers_here text n room is js x y in_first in_second first second =
    at_drop_more (λ (xs : List InodeValue). numbers_from text n room xs (drop n js)) is n x
    in_first
    ∙ (at_drop_more (λ (ys : List InodeValue).
    numbers_from text n room (get_or is n x ∷ drop (n + 1) is) ys) js n y in_second
    ∙ (ap (λ (z : InodeValue). number_here text n room is js z (get_or js n y)) (sym first)
    ∙ ap (λ (z : InodeValue). number_here text n room is js x z) (sym second)))
