-- Pages of lists of parts that are joined.
use Rattle.std.proofs.Common.{◌≡◌, ℕ, ◌+◌, ◌<◌, List, [], ◌++◌, append_assoc, append-nil, length, take, get_or, sym, ◌∙◌, ap}
use Rattle.std.specs.List.{flat_map}
use Rattle.std.proofs.lemmas.Grind.{flat_map-append}
use Rattle.list_lemmas.proofs.Appending.{flat_map_more}
use Rattle.view_page.specs.Parts.{Pushed, bytes_of, page_of}
use Rattle.view_page.specs.declared.part.Part.{Part}

-- the page of two lists of parts, one after the other
pub page_of-append : (text : List ℕ) (p q : List Part)
    → page_of text (p ++ q) ≡ page_of text p ++ page_of text q
unfolding page_of
page_of-append text p q = flat_map-append (bytes_of text) p q

-- a text to which parts were appended twice
infixl 20 ◌▹◌
pub ◌▹◌ : {text out a b : List ℕ} {p q : List Part} → Pushed text out a p → Pushed text a b q
    → Pushed text out b (p ++ q)
◌▹◌ {text} {out} {a} {b} {p} {q} first second = record {
  is = second.is
      ∙ (ap (λ (x : List ℕ). x ++ page_of text q) first.is
      ∙ (append_assoc out (page_of text p) (page_of text q)
      ∙ ap (λ (x : List ℕ). out ++ x) (sym (page_of-append text p q))));
}

-- the same parts, said in another way
pub as_parts : {text out a : List ℕ} {p q : List Part} → Pushed text out a p → p ≡ q
    → Pushed text out a q
as_parts {text} {out} {a} {p} {q} pushed same =
    record { is = pushed.is ∙ ap (λ (x : List Part). out ++ page_of text x) same }

-- ---- loops

-- no parts were appended yet
pub no_parts : (text out : List ℕ) → Pushed text out out []
unfolding page_of
no_parts text out = record { is = sym (append-nil out) }

-- the parts of one more item were appended
pub one_more : {A : Type 0} {text out a b : List ℕ} (f : A → List Part) (xs : List A) (i : ℕ)
    (d : A) → i < length xs → Pushed text out a (flat_map f (take i xs))
    → Pushed text a b (f (get_or xs i d)) → Pushed text out b (flat_map f (take (i + 1) xs))
one_more f xs i d within so_far next =
    as_parts (so_far ▹ next) (sym (flat_map_more f xs i d within))

-- after the parts of an item were appended, those of the others are left
pub going : (text total now next : List ℕ) (here rest : List Part) → Pushed text now next here
    → now ++ page_of text (here ++ rest) ≡ total → next ++ page_of text rest ≡ total
going text total now next here rest pushed so_far =
    ap (λ (x : List ℕ). x ++ page_of text rest) pushed.is
    ∙ (append_assoc now (page_of text here) (page_of text rest)
    ∙ (ap (λ (x : List ℕ). now ++ x) (sym (page_of-append text here rest)) ∙ so_far))

-- and when none is left, all were appended
pub gone : (text out now : List ℕ) (all rest : List Part) → rest ≡ []
    → now ++ page_of text rest ≡ out ++ page_of text all → Pushed text out now all
unfolding page_of
gone text out now all rest none so_far =
    record {
      is = sym (append-nil now)
          ∙ (ap (λ (ps : List Part). now ++ page_of text ps) (sym none) ∙ so_far);
    }
