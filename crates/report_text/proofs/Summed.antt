-- The lines of a summary are the pieces that the code appends.
use Rattle.std.proofs.Common.{◌≡◌, ℕ, List, [], ◌∷◌, ◌++◌, codes, sym, ap, ◌∙◌, append_assoc}
use Rattle.std.proofs.lemmas.List.{append-nil}
use Rattle.std.proofs.lemmas.Grind.{flat_map-append}
use Rattle.text_forms.specs.Words.{text_of}
use Rattle.report_events.specs.Texts.{line_text}
use Rattle.report_events.specs.Words.{Line}

sizes_gather : (o a n b s c l d v z : List ℕ)
    → ((((o ++ (a ++ n)) ++ (b ++ s)) ++ (c ++ l)) ++ (d ++ v)) ++ z
    ≡ o ++ (a ++ (n ++ (b ++ (s ++ (c ++ (l ++ (d ++ (v ++ z))))))))
sizes_gather o a n b s c l d v z = simp append_assoc

sizes_spread : (n s l v q r d z : List ℕ)
    → n ++ (z ++ (q ++ (s ++ (z ++ (r ++ (l ++ (d ++ (v ++ z))))))))
    ≡ (n ++ z) ++ (((q ++ s) ++ z) ++ (((r ++ (l ++ (d ++ v))) ++ z) ++ []))
sizes_spread n s l v q r d z = simp (append_assoc, append-nil)

-- the first three lines: the number, the script's length, and the list's
pub sizes_pushed : (o n s l v : List ℕ)
    → ((((o ++ (codes "gen" ++ 32 ∷ n)) ++ (codes "\nscript" ++ 32 ∷ s))
    ++ (codes "\nlist" ++ 32 ∷ l)) ++ (codes " violations" ++ 32 ∷ v)) ++ codes "\n"
    ≡ o ++ text_of ((codes "gen" ∷ n ∷ []) ∷ (codes "script" ∷ s ∷ [])
    ∷ (codes "list" ∷ l ∷ codes "violations" ∷ v ∷ []) ∷ [])
sizes_pushed o n s l v =
    sizes_gather o (codes "gen ") n (codes "\nscript ") s (codes "\nlist ") l
    (codes " violations ") v (codes "\n")
    ∙ ap (λ t. o ++ (codes "gen " ++ t))
    (sizes_spread n s l v (codes "script ") (codes "list ") (codes " violations ") (codes "\n"))

counts_gather : (o a m b k c r z : List ℕ)
    → (((o ++ (a ++ m)) ++ (b ++ k)) ++ (c ++ r)) ++ z
    ≡ o ++ (a ++ (m ++ (b ++ (k ++ (c ++ (r ++ z))))))
counts_gather o a m b k c r z = simp append_assoc

counts_spread : (m k r q c z : List ℕ)
    → m ++ (z ++ (q ++ (k ++ (c ++ (r ++ z)))))
    ≡ (m ++ z) ++ (((q ++ (k ++ (c ++ r))) ++ z) ++ [])
counts_spread m k r q c z = simp (append_assoc, append-nil)

-- the line of the events and that of the replies
pub counts_pushed : (o m k r : List ℕ)
    → (((o ++ (codes "events" ++ 32 ∷ m)) ++ (codes "\nreplies ok" ++ 32 ∷ k))
    ++ (codes " refused" ++ 32 ∷ r)) ++ codes "\n"
    ≡ o ++ text_of ((codes "events" ∷ m ∷ [])
    ∷ (codes "replies" ∷ codes "ok" ∷ k ∷ codes "refused" ∷ r ∷ []) ∷ [])
counts_pushed o m k r =
    counts_gather o (codes "events ") m (codes "\nreplies ok ") k (codes " refused ") r
    (codes "\n")
    ∙ ap (λ t. o ++ (codes "events " ++ t))
    (counts_spread m k r (codes "replies ok ") (codes " refused ") (codes "\n"))

-- the three parts of a summary, one after another, are its text
pub summary_pushed : (a b p : List Line)
    → (([] ++ text_of a) ++ text_of b) ++ text_of p ≡ text_of (a ++ (b ++ p))
summary_pushed a b p =
    append_assoc (text_of a) (text_of b) (text_of p)
    ∙ sym (flat_map-append line_text a (b ++ p)
    ∙ ap (λ l. text_of a ++ l) (flat_map-append line_text b p))
