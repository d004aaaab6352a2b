-- Words joined by a byte: the parts into which the text is split, and facts about its bytes.
use Rattle.std.proofs.Common.{◌≡◌, ℕ, Bool, true, not, List, [], ◌∷◌, filter, refl, sym, ap, ◌∙◌}
use Rattle.std.specs.List.{slice_split, list_all, join_with_byte}
use Rattle.std.proofs.lemmas.Bool.{and_parts}
use Rattle.std.proofs.lemmas.List.{append-nil}
use Rattle.std.proofs.lemmas.List.Folds.{list_all-append}
use Rattle.text_forms.specs.Tokens.{is_filled}
use Rattle.text_forms.proofs.Cuts.{part}

module _ (p : ℕ → Bool) (c : ℕ) where
  -- splitting words that were joined by a separator gives the words back, if none has a separator
  pub parts_joined : p c ≡ true → (w : List ℕ) (ws : List (List ℕ))
      → list_all (λ v. list_all (λ b. not (p b)) v) (w ∷ ws) ≡ true
      → slice_split p (join_with_byte c (w ∷ ws)) ≡ w ∷ ws
  parts_joined parts w [] h = ap (λ (t : List ℕ). slice_split p t) (sym (append-nil w))
      ∙ part p w [] (and_parts _ _ h).0 refl
  parts_joined parts w (v ∷ ws) h =
      part p w (c ∷ join_with_byte c (v ∷ ws)) (and_parts _ _ h).0 parts
      ∙ ap (λ (ts : List (List ℕ)). w ∷ ts) (rw parts (parts_joined parts v ws (and_parts _ _ h).1))

  -- if the bytes of each word pass a test and the byte between words does, all bytes of the text
  -- pass
  pub all_joined : p c ≡ true → (ws : List (List ℕ)) → list_all (λ v. list_all p v) ws ≡ true
      → list_all p (join_with_byte c ws) ≡ true
  all_joined byte [] h = refl
  all_joined byte (w ∷ []) h = (and_parts _ _ h).0
  all_joined byte (w ∷ v ∷ ws) h =
      let here : list_all p w ≡ true = (and_parts _ _ h).0 in
      rw (list_all-append p w (c ∷ join_with_byte c (v ∷ ws)), here, byte)
      (all_joined byte (v ∷ ws) (and_parts _ _ h).1)

-- filtering out empty words keeps a list of nonempty words
pub filled_kept : (ws : List (List ℕ)) → list_all is_filled ws ≡ true → filter is_filled ws ≡ ws
filled_kept [] h = refl
filled_kept (w ∷ ws) h = let here : is_filled w ≡ true =
    (and_parts _ _ h).0 in rw here
    (ap (λ (ts : List (List ℕ)). w ∷ ts) (filled_kept ws (and_parts _ _ h).1))
