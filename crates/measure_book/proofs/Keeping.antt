-- The invariant of a book, at its start and after one more entry.
use Rattle.std.proofs.Common.{◌≡◌, ℕ, List, [], ◌∷◌, ◌++◌, All, map, Option, None, refl, ap, subst, sym, ◌∙◌}
use Rattle.std.proofs.lemmas.List.{map-append}
use Rattle.std.proofs.lemmas.List.Elements.{All-cons, All-nil, All-push}
use Rattle.std.proofs.lemmas.Option.{none-some}
use Rattle.std.specs.Prelude.{slice_get}
use Rattle.grow_list.specs.Shown.{Grown, Passed}
use Rattle.grow_list.proofs.Prefixes.{prefix_append, prefix_get}
use Rattle.ima_templates.specs.IsEntry.{IsEntry}
use Rattle.measure_book.specs.Replay.{banks_of, extended_by}
use Rattle.ima_templates.specs.Same.{IsDistinct, place_of_same}
use Rattle.ima_templates.specs.declared.entry.Entry.{Entry}
use Rattle.measure_book.proofs.ReplayLemmas.{banks_of-push}
use Rattle.pcr_bank.specs.Banks.{new_banks}
use Rattle.pcr_bank.specs.declared.banks.Banks.{Banks}
use Rattle.measure_book.specs.BookFields.{HasBooted, IsBook}
use Rattle.measure_book.specs.Key.{key_of}
use Rattle.measure_book.specs.declared.book.Book.TheInside.{Inside}
use Rattle.measure_book.proofs.Finding.{IsDistinct-push}

-- the book's own pass keeps its entry when the list grows
HasBooted-push : (list grown : Grown Entry) (own : Passed Entry) (e : Entry) → HasBooted list own
    → grown.name ≡ list.name → grown.list ≡ list.list ++ e ∷ [] → HasBooted grown own
HasBooted-push list grown own e booted name pushed = record {
  name = booted.name ∙ sym name;
  number = booted.number;
  boot = booted.boot;
  first = ap (λ (l : List Entry). slice_get l 0) pushed
      ∙ prefix_get list.list (list.list ++ e ∷ []) 0 booted.boot (prefix_append list.list (e ∷ []))
      booted.first;
  mine = booted.mine;
}

-- the invariant holds after an entry is appended that isn't the same as any other
pub IsBook-push : (b c : Inside) (e : Entry) → IsBook b → place_of_same b.list.list e ≡ None
    → IsEntry e
    → c.banks ≡ extended_by b.banks e → c.places.keys ≡ b.places.keys ++ key_of e ∷ []
    → c.list.list ≡ b.list.list ++ e ∷ [] → c.list.name ≡ b.list.name → c.own ≡ b.own → IsBook c
IsBook-push b c e kept none valid banks keys list name own = record {
  banks = banks ∙ ap (λ (r : Banks). extended_by r e) kept.banks ∙ sym (banks_of-push b.list.list e)
      ∙ ap banks_of (sym list);
  keys = keys ∙ ap (λ (l : List (Option ℕ)). l ++ key_of e ∷ []) kept.keys
      ∙ sym (map-append key_of b.list.list (e ∷ [])) ∙ ap (map key_of) (sym list);
  own =
      subst (HasBooted c.list) (sym own) (HasBooted-push b.list c.list b.own e kept.own name list);
  entries = subst (All IsEntry) (sym list) (All-push IsEntry b.list.list e kept.entries valid);
  distinct = subst IsDistinct (sym list) (IsDistinct-push b.list.list e kept.distinct none);
}

-- the invariant holds at the start
pub IsBook-start : (b : Inside) (boot : Entry) → IsEntry boot → b.banks ≡ extended_by new_banks boot
    → b.places.keys ≡ key_of boot ∷ []
    → b.list.list ≡ boot ∷ [] → b.own.name ≡ b.list.name → b.own.number ≡ 0
    → b.own.mine ≡ (0, boot) ∷ [] → IsBook b
IsBook-start b boot valid banks keys list name number mine = record {
  banks = banks ∙ ap banks_of (sym list);
  keys = keys ∙ ap (map key_of) (sym list);
  own = record {
    name = name;
    number = number;
    boot = boot;
    first = ap (λ (l : List Entry). slice_get l 0) list;
    mine = mine;
  };
  entries = subst (All IsEntry) (sym list) (All-cons IsEntry boot [] valid (All-nil IsEntry));
  distinct =
      subst IsDistinct (sym list) (IsDistinct-push [] boot
      (λ a b x y before at_a at_b. absurd (none-some x at_a)) refl);
}
