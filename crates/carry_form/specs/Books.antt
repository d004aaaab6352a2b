-- The book of a carried list.
use Rattle.std.specs.Prelude.{◌≡◌, ℕ, ◌-◌, [], ◌∷◌, ◌++◌, List, length, replicate, Option, unwrap_or}
use Rattle.std.specs.List.{fold}
use Rattle.grow_list.specs.Shown.{Grown, Passed}
use Rattle.ima_templates.specs.Same.{add}
use Rattle.ima_templates.specs.declared.entry.Entry.{Entry}

-- the book has these further entries, which the pass with the number 1 has added
pub record Extends (old new : Grown Entry) (entries : List Entry) : Type 0 where
  pub name : new.name ≡ old.name
  pub callers : new.callers ≡ old.callers
  pub list : new.list ≡ old.list ++ entries
  pub numbers : new.numbers ≡ old.numbers ++ replicate (length entries) 1

-- for each entry of a carried list, the number of the pass that added it: the book's own pass has
-- added the first entry, and the pass with the number 1 has added the others
abbrev pub carried_numbers : List Entry → List ℕ
carried_numbers list = 0 ∷ replicate (length list - 1) 1

-- the pass with the number 1 is the only one beside the book's own
pub record GoesOn (book : Grown Entry) (pass : Passed Entry) : Type 0 where
  pub callers : book.callers ≡ 2
  pub name : pass.name ≡ book.name
  pub number : pass.number ≡ 1

-- the list after further entries were added to the carried one, or to an empty list; an entry that
-- is the same as an earlier one isn't added
abbrev pub carried_on : Option (List Entry) → List Entry → List Entry
carried_on carried entries = fold add (unwrap_or carried []) entries
