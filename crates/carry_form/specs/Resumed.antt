-- The invariant of a list that was carried.
use Rattle.std.specs.Prelude.{◌≡◌, ◌≤◌, List, length}
use Rattle.std.specs.List.{All}
use Rattle.grow_list.specs.Shown.{Grown, HasItsOwn, Passed}
use Rattle.ima_templates.specs.IsEntry.{IsEntry}
use Rattle.ima_templates.specs.Same.{IsDistinct}
use Rattle.ima_templates.specs.declared.entry.Entry.{Entry}
use Rattle.carry_form.specs.Books.{carried_numbers}
use Rattle.carry_form.specs.declared.carried.Carried.TheInside.{Inside}

abbrev pub list_of : Inside → List Entry
list_of c = c.book.list

-- the pass is the only one beside the book's own, and it has seen the list
pub record IsResumed (book : Grown Entry) (pass : Passed Entry) : Type 0 where
  pub callers : book.callers ≡ 2
  pub numbers : book.numbers ≡ carried_numbers book.list
  pub name : pass.name ≡ book.name
  pub number : pass.number ≡ 1
  pub seen : pass.seen ≡ book.list
  pub own : HasItsOwn book pass
  pub not_empty : 1 ≤ length book.list
  pub entries : All IsEntry book.list
  pub distinct : IsDistinct book.list

abbrev pub FieldsAgree : Inside → Type 0
FieldsAgree c = IsResumed c.book c.pass
