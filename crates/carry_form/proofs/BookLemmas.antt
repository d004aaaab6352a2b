-- The book of a carried list.
use Rattle.std.proofs.Common.{◌≡◌, ℕ, zero, suc, ◌+◌, ◌-◌, ◌≤◌, Bool, true, false, ◌&&◌, cond, List, [], ◌∷◌, ◌++◌, length, get_or, replicate, Option, None, Some, Ok, Err, refl, sym, ap, subst, ◌∙◌, arith, append_assoc, append-nil, length-append}
use Rattle.std.proofs.lemmas.List.{replicate-append-replicate}
use Rattle.std.proofs.lemmas.List.Elements.{All-cons, All-nil}
use Rattle.std.proofs.lemmas.Option.{get_or_from_slice_get, none-some, same_Some}
use Rattle.std.specs.List.{All, remove}
use Rattle.std.specs.Prelude.{is_none, slice_get}
use Rattle.grow_list.specs.Others.{HasOthers}
use Rattle.grow_list.specs.Shown.{Grown, HasItsOwn, IsSameList, Passed}
use Rattle.grow_list.proofs.Others.{others_in_order}
use Rattle.ima_templates.specs.IsEntry.{IsEntry}
use Rattle.ima_templates.specs.Same.{IsDistinct, add, add_by, place_of_same, placed, placed_by}
use Rattle.ima_templates.specs.declared.entry.Placed.TheVariants.{Added, Already}
use Rattle.ima_templates.specs.declared.entry.Entry.{Entry}
use Rattle.measure_book.specs.Book.{numbers_after}
use Rattle.carry_form.specs.Books.{Extends, GoesOn}
use Rattle.carry_form.specs.Resumed.{IsResumed}
use Rattle.carry_form.specs.Reading.{Loads, all_new, if_distinct, if_new}
use Rattle.carry_form.specs.declared.causes.CarryCause.TheVariants as cause
use Rattle.carry_form.specs.declared.causes.CarryErr.{CarryErr}
use Rattle.carry_form.specs.declared.causes.CarryErr.TheVariants as err

-- ---- further entries

-- no further entries
pub Extends-none : (b : Grown Entry) → Extends b b []
Extends-none b = record {
  name = refl;
  callers = refl;
  list = sym (append-nil b.list);
  numbers = sym (append-nil b.numbers);
}

-- further entries after further entries
pub Extends-append : (a b c : Grown Entry) (xs ys : List Entry) → Extends a b xs → Extends b c ys
    → Extends a c (xs ++ ys)
Extends-append a b c xs ys first second = record {
  name = second.name ∙ first.name;
  callers = second.callers ∙ first.callers;
  list = second.list ∙ ap (λ (l : List Entry). l ++ ys) first.list ∙ append_assoc a.list xs ys;
  numbers = second.numbers
      ∙ ap (λ (l : List ℕ). l ++ replicate (length ys) 1) first.numbers
      ∙ append_assoc a.numbers (replicate (length xs) 1) (replicate (length ys) 1)
      ∙ ap (λ (l : List ℕ). a.numbers ++ l)
      (replicate-append-replicate (length xs) (length ys) 1
      ∙ ap (λ (n : ℕ). replicate n 1) (sym (length-append xs ys)));
}

-- ---- one entry

-- an entry that is added is the same as none before it
none_placed : (o : Option ℕ) (end place : ℕ) → Added place ≡ placed_by o end → o ≡ None
none_placed None end place is = refl
none_placed (Some earlier) end place is = absurd (cc is)

-- an entry that is already there is the same as one before it
some_placed : (o : Option ℕ) (end place : ℕ) → Already place ≡ placed_by o end
    → is_none o ≡ false
some_placed None end place is = absurd (cc is)
some_placed (Some earlier) end place is = refl

-- what adding an entry by the pass with the number 1 does
pub record IsAdded (old new : Grown Entry) (e : Entry) : Type 0 where
  pub none : place_of_same old.list e ≡ None
  pub book : Extends old new (e ∷ [])

-- an entry that is added is new, and stands at the end
pub added_entry : (old room new : Grown Entry) (number place : ℕ) (e : Entry)
    → IsSameList old room → number ≡ 1 → Added place ≡ placed room.list e
    → new.list ≡ add room.list e
    → new.numbers ≡ numbers_after (Added place) number room.numbers
    → (new.name ≡ room.name) × (new.callers ≡ room.callers) → IsAdded old new e
added_entry old room new number place e same is_one is list numbers kept =
    let none : place_of_same room.list e ≡ None =
    none_placed (place_of_same room.list e) (length room.list) place is in
    record {
      none = ap (λ (l : List Entry). place_of_same l e) (sym same.list) ∙ none;
      book = record {
        name = kept.0 ∙ same.name;
        callers = kept.1 ∙ same.callers;
        list = list ∙ ap (λ (o : Option ℕ). add_by o room.list e) none
            ∙ ap (λ (l : List Entry). l ++ e ∷ []) same.list;
        numbers = numbers ∙ (λ i. same.numbers i ++ is_one i ∷ []);
      };
    }

-- an entry that is already there isn't new
pub known_entry : (old room : Grown Entry) (place : ℕ) (e : Entry) → IsSameList old room
    → Already place ≡ placed room.list e → is_none (place_of_same old.list e) ≡ false
known_entry old room place e same is =
    ap (λ (l : List Entry). is_none (place_of_same l e)) (sym same.list)
    ∙ some_placed (place_of_same room.list e) (length room.list) place is

-- ---- one entry after another

-- an entry that is new leaves the answer to the others
pub new_entry : (list grown : List Entry) (e : Entry) (es rest : List Entry) (whole : Bool)
    → rest ≡ e ∷ es → grown ≡ list ++ e ∷ [] → is_none (place_of_same list e) ≡ true
    → all_new list rest ≡ whole → all_new grown es ≡ whole
new_entry list grown e es rest whole rest_is grown_is new so_far =
    ap (λ (l : List Entry). all_new l es) grown_is
    ∙ ap (λ (b : Bool). b && all_new (list ++ e ∷ []) es) (sym new)
    ∙ ap (λ (l : List Entry). all_new list l) (sym rest_is)
    ∙ so_far

-- what a call that has added entries says of the test
pub passed : (b : Bool) → Loads {X = Unit {0}} (Ok tt) (if_new b) → b ≡ true
passed true said = refl
passed false said = absurd (cc said)

-- a test that fails is told as `twice`, or memory ran out
failed : (e : CarryErr) (b whole : Bool) → Loads (Err e) (if_new b)
    → (b ≡ false → whole ≡ false)
    → Loads (Err e) (if_new whole)
failed err.OutOfMemory b whole said f = tt
failed (err.Refused c) true whole said f = absurd (cc said)
failed (err.Refused c) false whole said f =
    ap if_new (f refl) ∙ said

-- an entry that isn't added decides the answer to it and the others
pub refused_entry : (e : CarryErr) (list : List Entry) (x : Entry) (es rest : List Entry)
    (whole : Bool) → rest ≡ x ∷ es → all_new list rest ≡ whole
    → Loads (Err e) (if_new (is_none (place_of_same list x))) → Loads (Err e) (if_new whole)
refused_entry e list x es rest whole rest_is so_far said =
    failed e (is_none (place_of_same list x)) whole said
    (λ known. sym so_far ∙ ap (λ (l : List Entry). all_new list l) rest_is
    ∙ ap (λ (b : Bool). b && all_new (list ++ x ∷ []) es) known)

-- a list whose entries are all new is loaded
pub whole_list : (first : Entry) (others list : List Entry) → list ≡ first ∷ others
    → Loads {X = Unit {0}} (Ok tt) (if_new (all_new (first ∷ []) others))
    → if_distinct list ≡ Ok list
whole_list first others list is said =
    subst (λ (l : List Entry). if_distinct l ≡ Ok l) (sym is)
    (ap (λ (b : Bool). cond b (Ok (first ∷ others)) (Err cause.Twice))
    (passed (all_new (first ∷ []) others) said))

-- the list of the book is the one that was given, if all entries were added
pub loaded_list : (list others started looked : List Entry) (first : Entry) → list ≡ first ∷ others
    → started ≡ first ∷ [] → looked ≡ started ++ others
    → Loads {X = Unit {0}} (Ok tt) (if_new (all_new started others))
    → if_distinct list ≡ Ok looked
loaded_list list others started looked first is begun grown said =
    whole_list first others list is
    (subst (λ (l : List Entry). Loads {X = Unit {0}} (Ok tt) (if_new (all_new l others)))
    begun said)
    ∙ ap Ok (is ∙ ap (λ (l : List Entry). l ++ others) (sym begun) ∙ sym grown)

-- ---- the whole book

-- the book of a list, after its entries were added and shown to the pass
pub IsResumed-made : (start grown looked : Grown Entry) (pass : Passed Entry) (first : Entry)
    (others : List Entry)
    → start.list ≡ first ∷ [] → start.numbers ≡ 0 ∷ [] → start.callers ≡ 2
    → Extends start grown others → IsSameList grown looked
    → pass.name ≡ looked.name → pass.number ≡ 1 → pass.seen ≡ looked.list → HasItsOwn looked pass
    → All IsEntry looked.list → IsDistinct looked.list → IsResumed looked pass
IsResumed-made start grown looked pass first others list numbers callers more same name number seen
    own entries distinct =
    let whole : looked.list ≡ first ∷ others =
    same.list ∙ more.list ∙ ap (λ (l : List Entry). l ++ others) list in
    let count : length others ≡ length looked.list - 1 = omega (arith, ap length whole) in
    record {
      callers = same.callers ∙ more.callers ∙ callers;
      numbers = same.numbers ∙ more.numbers
          ∙ (λ i. numbers i ++ replicate (count i) 1);
      name = name;
      number = number;
      seen = seen;
      own = own;
      not_empty = omega (arith, ap length whole);
      entries = entries;
      distinct = distinct;
    }

-- the pass is the only one beside the book's own
pub HasOthers-going : (book : Grown Entry) (pass : Passed Entry) → GoesOn book pass
    → HasOthers book (pass ∷ [])
HasOthers-going book pass kept =
    others_in_order book (pass ∷ []) (sym kept.callers)
    (All-cons (λ p. p.name ≡ book.name) pass [] kept.name (All-nil (λ p. p.name ≡ book.name)))
    numbered where
      numbered : (k : ℕ) (p : Passed Entry) → slice_get (pass ∷ []) k ≡ Some p
          → p.number ≡ k + 1
      numbered zero p at =
          ap (λ (q : Passed Entry). q.number) (sym (same_Some pass p at)) ∙ kept.number
      numbered (suc k) p at = absurd (none-some p at)

-- the pass of a carried list is the only one beside the book's own
pub HasOthers-resumed : (book : Grown Entry) (pass : Passed Entry) → IsResumed book pass
    → HasOthers book (pass ∷ [])
HasOthers-resumed book pass kept =
    HasOthers-going book pass
    (record { callers = kept.callers; name = kept.name; number = kept.number })

-- a list is its first element and the others
pub first_then : {X : Type 0} (all others : List X) (x : X) → 1 ≤ length all → x ≡ get_or all 0 x
    → others ≡ remove all 0 → all ≡ x ∷ others
first_then [] others x some is rest = absurd (omega (arith, some))
first_then (y ∷ ys) others x some is rest = λ i. sym is i ∷ sym rest i

-- the first of the passes that a book starts with has the number 1
pub first_pass : {X : Type 0} (passes : List X) (x p : X) → slice_get passes 0 ≡ Some p
    → x ≡ get_or passes 0 x → x ≡ p
first_pass passes x p at is = is ∙ get_or_from_slice_get passes 0 p x at
