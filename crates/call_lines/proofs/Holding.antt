-- Properties of each value that a line makes.
use Rattle.std.proofs.Common.{◌≡◌, ℕ, Bool, true, false, not, ◌&&◌, List, [], ◌∷◌, Option, Some, None, Result, Ok, Err, IfOk, IfSome, ok_or, if◌then◌else◌, refl, sym, subst, inl, inr}
use Rattle.std.specs.List.{list_all}
use Rattle.std.specs.Str.{bytes_eq}
use Rattle.std.proofs.lemmas.Bool.{cases_Bool, false≢true}
use Rattle.text_forms.specs.Tables.{look_up}
use Rattle.text_forms.specs.Lines.{◌>>=◌}
use Rattle.script_words.specs.declared.fault.LineCause.{LineCause}

-- ---- one step after another

-- a step from an option has a property if the step from the option's value has it
pub given : {A B : Type 0} (Q : B → Type 0) (o : Option A) (c : LineCause)
    (f : A → Result B LineCause) → ((x : A) → o ≡ Some x → IfOk (f x) Q)
    → IfOk (ok_or o c >>= f) Q
given Q None c f h = tt
given Q (Some x) c f h = h x refl

-- if a result has P and the next step makes Q of P, the result of that step has Q
pub bound : {A B : Type 0} (P : A → Type 0) (Q : B → Type 0) (r : Result A LineCause)
    (f : A → Result B LineCause) → IfOk r P → ((x : A) → P x → IfOk (f x) Q) → IfOk (r >>= f) Q
bound P Q (Err e) f p h = tt
bound P Q (Ok x) f p h = h x p

-- the result of a choice has a property if each branch has it in its case
pub tested : {B : Type 0} (Q : B → Type 0) (b : Bool) (x y : Result B LineCause)
    → (b ≡ true → IfOk x Q) → (b ≡ false → IfOk y Q) → IfOk (if b then x else y) Q
tested Q true x y t f = t refl
tested Q false x y t f = f refl

-- a property of an option's value holds of the value that the option is known to have
pub at_some : {A : Type 0} (P : A → Type 0) (o : Option A) (x : A) → IfSome o P → o ≡ Some x → P x
at_some P None x h e = absurd (cc e)
at_some P (Some y) x h e = let same : y ≡ x = cc e in subst P same h

-- an option that may also be refused keeps the property of its value
pub unless_more : {A : Type 0} (P : A → Type 0) (b : Bool) (o : Option A) → IfSome o P
    → IfSome (if b then None else o) P
unless_more P true o h = tt
unless_more P false o h = h

-- of two tests that both hold, the first holds
pub left_true : (a b : Bool) → (a && b) ≡ true → a ≡ true
left_true true b h = refl
left_true false b h = absurd (false≢true h)

-- of two tests that both hold, the second holds
pub right_true : (a b : Bool) → (a && b) ≡ true → b ≡ true
right_true true b h = h
right_true false b h = absurd (false≢true h)

-- two tests that hold also hold together
pub both_true : (a b : Bool) → a ≡ true → b ≡ true → (a && b) ≡ true
both_true true b h k = k
both_true false b h k = absurd (false≢true h)

-- a test holds if its negation doesn't
pub not_false : (a : Bool) → not a ≡ false → a ≡ true
not_false true h = refl
not_false false h = absurd (false≢true (sym h))

-- a value looked up in a table is one of the table
pub looked_up : {A : Type 0} (p : A → Bool) (table : List (List ℕ × A)) (word : List ℕ)
    → list_all (λ e. p e.1) table ≡ true → IfSome (look_up table word) (λ x. p x ≡ true)
looked_up p [] word h = tt
looked_up p (e ∷ es) word h = elim (cases_Bool (bytes_eq word e.0)) [
  | inl same ↦ rw same (left_true (p e.1) _ h)
  | inr other ↦ rw other (looked_up p es word (right_true (p e.1) _ h))
]
