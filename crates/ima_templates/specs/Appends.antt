-- Lists of bytes that are appended one after another, and their lengths.
use Rattle.std.specs.Prelude.{◌≡◌, ◌≤◌, ℕ, ◌+◌, List, [], ◌++◌, length, take}
use Rattle.std.proofs.Common.{sym, ◌∙◌, ap, arith, append_assoc, length-append, length-take, take-take}
use Rattle.std.proofs.lemmas.List.{append-nil, take_all}

pub append_nothing : (a : List ℕ) → a ≡ a ++ []
append_nothing a = sym (append-nil a)

pub append_more : (a b c x y : List ℕ) → b ≡ a ++ x → c ≡ b ++ y → c ≡ a ++ (x ++ y)
append_more a b c x y first second = second ∙ ap (λ l. l ++ y) first ∙ append_assoc a x y

-- the first m bytes of a list are the whole list, if m is its length
pub keeps_all : (a : List ℕ) (m : ℕ) → m ≡ length a → take m a ≡ a
keeps_all a m is = take_all m a (omega (arith, is))

pub keeps_further : (a b c : List ℕ) (m n : ℕ) → m ≡ length a → n ≡ length b → take m b ≡ a
    → take n c ≡ b → take m c ≡ a
keeps_further a b c m n is_m is_n first second =
    let shorter : m ≤ n = omega (arith, length-take m b, ap length first, is_m, is_n) in
    sym (take-take m n c shorter) ∙ ap (take m) second ∙ first

pub length_nothing : (n : ℕ) → n ≡ n + length {A = ℕ} []
length_nothing n = omega arith

pub length_more : (a b c : ℕ) (x y : List ℕ) → b ≡ a + length x → c ≡ b + length y
    → c ≡ a + length (x ++ y)
length_more a b c x y first second = omega (arith, length-append x y, first, second)
