-- The pieces that the code appends one after another make up lines.
use Rattle.std.proofs.Common.{◌≡◌, ℕ, ◌+◌, ◌<◌, ◌≤◌, List, [], ◌∷◌, ◌++◌, get_or, length, map, take, refl, sym, ap, ◌∙◌, subst, append_assoc}
use Rattle.std.specs.Prelude.{decimal}
use Rattle.std.specs.List.{AllByRecursion, flat_map}
use Rattle.std.proofs.lemmas.List.{append-nil, map-append, take_all, take_more}
use Rattle.std.proofs.lemmas.List.Concat.{flat_map-append}
use Rattle.list_lemmas.proofs.Appending.{one_more}
use Rattle.policy_text.specs.rules.RuleValue.{RuleValue}
use Rattle.policy_text.specs.Spelling.{rule_text, rule_words}
use Rattle.script_text.proofs.Lasts.{each_after}
use Rattle.call_lines.specs.Lines.{Line, after_space, line_text, lines_text, spaced, words_text}
use Rattle.call_lines.proofs.Rules.{added_put}

-- the text of lines, one for each element
pub text_of_map : {X : Type 0} (f : X → Line) (xs : List X)
    → flat_map (λ x. line_text (f x)) xs ≡ lines_text (map f xs)
text_of_map f [] = refl
text_of_map f (x ∷ xs) = ap (λ l. line_text (f x) ++ l) (text_of_map f xs)

-- the text of lines, several for each element
pub text_of_flat : {X : Type 0} (f : X → List Line) (xs : List X)
    → flat_map (λ x. lines_text (f x)) xs ≡ lines_text (flat_map f xs)
text_of_flat f [] = refl
text_of_flat f (x ∷ xs) =
    ap (λ l. lines_text (f x) ++ l) (text_of_flat f xs)
    ∙ sym (flat_map-append line_text (f x) (flat_map f xs))

pub turns_text : (ts : List ℕ) → flat_map (λ t. 32 ∷ decimal t) ts ≡ spaced (map decimal ts)
turns_text [] = refl
turns_text (t ∷ ts) = ap (λ l. 32 ∷ (decimal t ++ l)) (turns_text ts)

pub lines_more : (ls ms : List Line) → lines_text (ls ++ ms) ≡ lines_text ls ++ lines_text ms
lines_more ls ms = flat_map-append line_text ls ms

-- ---- one section after another

-- lines appended to lines that follow some text
put_after : (start o p : List ℕ) (done ls : List Line) (text : List ℕ)
    → o ≡ start ++ lines_text done → text ≡ lines_text ls → p ≡ o ++ text
    → p ≡ start ++ lines_text (done ++ ls)
put_after start o p done ls text h e k =
    k ∙ ap (λ t. t ++ text) h ∙ append_assoc start (lines_text done) text
    ∙ ap (λ t. start ++ (lines_text done ++ t)) e
    ∙ ap (λ t. start ++ t) (sym (lines_more done ls))

-- the text of one line
pub one_line_text : (l : Line) → line_text l ≡ lines_text (l ∷ [])
one_line_text l = sym (append-nil (line_text l))

-- four sections before others
grouped : (a b c d e : List Line) → (a ++ (b ++ (c ++ d))) ++ e ≡ a ++ (b ++ (c ++ (d ++ e)))
grouped a b c d e = simp append_assoc

-- four sections, grouped as they are appended
grouped_four : (a b c d : List Line) → (((a ++ b) ++ c) ++ d) ≡ a ++ (b ++ (c ++ d))
grouped_four a b c d = simp append_assoc

-- a line, and the lines after it
pub block_put : (start o p : List ℕ) (l : Line) (ls : List Line) (text : List ℕ)
    → o ≡ start ++ line_text l → text ≡ lines_text ls → p ≡ o ++ text
    → p ≡ start ++ lines_text (l ∷ ls)
block_put start o p l ls text h e k =
    k ∙ ap (λ t. t ++ text) h ∙ append_assoc start (line_text l) text
    ∙ ap (λ t. start ++ (line_text l ++ t)) e

-- five lines appended to a text
pub five_put : (start o1 o2 o3 o4 o5 : List ℕ) (l1 l2 l3 l4 l5 : Line)
    → o1 ≡ start ++ line_text l1 → o2 ≡ o1 ++ line_text l2 → o3 ≡ o2 ++ line_text l3
    → o4 ≡ o3 ++ line_text l4 → o5 ≡ o4 ++ line_text l5
    → o5 ≡ start ++ lines_text (l1 ∷ l2 ∷ l3 ∷ l4 ∷ l5 ∷ [])
five_put start o1 o2 o3 o4 o5 l1 l2 l3 l4 l5 e1 e2 e3 e4 e5 =
    rw (e5, e4, e3, e2, e1) (simp append_assoc)

-- four sections appended to a text
pub four_put : (start o1 o2 o3 o4 : List ℕ) (a b c d : List Line) (tb tc td : List ℕ)
    → o1 ≡ start ++ lines_text a → tb ≡ lines_text b → o2 ≡ o1 ++ tb → tc ≡ lines_text c
    → o3 ≡ o2 ++ tc → td ≡ lines_text d → o4 ≡ o3 ++ td
    → o4 ≡ start ++ lines_text (a ++ (b ++ (c ++ d)))
four_put start o1 o2 o3 o4 a b c d tb tc td e1 b2 e2 c3 e3 d4 e4 =
    let h2 = put_after start o1 o2 a b tb e1 b2 e2 in
    let h3 = put_after start o2 o3 (a ++ b) c tc h2 c3 e3 in
    let h4 = put_after start o3 o4 ((a ++ b) ++ c) d td h3 d4 e4 in
    h4 ∙ ap (λ ls. start ++ lines_text ls) (grouped_four a b c d)

-- two sections and a line appended to a text
pub three_put : (start o1 o2 o3 : List ℕ) (a b : List Line) (ta tb : List ℕ) (l : Line)
    → ta ≡ lines_text a → o1 ≡ start ++ ta → tb ≡ lines_text b → o2 ≡ o1 ++ tb
    → o3 ≡ o2 ++ line_text l → o3 ≡ start ++ lines_text (a ++ (b ++ l ∷ []))
three_put start o1 o2 o3 a b ta tb l a1 e1 b2 e2 e3 =
    let h1 : o1 ≡ start ++ lines_text a = e1 ∙ ap (λ t. start ++ t) a1 in
    let h2 = put_after start o1 o2 a b tb h1 b2 e2 in
    let h3 = put_after start o2 o3 (a ++ b) (l ∷ []) (line_text l) h2 (one_line_text l) e3 in
    h3 ∙ ap (λ ls. start ++ lines_text ls) (append_assoc a b (l ∷ []))

-- all sections, in two halves
pub halves_put : (o0 o1 o2 : List ℕ) (a b c d e : List Line) → o0 ≡ []
    → o1 ≡ o0 ++ lines_text (a ++ (b ++ (c ++ d))) → o2 ≡ o1 ++ lines_text e
    → o2 ≡ lines_text (a ++ (b ++ (c ++ (d ++ e))))
halves_put o0 o1 o2 a b c d e n e1 e2 =
    put_after o0 o1 o2 (a ++ (b ++ (c ++ d))) e (lines_text e) e1 refl e2
    ∙ ap (λ t. t ++ lines_text ((a ++ (b ++ (c ++ d))) ++ e)) n
    ∙ ap (λ ls. lines_text ls) (grouped a b c d e)

-- ---- the words of a line, one after another

-- a first word, a rule and the end of the line, appended to a text
pub rule_put : (start o p q : List ℕ) (w : List ℕ) (r : RuleValue) → o ≡ start ++ (w ++ 32 ∷ [])
    → p ≡ o ++ rule_text r → q ≡ p ++ 10 ∷ [] → q ≡ start ++ line_text (w ∷ rule_words r)
rule_put start o p q w r h k e =
    e ∙ ap (λ t. t ++ 10 ∷ []) (added_put start o p w r h k)
    ∙ append_assoc start (words_text (w ∷ rule_words r)) (10 ∷ [])

-- a first word and turns, appended to a text
pub turns_put : (start o p q : List ℕ) (w : List ℕ) (turns : List ℕ) → o ≡ start ++ w
    → p ≡ o ++ flat_map (λ t. 32 ∷ decimal t) turns → q ≡ p ++ 10 ∷ []
    → q ≡ start ++ line_text (w ∷ map decimal turns)
turns_put start o p q w turns h k e =
    rw (e, k, h, turns_text turns) (simp append_assoc)

-- three words, some more, and the last, appended to a text
pub front_put : (start o1 o2 o3 o4 o5 o6 k p f : List ℕ) (ms cs : Line) → o1 ≡ start ++ k
    → o2 ≡ o1 ++ 32 ∷ p → o3 ≡ o2 ++ 32 ∷ f → o4 ≡ o3 ++ spaced ms → o5 ≡ o4 ++ spaced cs
    → o6 ≡ o5 ++ 10 ∷ [] → o6 ≡ start ++ line_text (k ∷ p ∷ f ∷ (ms ++ cs))
front_put start o1 o2 o3 o4 o5 o6 k p f ms cs e1 e2 e3 e4 e5 e6 =
    rw (e6, e5, e4, e3, e2, e1, flat_map-append after_space ms cs) (simp append_assoc)

-- pieces of a text, grouped as they are appended
five_pieces : (start o1 o2 o3 o4 o5 o6 w m u key n v s e : List ℕ)
    → o1 ≡ start ++ (w ++ (s ++ m)) → o2 ≡ o1 ++ (s ++ u) → o3 ≡ o2 ++ (s ++ key)
    → o4 ≡ o3 ++ n → o5 ≡ o4 ++ (s ++ v) → o6 ≡ o5 ++ e
    → o6 ≡ start
    ++ ((w ++ ((s ++ m) ++ ((s ++ u) ++ ((s ++ (key ++ n)) ++ ((s ++ v) ++ []))))) ++ e)
five_pieces start o1 o2 o3 o4 o5 o6 w m u key n v s e e1 e2 e3 e4 e5 e6 =
    rw (e6, e5, e4, e3, e2, e1) (simp (append-nil, append_assoc))

-- five words, one of which is a key and a value, appended to a text
pub super_put : (start o1 o2 o3 o4 o5 o6 w m u key n v : List ℕ)
    → o1 ≡ start ++ (w ++ 32 ∷ m) → o2 ≡ o1 ++ 32 ∷ u → o3 ≡ o2 ++ 32 ∷ key → o4 ≡ o3 ++ n
    → o5 ≡ o4 ++ 32 ∷ v → o6 ≡ o5 ++ 10 ∷ []
    → o6 ≡ start ++ line_text (w ∷ m ∷ u ∷ (key ++ n) ∷ v ∷ [])
super_put start o1 o2 o3 o4 o5 o6 w m u key n v e1 e2 e3 e4 e5 e6 =
    five_pieces start o1 o2 o3 o4 o5 o6 w m u key n v (32 ∷ []) (10 ∷ []) e1 e2 e3 e4 e5 e6

-- ---- one pass of a loop

-- the elements up to the next one, and that one
taken : {X : Type 0} (xs : List X) (i : ℕ) (x : X) → i < length xs → x ≡ get_or xs i x
    → take (i + 1) xs ≡ take i xs ++ x ∷ []
taken xs i x lt is = take_more xs i x lt ∙ ap (λ y. take i xs ++ y ∷ []) (sym is)

-- the texts so far, and one more
pub text_more : {X : Type 0} (f : X → List ℕ) (xs : List X) (i : ℕ) (x : X)
    (start o p : List ℕ) → i < length xs → x ≡ get_or xs i x
    → o ≡ start ++ flat_map f (take i xs) → p ≡ o ++ f x
    → p ≡ start ++ flat_map f (take (i + 1) xs)
text_more f xs i x start o p lt is h k = one_more start f xs i x lt h (k ∙ ap (λ y. o ++ f y) is)

-- past the last element, the texts of all
pub text_all : {X : Type 0} (f : X → List ℕ) (xs : List X) (i : ℕ) (start o : List ℕ)
    → length xs ≤ i → o ≡ start ++ flat_map f (take i xs) → o ≡ start ++ flat_map f xs
text_all f xs i start o le h = h ∙ ap (λ l. start ++ flat_map f l) (take_all i xs le)

-- a property of the elements so far holds with one more
pub all_more : {X : Type 0} (P : X → Type 0) (xs : List X) (i : ℕ) (x : X) → i < length xs
    → x ≡ get_or xs i x → AllByRecursion P (take i xs) → P x
    → AllByRecursion P (take (i + 1) xs)
all_more P xs i x lt is h k =
    subst (λ l. AllByRecursion P l) (sym (taken xs i x lt is)) (each_after P (take i xs) x h k)

-- past the last element it holds of all
pub all_done : {X : Type 0} (P : X → Type 0) (xs : List X) (i : ℕ) → length xs ≤ i
    → AllByRecursion P (take i xs) → AllByRecursion P xs
all_done P xs i le h = subst (λ l. AllByRecursion P l) (take_all i xs le) h

-- the values that are made of the elements so far, and one more
pub map_more : {X Y Z : Type 0} (f : X → Z) (g : Y → Z) (xs : List X) (i : ℕ) (x : X)
    (ys new : List Y) (y : Y) → i < length xs → x ≡ get_or xs i x → new ≡ ys ++ y ∷ []
    → g y ≡ f x → map g ys ≡ map f (take i xs) → map g new ≡ map f (take (i + 1) xs)
map_more f g xs i x ys new y lt is more same h =
    ap (λ l. map g l) more ∙ map-append g ys (y ∷ []) ∙ ap (λ l. l ++ g y ∷ []) h
    ∙ ap (λ z. map f (take i xs) ++ z ∷ []) same
    ∙ sym (map-append f (take i xs) (x ∷ [])) ∙ ap (λ l. map f l) (sym (taken xs i x lt is))
