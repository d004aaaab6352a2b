-- The pieces of a trail, as the code appends them, make its lines.
use Rattle.std.proofs.Common.{◌≡◌, ℕ, suc, ◌+◌, ◌<◌, ◌≤◌, List, [], ◌∷◌, ◌++◌, length, drop, get_or, codes, cond, Result, Ok, Err, sym, ◌∙◌, ap, arith, append_assoc, drop-cons, length-append}
use Rattle.std.specs.List.{join_with_byte}
use Rattle.std.specs.Result.{OnOk, is_ok}
use Rattle.std.proofs.lemmas.Grind.{flat_map-append}
use Rattle.std.proofs.lemmas.List.{append-nil, drop_all}
use Rattle.hex.specs.Hex.{encode_lower}
use Rattle.report_text.specs.Numerals.{numeral}
use Rattle.report_text.specs.Texts.{line_text}
use Rattle.report_text.specs.Words.{Line, who_word}
use Rattle.world_model.specs.model.events.forms.Words.{text_of}
use Rattle.world_model.specs.model.events.hashes.Algo.{algo_name}
use Rattle.world_model.specs.model.events.hashes.declared.digest.Digest.{Digest}
use Rattle.world_model.specs.model.events.meta.declared.step.Who.{Who}
use Rattle.audit_trail.specs.Texts.{check_text, front_text}
use Rattle.audit_trail.specs.Trail.{digest_word, record_line, trail_lines}

-- ---- a record

front_gather : (o w s i d k z t n path : List ℕ)
    → ((((o ++ (w ++ (s ++ i))) ++ (d ++ k ++ s ++ z)) ++ (t ++ n)) ++ s) ++ path
    ≡ o ++ (w ++ (s ++ (((i ++ (d ++ k)) ++ (s ++ z)) ++ (t ++ (n ++ (s ++ path))))))
front_gather o w s i d k z t n path = simp append_assoc

-- the pieces of a record up to its value, as the code appends them
pub front_pushed : (o word : List ℕ) (i k : ℕ) (who : Who) (line : ℕ) (path : List ℕ)
    → ((((o ++ join_with_byte 32 (word ∷ numeral i ∷ [])) ++ check_text k who)
    ++ join_with_byte 32 (codes " line" ∷ numeral line ∷ [])) ++ codes " ") ++ path
    ≡ o ++ front_text word i k who line path
front_pushed o word i k who line path =
    front_gather o word (codes " ") (numeral i) (codes ".") (numeral k) (who_word who)
    (codes " line ") (numeral line) path

record_gather : (o w s p z t n path v e : List ℕ)
    → ((o ++ (w ++ (s ++ ((p ++ (s ++ z)) ++ (t ++ (n ++ (s ++ path))))))) ++ (s ++ v)) ++ e
    ≡ o ++ ((w ++ (s ++ (p ++ (s ++ (z ++ (t ++ (n ++ (s ++ (path ++ (s ++ v)))))))))) ++ e)
record_gather o w s p z t n path v e = simp append_assoc

-- they, the value and a newline are the record's line
pub record_pushed : (o word : List ℕ) (i k : ℕ) (who : Who) (line : ℕ) (path value : List ℕ)
    → ((o ++ front_text word i k who line path) ++ 32 ∷ value) ++ codes "\n"
    ≡ o ++ line_text (record_line word i k who line path value)
record_pushed o word i k who line path value =
    record_gather o word (codes " ") (numeral i ++ 46 ∷ numeral k) (who_word who) (codes " line ")
    (numeral line) path value (codes "\n")

named_gather : (o name digits : List ℕ) → o ++ 32 ∷ name ++ 58 ∷ digits
    ≡ o ++ 32 ∷ (name ++ codes ":" ++ digits)
named_gather o name digits = simp append_assoc

-- a space, the algorithm, a colon and the digits are a space and the digest's word
pub named_joined : (o : List ℕ) (d : Digest) → o ++ 32 ∷ algo_name d.algo ++ 58
    ∷ encode_lower d.bytes ≡ o ++ 32 ∷ digest_word d
named_joined o d = named_gather o (algo_name d.algo) (encode_lower d.bytes)

-- the text of a single line
pub text_of_one : (l : Line) → text_of (l ∷ []) ≡ line_text l
text_of_one l = append-nil (line_text l)

-- ---- texts and counts of more lines

-- two texts, one appended after the other
pub texts_join : (o mid new : List ℕ) (a b : List Line) → mid ≡ o ++ text_of a
    → new ≡ mid ++ text_of b → new ≡ o ++ text_of (a ++ b)
texts_join o mid new a b h k =
    k ∙ ap (λ (l : List ℕ). l ++ text_of b) h ∙ append_assoc o (text_of a) (text_of b)
    ∙ ap (λ (l : List ℕ). o ++ l) (sym (flat_map-append line_text a b))

-- their numbers of lines
pub counts_join : (m n : ℕ) (a b : List Line) → m ≡ length a → n ≡ length b
    → m + n ≡ length (a ++ b)
counts_join m n a b h k =
    let both : length (a ++ b) ≡ length a + length b = length-append a b in omega arith

-- the lines of one more element are counted, while those of the others are still to come
pub counts_on : {X : Type 0} (lines : ℕ → List X → List Line) (f : ℕ → X → List Line)
    → ((k : ℕ) (x : X) (xs : List X) → lines k (x ∷ xs) ≡ f k x ++ lines (k + 1) xs)
    → (total count more : ℕ) (xs : List X) (i : ℕ) (x : X) → i < length xs → x ≡ get_or xs i x
    → count + length (lines i (drop i xs)) ≡ total → more ≡ length (f i x)
    → (count + more) + length (lines (i + 1) (drop (i + 1) xs)) ≡ total
counts_on lines f step total count more xs i x lt is h k =
    let one : suc i ≡ i + 1 = omega arith in
    let here : drop i xs ≡ x ∷ drop (i + 1) xs =
    drop-cons xs i x lt ∙ ap (λ y. y ∷ drop (suc i) xs) (sym is)
    ∙ ap (λ (n : ℕ). x ∷ drop n xs) one in
    let parts : length (lines i (drop i xs))
    ≡ length (f i x) + length (lines (i + 1) (drop (i + 1) xs)) =
    ap (λ ys. length (lines i ys)) here ∙ ap (λ (l : List Line). length l)
    (step i x (drop (i + 1) xs))
    ∙ length-append (f i x) (lines (i + 1) (drop (i + 1) xs)) in
    omega arith

-- after the last element, all lines are counted
pub counts_end : {X : Type 0} (lines : ℕ → List X → List Line) → ((k : ℕ) → lines k [] ≡ [])
    → (total count : ℕ) (xs : List X) (i : ℕ) → length xs ≤ i
    → count + length (lines i (drop i xs)) ≡ total → count ≡ total
counts_end lines none total count xs i le h =
    let over : length (lines i (drop i xs)) ≡ 0 =
    ap (λ ys. length (lines i ys)) (drop_all i xs le)
    ∙ ap (λ (l : List Line). length l) (none i) in
    omega arith

-- ---- the whole trail

trail_gather : (o h e b f : List ℕ) → (((o ++ h) ++ e) ++ b) ++ f ≡ o ++ ((h ++ e) ++ (b ++ f))
trail_gather o h e b f = simp append_assoc

-- the pieces of the trail, as the code appends them, are the trail
pub trail_pushed : (o : List ℕ) (count : ℕ) (body : List ℕ) (ls : List Line) → count ≡ length ls
    → body ≡ text_of ls
    → (((o ++ join_with_byte 32 (codes "trail" ∷ numeral count ∷ [])) ++ codes "\n") ++ body)
    ++ codes "end\n" ≡ o ++ text_of (trail_lines ls)
trail_pushed o count body ls c b =
    trail_gather o (join_with_byte 32 (codes "trail" ∷ numeral count ∷ [])) (codes "\n") body
    (codes "end\n")
    ∙ (λ i. o ++ (line_text (codes "trail" ∷ numeral (c i) ∷ []) ++ (b i ++ codes "end\n")))
    ∙ ap (λ (l : List ℕ). o ++ (line_text (codes "trail" ∷ numeral (length ls) ∷ []) ++ l))
    (sym (flat_map-append line_text ls ((codes "end" ∷ []) ∷ [])))

-- the text of a record, as it was appended, is longer by its newline at least
pub grown : (old front middle new a b : List ℕ) → front ≡ old ++ a → middle ≡ front ++ b
    → new ≡ middle ++ codes "\n" → length old + 1 ≤ length new
grown old front middle new a b x y z =
    let first : length front ≡ length old + length a =
    ap (λ (l : List ℕ). length l) x ∙ length-append old a in
    let second : length middle ≡ length front + length b =
    ap (λ (l : List ℕ). length l) y ∙ length-append front b in
    let third : length new ≡ length middle + 1 =
    ap (λ (l : List ℕ). length l) z ∙ length-append middle (codes "\n") in
    omega arith

-- the last piece, if it was appended
pub last_pushed : {E Q : Type 0} (r : Result (Unit {0}) E) (old more new : List ℕ)
    → new ≡ cond (is_ok r) (old ++ more) old → (new ≡ old ++ more → Q) → OnOk r Q
last_pushed (Ok v) old more new e f = f e
last_pushed (Err x) old more new e f = tt
