-- Words joined by spaces, and lines appended one after another.
use Rattle.std.proofs.Common.{◌≡◌, ◌≢◌, ℕ, suc, ◌+◌, ◌<◌, ◌≤◌, Bool, true, List, [], ◌∷◌, ◌++◌, take, drop, map, get_or, length, codes, Option, Some, None, Result, Ok, Err, cond, refl, sym, ap, ◌∙◌, append_assoc, drop-cons, arith}
use Rattle.report_events.specs.Numerals.{numeral}
use Rattle.std.specs.List.{join_with_byte}
use Rattle.std.specs.Result.{OnOk, is_ok}
use Rattle.std.proofs.lemmas.Bool.{false≢true}
use Rattle.std.proofs.lemmas.List.{append-nil, drop_all, map_push, take_more}
use Rattle.std.proofs.lemmas.Grind.{flat_map-append}
use Rattle.std.proofs.lemmas.Result.{on_ok_weaker}
use Rattle.inode_meta.specs.declared.measurement.Template.{Template}
use Rattle.inode_meta.specs.declared.step.Who.{Who}
use Rattle.ima_templates.specs.declared.entry.Placed.{Placed}
use Rattle.ima_templates.specs.declared.entry.Placed.TheVariants.{Added, Already}
use Rattle.label_values.specs.declared.verdict.Verdict.{Verdict}
use Rattle.label_values.specs.declared.verdict.Verdict.TheVariants.{Pass, Deny}
use Rattle.inode_events.specs.declared.deed.Deed.{Deed}
use Rattle.inode_events.specs.declared.deed.Deed.TheVariants as deed
use Rattle.inode_events.specs.declared.told.Told.{Told}
use Rattle.inode_events.specs.declared.told.Told.TheVariants as told
use Rattle.text_forms.specs.Tokens.{is_filled}
use Rattle.text_forms.specs.Words.{text_of}
use Rattle.report_events.specs.Texts.{line_text}
use Rattle.report_events.specs.Words.{Line, admitted_words, deed_words, placed_words, step_words, told_words, verdict_words, who_word}

-- one more word at the end of a line
join_more : (w : List ℕ) (ws : Line) (v : List ℕ)
    → join_with_byte 32 (w ∷ (ws ++ v ∷ [])) ≡ join_with_byte 32 (w ∷ ws) ++ 32 ∷ v
join_more w [] v = refl
join_more w (u ∷ ws) v = rw (join_more u ws v) (simp append_assoc)

-- two lines, neither of them empty, in a row
pub join_append : (a b : Line) → is_filled a ≡ true → is_filled b ≡ true
    → join_with_byte 32 (a ++ b) ≡ join_with_byte 32 a ++ 32 ∷ join_with_byte 32 b
join_append [] b h k = absurd (false≢true h)
join_append (w ∷ []) [] h k = absurd (false≢true k)
join_append (w ∷ []) (v ∷ b) h k = refl
join_append (w ∷ u ∷ a) b h k = rw (join_append (u ∷ a) b refl k) (simp append_assoc)

-- one more number after the words
pub numbers_on : (o out new w : List ℕ) (ns : List ℕ) (i : ℕ) → i < length ns
    → out ≡ o ++ join_with_byte 32 (w ∷ map numeral (take i ns))
    → new ≡ (out ++ 32 ∷ []) ++ numeral (get_or ns i 0)
    → new ≡ o ++ join_with_byte 32 (w ∷ map numeral (take (i + 1) ns))
numbers_on o out new w ns i lt h k =
    let d = numeral (get_or ns i 0) in
    let front = join_with_byte 32 (w ∷ map numeral (take i ns)) in
    let more : map numeral (take (i + 1) ns) ≡ map numeral (take i ns) ++ d ∷ [] =
    ap (map numeral) (take_more ns i 0 lt) ∙ map_push numeral (take i ns) (get_or ns i 0) in
    k ∙ ap (λ l. (l ++ 32 ∷ []) ++ d) h ∙ append_assoc (o ++ front) (32 ∷ []) d
    ∙ append_assoc o front (32 ∷ d)
    ∙ ap (λ l. o ++ l) (sym (join_more w (map numeral (take i ns)) d))
    ∙ ap (λ l. o ++ join_with_byte 32 (w ∷ l)) (sym more)

-- ---- an event

filled_append : (a b : Line) → is_filled a ≡ true → is_filled (a ++ b) ≡ true
filled_append [] b h = absurd (false≢true h)
filled_append (w ∷ a) b h = refl

deed_filled : (t : Template) (g : Bool) (d : Deed) → is_filled (deed_words t g d) ≡ true
deed_filled t g deed.Birth = refl
deed_filled t g (deed.Count h) = refl
deed_filled t g (deed.Check f fn a n) = refl
deed_filled t g (deed.Read f o n) = refl
deed_filled t g (deed.Write f o b) = refl
deed_filled t g (deed.Trunc f n) = refl
deed_filled t g (deed.SetAttr n b a) = refl
deed_filled t g (deed.SetMeta c) = refl
deed_filled t g (deed.Take n) = refl
deed_filled t g (deed.Chunk n) = refl
deed_filled t g (deed.Finish n) = refl
deed_filled t g (deed.Close n) = refl
deed_filled t g (deed.CloseTake n) = refl
deed_filled t g (deed.CloseChunk n) = refl
deed_filled t g (deed.CloseFinish n) = refl
deed_filled t g (deed.Post n) = refl
deed_filled t g (deed.Wait n) = refl

grant_filled : (p : Option Placed) (v : Option Verdict) (a l : Bool)
    → is_filled (placed_words p ++ verdict_words v ++ admitted_words a l) ≡ true
grant_filled None None a l = refl
grant_filled None (Some Pass) a l = refl
grant_filled None (Some (Deny c)) a l = refl
grant_filled (Some (Added n)) None a l = refl
grant_filled (Some (Added n)) (Some v) a l = refl
grant_filled (Some (Already n)) None a l = refl
grant_filled (Some (Already n)) (Some v) a l = refl

told_filled : (s : Told) → is_filled (told_words s) ≡ true
told_filled (told.Image image) = refl
told_filled told.Held = refl
told_filled told.NotFound = refl
told_filled told.TextBusy = refl
told_filled told.Quiet = refl
told_filled told.Begun = refl
told_filled told.More = refl
told_filled told.Last = refl
told_filled told.Done = refl
told_filled told.TooBig = refl
told_filled told.EvmName = refl
told_filled told.NotAdmin = refl
told_filled told.TooLong = refl
told_filled told.Invalid = refl
told_filled told.NoData = refl
told_filled told.Dropped = refl
told_filled told.LabelledDropped = refl
told_filled told.Nothing = refl
told_filled (told.OpenWriters n) = refl
told_filled (told.ToMToU n) = refl
told_filled (told.Status s) = refl
told_filled (told.Read n d) = refl
told_filled (told.Grant g) = grant_filled g.placed g.verdict g.admitted g.labelled

-- the words of an event that isn't a birth are a step, a deed and an outcome
made_words : (t : Template) (g : Bool) (who : Who) (d : Deed) (s : Told) → d ≢ deed.Birth
    → step_words t g who d s ≡ who_word who ∷ (deed_words t g d ++ codes "=" ∷ told_words s)
made_words t g who deed.Birth s not_birth = absurd (not_birth refl)
made_words t g who (deed.Count h) s not_birth = refl
made_words t g who (deed.Check f fn a n) s not_birth = refl
made_words t g who (deed.Read f o n) s not_birth = refl
made_words t g who (deed.Write f o b) s not_birth = refl
made_words t g who (deed.Trunc f n) s not_birth = refl
made_words t g who (deed.SetAttr n b a) s not_birth = refl
made_words t g who (deed.SetMeta c) s not_birth = refl
made_words t g who (deed.Take n) s not_birth = refl
made_words t g who (deed.Chunk n) s not_birth = refl
made_words t g who (deed.Finish n) s not_birth = refl
made_words t g who (deed.Close n) s not_birth = refl
made_words t g who (deed.CloseTake n) s not_birth = refl
made_words t g who (deed.CloseChunk n) s not_birth = refl
made_words t g who (deed.CloseFinish n) s not_birth = refl
made_words t g who (deed.Post n) s not_birth = refl
made_words t g who (deed.Wait n) s not_birth = refl

gather : (o p s w b d e t n : List ℕ) → (((((((o ++ p) ++ s) ++ w) ++ b) ++ d) ++ e) ++ t) ++ n
    ≡ o ++ (p ++ (s ++ (w ++ (b ++ (d ++ (e ++ (t ++ n)))))))
gather o p s w b d e t n = simp append_assoc

spread : (p w x n : List ℕ) → p ++ 32 ∷ (w ++ 32 ∷ (x ++ n)) ≡ ((p ++ 32 ∷ w) ++ 32 ∷ x) ++ n
spread p w x n = simp append_assoc

regroup : (o p w d t : List ℕ)
    → (((((((o ++ p) ++ codes " ") ++ w) ++ codes " ") ++ d) ++ codes " = ") ++ t) ++ codes "\n"
    ≡ o ++ (((p ++ 32 ∷ w) ++ 32 ∷ (d ++ 32 ∷ (codes "=" ++ 32 ∷ t))) ++ 10 ∷ [])
regroup o p w d t =
    gather o p (codes " ") w (codes " ") d (codes " = ") t (codes "\n")
    ∙ ap (λ l. o ++ (p ++ 32 ∷ (w ++ 32 ∷ l)))
    (sym (append_assoc d (codes " = " ++ t) (codes "\n")))
    ∙ ap (λ l. o ++ l) (spread p w (d ++ 32 ∷ (codes "=" ++ 32 ∷ t)) (10 ∷ []))

-- the pieces of an event's line, as the code appends them, are the line
pub event_pushed : (o : List ℕ) (t : Template) (g : Bool) (place : ℕ) (who : Who) (d : Deed)
    (s : Told)
    → d ≢ deed.Birth
    → (((((((o ++ numeral place) ++ codes " ") ++ who_word who) ++ codes " ")
    ++ join_with_byte 32 (deed_words t g d)) ++ codes " = ") ++ join_with_byte 32 (told_words s))
    ++ codes "\n"
    ≡ o ++ line_text (numeral place ∷ step_words t g who d s)
event_pushed o t g place who d s not_birth =
    let ds = deed_words t g d in
    let ts = told_words s in
    regroup o (numeral place) (who_word who) (join_with_byte 32 ds) (join_with_byte 32 ts)
    ∙ ap (λ l. o ++ (((numeral place ++ 32 ∷ who_word who) ++ 32 ∷ (join_with_byte 32 ds ++ 32 ∷ l))
    ++ 10 ∷ []))
    (sym (join_append (codes "=" ∷ []) ts refl (told_filled s)))
    ∙ ap (λ l. o ++ (((numeral place ++ 32 ∷ who_word who) ++ 32 ∷ l) ++ 10 ∷ []))
    (sym (join_append ds (codes "=" ∷ ts) (deed_filled t g d) refl))
    ∙ ap (λ l. o ++ (l ++ 10 ∷ []))
    (sym (join_append (numeral place ∷ who_word who ∷ []) (ds ++ codes "=" ∷ ts) refl
    (filled_append ds (codes "=" ∷ ts) (deed_filled t g d))))
    ∙ ap (λ (l : Line). o ++ line_text (numeral place ∷ l)) (sym (made_words t g who d s not_birth))

-- ---- numbered lines

-- the lines of one more element are appended, while those of the other elements are still to come
pub lines_on : {X : Type 0} (lines : ℕ → List X → List Line) (f : ℕ → X → List Line)
    → ((k : ℕ) (x : X) (xs : List X) → lines k (x ∷ xs) ≡ f k x ++ lines (k + 1) xs)
    → (o out new : List ℕ) (xs : List X) (i : ℕ) (x : X) → i < length xs → x ≡ get_or xs i x
    → out ++ text_of (lines i (drop i xs)) ≡ o → new ≡ out ++ text_of (f i x)
    → new ++ text_of (lines (i + 1) (drop (i + 1) xs)) ≡ o
lines_on lines f step o out new xs i x lt is h k =
    let rest = drop (i + 1) xs in
    let one : suc i ≡ i + 1 = omega arith in
    let at : drop i xs ≡ x ∷ rest =
    drop-cons xs i x lt ∙ ap (λ y. y ∷ drop (suc i) xs) (sym is) ∙ ap (λ n. x ∷ drop n xs) one in
    let parts : text_of (lines i (drop i xs)) ≡ text_of (f i x) ++ text_of (lines (i + 1) rest) =
    ap (λ ys. text_of (lines i ys)) at ∙ ap text_of (step i x rest)
    ∙ flat_map-append line_text (f i x) (lines (i + 1) rest) in
    ap (λ l. l ++ text_of (lines (i + 1) rest)) k
    ∙ append_assoc out (text_of (f i x)) (text_of (lines (i + 1) rest))
    ∙ ap (λ l. out ++ l) (sym parts) ∙ h

-- after the last element, no lines are still to come
pub lines_end : {X : Type 0} (lines : ℕ → List X → List Line) → ((k : ℕ) → lines k [] ≡ [])
    → (o out : List ℕ) (xs : List X) (i : ℕ) → length xs ≤ i
    → out ++ text_of (lines i (drop i xs)) ≡ o → out ≡ o
lines_end lines none o out xs i le h =
    sym (append-nil out)
    ∙ ap (λ (ls : List Line). out ++ text_of ls) (sym (ap (lines i) (drop_all i xs le) ∙ none i))
    ∙ h

-- ---- the last piece

-- what it makes, if it was appended
pub last_pushed : {E Q : Type 0} (r : Result (Unit {0}) E) (old more new : List ℕ)
    → new ≡ cond (is_ok r) (old ++ more) old → (new ≡ old ++ more → Q) → OnOk r Q
last_pushed (Ok v) old more new e f = f e
last_pushed (Err x) old more new e f = tt

-- the same of a piece that a function appends
pub when_ok : {T E P Q : Type 0} (r : Result T E) → OnOk r P → (P → Q) → OnOk r Q
when_ok r h f = on_ok_weaker r f h
