-- What calls were told after one more event, in two journals in which the same files have other
-- names; and in a longer list.
use Rattle.std.proofs.Common.{◌≡◌, ℕ, zero, suc, ◌<◌, Bool, false, ◌&&◌, ◌||◌, cond, List, [], ◌∷◌, ◌++◌, length, Option, Some, None, slice_get, refl, ap, ap₂, sym, ◌∙◌, arith}
use Rattle.std.specs.Prelude.{All}
use Rattle.std.specs.Option.{option_or}
use Rattle.std.proofs.lemmas.List.Elements.{All-head, All-tail}
use Rattle.journal_laws.proofs.Small.{or_none}
use Rattle.report_text.specs.model.History.{event}
use Rattle.report_text.specs.model.events.State.{content}
use Rattle.report_text.specs.model.events.declared.deed.Deed.{Deed}
use Rattle.report_text.specs.model.events.declared.deed.Deed.TheVariants as deed
use Rattle.report_text.specs.model.events.declared.told.Event.{Event}
use Rattle.report_text.specs.model.events.declared.told.Told.{Told}
use Rattle.report_text.specs.model.events.labels.declared.verdict.Verdict.{Verdict}
use Rattle.report_text.specs.model.events.meta.declared.step.Who.{Who}
use Rattle.report_text.specs.model.events.templates.declared.entry.Entry.{Entry}
use Rattle.order_outcomes.specs.Calls.{is_by, is_listed, is_read, listed_in, place_told, shows, shows_at, verdict_by, verdict_in, verdict_told}
use Rattle.order_outcomes.proofs.alike.InodeLaws.{deed_named}
use Rattle.order_outcomes.specs.alike.Alike.{places_in, with_place}

-- ---- verdicts

-- the first of three
or_assoc : {A : Type 0} (x y z : Option A)
    → option_or x (option_or y z) ≡ option_or (option_or x y) z
or_assoc None y z = refl
or_assoc (Some x) y z = refl

-- the verdict of a call in a journal with one more event
verdict_more : (task n : ℕ) (journal : List Event) (e : Event)
    → verdict_in task n (journal ++ e ∷ [])
    ≡ option_or (verdict_in task n journal) (option_or (verdict_by task n e) None)
verdict_more task n [] e = refl
verdict_more task n (x ∷ xs) e =
    ap (λ (v : Option Verdict). option_or (verdict_by task n x) v) (verdict_more task n xs e)
    ∙ or_assoc (verdict_by task n x) (verdict_in task n xs)
    (option_or (verdict_by task n e) None)

-- in both journals, with outcomes that tell the same verdict
pub told_grown : (r : ℕ → ℕ) (task n : ℕ) (j j2 : List Event) (who : Who) (d : Deed) (t t2 : Told)
    → verdict_told t2 ≡ verdict_told t → verdict_in task n j2 ≡ verdict_in task n j
    → verdict_in task n (j2 ++ event who (deed_named r d) t2 ∷ [])
    ≡ verdict_in task n (j ++ event who d t ∷ [])
told_grown r task n j j2 who d t t2 same h =
    verdict_more task n j2 (event who (deed_named r d) t2)
    ∙ ap₂ (λ (v x : Option Verdict). option_or v
    (option_or (cond (is_by task n (event who d t)) x None) None)) h same
    ∙ sym (verdict_more task n j (event who d t))

-- ---- places in a list

-- the list shows the bytes at one of the places
abbrev pub shown_in : List Entry → List ℕ → List ℕ → Bool
shown_in list bytes [] = false
shown_in list bytes (place ∷ places) =
    shown_in list bytes places || shows_at list bytes (Some place)

-- one more event shows them if its own place does
shown_with : (list : List Entry) (bytes : List ℕ) (o : Option ℕ) (places : List ℕ)
    → (shown_in list bytes places || shows_at list bytes o)
    ≡ shown_in list bytes (with_place o places)
shown_with list bytes None places = or_none (shown_in list bytes places)
shown_with list bytes (Some place) places = refl

-- whether bytes are listed depends on the places alone
pub listed_places : (list : List Entry) (bytes : List ℕ) (p : List Event)
    → is_listed list bytes p ≡ shown_in list bytes (places_in p)
listed_places list bytes [] = refl
listed_places list bytes (e ∷ p) =
    ap (λ (b : Bool). b || shows_at list bytes (place_told e.told)) (listed_places list bytes p)
    ∙ shown_with list bytes (place_told e.told) (places_in p)

-- a longer list has the same entry at a place
get_before : (xs ys : List Entry) (k : ℕ) → k < length xs
    → slice_get (xs ++ ys) k ≡ slice_get xs k
get_before [] ys k h = absurd (omega arith)
get_before (x ∷ xs) ys zero h = refl
get_before (x ∷ xs) ys (suc k) h = get_before xs ys k (omega arith)

-- all places are in the list
abbrev AreIn : List Entry → List ℕ → Type 0
AreIn list places = All (λ place. place < length list) places

-- a longer list shows the same at places that the list has
shown_longer : (list more : List Entry) (bytes : List ℕ) (places : List ℕ) → AreIn list places
    → shown_in (list ++ more) bytes places ≡ shown_in list bytes places
shown_longer list more bytes [] h = refl
shown_longer list more bytes (place ∷ places) h =
    ap₂ (λ (a b : Bool). a || b)
    (shown_longer list more bytes places (All-tail (λ (x : ℕ). x < length list) place places h))
    (ap (λ (o : Option Entry). shows bytes o)
    (get_before list more place (All-head (λ (x : ℕ). x < length list) place places h)))

-- the places of earlier events are in the list too
pub earlier_in : (list : List Entry) (o : Option ℕ) (places : List ℕ)
    → AreIn list (with_place o places) → AreIn list places
earlier_in list None places h = h
earlier_in list (Some place) places h = All-tail (λ (x : ℕ). x < length list) place places h

-- ---- reads

-- bytes that were listed or not stay so in a longer list
pub is_listed_longer : (list more : List Entry) (bytes : List ℕ) (p : List Event)
    → AreIn list (places_in p) → is_listed (list ++ more) bytes p ≡ is_listed list bytes p
is_listed_longer list more bytes p h =
    listed_places (list ++ more) bytes p
    ∙ shown_longer list more bytes (places_in p) h
    ∙ sym (listed_places list bytes p)

-- a longer list changes nothing for reads that were done
pub listed_longer : (list more : List Entry) (task n : ℕ) (p : List Event)
    → AreIn list (places_in p)
    → listed_in (list ++ more) task n p ≡ listed_in list task n p
listed_longer list more task n [] h = refl
listed_longer list more task n (e ∷ p) h =
    let before = earlier_in list (place_told e.told) (places_in p) h in
    ap₂ (λ (b : Bool) (o : Option Bool). cond (is_by task n e && is_read e.deed) (Some b) o)
    (is_listed_longer list more (content p) p before)
    (listed_longer list more task n p before)

-- a read is one under any name
read_named : (r : ℕ → ℕ) (d : Deed) → is_read (deed_named r d) ≡ is_read d
read_named r deed.Birth = refl
read_named r d = refl

-- whether the content was listed when a call read it, in both journals
pub listed_grown : (r : ℕ → ℕ) (list list2 : List Entry) (task n : ℕ) (p q : List Event)
    (who : Who) (d : Deed) (t t2 : Told) → content q ≡ content p
    → ((bytes : List ℕ) → is_listed list2 bytes q ≡ is_listed list bytes p)
    → listed_in list2 task n q ≡ listed_in list task n p
    → listed_in list2 task n (event who (deed_named r d) t2 ∷ q)
    ≡ listed_in list task n (event who d t ∷ p)
listed_grown r list list2 task n p q who d t t2 contents shown h =
    let same : is_listed list2 (content q) q ≡ is_listed list (content p) p
    = ap (λ (bytes : List ℕ). is_listed list2 bytes q) contents ∙ shown (content p) in
    ap (λ (b : Bool). cond (is_by task n (event who d t) && b)
    (Some (is_listed list2 (content q) q)) (listed_in list2 task n q)) (read_named r d)
    ∙ ap₂ (λ (b : Bool) (o : Option Bool). cond (is_by task n (event who d t) && is_read d)
    (Some b) o) same h
