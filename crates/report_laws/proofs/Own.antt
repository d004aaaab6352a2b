-- Two histories of one program whose events print alike make the same steps.
use Rattle.std.proofs.Common.{◌≡◌, ℕ, zero, suc, ◌<◌, ◌≤◌, ◌==◌, Bool, true, false, ◌&&◌, List, [], ◌∷◌, ◌++◌, length, map, take, Option, Some, None, if◌then◌else◌, refl, sym, ap, ◌∙◌, append_assoc, inl, inr, arith}
use Rattle.std.specs.Prelude.{slice_get}
use Rattle.std.specs.List.{list_all}
use Rattle.std.proofs.lemmas.Bool.{and_parts, cases_Bool, false≢true}
use Rattle.std.proofs.lemmas.Bool.Decides.{nat_tests}
use Rattle.std.proofs.lemmas.List.{append-nil}
use Rattle.inode_meta.specs.declared.step.Who.{Who}
use Rattle.inode_events.specs.NewestFirst.{newest_first}
use Rattle.inode_events.specs.State.{metadata}
use Rattle.inode_events.specs.declared.deed.Deed.{Deed}
use Rattle.inode_events.specs.declared.deed.Deed.TheVariants as deed
use Rattle.inode_events.specs.declared.told.Event.{Event}
use Rattle.inode_events.specs.declared.told.Told.{Told}
use Rattle.call_steps.specs.CallState.{Step}
use Rattle.call_steps.specs.CallState.{Nothing, Does, Checks, Signals, Appends}
use Rattle.run_model.specs.History.{Answer, event, event_in, own, position, step_at, who_at}
use Rattle.run_model.specs.Served.{AreSuited, Run, Suits, final_rules, known_after, rules_known}
use Rattle.run_model.specs.Scene.{Program, Scene, decided, mode_of, rules_with}
use Rattle.report_text.specs.Printed.{birth_event, printed, printed_told}
use Rattle.run_model.specs.EndedValue.{grows}
use Rattle.report_laws.proofs.CallStates.{place_in, plain_call_state}

-- ---- parts of lists

-- equal lists whose fronts have one length have equal fronts and equal rests
pub parts_by_length : {X : Type 0} (a b x y : List X) → length a ≡ length b → a ++ x ≡ b ++ y
    → (a ≡ b) × (x ≡ y)
parts_by_length [] [] x y n e = (refl, e)
parts_by_length [] (b ∷ bs) x y n e = absurd (omega (arith, n))
parts_by_length (a ∷ xs) [] x y n e = absurd (omega (arith, n))
parts_by_length (a ∷ xs) (b ∷ bs) x y n e =
    let others = parts_by_length xs bs x y (omega (arith, n)) (cc) in
    (cc (others.0), others.1)

-- mapping keeps the length of a list
pub length_map : {X Y : Type 0} (f : X → Y) (xs : List X) → length (map f xs) ≡ length xs
length_map f [] = refl
length_map f (x ∷ xs) = omega (arith, length_map f xs)

-- mapping commutes with joining two lists
pub map_append : {X Y : Type 0} (f : X → Y) (xs ys : List X) → map f (xs ++ ys) ≡ map f xs
    ++ map f ys
map_append f [] ys = refl
map_append f (x ∷ xs) ys = ap (λ l. f x ∷ l) (map_append f xs ys)

-- the middles of two lists that map alike do so too, if fronts and middles have the same lengths
pub middle : {X Y : Type 0} (f : X → Y) (xs ys u v r s : List X) → length xs ≡ length ys → length u
    ≡ length v
    → map f ((xs ++ u) ++ r) ≡ map f ((ys ++ v) ++ s) → map f u ≡ map f v
middle f xs ys u v r s n m e =
    let a = ap (map f) (append_assoc xs u r) ∙ map_append f xs (u ++ r) in
    let b = ap (map f) (append_assoc ys v s) ∙ map_append f ys (v ++ s) in
    let first = parts_by_length (map f xs) (map f ys) (map f (u ++ r)) (map f (v ++ s))
    (length_map f xs ∙ n ∙ sym (length_map f ys)) (sym a ∙ e ∙ b) in
    let second = parts_by_length (map f u) (map f v) (map f r) (map f s) (length_map f u ∙ m
    ∙ sym (length_map f v))
    (sym (map_append f u r) ∙ first.1 ∙ map_append f v s) in
    second.0

-- a list of length 0 is empty
pub empty : {X : Type 0} (xs : List X) → length xs ≡ 0 → xs ≡ []
empty [] e = refl
empty (x ∷ xs) e = absurd (omega (arith, e))

abbrev pub is_there : {X : Type 0} → Option X → Bool
is_there None = false
is_there (Some x) = true

-- equal options have equal contents
pub some_same : {X : Type 0} (x y : X) → Some x ≡ Some y → x ≡ y
some_same x y e = cc

-- a place that has an element is below the length
pub get_below : {X : Type 0} (xs : List X) (i : ℕ) (x : X) → slice_get xs i ≡ Some x → i < length xs
get_below [] i x e = absurd (false≢true (ap is_there e))
get_below (y ∷ xs) zero x e = omega arith
get_below (y ∷ xs) (suc i) x e = omega (arith, get_below xs i x e)

-- ---- printed events

abbrev pub pr : Scene → ℕ × Event → ℕ × Event
pr scene x = (x.0, printed scene.settings.template (grows scene) x.1)

-- an event without the image of a birth and the digest of a read
abbrev pub alike_by : Event → Deed → Event
alike_by e deed.Birth = birth_event
alike_by e d = record { who = e.who; deed = d; told = printed_told e.told }

abbrev pub alike : Event → Event
alike e = alike_by e e.deed

abbrev pub al : ℕ × Event → ℕ × Event
al x = (x.0, alike x.1)

abbrev pub is_no_birth : Deed → Bool
is_no_birth deed.Birth = false
is_no_birth _ = true

abbrev pub no_birth : ℕ × Event → Bool
no_birth x = is_no_birth x.1.deed

-- the outcome of a printed event is the printed outcome
pub told_of : (scene : Scene) (who : Who) (d : Deed) (t : Told) → is_no_birth d ≡ true
    → (printed scene.settings.template (grows scene) (event who d t)).told ≡ printed_told t
told_of scene who deed.Birth t h = absurd (false≢true h)
told_of scene who (deed.Count h) t hh = refl
told_of scene who (deed.Check f fn ac r) t hh = refl
told_of scene who (deed.Take f) t hh = refl
told_of scene who (deed.Chunk f) t hh = refl
told_of scene who (deed.Finish f) t hh = refl
told_of scene who (deed.Read f o n) t hh = refl
told_of scene who (deed.Write f o b) t hh = refl
told_of scene who (deed.Trunc f n) t hh = refl
told_of scene who (deed.SetAttr nm b ad) t hh = refl
told_of scene who (deed.SetMeta c) t hh = refl
told_of scene who (deed.Close f) t hh = refl
told_of scene who (deed.CloseTake f) t hh = refl
told_of scene who (deed.CloseChunk f) t hh = refl
told_of scene who (deed.CloseFinish f) t hh = refl
told_of scene who (deed.Post s) t hh = refl
told_of scene who (deed.Wait s) t hh = refl

-- events of one step are alike if their outcomes print alike
pub alike_same : (who : Who) (d : Deed) (t u : Told) → printed_told t ≡ printed_told u
    → alike (event who d t) ≡ alike (event who d u)
alike_same who deed.Birth t u e = refl
alike_same who (deed.Count h) t u e = λ i. record { who = who; deed = deed.Count h; told = e i }
alike_same who (deed.Check f fn ac r) t u e =
    λ i. record { who = who; deed = deed.Check f fn ac r; told = e i }
alike_same who (deed.Take f) t u e = λ i. record { who = who; deed = deed.Take f; told = e i }
alike_same who (deed.Chunk f) t u e = λ i. record { who = who; deed = deed.Chunk f; told = e i }
alike_same who (deed.Finish f) t u e = λ i. record { who = who; deed = deed.Finish f; told = e i }
alike_same who (deed.Read f o n) t u e =
    λ i. record { who = who; deed = deed.Read f o n; told = e i }
alike_same who (deed.Write f o b) t u e =
    λ i. record { who = who; deed = deed.Write f o b; told = e i }
alike_same who (deed.Trunc f n) t u e = λ i. record { who = who; deed = deed.Trunc f n; told = e i }
alike_same who (deed.SetAttr nm b ad) t u e =
    λ i. record { who = who; deed = deed.SetAttr nm b ad; told = e i }
alike_same who (deed.SetMeta c) t u e = λ i. record { who = who; deed = deed.SetMeta c; told = e i }
alike_same who (deed.Close f) t u e = λ i. record { who = who; deed = deed.Close f; told = e i }
alike_same who (deed.CloseTake f) t u e =
    λ i. record { who = who; deed = deed.CloseTake f; told = e i }
alike_same who (deed.CloseChunk f) t u e =
    λ i. record { who = who; deed = deed.CloseChunk f; told = e i }
alike_same who (deed.CloseFinish f) t u e =
    λ i. record { who = who; deed = deed.CloseFinish f; told = e i }
alike_same who (deed.Post s) t u e = λ i. record { who = who; deed = deed.Post s; told = e i }
alike_same who (deed.Wait s) t u e = λ i. record { who = who; deed = deed.Wait s; told = e i }

abbrev pub head_place : List (ℕ × Event) → ℕ
head_place [] = 0
head_place (x ∷ xs) = x.0

abbrev pub head_event : List (ℕ × Event) → Event
head_event [] = birth_event
head_event (x ∷ xs) = x.1

abbrev pub rules_in : Deed → ℕ
rules_in (deed.Check f fn ac n) = n
rules_in _ = 0

-- ---- what two runs have in common

pub record Meet (scene : Scene) (a b : Run) : Type 0 where
  pub added : a.added ≡ b.added
  pub few : grows scene ≡ false → a.added ≡ []
  pub meta : (i k : ℕ) (x y : List Event) → slice_get a.journals i ≡ Some x → slice_get b.journals i
      ≡ Some y → metadata (newest_first (take k x)) ≡ metadata (newest_first (take k y))

pub record StepAlike (who : Who) (s : Option Step) (x y : Answer) : Type 0 where
  pub place : place_in s x.place ≡ place_in s y.place
  pub told : printed_told x.told ≡ printed_told y.told
  pub action : x.action ≡ y.action
  pub events : (i : ℕ) → map al (event_in i who s x) ≡ map al (event_in i who s y)

-- an event that is there or not, by one test, is alike in both lists
pub one_event : (b : Bool) (x y : ℕ × Event) → al x ≡ al y → map al (if b then x ∷ [] else [])
    ≡ map al (if b then y ∷ [] else [])
one_event true x y e = ap (λ z. z ∷ []) e
one_event false x y e = refl

-- the test of equality holds of a number and itself
pub same_number : (i : ℕ) → (i == i) ≡ true
same_number i = grind (arith, nat_tests)

-- if no rules are appended, all rules are the script's
pub all_rules : (scene : Scene) (a : Run) (known n : ℕ) → a.added ≡ [] → length scene.rules ≤ known
    → known ≤ n → n ≤ length (final_rules scene a) → n ≡ length scene.rules
all_rules scene a known n none low le high =
    let whole : length (final_rules scene a) ≡ length scene.rules =
    rw none (ap length (append-nil scene.rules)) in
    omega (arith, low, le, high, whole)

-- two answers to one step, each of which suits its run, are alike if their events print alike
pub step_alike : (scene : Scene) (a b : Run) (p : Program) (meet : Meet scene a b) (ka kb : ℕ)
    (who : Who) (s : Option Step) (x y : Answer)
    → Suits scene a p ka s x → Suits scene b p kb s y → length scene.rules ≤ ka
    → length scene.rules ≤ kb
    → ((i : ℕ) → i < length scene.script_files → map (pr scene) (event_in i who s x)
    ≡ map (pr scene) (event_in i who s y))
    → ((i : ℕ) → i < length scene.script_files → list_all no_birth (event_in i who s x) ≡ true)
    → StepAlike who s x y
step_alike scene a b p meet ka kb who None x y hx hy la lb same nb = absurd hx
step_alike scene a b p meet ka kb who (Some Nothing) x y hx hy la lb same nb =
    let e : x ≡ y = hx ∙ sym hy in
    record {
      place = refl;
      told = ap (λ z. printed_told z.told) e;
      action = ap (λ z. z.action) e;
      events = λ i. refl;
    }
step_alike scene a b p meet ka kb who (Some (Signals d)) x y hx hy la lb same nb =
    record {
      place = refl;
      told = ap (λ z. printed_told z.told) hx
          ∙ sym (ap (λ z. printed_told z.told) hy);
      action = ap (λ z. z.action) hx
          ∙ sym (ap (λ z. z.action) hy);
      events = λ i. refl;
    }
step_alike scene a b p meet ka kb who (Some (Appends r)) x y hx hy la lb same nb =
    record {
      place = refl;
      told = ap (λ z. printed_told z.told) hx
          ∙ sym (ap (λ z. printed_told z.told) hy);
      action = ap (λ z. z.action) hx
          ∙ sym (ap (λ z. z.action) hy);
      events = λ i. refl;
    }
step_alike scene a b p meet ka kb who (Some (Does inode d)) x y hx hy la lb same nb =
    let yes = same_number inode in
    let e : map (pr scene) ((x.place, event who d x.told) ∷ [])
    ≡ map (pr scene) ((y.place, event who d y.told) ∷ []) = rw yes at (same inode hx.0) in
    let birth : (is_no_birth d && true) ≡ true = rw yes at (nb inode hx.0) in
    let nobirth : is_no_birth d ≡ true = (and_parts (is_no_birth d) true birth).0 in
    let place : x.place ≡ y.place = ap head_place e in
    let tolds : printed_told x.told ≡ printed_told y.told =
    sym (told_of scene who d x.told nobirth) ∙ ap (λ l. (head_event l).told) e
    ∙ told_of scene who d y.told nobirth in
    record {
      place = place;
      told = tolds;
      action = ap (λ z. z.action) hx.1 ∙ sym (ap (λ z. z.action) hy.1);
      events = λ i. one_event (inode == i) (x.place, event who d x.told)
          (y.place, event who d y.told) (λ j. (place j, alike_same who d x.told y.told tolds j));
    }
step_alike scene a b p meet ka kb who (Some (Checks inode file f mask)) x y hx hy la lb same nb =
    let yes = same_number inode in
    let below = get_below scene.script_files inode hx.script_file hx.at in
    let e : map (pr scene) ((x.place, event who (deed.Check file f x.action x.rules) x.told) ∷ [])
    ≡ map (pr scene) ((y.place, event who (deed.Check file f y.action y.rules) y.told) ∷ []) =
    rw yes at (same inode below) in
    let place : x.place ≡ y.place = ap head_place e in
    let tolds : printed_told x.told ≡ printed_told y.told = ap (λ l. (head_event l).told) e in
    let shown : (if grows scene then x.rules else 0) ≡ (if grows scene then y.rules else 0) =
    ap (λ l. rules_in (head_event l).deed) e in
    let rules : x.rules ≡ y.rules = elim (cases_Bool (grows scene)) [
      | inl g ↦ rw g at shown
      | inr g ↦ all_rules scene a ka x.rules (meet.few g) la hx.known_rules hx.final
          ∙ sym (all_rules scene b kb y.rules (sym meet.added ∙ meet.few g) lb hy.known_rules
          hy.final)
    ] in
    let script_file : hx.script_file ≡ hy.script_file =
    some_same hx.script_file hy.script_file (sym hx.at ∙ hy.at) in
    let metas : metadata (newest_first (take x.place hx.journal))
    ≡ metadata (newest_first (take y.place hy.journal)) =
    meet.meta inode x.place hx.journal hy.journal hx.journal_at hy.journal_at
    ∙ ap (λ k. metadata (newest_first (take k hy.journal))) place in
    let action : x.action ≡ y.action =
    hx.action ∙ (λ i. decided (take (rules i) (rules_with scene (meet.added i))) p.cred
    (script_file i).place (metas i) f mask) ∙ sym hy.action in
    record {
      place = place;
      told = tolds;
      action = action;
      events = λ i. one_event (inode == i)
          (x.place, event who (deed.Check file f x.action x.rules) x.told)
          (y.place, event who (deed.Check file f y.action y.rules) y.told)
          (λ j. (
            place j,
            record {
              who = who;
              deed = deed.Check file f (action j) (rules j);
              told =
                  tolds j;
            },
          ));
    }

-- ---- histories

-- a step makes the same number of events in a journal for any two answers
pub event_length : (i : ℕ) (who : Who) (s : Option Step) (x y : Answer)
    → length (event_in i who s x) ≡ length (event_in i who s y)
event_length i who None x y = refl
event_length i who (Some Nothing) x y = refl
event_length i who (Some (Signals d)) x y = refl
event_length i who (Some (Appends r)) x y = refl
event_length i who (Some (Does inode d)) x y = elim (cases_Bool (inode == i)) [
  | inl e ↦ rw e refl
  | inr e ↦ rw e refl
]
event_length i who (Some (Checks inode file f mask)) x y = elim (cases_Bool (inode == i)) [
  | inl e ↦ rw e refl
  | inr e ↦ rw e refl
]

-- after a step, a task knows at least the script's rules
pub known_least : (scene : Scene) (a : Run) (p : Program) (known : ℕ) (s : Option Step) (x : Answer)
    → Suits scene a p known s x → length scene.rules ≤ known
    → length scene.rules ≤ known_after (length scene.rules) s x known
known_least scene a p known None x h low = absurd h
known_least scene a p known (Some Nothing) x h low = low
known_least scene a p known (Some (Signals d)) x h low = low
known_least scene a p known (Some (Appends r)) x h low = grind (arith, nat_tests)
known_least scene a p known (Some (Does i d)) x h low = low
known_least scene a p known (Some (Checks i file f mask)) x h low =
    omega (arith, low, h.known_rules)

-- a task knows at least the script's rules
pub rules_least : (scene : Scene) (a : Run) (p : Program) (h : List Answer) → AreSuited scene a p h
    → length scene.rules ≤ rules_known scene p h
rules_least scene a p [] s = omega arith
rules_least scene a p (x ∷ h) s =
    known_least scene a p (rules_known scene p h)
    (step_at p (position (mode_of scene) p h).call_state) x s.0
    (rules_least scene a p h s.1)

-- the older part of a history that suits a run suits the run
pub suited_after : (scene : Scene) (a : Run) (p : Program) (front h : List Answer)
    → AreSuited scene a p (front ++ h) → AreSuited scene a p h
suited_after scene a p [] h s = s
suited_after scene a p (x ∷ front) h s = suited_after scene a p front h s.1

-- the events of later steps come after those of earlier ones
pub own_after : (scene : Scene) (n : ℕ) (p : Program) (i : ℕ) (front h : List Answer)
    → (rest : List (ℕ × Event))
    × (own (mode_of scene) n p i (front ++ h) ≡ own (mode_of scene) n p i h ++ rest)
own_after scene n p i [] h = ([], sym (append-nil (own (mode_of scene) n p i h)))
own_after scene n p i (x ∷ front) h =
    let r = own_after scene n p i front h in
    let m = (position (mode_of scene) p (front ++ h)).call_state in
    let e = event_in i (who_at n p m) (step_at p m) x in
    (r.0 ++ e, ap (λ l. l ++ e) r.1 ∙ append_assoc (own (mode_of scene) n p i h) r.0 e)

pub record Alike (scene : Scene) (n : ℕ) (p : Program) (g h : List Answer) : Type 0 where
  pub call_states : plain_call_state (position (mode_of scene) p g).call_state
      ≡ plain_call_state (position (mode_of scene) p h).call_state
  pub events : (i : ℕ) → map al (own (mode_of scene) n p i g) ≡ map al (own (mode_of scene) n p i h)

-- lists of alike entries have the same length
pub length_alike : (xs ys : List (ℕ × Event)) → map al xs ≡ map al ys → length xs ≡ length ys
length_alike xs ys e = sym (length_map al xs) ∙ ap length e ∙ length_map al ys
