-- Journals of one inode that print alike, and whose tasks made the same steps, are equal.
use Rattle.std.proofs.Common.{◌≡◌, ℕ, zero, suc, ◌+◌, ◌-◌, ◌<◌, ◌≤◌, ◌==◌, true, false, List, [], ◌∷◌, ◌++◌, length, map, take, drop, reverse, ◌≢◌, Some, refl, sym, ap, ◌∙◌, subst, inl, inr, arith}
use Rattle.std.specs.Prelude.{All}
use Rattle.std.specs.List.{AllByRecursion}
use Rattle.std.proofs.lemmas.Bool.{cases_Bool, false≢true}
use Rattle.std.proofs.lemmas.Bool.Decides.{nat_tests}
use Rattle.std.proofs.lemmas.List.{take-append-drop, reverse-append, reverse-reverse}
use Rattle.std.proofs.lemmas.List.Elements.{All-head, All-tail}
use Rattle.run_model.specs.growing.Entries.{entries_from}
use Rattle.inode_meta.specs.declared.identity.Meta.{Meta}
use Rattle.inode_meta.specs.declared.step.Who.{Who}
use Rattle.inode_events.specs.Callers.{caller_in, caller_of}
use Rattle.inode_events.specs.Inode.{Inode}
use Rattle.inode_events.specs.Legal.{EachFollows, Follows}
use Rattle.inode_events.specs.NewestFirst.{newest_first}
use Rattle.inode_events.specs.Says.{says, placed_in}
use Rattle.inode_events.specs.State.{changed, metadata, metadata_after}
use Rattle.inode_events.specs.declared.deed.Deed.{Deed}
use Rattle.inode_events.specs.declared.deed.Deed.TheVariants as deed
use Rattle.inode_events.specs.declared.image.Image.{Image}
use Rattle.inode_events.specs.declared.told.Event.{Event}
use Rattle.inode_events.specs.declared.told.Told.{Told}
use Rattle.inode_events.specs.declared.told.Told.TheVariants as told
use Rattle.run_model.specs.History.{event}
use Rattle.run_model.specs.Scene.{Scene}
use Rattle.report_text.specs.Printed.{birth_event, printed, printed_told}
use Rattle.run_model.specs.EndedValue.{grows}
use Rattle.report_laws.proofs.Own.{al, alike, alike_by, map_append, some_same}

-- ---- the events of all tasks make up the journal

-- an event of no task is the birth
born : (e : Event) (t : ℕ) (d : Deed) → (caller_in t d == 0) ≡ true → alike_by e d ≡ birth_event
born e t deed.Birth h = refl
born e t (deed.Count q) h =
    absurd (let no : (t + 1 == 0) ≡ false = grind (arith, nat_tests) in false≢true (sym no ∙ h))
born e t (deed.Check f fn ac r) h =
    absurd (let no : (t + 1 == 0) ≡ false = grind (arith, nat_tests) in false≢true (sym no ∙ h))
born e t (deed.Take f) h =
    absurd (let no : (t + 1 == 0) ≡ false = grind (arith, nat_tests) in false≢true (sym no ∙ h))
born e t (deed.Chunk f) h =
    absurd (let no : (t + 1 == 0) ≡ false = grind (arith, nat_tests) in false≢true (sym no ∙ h))
born e t (deed.Finish f) h =
    absurd (let no : (t + 1 == 0) ≡ false = grind (arith, nat_tests) in false≢true (sym no ∙ h))
born e t (deed.Read f o v) h =
    absurd (let no : (t + 1 == 0) ≡ false = grind (arith, nat_tests) in false≢true (sym no ∙ h))
born e t (deed.Write f o b) h =
    absurd (let no : (t + 1 == 0) ≡ false = grind (arith, nat_tests) in false≢true (sym no ∙ h))
born e t (deed.Trunc f v) h =
    absurd (let no : (t + 1 == 0) ≡ false = grind (arith, nat_tests) in false≢true (sym no ∙ h))
born e t (deed.SetAttr nm b ad) h =
    absurd (let no : (t + 1 == 0) ≡ false = grind (arith, nat_tests) in false≢true (sym no ∙ h))
born e t (deed.SetMeta c) h =
    absurd (let no : (t + 1 == 0) ≡ false = grind (arith, nat_tests) in false≢true (sym no ∙ h))
born e t (deed.Close f) h =
    absurd (let no : (t + 1 == 0) ≡ false = grind (arith, nat_tests) in false≢true (sym no ∙ h))
born e t (deed.CloseTake f) h =
    absurd (let no : (t + 1 == 0) ≡ false = grind (arith, nat_tests) in false≢true (sym no ∙ h))
born e t (deed.CloseChunk f) h =
    absurd (let no : (t + 1 == 0) ≡ false = grind (arith, nat_tests) in false≢true (sym no ∙ h))
born e t (deed.CloseFinish f) h =
    absurd (let no : (t + 1 == 0) ≡ false = grind (arith, nat_tests) in false≢true (sym no ∙ h))
born e t (deed.Post s) h =
    absurd (let no : (t + 1 == 0) ≡ false = grind (arith, nat_tests) in false≢true (sym no ∙ h))
born e t (deed.Wait s) h =
    absurd (let no : (t + 1 == 0) ≡ false = grind (arith, nat_tests) in false≢true (sym no ∙ h))

-- if the entries of caller n are alike, so are those after the first event
rest_from : (n k m : ℕ) (x y : Event) (ms : List ℕ) (xs ys : List Event)
    → map al (entries_from n k (m ∷ ms) (x ∷ xs)) ≡ map al (entries_from n k (m ∷ ms) (y ∷ ys))
    → map al (entries_from n (k + 1) ms xs) ≡ map al (entries_from n (k + 1) ms ys)
rest_from n k m x y ms xs ys e = elim (cases_Bool (n == m)) [
  | inl eq ↦ let both : (k, alike x) ∷ map al (entries_from n (k + 1) ms xs) ≡ (k, alike y)
      ∷ map al (entries_from n (k + 1) ms ys) = rw eq at e in cc both
  | inr ne ↦ rw ne at e
]

abbrev head_in : List (ℕ × Event) → Event
head_in [] = birth_event
head_in (x ∷ xs) = x.1

-- if the entries of caller n are alike and both first events are its own, those are alike
first_from : (n k m : ℕ) (x y : Event) (ms : List ℕ) (xs ys : List Event) → (n == m) ≡ true
    → map al (entries_from n k (m ∷ ms) (x ∷ xs)) ≡ map al (entries_from n k (m ∷ ms) (y ∷ ys))
    → alike x ≡ alike y
first_from n k m x y ms xs ys eq e =
    let both : (k, alike x) ∷ map al (entries_from n (k + 1) ms xs) ≡ (k, alike y)
    ∷ map al (entries_from n (k + 1) ms ys) = rw eq at e in
    ap head_in both

abbrev head_number : List ℕ → ℕ
head_number [] = 0
head_number (m ∷ ms) = m

abbrev tail_numbers : List ℕ → List ℕ
tail_numbers [] = []
tail_numbers (m ∷ ms) = ms

-- journals whose callers are `ms` are alike if the entries of each caller are
merged_by : (count k : ℕ) (ms : List ℕ) (xs ys : List Event) → ms ≡ map caller_of xs → ms
    ≡ map caller_of ys → All (λ (e : Event). caller_of e ≤ count) xs
    → ((n : ℕ) → n < count → map al (entries_from (n + 1) k ms xs)
    ≡ map al (entries_from (n + 1) k ms ys)) → map alike xs ≡ map alike ys
merged_by count k ms [] [] p q all h = refl
merged_by count k ms [] (y ∷ ys) p q all h =
    absurd (let e = ap length (sym p ∙ q) in omega (arith, e))
merged_by count k ms (x ∷ xs) [] p q all h =
    absurd (let e = ap length (sym p ∙ q) in omega (arith, e))
merged_by count k [] (x ∷ xs) (y ∷ ys) p q all h = absurd (let e = ap length p in omega (arith, e))
merged_by count k (m ∷ ms) (x ∷ xs) (y ∷ ys) p q all h =
    let mx : m ≡ caller_of x = ap head_number p in
    let my : m ≡ caller_of y = ap head_number q in
    let here : alike x ≡ alike y = elim (cases_Bool (m == 0)) [
      | inl z ↦ born x x.who.task x.deed (rw mx at z) ∙ sym (born y y.who.task y.deed (rw my at z))
      | inr s ↦
          let low : caller_of x ≤ count = All-head (λ (e : Event). caller_of e ≤ count) x xs all in
          let some : m ≢ 0 =
          λ z. (let yes : (m == 0) ≡ true = grind (arith, nat_tests)
          in false≢true (sym s ∙ yes)) in
          let yes : ((m - 1) + 1 == m) ≡ true = grind (arith, nat_tests) in
          first_from ((m - 1) + 1) k m x y ms xs ys yes (h (m - 1) (omega (arith, low, mx, some)))
    ] in
    let others = merged_by count (k + 1) ms xs ys (ap tail_numbers p) (ap tail_numbers q)
    (All-tail (λ (e : Event). caller_of e ≤ count) x xs all)
    (λ n below. rest_from (n + 1) k m x y ms xs ys (h n below)) in
    λ i. here i ∷ others i

-- journals with the same callers are alike if the entries of each caller are
pub merged_events : (count : ℕ) (xs ys : List Event) → map caller_of xs ≡ map caller_of ys
    → All (λ (e : Event). caller_of e ≤ count) xs
    → ((n : ℕ) → n < count → map al (entries_from (n + 1) 0 (map caller_of xs) xs)
    ≡ map al (entries_from (n + 1) 0 (map caller_of ys) ys)) → map alike xs ≡ map alike ys
merged_events count xs ys e all h =
    merged_by count 0 (map caller_of xs) xs ys refl e all (λ n below. h n below
    ∙ ap (λ ms. map al (entries_from (n + 1) 0 ms ys)) (sym e))

-- ---- the metadata are determined by the printed events

abbrev BornBy : Image → Deed → Told → Type 0
BornBy image deed.Birth t = t ≡ told.Image image
BornBy image _ t = Unit {0}

abbrev IsBorn : Image → Event → Type 0
IsBorn image e = BornBy image e.deed e.told

abbrev meta_by : Image → Deed → Told → Meta → Meta
meta_by image deed.Birth t old = image.meta
meta_by image (deed.SetMeta change) told.Done old = changed change old
meta_by image _ _ old = old

abbrev meta_from : Image → List Event → Meta
meta_from image [] = metadata []
meta_from image (e ∷ es) = meta_by image e.deed e.told (meta_from image es)

-- the printed event determines the metadata after the event
meta_after : (scene : Scene) (image : Image) (w : Who) (d : Deed) (t : Told) (old : Meta)
    → BornBy image d t
    → metadata_after d t old
    ≡ meta_by image (printed scene.settings.template (grows scene) (event w d t)).deed
    (printed scene.settings.template (grows scene) (event w d t)).told old
meta_after scene image w deed.Birth t old h = rw h refl
meta_after scene image w (deed.Count q) t old h = refl
meta_after scene image w (deed.Check f fn ac r) t old h = refl
meta_after scene image w (deed.Take f) t old h = refl
meta_after scene image w (deed.Chunk f) t old h = refl
meta_after scene image w (deed.Finish f) t old h = refl
meta_after scene image w (deed.Read f o v) t old h = refl
meta_after scene image w (deed.Write f o b) t old h = refl
meta_after scene image w (deed.Trunc f v) t old h = refl
meta_after scene image w (deed.SetAttr nm b ad) t old h = refl
meta_after scene image w (deed.Close f) t old h = refl
meta_after scene image w (deed.CloseTake f) t old h = refl
meta_after scene image w (deed.CloseChunk f) t old h = refl
meta_after scene image w (deed.CloseFinish f) t old h = refl
meta_after scene image w (deed.Post s) t old h = refl
meta_after scene image w (deed.Wait s) t old h = refl
meta_after scene image w (deed.SetMeta c) (told.Image q) old h = refl
meta_after scene image w (deed.SetMeta c) told.Held old h = refl
meta_after scene image w (deed.SetMeta c) told.NotFound old h = refl
meta_after scene image w (deed.SetMeta c) told.TextBusy old h = refl
meta_after scene image w (deed.SetMeta c) told.Quiet old h = refl
meta_after scene image w (deed.SetMeta c) (told.OpenWriters q) old h = refl
meta_after scene image w (deed.SetMeta c) (told.ToMToU q) old h = refl
meta_after scene image w (deed.SetMeta c) told.Begun old h = refl
meta_after scene image w (deed.SetMeta c) (told.Grant q) old h = refl
meta_after scene image w (deed.SetMeta c) told.More old h = refl
meta_after scene image w (deed.SetMeta c) told.Last old h = refl
meta_after scene image w (deed.SetMeta c) (told.Read q r) old h = refl
meta_after scene image w (deed.SetMeta c) told.Done old h = refl
meta_after scene image w (deed.SetMeta c) told.TooBig old h = refl
meta_after scene image w (deed.SetMeta c) told.EvmName old h = refl
meta_after scene image w (deed.SetMeta c) told.NotAdmin old h = refl
meta_after scene image w (deed.SetMeta c) told.TooLong old h = refl
meta_after scene image w (deed.SetMeta c) told.Invalid old h = refl
meta_after scene image w (deed.SetMeta c) told.NoData old h = refl
meta_after scene image w (deed.SetMeta c) (told.Status q) old h = refl
meta_after scene image w (deed.SetMeta c) told.Dropped old h = refl
meta_after scene image w (deed.SetMeta c) told.LabelledDropped old h = refl
meta_after scene image w (deed.SetMeta c) told.Nothing old h = refl

-- the printed events determine the metadata
meta_is : (scene : Scene) (image : Image) (es : List Event) → AllByRecursion (IsBorn image) es
    → metadata es ≡ meta_from image (map (printed scene.settings.template (grows scene)) es)
meta_is scene image [] h = refl
meta_is scene image (e ∷ es) h = meta_after scene image e.who e.deed e.told (metadata es) h.0
    ∙ ap (λ m. meta_by image (printed scene.settings.template (grows scene) e).deed
    (printed scene.settings.template (grows scene) e).told m) (meta_is scene image es h.1)

-- a birth that may follow has the inode's image
born_here : (inode : Inode) (before : List Event) (w : Who) (d : Deed) (t : Told)
    → Follows inode before w d t → BornBy inode.birth d t
born_here inode before w deed.Birth t h = h.2
born_here inode before w (deed.Count q) t h = tt
born_here inode before w (deed.Check f fn ac r) t h = tt
born_here inode before w (deed.Take f) t h = tt
born_here inode before w (deed.Chunk f) t h = tt
born_here inode before w (deed.Finish f) t h = tt
born_here inode before w (deed.Read f o v) t h = tt
born_here inode before w (deed.Write f o b) t h = tt
born_here inode before w (deed.Trunc f v) t h = tt
born_here inode before w (deed.SetAttr nm b ad) t h = tt
born_here inode before w (deed.SetMeta c) t h = tt
born_here inode before w (deed.Close f) t h = tt
born_here inode before w (deed.CloseTake f) t h = tt
born_here inode before w (deed.CloseChunk f) t h = tt
born_here inode before w (deed.CloseFinish f) t h = tt
born_here inode before w (deed.Post s) t h = tt
born_here inode before w (deed.Wait s) t h = tt

-- each birth of a legal journal has the inode's image
born_all : (inode : Inode) (es : List Event) → EachFollows inode es
    → AllByRecursion (IsBorn inode.birth) es
born_all inode [] h = tt
born_all inode (e ∷ es) h = (born_here inode es e.who e.deed e.told h.0, born_all inode es h.1)

-- what holds of all elements of a list holds of those after a front
all_after : {X : Type 0} (P : X → Type 0) (u v : List X) → AllByRecursion P (u ++ v)
    → AllByRecursion P v
all_after P [] v h = h
all_after P (x ∷ u) v h = all_after P u v h.1

-- the events so far, newest first, are those from place k on and then those before it
past_parts : (k : ℕ) (x : List Event)
    → newest_first x ≡ newest_first (drop k x) ++ newest_first (take k x)
unfolding newest_first
past_parts k x = ap reverse (sym (take-append-drop k x)) ∙ reverse-append (take k x) (drop k x)

-- reversing commutes with mapping
map_reverse : {X Y : Type 0} (f : X → Y) (xs : List X) → map f (reverse xs) ≡ reverse (map f xs)
map_reverse f [] = refl
map_reverse f (x ∷ xs) =
    ap (map f) (reverse-append (x ∷ []) xs) ∙ map_append f (reverse xs) (x ∷ [])
    ∙ ap (λ l. l ++ f x ∷ []) (map_reverse f xs) ∙ sym (reverse-append (f x ∷ []) (map f xs))

-- mapping commutes with putting the newest event first
pub map_past : (f : Event → Event) (xs : List Event)
    → map f (newest_first xs) ≡ newest_first (map f xs)
unfolding newest_first
map_past f xs = map_reverse f xs

-- taking the first elements commutes with mapping
map_take : {X Y : Type 0} (f : X → Y) (k : ℕ) (xs : List X) → map f (take k xs) ≡ take k (map f xs)
map_take f zero [] = refl
map_take f zero (x ∷ xs) = refl
map_take f (suc k) [] = refl
map_take f (suc k) (x ∷ xs) = ap (λ l. f x ∷ l) (map_take f k xs)

-- journals that print alike have the same metadata at each place
pub same_meta : (scene : Scene) (inode : Inode) (k : ℕ) (x y : List Event)
    → EachFollows inode (newest_first x) → EachFollows inode (newest_first y)
    → map (printed scene.settings.template (grows scene)) x
    ≡ map (printed scene.settings.template (grows scene)) y
    → metadata (newest_first (take k x)) ≡ metadata (newest_first (take k y))
same_meta scene inode k x y hx hy e =
    let f = printed scene.settings.template (grows scene) in
    let bx = all_after (IsBorn inode.birth) (newest_first (drop k x)) (newest_first (take k x))
    (subst (AllByRecursion (IsBorn inode.birth)) (past_parts k x)
    (born_all inode (newest_first x) hx)) in
    let by = all_after (IsBorn inode.birth) (newest_first (drop k y)) (newest_first (take k y))
    (subst (AllByRecursion (IsBorn inode.birth)) (past_parts k y)
    (born_all inode (newest_first y) hy)) in
    let shown : map f (newest_first (take k x)) ≡ map f (newest_first (take k y)) =
    map_past f (take k x) ∙ ap newest_first (map_take f k x ∙ ap (take k) e ∙ sym (map_take f k y))
    ∙ sym (map_past f (take k y)) in
    meta_is scene inode.birth (newest_first (take k x)) bx ∙ ap (meta_from inode.birth) shown
    ∙ sym (meta_is scene inode.birth (newest_first (take k y)) by)

-- ---- outcomes are determined by the journal

-- the printed outcome has the same place in the list
spot_printed : (t : Told) → placed_in t ≡ placed_in (printed_told t)
spot_printed (told.Image q) = refl
spot_printed told.Held = refl
spot_printed told.NotFound = refl
spot_printed told.TextBusy = refl
spot_printed told.Quiet = refl
spot_printed (told.OpenWriters q) = refl
spot_printed (told.ToMToU q) = refl
spot_printed told.Begun = refl
spot_printed (told.Grant q) = refl
spot_printed told.More = refl
spot_printed told.Last = refl
spot_printed (told.Read q r) = refl
spot_printed told.Done = refl
spot_printed told.TooBig = refl
spot_printed told.EvmName = refl
spot_printed told.NotAdmin = refl
spot_printed told.TooLong = refl
spot_printed told.Invalid = refl
spot_printed told.NoData = refl
spot_printed (told.Status q) = refl
spot_printed told.Dropped = refl
spot_printed told.LabelledDropped = refl
spot_printed told.Nothing = refl

-- two outcomes that the journal gives one deed are equal if they print alike
told_once : (inode : Inode) (before : List Event) (d : Deed) (t u : Told)
    → says inode before (placed_in t) d ≡ Some t → says inode before (placed_in u) d ≡ Some u
    → printed_told t ≡ printed_told u → t ≡ u
told_once inode before d t u p q e =
    let placed : placed_in t ≡ placed_in u = spot_printed t ∙ ap placed_in e ∙ sym (spot_printed u)
    in
    some_same t u (sym p ∙ ap (λ s. says inode before s d) placed ∙ q)

-- events with the same deed, step and outcome are equal
made_once : (inode : Inode) (before : List Event) (d : Deed) (v w : Who) (t u : Told) → v ≡ w → t
    ≡ u → event v d t ≡ event w d u
made_once inode before d v w t u who tolds = λ i. record { who = who i; deed = d; told = tolds i }

-- two events that may both come next in a journal are equal if they are alike
event_once : (inode : Inode) (before : List Event) (d : Deed) (v w : Who) (t u : Told)
    → Follows inode before v d t → Follows inode before w d u
    → alike (event v d t) ≡ alike (event w d u) → event v d t ≡ event w d u
event_once inode before deed.Birth v w t u p q e =
    let who : v ≡ w = p.1 ∙ sym q.1 in
    let tolds : t ≡ u = p.2 ∙ sym q.2 in
    λ i. record { who = who i; deed = deed.Birth; told = tolds i }
event_once inode before (deed.Count c) v w t u p q e =
    made_once inode before (deed.Count c) v w t u (ap (λ x. x.who) e)
    (told_once inode before (deed.Count c) t u p.2 q.2 (ap (λ x. x.told) e))
event_once inode before (deed.Check f fn ac r) v w t u p q e =
    made_once inode before (deed.Check f fn ac r) v w t u (ap (λ x. x.who) e)
    (told_once inode before (deed.Check f fn ac r) t u p.2 q.2 (ap (λ x. x.told) e))
event_once inode before (deed.Take f) v w t u p q e =
    made_once inode before (deed.Take f) v w t u (ap (λ x. x.who) e)
    (told_once inode before (deed.Take f) t u p.2 q.2 (ap (λ x. x.told) e))
event_once inode before (deed.Chunk f) v w t u p q e =
    made_once inode before (deed.Chunk f) v w t u (ap (λ x. x.who) e)
    (told_once inode before (deed.Chunk f) t u p.2 q.2 (ap (λ x. x.told) e))
event_once inode before (deed.Finish f) v w t u p q e =
    made_once inode before (deed.Finish f) v w t u (ap (λ x. x.who) e)
    (told_once inode before (deed.Finish f) t u p.2 q.2 (ap (λ x. x.told) e))
event_once inode before (deed.Read f o len) v w t u p q e =
    made_once inode before (deed.Read f o len) v w t u (ap (λ x. x.who) e)
    (told_once inode before (deed.Read f o len) t u p.2 q.2 (ap (λ x. x.told) e))
event_once inode before (deed.Write f o b) v w t u p q e =
    made_once inode before (deed.Write f o b) v w t u (ap (λ x. x.who) e)
    (told_once inode before (deed.Write f o b) t u p.2 q.2 (ap (λ x. x.told) e))
event_once inode before (deed.Trunc f len) v w t u p q e =
    made_once inode before (deed.Trunc f len) v w t u (ap (λ x. x.who) e)
    (told_once inode before (deed.Trunc f len) t u p.2 q.2 (ap (λ x. x.told) e))
event_once inode before (deed.SetAttr nm b ad) v w t u p q e =
    made_once inode before (deed.SetAttr nm b ad) v w t u (ap (λ x. x.who) e)
    (told_once inode before (deed.SetAttr nm b ad) t u p.2 q.2 (ap (λ x. x.told) e))
event_once inode before (deed.SetMeta c) v w t u p q e =
    made_once inode before (deed.SetMeta c) v w t u (ap (λ x. x.who) e)
    (told_once inode before (deed.SetMeta c) t u p.2 q.2 (ap (λ x. x.told) e))
event_once inode before (deed.Close f) v w t u p q e =
    made_once inode before (deed.Close f) v w t u (ap (λ x. x.who) e)
    (told_once inode before (deed.Close f) t u p.2 q.2 (ap (λ x. x.told) e))
event_once inode before (deed.CloseTake f) v w t u p q e =
    made_once inode before (deed.CloseTake f) v w t u (ap (λ x. x.who) e)
    (told_once inode before (deed.CloseTake f) t u p.2 q.2 (ap (λ x. x.told) e))
event_once inode before (deed.CloseChunk f) v w t u p q e =
    made_once inode before (deed.CloseChunk f) v w t u (ap (λ x. x.who) e)
    (told_once inode before (deed.CloseChunk f) t u p.2 q.2 (ap (λ x. x.told) e))
event_once inode before (deed.CloseFinish f) v w t u p q e =
    made_once inode before (deed.CloseFinish f) v w t u (ap (λ x. x.who) e)
    (told_once inode before (deed.CloseFinish f) t u p.2 q.2 (ap (λ x. x.told) e))
event_once inode before (deed.Post s) v w t u p q e =
    made_once inode before (deed.Post s) v w t u (ap (λ x. x.who) e)
    (told_once inode before (deed.Post s) t u p.2 q.2 (ap (λ x. x.told) e))
event_once inode before (deed.Wait s) v w t u p q e =
    made_once inode before (deed.Wait s) v w t u (ap (λ x. x.who) e)
    (told_once inode before (deed.Wait s) t u p.2 q.2 (ap (λ x. x.told) e))

-- an event without its digest or image still has its deed
deed_alike : (e : Event) (d : Deed) → (alike_by e d).deed ≡ d
deed_alike e deed.Birth = refl
deed_alike e (deed.Count q) = refl
deed_alike e (deed.Check f fn ac r) = refl
deed_alike e (deed.Take f) = refl
deed_alike e (deed.Chunk f) = refl
deed_alike e (deed.Finish f) = refl
deed_alike e (deed.Read f o v) = refl
deed_alike e (deed.Write f o b) = refl
deed_alike e (deed.Trunc f v) = refl
deed_alike e (deed.SetAttr nm b ad) = refl
deed_alike e (deed.SetMeta c) = refl
deed_alike e (deed.Close f) = refl
deed_alike e (deed.CloseTake f) = refl
deed_alike e (deed.CloseChunk f) = refl
deed_alike e (deed.CloseFinish f) = refl
deed_alike e (deed.Post s) = refl
deed_alike e (deed.Wait s) = refl

abbrev head_event : List Event → Event
head_event [] = birth_event
head_event (x ∷ xs) = x

-- legal journals that are alike are equal, with the newest event first
pub same_past : (inode : Inode) (xs ys : List Event) → EachFollows inode xs → EachFollows inode ys
    → map alike xs ≡ map alike ys → xs ≡ ys
same_past inode [] [] p q e = refl
same_past inode [] (y ∷ ys) p q e = absurd (let n = ap length e in omega (arith, n))
same_past inode (x ∷ xs) [] p q e = absurd (let n = ap length e in omega (arith, n))
same_past inode (x ∷ xs) (y ∷ ys) p q e =
    let before : xs ≡ ys = same_past inode xs ys p.1 q.1 (cc) in
    let view : alike x ≡ alike y = ap head_event e in
    let d : x.deed ≡ y.deed = sym (deed_alike x x.deed) ∙ ap (λ z. z.deed) view
    ∙ deed_alike y y.deed in
    let follows : Follows inode xs y.who x.deed y.told =
    subst (λ z. Follows inode z y.who x.deed y.told) (sym before)
    (subst (λ z. Follows inode ys y.who z y.told) (sym d) q.0) in
    let one : x ≡ event y.who x.deed y.told = event_once inode xs x.deed x.who y.who x.told y.told
    p.0 follows (view ∙ ap (λ z. alike (event y.who z y.told)) (sym d)) in
    let two : event y.who x.deed y.told ≡ y = ap (λ z. event y.who z y.told) d in
    λ i. (one ∙ two) i ∷ before i

-- journals with the same events so far are equal
pub past_once : (xs ys : List Event) → newest_first xs ≡ newest_first ys → xs ≡ ys
unfolding newest_first
past_once xs ys e = sym (reverse-reverse xs) ∙ ap reverse e ∙ reverse-reverse ys
