-- The journal of an inode is read: each event names a file that an earlier event opened.
use Rattle.std.proofs.Common.{◌≡◌, ℕ, zero, suc, ◌+◌, ◌<◌, ◌^◌, ◌==◌, Bool, true, false, ◌&&◌, ◌⊎◌, List, [], ◌∷◌, ◌++◌, cond, length, reverse, take, Option, Some, None, if◌then◌else◌, refl, sym, ap, ◌∙◌, subst, append_assoc, inl, inr, arith}
use Rattle.std.specs.Prelude.{slice_get}
use Rattle.std.specs.List.{AllByRecursion}
use Rattle.std.proofs.lemmas.Bool.{cases_Bool, eqb-true, false≢true, ne_eqb}
use Rattle.std.proofs.lemmas.List.{append-nil, length-reverse, reverse-append}
use Rattle.report_text.specs.Words.{Line, event_lines, event_words}
use Rattle.report_text.specs.model.events.Inode.{Inode}
use Rattle.report_text.specs.model.events.Legal.{EachFollows, Follows}
use Rattle.report_text.specs.model.events.Stage as model_stage
use Rattle.report_text.specs.model.events.Stage.{is_gone, may_check, stage_after, touches}
use Rattle.report_text.specs.model.events.Stage.{Asked, CloseCollected, CloseCollecting, Collected, Collecting, Counted, Gone, Settled}
use Rattle.report_text.specs.model.events.declared.deed.Deed.{Deed}
use Rattle.report_text.specs.model.events.declared.deed.Deed.TheVariants as deed
use Rattle.report_text.specs.model.events.declared.deed.How.{How}
use Rattle.report_text.specs.model.events.declared.deed.How.TheVariants as how
use Rattle.report_text.specs.model.events.declared.told.Event.{Event as ModelEvent}
use Rattle.report_text.specs.model.events.declared.told.Told.{Told}
use Rattle.report_text.specs.model.events.declared.told.Told.TheVariants as told
use Rattle.report_text.specs.model.events.meta.declared.measurement.Template.{Template}
use Rattle.report_text.specs.model.events.meta.declared.step.Who.{Who}
use Rattle.report_draft.specs.declared.draft.Stage.TheVariants as stage
use Rattle.report_words.specs.declared.event.Event.{Event}
use Rattle.report_words.specs.declared.event.Span.{Span}
use Rattle.report_draft.specs.Draft.{Draft, entry_fits, entry_of, events_left, file_fits, file_of, fits, inode_closed, is_held, opens, with_words}
use Rattle.report_lines.specs.Lines.{event_of, event_with}
use Rattle.report_read.specs.ReadBack.{IsSmall, NamesEntry}
use Rattle.report_read.specs.Short.{short, short_deed, short_told}
use Rattle.report_read.proofs.Chains.{AllGood, blocks, chain_whole, fold_one, length-values, length_push, values, values_push}
use Rattle.report_read.proofs.EventsBack.{IsSmallStep, event_back}
use Rattle.report_read.proofs.Fold.{end_of, fold, line_span, step}
use Rattle.report_read.proofs.ListBack.{not_none, one_less}

-- ---- files that were opened

abbrev is_held_told : Told → Bool
is_held_told told.Held = true
is_held_told _ = false

-- the event of this place, of events that are newest first, told that its file is held
abbrev was_held : List ModelEvent → ℕ → Bool
was_held [] f = false
was_held (e ∷ before) f = if length before == f then is_held_told e.told else was_held before f

held_below : (before : List ModelEvent) (f : ℕ) → was_held before f ≡ true → f < length before
held_below [] f h = absurd (false≢true h)
held_below (e ∷ before) f h = elim (cases_Bool (length before == f)) [
  | inl s ↦ let is : length before ≡ f = eqb-true (length before) f s in omega (arith, is)
  | inr n ↦
      let rest : was_held before f ≡ true = rw n at h in
      let lt : f < length before = held_below before f rest in
      omega (arith, lt)
]

held_on : (e : ModelEvent) (before : List ModelEvent) (f : ℕ) → was_held before f ≡ true
    → was_held (e ∷ before) f ≡ true
held_on e before f h =
    let lt : f < length before = held_below before f h in
    let other : (length before == f) ≡ false
    = ne_eqb (length before) f (λ (s : length before ≡ f). omega (arith, lt, s)) in
    rw other h

count_stage : (inode : Inode) (h : How) (t : Told) (old : model_stage.Stage)
    → (is_held_told t ≡ true) ⊎ (stage_after inode (deed.Count h) t old ≡ old)
count_stage inode h told.Held old = inl refl
count_stage inode h t old = inr refl

checked_there : (s : model_stage.Stage) → may_check s ≡ true → is_gone s ≡ false
checked_there Gone h = absurd (false≢true h)
checked_there Counted h = refl
checked_there Settled h = refl
checked_there Asked h = refl
checked_there Collecting h = refl
checked_there Collected h = refl
checked_there CloseCollecting h = refl
checked_there CloseCollected h = refl

is_there : (s t : model_stage.Stage) → s ≡ t → is_gone t ≡ false → is_gone s ≡ false
is_there s t e h = subst (λ (x : model_stage.Stage). is_gone x ≡ false) (sym e) h

-- a file that an event names isn't gone before it
abbrev IsThere : Inode → List ModelEvent → Option ℕ → Type 0
IsThere inode before None = Unit {0}
IsThere inode before (Some f) = is_gone (model_stage.stage inode f before) ≡ false

named_there : (inode : Inode) (before : List ModelEvent) (who : Who) (d : Deed) (t : Told)
    → Follows inode before who d t → IsThere inode before (file_of (short_deed d))
named_there inode before who deed.Birth t f = tt
named_there inode before who (deed.Count (how.Read c)) t f = tt
named_there inode before who (deed.Count (how.Write r c)) t f = tt
named_there inode before who (deed.Count how.Exec) t f = tt
named_there inode before who (deed.Check file fn a n) t f =
    checked_there (model_stage.stage inode file before) f.1
named_there inode before who (deed.Take file) t f =
    is_there (model_stage.stage inode file before) Asked f.1 refl
named_there inode before who (deed.Chunk file) t f =
    is_there (model_stage.stage inode file before) Collecting f.1 refl
named_there inode before who (deed.Finish file) t f =
    is_there (model_stage.stage inode file before) Collected f.1 refl
named_there inode before who (deed.Read file from len) t f =
    is_there (model_stage.stage inode file before) Settled f.1.0 refl
named_there inode before who (deed.Write file from bytes) t f =
    is_there (model_stage.stage inode file before) Settled f.1.0 refl
named_there inode before who (deed.Trunc file len) t f =
    is_there (model_stage.stage inode file before) Settled f.1.0 refl
named_there inode before who (deed.SetAttr name None admin) t f = tt
named_there inode before who (deed.SetAttr name (Some bytes) admin) t f = tt
named_there inode before who (deed.SetMeta c) t f = tt
named_there inode before who (deed.Close file) t f =
    is_there (model_stage.stage inode file before) Settled f.1.0 refl
named_there inode before who (deed.CloseTake file) t f =
    is_there (model_stage.stage inode file before) Settled f.1.0 refl
named_there inode before who (deed.CloseChunk file) t f =
    is_there (model_stage.stage inode file before) CloseCollecting f.1 refl
named_there inode before who (deed.CloseFinish file) t f =
    is_there (model_stage.stage inode file before) CloseCollected f.1 refl
named_there inode before who (deed.Post n) t f = tt
named_there inode before who (deed.Wait n) t f = tt

-- an event about a file is its count, or names it
named : (f n : ℕ) (d : Deed) → touches f n d ≡ true
    → ((h : How) × (d ≡ deed.Count h)) ⊎ (file_of (short_deed d) ≡ Some f)
named f n deed.Birth t = absurd (false≢true t)
named f n (deed.Count h) t = inl (h, refl)
named f n (deed.Check file fn a k) t = inr (ap (λ (x : ℕ). Some x) (eqb-true file f t))
named f n (deed.Take file) t = inr (ap (λ (x : ℕ). Some x) (eqb-true file f t))
named f n (deed.Chunk file) t = inr (ap (λ (x : ℕ). Some x) (eqb-true file f t))
named f n (deed.Finish file) t = inr (ap (λ (x : ℕ). Some x) (eqb-true file f t))
named f n (deed.Read file from len) t = inr (ap (λ (x : ℕ). Some x) (eqb-true file f t))
named f n (deed.Write file from bytes) t = inr (ap (λ (x : ℕ). Some x) (eqb-true file f t))
named f n (deed.Trunc file len) t = inr (ap (λ (x : ℕ). Some x) (eqb-true file f t))
named f n (deed.SetAttr name bytes admin) t = absurd (false≢true t)
named f n (deed.SetMeta c) t = absurd (false≢true t)
named f n (deed.Close file) t = inr (ap (λ (x : ℕ). Some x) (eqb-true file f t))
named f n (deed.CloseTake file) t = inr (ap (λ (x : ℕ). Some x) (eqb-true file f t))
named f n (deed.CloseChunk file) t = inr (ap (λ (x : ℕ). Some x) (eqb-true file f t))
named f n (deed.CloseFinish file) t = inr (ap (λ (x : ℕ). Some x) (eqb-true file f t))
named f n (deed.Post k) t = absurd (false≢true t)
named f n (deed.Wait k) t = absurd (false≢true t)

counted_held : (inode : Inode) (before : List ModelEvent) (f : ℕ) (e : ModelEvent) (h : How)
    → (is_gone (model_stage.stage inode f before) ≡ false → was_held before f ≡ true)
    → (length before == f) ≡ true
    → is_gone (stage_after inode (deed.Count h) e.told (model_stage.stage inode f before)) ≡ false
    → was_held (e ∷ before) f ≡ true
counted_held inode before f e h rest here g =
    elim (count_stage inode h e.told (model_stage.stage inode f before)) [
      | inl held ↦ rw here held
      | inr same ↦
          let old : is_gone (model_stage.stage inode f before) ≡ false
          = subst (λ (s : model_stage.Stage). is_gone s ≡ false) same g in
          let lt : f < length before = held_below before f (rest old) in
          let is : length before ≡ f = eqb-true (length before) f here in
          absurd (omega (arith, lt, is))
    ]

-- a file that isn't gone was opened
stage_held : (inode : Inode) (before : List ModelEvent) (f : ℕ) → EachFollows inode before
    → is_gone (model_stage.stage inode f before) ≡ false → was_held before f ≡ true
stage_held inode [] f fol g = absurd (false≢true (sym g))
stage_held inode (e ∷ before) f fol g =
    elim (cases_Bool (touches f (length before) e.deed)) [
      | inl t ↦
          let now : is_gone (stage_after inode e.deed e.told (model_stage.stage inode f before))
          ≡ false = rw t at g in
          elim (named f (length before) e.deed t) [
            | inl c ↦
                let here : (length before == f) ≡ true
                = subst (λ (d : Deed). touches f (length before) d ≡ true) c.1 t in
                counted_held inode before f e c.0 (λ k. stage_held inode before f fol.1 k) here
                (subst
                (λ (d : Deed). is_gone
                (stage_after inode d e.told (model_stage.stage inode f before)) ≡ false) c.1 now)
            | inr file ↦
                held_on e before f
                (stage_held inode before f fol.1
                (subst (IsThere inode before) file
                (named_there inode before e.who e.deed e.told fol.0)))
          ]
      | inr n ↦
          let old : is_gone (model_stage.stage inode f before) ≡ false = rw n at g in
          held_on e before f (stage_held inode before f fol.1 old)
    ]

-- ---- the events that were read

get_push_last : {X : Type 0} (xs : List X) (x : X) → slice_get (xs ++ x ∷ []) (length xs) ≡ Some x
get_push_last [] x = refl
get_push_last (y ∷ xs) x = get_push_last xs x

get_push_before : {X : Type 0} (xs : List X) (x : X) (i : ℕ) → i < length xs
    → slice_get (xs ++ x ∷ []) i ≡ slice_get xs i
get_push_before [] x i h = absurd (omega (arith, h))
get_push_before (y ∷ xs) x zero h = refl
get_push_before (y ∷ xs) x (suc i) h = get_push_before xs x i (omega (arith, h))

held_short : (t : Told) → is_held_told t ≡ true → is_held (short_told t) ≡ true
held_short told.Held h = refl
held_short t h = absurd (false≢true h)

module _ (default : Template) (grows : Bool) (begin : ℕ) where
  abbrev pub event_block : ℕ → ModelEvent → List Line
  event_block n e = event_words default grows n e ∷ []

  abbrev pub event_value : ℕ → ModelEvent → ℕ → Event
  event_value n e at =
      event_with (line_span at (event_words default grows n e)) e.who (short_deed e.deed)
      (short_told e.told)

  abbrev pub read_events : List ModelEvent → List Event
  read_events done = values event_block event_value begin 0 done

  abbrev opened_in : List ModelEvent → ℕ → Bool
  opened_in done f = opens (slice_get (read_events done) f)

  opened_push : (done : List ModelEvent) (e : ModelEvent) (f : ℕ)
      → (was_held (reverse done) f ≡ true → opened_in done f ≡ true)
      → was_held (e ∷ reverse done) f ≡ true → opened_in (done ++ e ∷ []) f ≡ true
  opened_push done e f rest h =
      let v : Event = event_value (length done) e (end_of begin (blocks event_block 0 done)) in
      let size : length (read_events done) ≡ length done
      = length-values event_block event_value begin 0 done in
      let back : length (reverse done) ≡ length done = length-reverse done in
      let read : read_events (done ++ e ∷ []) ≡ read_events done ++ v ∷ []
      = values_push event_block event_value begin done e in
      ap (λ (es : List Event). opens (slice_get es f)) read
      ∙ elim (cases_Bool (length (reverse done) == f)) [
        | inl s ↦
            let held : is_held_told e.told ≡ true = rw s at h in
            let is : length (read_events done) ≡ f
            = size ∙ (sym back ∙ eqb-true (length (reverse done)) f s) in
            subst (λ (i : ℕ). opens (slice_get (read_events done ++ v ∷ []) i) ≡ true) is
            (ap opens (get_push_last (read_events done) v) ∙ held_short e.told held)
        | inr n ↦
            let old : was_held (reverse done) f ≡ true = rw n at h in
            let lt : f < length (reverse done) = held_below (reverse done) f old in
            ap opens (get_push_before (read_events done) v f (omega (arith, lt, back, size)))
            ∙ rest old
      ]

  -- ---- one event

  pub record IsNext (inode : Inode) (size : ℕ) (done : List ModelEvent) (e : ModelEvent)
      : Type 0 where
    pub follows : Follows inode (reverse done) e.who e.deed e.told
    pub before : EachFollows inode (reverse done)
    pub opened : (f : ℕ) → was_held (reverse done) f ≡ true → opened_in done f ≡ true
    pub small : IsSmall e
    pub entry : NamesEntry size (short e)
    pub few : length done < 2 ^ 32

  both : (a b : Bool) → a ≡ true → b ≡ true → (a && b) ≡ true
  both a b h k = rw (h, k) refl

  file_ok : (inode : Inode) (done : List ModelEvent) (o : Option ℕ)
      → EachFollows inode (reverse done)
      → ((f : ℕ) → was_held (reverse done) f ≡ true → opened_in done f ≡ true)
      → IsThere inode (reverse done) o → file_fits (read_events done) o ≡ true
  file_ok inode done None fol opened there = refl
  file_ok inode done (Some f) fol opened there =
      opened f (stage_held inode (reverse done) f fol there)

  event_read : (inode : Inode) (size : ℕ) (done : List ModelEvent) (e : ModelEvent) (line : Span)
      → IsNext inode size done e
      → event_of (length (read_events done)) line
      (take 24 (event_words default grows (length done) e))
      ≡ Some (event_with line e.who (short_deed e.deed) (short_told e.told))
  event_read inode size done e line n =
      let back : length (reverse done) ≡ length done = length-reverse done in
      let read : length (read_events done) ≡ length done
      = length-values event_block event_value begin 0 done in
      let small : IsSmallStep e.who e.deed e.told = record {
        task = n.small.task;
        call = n.small.call;
        step = n.small.step;
        deed = n.small.deed;
        told = n.small.told;
      } in
      subst
      (λ (k : ℕ). event_of k line (take 24 (event_words default grows (length done) e))
      ≡ Some (event_with line e.who (short_deed e.deed) (short_told e.told))) (sym read)
      (subst
      (λ (k : ℕ). event_of k line (take 24 (event_words default grows k e))
      ≡ Some (event_with line e.who (short_deed e.deed) (short_told e.told))) back
      (event_back default grows line inode (reverse done) e.who e.deed e.told
      (omega (arith, n.few, back)) n.follows small))

  event_step : (m at : ℕ) (d : Draft) (ws : Line) (v : Event)
      → event_of (length d.events) (line_span at ws) (take 24 ws) ≡ Some v
      → fits (length d.entries) d.events v ≡ true
      → step at (record d { stage = stage.Events (suc m) }) ws
      ≡ Some (events_left m (record d { events = d.events ++ v ∷ [] }))
  unfolding with_words
  event_step m at d ws v r f =
      rw (r, f)
      (ap (λ (k : ℕ). Some (events_left k (record d { events = d.events ++ v ∷ [] })))
      (one_less m))

  events_more : (m : ℕ) (d : Draft)
      → events_left (suc m) d ≡ record d { stage = stage.Events (suc m) }
  events_more m d =
      ap (λ (b : Bool). cond b (inode_closed d) (record d { stage = stage.Events (suc m) }))
      (not_none m)

  abbrev going : Draft → List ModelEvent → List ModelEvent → Draft
  going d done left = events_left (length left) (record d { events = read_events done })

  event_each : (inode : Inode) (d : Draft) (done : List ModelEvent) (e : ModelEvent)
      (left : List ModelEvent) → IsNext inode (length d.entries) done e
      → fold (end_of begin (blocks event_block 0 done)) (going d done (e ∷ left))
      (event_block (length done) e)
      ≡ Some (going d (done ++ e ∷ []) left)
  event_each inode d done e left n =
      let here : ℕ = end_of begin (blocks event_block 0 done) in
      let ws : Line = event_words default grows (length done) e in
      let v : Event = event_value (length done) e here in
      let so_far : Draft = record d { events = read_events done } in
      let next : Draft = events_left (length left)
      (record d { events = read_events done ++ v ∷ [] }) in
      fold_one here (going d done (e ∷ left)) next ws
      (subst (λ (x : Draft). step here x ws ≡ Some next) (sym (events_more (length left) so_far))
      (event_step (length left) here so_far ws v
      (event_read inode (length d.entries) done e (line_span here ws) n)
      (both (file_fits (read_events done) (file_of (short_deed e.deed)))
      (entry_fits (length d.entries) (entry_of (short_told e.told)))
      (file_ok inode done (file_of (short_deed e.deed)) n.before n.opened
      (named_there inode (reverse done) e.who e.deed e.told n.follows))
      n.entry)))
      ∙ ap
      (λ (es : List Event). Some (events_left (length left) (record d { events = es })))
      (sym (values_push event_block event_value begin done e))

  -- ---- a journal

  follows_drop : (inode : Inode) (xs ys : List ModelEvent) → EachFollows inode (xs ++ ys)
      → EachFollows inode ys
  follows_drop inode [] ys h = h
  follows_drop inode (x ∷ xs) ys h = follows_drop inode xs ys h.1

  turned : (done : List ModelEvent) (e : ModelEvent) → reverse (done ++ e ∷ []) ≡ e ∷ reverse done
  turned done e = reverse-append done (e ∷ [])

  all_next : (inode : Inode) (size : ℕ) (left done : List ModelEvent)
      → EachFollows inode (reverse left ++ reverse done)
      → ((f : ℕ) → was_held (reverse done) f ≡ true → opened_in done f ≡ true)
      → AllByRecursion IsSmall left
      → AllByRecursion (λ (e : ModelEvent). NamesEntry size (short e)) left
      → length done + length left < 2 ^ 32
      → AllGood event_block (IsNext inode size) done left
  all_next inode size [] done fol opened small names few = tt
  all_next inode size (e ∷ left) done fol opened small names few =
      let whole : reverse (e ∷ left) ++ reverse done ≡ reverse left ++ (e ∷ reverse done)
      = ap (λ (xs : List ModelEvent). xs ++ reverse done) (reverse-append (e ∷ []) left)
      ∙ append_assoc (reverse left) (e ∷ []) (reverse done) in
      let all : EachFollows inode (reverse left ++ (e ∷ reverse done))
      = subst (EachFollows inode) whole fol in
      let here : EachFollows inode (e ∷ reverse done)
      = follows_drop inode (reverse left) (e ∷ reverse done) all in
      let size_on = length_push done e in (
        record {
          follows = here.0;
          before = here.1;
          opened = opened;
          small = small.0;
          entry = names.0;
          few = omega (arith, few);
        },
        all_next inode size left (done ++ e ∷ [])
            (subst (λ (xs : List ModelEvent). EachFollows inode (reverse left ++ xs))
            (sym (turned done e)) all)
            (λ f h. opened_push done e f (opened f)
            (subst (λ (xs : List ModelEvent). was_held xs f ≡ true) (turned done e) h))
            small.1 names.1 (omega (arith, few, size_on)),
      )

  event_rows : (es : List ModelEvent) (n : ℕ)
      → blocks event_block n es ≡ event_lines default grows n es
  event_rows [] n = refl
  event_rows (e ∷ es) n =
      ap (λ (ls : List Line). event_words default grows n e ∷ ls) (event_rows es (n + 1))

  -- a legal journal is read
  pub journal_back : (inode : Inode) (es : List ModelEvent) (d : Draft)
      → EachFollows inode (reverse es) → AllByRecursion IsSmall es
      → AllByRecursion (λ (e : ModelEvent). NamesEntry (length d.entries) (short e)) es
      → length es < 2 ^ 32
      → fold begin (events_left (length es) (record d { events = [] }))
      (event_lines default grows 0 es)
      ≡ Some (inode_closed (record d { events = read_events es }))
  journal_back inode es d fol small names few =
      ap (fold begin (events_left (length es) (record d { events = [] }))) (sym (event_rows es 0))
      ∙ chain_whole event_block (IsNext inode (length d.entries)) begin (going d)
      (event_each inode d) es
      (all_next inode (length d.entries) es []
      (subst (EachFollows inode) (sym (append-nil (reverse es))) fol)
      (λ f h. absurd (false≢true h)) small names (omega (arith, few)))
