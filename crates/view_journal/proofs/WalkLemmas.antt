-- A walk over a journal finds what the strips show.
use Rattle.std.proofs.Common.{◌≡◌, ℕ, zero, suc, ◌+◌, ◌-◌, ◌≤◌, ◌==◌, Bool, false, List, [], ◌∷◌, ◌++◌, length, Option, Some, None, refl, ap, sym, ◌∙◌, subst, arith, inl, inr}
use Rattle.std.specs.Prelude.{slice_get, slice_set}
use Rattle.std.proofs.lemmas.Option.{slice_get_past}
use Rattle.std.proofs.lemmas.Bool.{cases_Bool, eqb-true}
use Rattle.report_read.specs.words.declared.event.Event.{Event}
use Rattle.report_read.specs.words.declared.event.Kind.{Kind}
use Rattle.view_journal.specs.Files.{dropped, execs, files, find_file, is_exec, is_reader, is_writer, less_file, opened, readers, tally, with_file, without_file, writers}
use Rattle.view_journal.specs.State.{collecting, freshness}
use Rattle.view_journal.specs.Walk.{Walk, cleared, joined, kind_at, one, passes, recounted, shown_by, start, state_after, state_of, states_from, states_of, walked}
use Rattle.view_journal.proofs.FilesLemmas.{AreDistinct, Files, distinct-less_file, find_file-less_other, find_file-less_same, tally-less_file}
use Rattle.view_journal.proofs.Tests.{without_suc}

-- ---- vectors of kinds

abbrev pub Held : Type 0
Held = List (Option Kind)

abbrev pub kind_in : Held → ℕ → Option Kind
kind_in held f = joined (slice_get held f)

kind_in-push_last : (held : Held) (o : Option Kind) → kind_in (held ++ o ∷ []) (length held) ≡ o
kind_in-push_last [] o = refl
kind_in-push_last (x ∷ held) o = kind_in-push_last held o

kind_in-push_other : (held : Held) (o : Option Kind) (f : ℕ) → (length held == f) ≡ false
    → kind_in (held ++ o ∷ []) f ≡ kind_in held f
kind_in-push_other [] o zero n = absurd (cc n)
kind_in-push_other [] o (suc f) n = refl
kind_in-push_other (x ∷ held) o zero n = refl
kind_in-push_other (x ∷ held) o (suc f) n =
    kind_in-push_other held o f
    (without_suc (length held) f n)

kind_in-set_same : (held : Held) (f : ℕ) → kind_in (slice_set held f None) f ≡ None
kind_in-set_same [] f = refl
kind_in-set_same (x ∷ held) zero = refl
kind_in-set_same (x ∷ held) (suc f) = kind_in-set_same held f

kind_in-set_other : (held : Held) (f g : ℕ) → (f == g) ≡ false
    → kind_in (slice_set held f None) g ≡ kind_in held g
kind_in-set_other [] f g n = refl
kind_in-set_other (x ∷ held) zero zero n = absurd (cc n)
kind_in-set_other (x ∷ held) zero (suc g) n = refl
kind_in-set_other (x ∷ held) (suc f) zero n = refl
kind_in-set_other (x ∷ held) (suc f) (suc g) n =
    kind_in-set_other held f g (without_suc f g n)

pub length-push : (held : Held) (o : Option Kind) → length (held ++ o ∷ []) ≡ suc (length held)
length-push [] o = refl
length-push (x ∷ held) o = ap suc (length-push held o)

length-set_kind : (held : Held) (f : ℕ) → length (slice_set held f None) ≡ length held
length-set_kind [] f = refl
length-set_kind (x ∷ held) zero = refl
length-set_kind (x ∷ held) (suc f) = ap suc (length-set_kind held f)

-- ---- the open files and the vector agree

pub record Agrees (held : Held) (hs : Files) : Type 0 where
  pub kinds : (f : ℕ) → kind_in held f ≡ find_file f hs
  pub distinct : AreDistinct hs

-- after a file is dropped
dropped_agrees : (d : Option ℕ) (held : Held) (hs : Files) → Agrees held hs
    → Agrees (cleared held d) (without_file d hs)
dropped_agrees None held hs a = a
dropped_agrees (Some g) held hs a = record {
  kinds = λ f. elim (cases_Bool (g == f)) [
    | inl e ↦
        let same : g ≡ f = eqb-true g f e in
        subst (λ (x : ℕ). kind_in (slice_set held g None) x ≡ find_file x (less_file g hs)) same
        (kind_in-set_same held g ∙ sym (find_file-less_same g hs a.distinct))
    | inr e ↦
        kind_in-set_other held g f e ∙ (a.kinds f ∙ sym (find_file-less_other g f hs e))
  ];
  distinct = distinct-less_file g hs a.distinct;
}

-- no file has a number that isn't a place
none_past : (held : Held) (hs : Files) → Agrees held hs → (f : ℕ) → length held ≤ f
    → find_file f hs ≡ None
none_past held hs a f past = sym (a.kinds f) ∙ ap joined (slice_get_past held f past)

with_kinds : (o : Option Kind) (held : Held) (hs : Files) → Agrees held hs → (f : ℕ)
    → kind_in (held ++ o ∷ []) f ≡ find_file f (with_file (length held) o hs)
with_kinds None held hs a f =
    elim (cases_Bool (length held == f)) [
      | inl e ↦
          let same : length held ≡ f = eqb-true (length held) f e in
          subst (λ (x : ℕ). kind_in (held ++ None ∷ []) x ≡ find_file x hs) same
          (kind_in-push_last held None ∙ sym (none_past held hs a (length held) (omega arith)))
      | inr e ↦ kind_in-push_other held None f e ∙ a.kinds f
    ]
with_kinds (Some k) held hs a f =
    elim (cases_Bool (length held == f)) [
      | inl e ↦
          let same : length held ≡ f = eqb-true (length held) f e in
          rw e
          (subst (λ (x : ℕ). kind_in (held ++ Some k ∷ []) x ≡ Some k) same
          (kind_in-push_last held (Some k)))
      | inr e ↦ rw e (kind_in-push_other held (Some k) f e ∙ a.kinds f)
    ]

with_distinct : (o : Option Kind) (held : Held) (hs : Files) → Agrees held hs
    → AreDistinct (with_file (length held) o hs)
with_distinct None held hs a = a.distinct
with_distinct (Some k) held hs a =
    (none_past held hs a (length held) (omega arith), a.distinct)

-- after an event that opens a file, or none
opened_agrees : (o : Option Kind) (held : Held) (hs : Files) → Agrees held hs
    → Agrees (held ++ o ∷ []) (with_file (length held) o hs)
opened_agrees o held hs a = record {
  kinds = with_kinds o held hs a;
  distinct = with_distinct o held hs a;
}

-- ---- counts

tally_with : (test : Kind → Bool) (p : ℕ) (o : Option Kind) (hs : Files)
    → tally test (with_file p o hs) ≡ one (passes test o) + tally test hs
tally_with test p None hs = omega arith
tally_with test p (Some k) hs = refl

tally_without : (test : Kind → Bool) (d : Option ℕ) (held : Held) (hs : Files) → Agrees held hs
    → tally test (without_file d hs) ≡ tally test hs - one (passes test (kind_at held d))
tally_without test None held hs a = omega arith
tally_without test (Some f) held hs a = rw (a.kinds f) (tally-less_file test f hs)

count_goes_on : (test : Kind → Bool) (d : Option ℕ) (o : Option Kind) (p : ℕ) (held : Held)
    (hs : Files) → Agrees held hs → (count : ℕ) → count ≡ tally test hs
    → recounted (passes test (kind_at held d)) (passes test o) count
    ≡ tally test (with_file p o (without_file d hs))
count_goes_on test d o p held hs a count e =
    rw (tally_with test p o (without_file d hs), tally_without test d held hs a)
    (omega (arith, e))

-- ---- the walk

-- the walk is the one over these events
pub record IsWalk (before : List Event) (w : Walk) : Type 0 where
  pub size : length w.held ≡ length before
  pub agrees : Agrees w.held (files before)
  pub readers : w.readers ≡ readers before
  pub writers : w.writers ≡ writers before
  pub execs : w.execs ≡ execs before
  pub collecting : w.collecting ≡ collecting before
  pub freshness : w.freshness ≡ freshness before

pub starts : IsWalk [] start
starts = record {
  size = refl;
  agrees = record { kinds = λ f. refl; distinct = tt };
  readers = refl;
  writers = refl;
  execs = refl;
  collecting = refl;
  freshness = refl;
}

pub length-cleared : (d : Option ℕ) (held : Held) → length (cleared held d) ≡ length held
length-cleared None held = refl
length-cleared (Some f) held = length-set_kind held f

-- a walk goes on over an event
pub goes_on : (before : List Event) (w : Walk) (e : Event) → IsWalk before w
    → IsWalk (e ∷ before) (walked e w)
goes_on before w e i =
    let d : Option ℕ = dropped e.deed e.outcome in
    let o : Option Kind = opened e.deed e.outcome in
    let size : length (cleared w.held d) ≡ length before = length-cleared d w.held ∙ i.size in
    record {
      size = length-push (cleared w.held d) o ∙ ap suc size;
      agrees = subst
          (λ (n : ℕ). Agrees (cleared w.held d ++ o ∷ [])
          (with_file n o (without_file d (files before)))) size
          (opened_agrees o (cleared w.held d) (without_file d (files before))
          (dropped_agrees d w.held (files before) i.agrees));
      readers = count_goes_on is_reader d o (length before) w.held (files before) i.agrees
          w.readers i.readers;
      writers = count_goes_on is_writer d o (length before) w.held (files before) i.agrees
          w.writers i.writers;
      execs = count_goes_on is_exec d o (length before) w.held (files before) i.agrees w.execs
          i.execs;
      collecting = rw i.collecting refl;
      freshness = rw (i.collecting, i.freshness) refl;
    }

state_same : (before : List Event) (w : Walk) → IsWalk before w → state_of w ≡ state_after before
state_same before w i = rw (i.readers, i.writers, i.execs, i.freshness) refl

-- it finds what the strips show
pub shown_by-walk : (before : List Event) (w : Walk) (es : List Event) → IsWalk before w
    → shown_by w es ≡ states_from before es
shown_by-walk before w [] i = refl
shown_by-walk before w (e ∷ es) i =
    let next : IsWalk (e ∷ before) (walked e w) = goes_on before w e i in
    rw (
      state_same (e ∷ before) (walked e w) next,
      shown_by-walk (e ∷ before) (walked e w) es next,
    ) refl

-- over a whole journal
pub states_by_walk : (journal : List Event) → shown_by start journal ≡ states_of journal
states_by_walk journal = shown_by-walk [] start journal starts
