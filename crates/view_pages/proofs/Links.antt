-- The event that is named as that which added an entry did so, and that of a call is of this call.
use Rattle.std.proofs.Common.{◌≡◌, ℕ, zero, suc, ◌+◌, ◌==◌, true, List, [], ◌∷◌, ◌++◌, Option, Some, None, ◌⊎◌, refl, sym, ap, subst, eq-eqb, arith, inl, inr}
use Rattle.std.specs.Prelude.{replicate, slice_get, slice_set, take}
use Rattle.std.specs.List.{list_any}
use Rattle.std.proofs.lemmas.Bool.{eqb-true}
use Rattle.std.proofs.lemmas.Option.{cond_some, same_Some}
use Rattle.view_page.specs.journals.Notes.{flag_notes, notes_by, placed_notes, verdict_notes}
use Rattle.view_page.specs.journals.Sentences.{adds, adds_by}
use Rattle.view_page.specs.journals.declared.kinds.Note.{Note}
use Rattle.view_page.specs.journals.declared.kinds.Note.TheVariants as note
use Rattle.view_page.specs.journals.reading.Report.{InodeValue}
use Rattle.view_page.specs.journals.reading.words.declared.event.Deed.{Deed}
use Rattle.view_page.specs.journals.reading.words.declared.event.Deed.TheVariants as deed
use Rattle.view_page.specs.journals.reading.words.declared.event.Event.{Event}
use Rattle.view_page.specs.journals.reading.words.declared.event.Outcome.{Outcome}
use Rattle.view_page.specs.journals.reading.words.declared.event.Outcome.TheVariants as outcome
use Rattle.view_page.specs.journals.reading.words.declared.event.Placed.{Placed}
use Rattle.view_page.specs.journals.reading.words.declared.event.Placed.TheVariants as placed
use Rattle.view_tables.specs.Calls.{firsts}
use Rattle.view_pages.specs.Page.{added}
use Rattle.view_pages.specs.Promises.{IsOfCall, LeadsTo}
use Rattle.view_plan.specs.Slots.{added_entry, after_events, after_inodes, after_journal, at, call_of, filled, kept, most, placed_entry, put, slot}
use Rattle.view_plan.specs.declared.slots.Asked.{Asked}
use Rattle.view_plan.specs.declared.slots.Asked.TheVariants as asked
use Rattle.view_plan.specs.declared.slots.At.{At}

-- ---- which entry an event added

-- a number that is told is that of the note
same_entry : (q k : ℕ) → Some q ≡ Some k → (q == k) ≡ true
same_entry q k h = eq-eqb q k (same_Some q k h)

grant_adds : (a : Placed) (q : ℕ) (v l : List Note) (k : ℕ) → placed_entry a q ≡ Some k
    → list_any (adds_by k) (placed_notes a q ++ v ++ l) ≡ true
grant_adds placed.NotMeasured q v l k h = cc
grant_adds placed.Already q v l k h = cc
grant_adds placed.Added q v l k h = rw (same_entry q k h) refl

note_adds : (d : Deed) (o : Outcome) (k : ℕ) → added_entry o ≡ Some k
    → list_any (adds_by k) (notes_by d o) ≡ true
note_adds d (outcome.ToMToU q) k h = rw (same_entry q k h) refl
note_adds d (outcome.OpenWriters q) k h = rw (same_entry q k h) refl
note_adds d (outcome.Granted g) k h =
    grant_adds g.placed g.entry (verdict_notes g.verdict) (flag_notes note.Labelled g.labelled) k h
note_adds d _ k h = cc

-- an event that a task's call has is of that call
of_call : (task call : ℕ) (e : Event) (d : Deed) → call_of task e d ≡ Some call
    → IsOfCall task call e
of_call task call e deed.Birth h = cc
of_call task call e _ h =
    let both = cond_some (e.who.task == task) e.who.call call h in
    record { is_task = eqb-true e.who.task task both.0; is_call = both.1 }

-- ---- a table

-- what stands in a table after a change of one slot
set_lookup : (table : List (Option At)) (k p : ℕ) (v w : Option At)
    → slice_get (slice_set table k v) p ≡ Some w
    → (slice_get table p ≡ Some w) ⊎ ((p ≡ k) × (v ≡ w))
set_lookup [] k p v w h = inl h
set_lookup (x ∷ t) zero zero v w h = inr (refl, same_Some v w h)
set_lookup (x ∷ t) zero (suc p) v w h = inl h
set_lookup (x ∷ t) (suc k) zero v w h = inl h
set_lookup (x ∷ t) (suc k) (suc p) v w h =
    elim (set_lookup t k p v w h) [
      | inl e ↦ inl e
      | inr e ↦ inr (ap suc e.0, e.1)
    ]

-- each event of a table is one of its slot
abbrev AllLead : Asked → List InodeValue → List (Option At) → Type 0
AllLead a inodes table =
    (k : ℕ) (b : At) → slice_get table k ≡ Some (Some b)
    → LeadsTo (λ e. slot a e ≡ Some k) inodes b

set_leads : (a : Asked) (inodes : List InodeValue) (table : List (Option At)) (k : ℕ) (b : At)
    → LeadsTo (λ e. slot a e ≡ Some k) inodes b → AllLead a inodes table
    → AllLead a inodes (slice_set table k (Some b))
set_leads a inodes table k b leads so_far p x h =
    elim (set_lookup table k p (Some b) (Some x) h) [
      | inl e ↦ so_far p x e
      | inr e ↦ subst (λ (y : At). LeadsTo (λ f. slot a f ≡ Some p) inodes y) (same_Some b x e.1)
          (subst (λ (q : ℕ). LeadsTo (λ f. slot a f ≡ Some q) inodes b) (sym e.0) leads)
    ]

kept_leads : (o : Option (Option At)) (a : Asked) (inodes : List InodeValue)
    (table : List (Option At)) (k : ℕ) (b : At) → LeadsTo (λ e. slot a e ≡ Some k) inodes b
    → AllLead a inodes table → AllLead a inodes (kept o table k b)
kept_leads (Some None) a inodes table k b leads so_far =
    set_leads a inodes table k b leads so_far
kept_leads (Some (Some x)) a inodes table k b leads so_far = so_far
kept_leads None a inodes table k b leads so_far = so_far

put_leads : (o : Option ℕ) (a : Asked) (inodes : List InodeValue) (table : List (Option At))
    (b : At) → ((k : ℕ) → o ≡ Some k → LeadsTo (λ e. slot a e ≡ Some k) inodes b)
    → AllLead a inodes table → AllLead a inodes (put table o b)
put_leads None a inodes table b leads so_far = so_far
put_leads (Some k) a inodes table b leads so_far =
    kept_leads (slice_get table k) a inodes table k b (leads k refl) so_far

-- ---- the walk over the journals

-- these are the items from a place on
abbrev AreFrom : {A : Type 0} → List A → ℕ → List A → Type 0
AreFrom {A} all n xs =
    (q : ℕ) (x : A) → slice_get xs q ≡ Some x → slice_get all (n + q) ≡ Some x

first_from : {A : Type 0} (all : List A) (n : ℕ) (x : A) (xs : List A)
    → AreFrom all n (x ∷ xs) → slice_get all n ≡ Some x
first_from {A} all n x xs are =
    let same : n + 0 ≡ n = omega arith in
    subst (λ (m : ℕ). slice_get all m ≡ Some x) same (are 0 x refl)

rest_from : {A : Type 0} (all : List A) (n : ℕ) (x : A) (xs : List A)
    → AreFrom all n (x ∷ xs) → AreFrom all (n + 1) xs
rest_from {A} all n x xs are q y h =
    let same : n + suc q ≡ n + 1 + q = omega arith in
    subst (λ (m : ℕ). slice_get all m ≡ Some y) same (are (suc q) y h)

taken : {A : Type 0} (n : ℕ) (xs : List A) (q : ℕ) (x : A)
    → slice_get (take n xs) q ≡ Some x → slice_get xs q ≡ Some x
taken {A} zero xs q x h = cc
taken {A} (suc n) [] q x h = cc
taken {A} (suc n) (y ∷ xs) zero x h = h
taken {A} (suc n) (y ∷ xs) (suc q) x h = taken n xs q x h

-- so are the first of them, from place 0 on
first_ones : {A : Type 0} (n : ℕ) (all : List A) → AreFrom all 0 (take n all)
first_ones {A} n all q x h =
    let same : q ≡ 0 + q = omega arith in
    subst (λ (m : ℕ). slice_get all m ≡ Some x) same (taken n all q x h)

events_lead : (a : Asked) (inodes : List InodeValue) (i : InodeValue) (number : ℕ)
    → slice_get inodes number ≡ Some i → (table : List (Option At)) (place : ℕ)
    (es : List Event) → AreFrom i.events place es → AllLead a inodes table
    → AllLead a inodes (after_events a table number place es)
events_lead a inodes i number has table place [] are so_far = so_far
events_lead a inodes i number has table place (e ∷ es) are so_far =
    events_lead a inodes i number has (put table (slot a e) (at number place e)) (place + 1) es
    (rest_from i.events place e es are)
    (put_leads (slot a e) a inodes table (at number place e)
    (λ k h. record {
      inode = i;
      event = e;
      has_inode = has;
      has_event = first_from i.events place e es are;
      line = refl;
      holds = h;
    }) so_far)

inodes_lead : (a : Asked) (all : List InodeValue) (table : List (Option At)) (number : ℕ)
    (is : List InodeValue) → AreFrom all number is → AllLead a all table
    → AllLead a all (after_inodes a table number is)
inodes_lead a all table number [] are so_far = so_far
inodes_lead a all table number (i ∷ is) are so_far =
    inodes_lead a all (after_journal a table number i.events) (number + 1) is
    (rest_from all number i is are)
    (events_lead a all i number (first_from all number i is are) table 0 (take most i.events)
    (first_ones most i.events) so_far)

-- a table without events has none
no_event : (n p : ℕ) (a : At) → slice_get (replicate n None) p ≡ Some (Some a) → ⊥
no_event zero p a h = cc
no_event (suc n) zero a h = cc
no_event (suc n) (suc p) a h = no_event n p a h

all_lead : (a : Asked) (n : ℕ) (inodes : List InodeValue)
    → AllLead a inodes (filled a (replicate n None) inodes)
all_lead a n inodes =
    inodes_lead a inodes (replicate n None) 0 (take most inodes) (first_ones most inodes)
    (λ k b h. absurd (no_event n k b h))

-- ---- what holds of an event of a slot

lead_as : {P Q : Event → Type 0} (inodes : List InodeValue) (b : At)
    → ((e : Event) → P e → Q e) → LeadsTo P inodes b → LeadsTo Q inodes b
lead_as inodes b follows leads = record {
  inode = leads.inode;
  event = leads.event;
  has_inode = leads.has_inode;
  has_event = leads.has_event;
  line = leads.line;
  holds = follows leads.event leads.holds;
}

pub entries_lead : (n : ℕ) (inodes : List InodeValue) (entry : ℕ) (b : At)
    → slice_get (added n inodes) entry ≡ Some (Some b)
    → LeadsTo (λ e. adds entry e ≡ true) inodes b
entries_lead n inodes entry b h =
    lead_as inodes b (λ e is. note_adds e.deed e.outcome entry is)
    (all_lead asked.Entries n inodes entry b h)

pub calls_lead : (n : ℕ) (inodes : List InodeValue) (task call : ℕ) (b : At)
    → slice_get (firsts task n inodes) call ≡ Some (Some b)
    → LeadsTo (IsOfCall task call) inodes b
calls_lead n inodes task call b h =
    lead_as inodes b (λ e is. of_call task call e e.deed is)
    (all_lead (asked.Calls task) n inodes call b h)
