-- Each event but the birth stands in a lane of its task.
use Rattle.std.proofs.Common.{◌≡◌, ◌≢◌, ℕ, zero, suc, ◌+◌, ◌*◌, ◌<◌, ◌≤◌, ◌==◌, ◌&&◌, Bool, true, false, max, List, [], ◌∷◌, ◌++◌, get_or, Option, Some, None, refl, sym, ◌∙◌, subst, arith, inl, inr, ◌⊎◌}
use Rattle.std.specs.Prelude.{All, Contains, nat_lt}
use Rattle.std.proofs.lemmas.Bool.{cases_Bool, eqb-false, eqb-true}
use Rattle.std.proofs.lemmas.List.Elements.{All-cons, All-nil, All-weaker, Contains-append_cases, Contains-append_left, Contains-append_right}
use Rattle.view_journal.specs.reading.words.declared.event.Deed.{Deed}
use Rattle.view_journal.specs.reading.words.declared.event.Deed.TheVariants as deed
use Rattle.view_journal.specs.declared.bars.Bar.{Bar}
use Rattle.view_journal.specs.declared.column.Column.{Column}
use Rattle.view_lanes.specs.declared.lanes.Lane.{Lane}
use Rattle.view_lanes.specs.declared.lanes.Seat.{Seat}
use Rattle.view_journal.specs.Bars.{lane, own}
use Rattle.view_journal.specs.Frame.{rows}
use Rattle.view_lanes.specs.Lanes.{file_of, lane_at, lane_height, lane_seats, lanes_from, own_seat, own_seat_in, row_by, row_or, rows_from_least, seats_from, seats_of, tasks_from, tasks_of, top_in, with_actor, with_task}
use Rattle.view_layout.specs.Promises.{EventsStandInTheirLanes, HasRow}

-- ---- the tasks

one_task : (t : ℕ) (ts : List ℕ) → Contains (with_task t ts) t
one_task t [] = (0, omega arith, refl)
one_task t (u ∷ ts) =
    elim (cases_Bool (nat_lt u t)) [
      | inl y ↦ rw y (Contains-append_right (u ∷ []) (with_task t ts) t (one_task t ts))
      | inr n ↦ elim (cases_Bool (u == t)) [
        | inl e ↦ rw (n, e) (0, omega arith, eqb-true u t e)
        | inr f ↦ rw (n, f) (0, omega arith, refl)
      ]
    ]

-- a task stays when another one comes
stays : (t v : ℕ) (ts : List ℕ) → Contains ts v → Contains (with_task t ts) v
stays t v [] h = absurd (omega (arith, h.1))
stays t v (u ∷ ts) h =
    elim (cases_Bool (nat_lt u t)) [
      | inl y ↦ rw y (elim (Contains-append_cases (u ∷ []) ts v h) [
        | inl c ↦ Contains-append_left (u ∷ []) (with_task t ts) v c
        | inr c ↦ Contains-append_right (u ∷ []) (with_task t ts) v (stays t v ts c)
      ])
      | inr n ↦ elim (cases_Bool (u == t)) [
        | inl e ↦ rw (n, e) h
        | inr f ↦ rw (n, f) (Contains-append_right (t ∷ []) (u ∷ ts) v h)
      ]
    ]

stays_actor : (d : Deed) (t v : ℕ) (ts : List ℕ) → Contains ts v → Contains (with_actor d t ts) v
stays_actor deed.Birth t v ts h = h
stays_actor d t v ts h = stays t v ts h

stays_all : (v : ℕ) (ts : List ℕ) (cs : List Column) → Contains ts v
    → Contains (tasks_from ts cs) v
stays_all v ts [] h = h
stays_all v ts (c ∷ cs) h =
    stays_all v (with_actor c.event.deed c.event.who.task ts) cs
    (stays_actor c.event.deed c.event.who.task v ts h)

one_actor : (d : Deed) (t : ℕ) (ts : List ℕ) → d ≢ deed.Birth → Contains (with_actor d t ts) t
one_actor deed.Birth t ts h = absurd (h refl)
one_actor d t ts h = one_task t ts

-- each event's task is among those of the columns
have_tasks : (ts : List ℕ) (cs : List Column)
    → All (λ (c : Column). c.event.deed ≢ deed.Birth
    → Contains (tasks_from ts cs) c.event.who.task) cs
have_tasks ts [] =
    All-nil (λ (c : Column). c.event.deed ≢ deed.Birth
    → Contains (tasks_from ts []) c.event.who.task)
have_tasks ts (c ∷ cs) =
    let next : List ℕ = with_actor c.event.deed c.event.who.task ts in
    All-cons (λ (x : Column). x.event.deed ≢ deed.Birth
    → Contains (tasks_from next cs) x.event.who.task) c cs
    (λ (h : c.event.deed ≢ deed.Birth).
    stays_all c.event.who.task next cs (one_actor c.event.deed c.event.who.task ts h))
    (have_tasks next cs)

-- ---- the lanes

least : (n : ℕ) (rs : List ℕ) → n ≤ rows_from_least n rs
least n [] = omega arith
least n (r ∷ rs) = omega (arith, least (max n (r + 1)) rs)

only_by : (u t k : ℕ) → k < 1 → get_or (u ∷ []) k t ≡ t → u ≡ t
only_by u t zero lt e = e
only_by u t (suc k) lt e = absurd (omega (arith, lt))

next_lane : (l : Lane) (ls : List Lane) (task y : ℕ) → HasRow ls task y → HasRow (l ∷ ls) task y
next_lane l ls task y h = record {
  lane = h.lane;
  among = Contains-append_right (l ∷ []) ls h.lane h.among;
  own = h.own;
  row = h.row;
}

-- the first row of a task's lane
first_row : (top : ℕ) (bars : List Bar) (ts : List ℕ) (t : ℕ) → Contains ts t
    → HasRow (lanes_from top bars ts) t (top_in t (lanes_from top bars ts))
first_row top bars [] t h = absurd (omega (arith, h.1))
first_row top bars (u ∷ ts) t h =
    let others : List Lane = lanes_from (top + lane_height u bars) bars ts in
    elim (cases_Bool (u == t)) [
      | inl e ↦ rw e (record {
        lane = lane_at top u bars;
        among = (0, omega arith, refl);
        own = eqb-true u t e;
        row = record {
          below = omega arith;
          above = omega (arith, least 1 (rows (lane u bars)));
        };
      })
      | inr n ↦
          let there : Contains ts t = elim (Contains-append_cases (u ∷ []) ts t h) [
            | inl c ↦ absurd (eqb-false u t n (only_by u t c.0 c.1 c.2))
            | inr c ↦ c
          ] in
          rw n (next_lane (lane_at top u bars) others t (top_in t others)
          (first_row (top + lane_height u bars) bars ts t there))
    ]

-- ---- the rows of bars

-- the bars are those of this task
abbrev AreOf : ℕ → List Bar → Type 0
AreOf u [] = Unit {0}
AreOf u (b ∷ bs) = (b.task ≡ u) × AreOf u bs

own_are : (u : ℕ) (bs : List Bar) → AreOf u (own u bs)
own_are u [] = tt
own_are u (b ∷ bs) =
    elim (cases_Bool (b.task == u)) [
      | inl t ↦ rw t (eqb-true b.task u t, own_are u bs)
      | inr f ↦ rw f (own_are u bs)
    ]

both_right : (a b : Bool) → (a && b) ≡ true → b ≡ true
both_right true b h = h
both_right false b h = cc h

-- a bar of this task stands in a row of the lane
record IsSeated (top height task u y : ℕ) : Type 0 where
  pub same : u ≡ task
  pub below : top ≤ y
  pub above : y + 22 ≤ top + height

seated : (top n file task u y : ℕ) (bs : List Bar) (rs : List ℕ) → AreOf u bs
    → own_seat_in file task (seats_of top bs rs) ≡ Some y
    → IsSeated top (22 * rows_from_least n rs + 8) task u y
seated top n file task u y [] rs o h = absurd (cc h)
seated top n file task u y (b ∷ bs) [] o h = absurd (cc h)
seated top n file task u y (b ∷ bs) (r ∷ rs) o h =
    elim (cases_Bool (b.file == file && b.task == task)) [
      | inl t ↦
          let here : Some (top + 4 + 22 * r) ≡ Some y = rw t at h in
          let is : top + 4 + 22 * r ≡ y = cc here in
          record {
            same = sym o.0 ∙ eqb-true b.task task (both_right (b.file == file) (b.task == task) t);
            below = omega (arith, is);
            above = omega (arith, is, least (max n (r + 1)) rs);
          }
      | inr f ↦ seated top (max n (r + 1)) file task u y bs rs o.1 (rw f at h)
    ]

found_in : (file task y : ℕ) (xs ys : List Seat) → own_seat_in file task (xs ++ ys) ≡ Some y
    → (own_seat_in file task xs ≡ Some y) ⊎ (own_seat_in file task ys ≡ Some y)
found_in file task y [] ys h = inr h
found_in file task y (s ∷ xs) ys h =
    elim (cases_Bool (s.bar.file == file && s.bar.task == task)) [
      | inl t ↦ let here : Some s.y ≡ Some y = rw t at h in rw t (inl here)
      | inr f ↦ rw f (found_in file task y xs ys (rw f at h))
    ]

row_of_seat : (top : ℕ) (bars : List Bar) (ts : List ℕ) (file task y : ℕ)
    → own_seat_in file task (seats_from top bars ts) ≡ Some y
    → HasRow (lanes_from top bars ts) task y
row_of_seat top bars [] file task y h = absurd (cc h)
row_of_seat top bars (u ∷ ts) file task y h =
    let below : ℕ = top + lane_height u bars in
    elim (found_in file task y (lane_seats top u bars) (seats_from below bars ts) h) [
      | inl a ↦
          let is : IsSeated top (lane_height u bars) task u y
          = seated top 1 file task u y (own u bars) (rows (lane u bars)) (own_are u bars) a in
          record {
            lane = lane_at top u bars;
            among = (0, omega arith, refl);
            own = is.same;
            row = record { below = is.below; above = is.above };
          }
      | inr b ↦
          next_lane (lane_at top u bars) (lanes_from below bars ts) task y
          (row_of_seat below bars ts file task y b)
    ]

-- ---- the events

by_seat : (bars : List Bar) (ts : List ℕ) (file task : ℕ) (o : Option ℕ) → Contains ts task
    → own_seat_in file task (seats_from 68 bars ts) ≡ o
    → HasRow (lanes_from 68 bars ts) task (row_or o (top_in task (lanes_from 68 bars ts)))
by_seat bars ts file task None h is = first_row 68 bars ts task h
by_seat bars ts file task (Some y) h is = row_of_seat 68 bars ts file task y is

by_file : (bars : List Bar) (ts : List ℕ) (task : ℕ) (o : Option ℕ) → Contains ts task
    → HasRow (lanes_from 68 bars ts) task
    (row_or (own_seat o task (seats_from 68 bars ts)) (top_in task (lanes_from 68 bars ts)))
by_file bars ts task None h = first_row 68 bars ts task h
by_file bars ts task (Some file) h =
    by_seat bars ts file task (own_seat_in file task (seats_from 68 bars ts)) h refl

row_is : (lanes : List Lane) (seats : List Seat) (place : ℕ) (d : Deed) (task : ℕ)
    → d ≢ deed.Birth
    → row_by lanes seats place d task
    ≡ row_or (own_seat (file_of place d) task seats) (top_in task lanes)
row_is lanes seats place deed.Birth task h = absurd (h refl)
row_is lanes seats place d task h = refl

pub events_stand_in_their_lanes : EventsStandInTheirLanes
events_stand_in_their_lanes columns bars events =
    let ts : List ℕ = tasks_of columns in
    let lanes : List Lane = lanes_from 68 bars ts in
    let seats : List Seat = seats_from 68 bars ts in
    All-weaker (λ (c : Column). c.event.deed ≢ deed.Birth → Contains ts c.event.who.task)
    (λ (c : Column). c.event.deed ≢ deed.Birth
    → HasRow lanes c.event.who.task
    (row_by lanes seats c.place c.event.deed c.event.who.task))
    (λ (c : Column) (has : c.event.deed ≢ deed.Birth → Contains ts c.event.who.task)
    (h : c.event.deed ≢ deed.Birth).
    subst (λ (y : ℕ). HasRow lanes c.event.who.task y)
    (sym (row_is lanes seats c.place c.event.deed c.event.who.task h))
    (by_file bars ts c.event.who.task (file_of c.place c.event.deed) (has h))) columns
    (have_tasks [] columns)
