-- The flags of a drawing stand in the order of their beginnings.
use Rattle.std.proofs.Common.{◌≡◌, ℕ, zero, suc, ◌+◌, ◌<◌, ◌≤◌, List, [], ◌∷◌, ◌++◌, map, take, Option, Some, None, refl, arith}
use Rattle.std.specs.List.{flat_map}
use Rattle.view_journal.specs.reading.words.declared.event.Event.{Event}
use Rattle.view_journal.specs.declared.column.Column.{Column}
use Rattle.view_layout.specs.declared.flags.Noted.{Noted}
use Rattle.view_journal.specs.declared.kinds.Note.{Note}
use Rattle.view_journal.specs.declared.walk.State.{State}
use Rattle.view_journal.specs.declared.window.Window.{Window}
use Rattle.view_journal.specs.Columns.{column_at, columns_from, hashing_after}
use Rattle.view_layout.specs.Flags.{flag_extents, noted, noted_at}
use Rattle.view_journal.specs.Frame.{AreInOrder, BeginAfter, column_of}
use Rattle.view_journal.specs.Notes.{notes}
use Rattle.view_layout.specs.Promises.{FlagsAreInOrder}
use Rattle.view_journal.specs.Walk.{states_of}
use Rattle.view_journal.specs.Windows.{AreWindows}
use Rattle.view_journal.proofs.ColumnsLemmas.{columns_differ}

-- ---- columns

-- the columns stand at x or to the right of it
abbrev Beyond : ℕ → List Column → Type 0
Beyond x [] = Unit {0}
Beyond x (c ∷ cs) = (x ≤ c.x) × Beyond x cs

-- the columns stand from left to right
abbrev Sorted : List Column → Type 0
Sorted [] = Unit {0}
Sorted (c ∷ cs) = Beyond c.x cs × Sorted cs

beyond_at : (x place : ℕ) (e : Event) (s : State) (hashing o : Option ℕ) (rest : List Column)
    → ((y : ℕ) → o ≡ Some y → x ≤ y) → Beyond x rest
    → Beyond x (column_at o place e s hashing ++ rest)
beyond_at x place e s hashing None rest h k = k
beyond_at x place e s hashing (Some y) rest h k = (h y refl, k)

-- the columns of later places stand to the right of that of an earlier one
beyond : (ws : List Window) (p x place : ℕ) (hashing : Option ℕ) (es : List Event)
    (ss : List State) → AreWindows 0 ws → column_of ws p ≡ Some x → p < place
    → Beyond x (columns_from ws place hashing es ss)
beyond ws p x place hashing [] ss o is lt = tt
beyond ws p x place hashing (e ∷ es) [] o is lt = tt
beyond ws p x place hashing (e ∷ es) (s ∷ ss) o is lt =
    let next : Option ℕ = hashing_after e.deed e.outcome hashing in
    beyond_at x place e s next (column_of ws place) (columns_from ws (place + 1) next es ss)
    (λ (y : ℕ) (at : column_of ws place ≡ Some y).
    omega (arith, columns_differ ws p place x y o lt is at))
    (beyond ws p x (place + 1) next es ss o is (omega (arith, lt)))

sorted_at : (place : ℕ) (e : Event) (s : State) (hashing o : Option ℕ) (rest : List Column)
    → ((y : ℕ) → o ≡ Some y → Beyond y rest) → Sorted rest
    → Sorted (column_at o place e s hashing ++ rest)
sorted_at place e s hashing None rest h k = k
sorted_at place e s hashing (Some y) rest h k = (h y refl, k)

sorted : (ws : List Window) (place : ℕ) (hashing : Option ℕ) (es : List Event) (ss : List State)
    → AreWindows 0 ws → Sorted (columns_from ws place hashing es ss)
sorted ws place hashing [] ss o = tt
sorted ws place hashing (e ∷ es) [] o = tt
sorted ws place hashing (e ∷ es) (s ∷ ss) o =
    let next : Option ℕ = hashing_after e.deed e.outcome hashing in
    sorted_at place e s next (column_of ws place) (columns_from ws (place + 1) next es ss)
    (λ (y : ℕ) (at : column_of ws place ≡ Some y).
    beyond ws place y (place + 1) next es ss o at (omega arith))
    (sorted ws (place + 1) next es ss o)

beyond_take : (n x : ℕ) (cs : List Column) → Beyond x cs → Beyond x (take n cs)
beyond_take zero x cs h = tt
beyond_take (suc n) x [] h = tt
beyond_take (suc n) x (c ∷ cs) h = (h.0, beyond_take n x cs h.1)

sorted_take : (n : ℕ) (cs : List Column) → Sorted cs → Sorted (take n cs)
sorted_take zero cs h = tt
sorted_take (suc n) [] h = tt
sorted_take (suc n) (c ∷ cs) h = (beyond_take n c.x cs h.0, sorted_take n cs h.1)

-- ---- notes

-- the notes stand at x or to the right of it
abbrev After : ℕ → List Noted → Type 0
After x [] = Unit {0}
After x (f ∷ fs) = (x ≤ f.x) × After x fs

-- the notes stand from left to right
abbrev Ordered : List Noted → Type 0
Ordered [] = Unit {0}
Ordered (f ∷ fs) = After f.x fs × Ordered fs

after_notes : (from x : ℕ) (e : Event) (ns : List Note) (rest : List Noted) → from ≤ x
    → After from rest → After from (map (noted x e) ns ++ rest)
after_notes from x e [] rest h k = k
after_notes from x e (n ∷ ns) rest h k = (h, after_notes from x e ns rest h k)

ordered_notes : (x : ℕ) (e : Event) (ns : List Note) (rest : List Noted) → After x rest
    → Ordered rest → Ordered (map (noted x e) ns ++ rest)
ordered_notes x e [] rest h k = k
ordered_notes x e (n ∷ ns) rest h k =
    (after_notes x x e ns rest (omega arith) h, ordered_notes x e ns rest h k)

after_all : (x : ℕ) (cs : List Column) → Beyond x cs → After x (flat_map noted_at cs)
after_all x [] h = tt
after_all x (c ∷ cs) h =
    after_notes x c.x c.event (notes c.event) (flat_map noted_at cs) h.0 (after_all x cs h.1)

ordered_all : (cs : List Column) → Sorted cs → Ordered (flat_map noted_at cs)
ordered_all [] h = tt
ordered_all (c ∷ cs) h =
    ordered_notes c.x c.event (notes c.event) (flat_map noted_at cs) (after_all c.x cs h.0)
    (ordered_all cs h.1)

after_take : (n x : ℕ) (fs : List Noted) → After x fs → After x (take n fs)
after_take zero x fs h = tt
after_take (suc n) x [] h = tt
after_take (suc n) x (f ∷ fs) h = (h.0, after_take n x fs h.1)

ordered_take : (n : ℕ) (fs : List Noted) → Ordered fs → Ordered (take n fs)
ordered_take zero fs h = tt
ordered_take (suc n) [] h = tt
ordered_take (suc n) (f ∷ fs) h = (after_take n f.x fs h.0, ordered_take n fs h.1)

-- ---- their extents

begin_after : (x : ℕ) (fs : List Noted) → After x fs → BeginAfter (x + 15) (flag_extents fs)
begin_after x [] h = tt
begin_after x (f ∷ fs) h = (omega (arith, h.0), begin_after x fs h.1)

in_order : (fs : List Noted) → Ordered fs → AreInOrder (flag_extents fs)
in_order [] h = tt
in_order (f ∷ fs) h = (begin_after f.x fs h.0, in_order fs h.1)

pub flags_are_in_order : FlagsAreInOrder
flags_are_in_order ws journal o =
    let cs : List Column = take 1000 (columns_from ws 0 None journal (states_of journal)) in
    in_order (take 3000 (flat_map noted_at cs))
    (ordered_take 3000 (flat_map noted_at cs)
    (ordered_all cs
    (sorted_take 1000 (columns_from ws 0 None journal (states_of journal))
    (sorted ws 0 None journal (states_of journal) o))))
