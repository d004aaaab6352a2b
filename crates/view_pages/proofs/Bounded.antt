-- A page draws at most so many events.
use Rattle.std.proofs.Common.{◌≡◌, ℕ, ◌+◌, ◌-◌, ◌<◌, ◌≤◌, Bool, true, false, cond, List, [], ◌∷◌, refl, arith}
use Rattle.std.specs.Prelude.{nat_le, sum_by}
use Rattle.std.proofs.lemmas.Bool.{leb-true}
use Rattle.std.proofs.lemmas.List.Sums.{sum_by-append, sum_by-cons}
use Rattle.view_page.specs.journals.Windows.{width}
use Rattle.view_page.specs.journals.declared.window.Window.{Window}
use Rattle.view_page.specs.journals.reading.Report.{InodeValue}
use Rattle.view_page.specs.journals.reading.words.declared.event.Event.{Event}
use Rattle.view_plan.specs.Sums.{sum_up_to}
use Rattle.view_plan.specs.Plan.{fitting, journal_at, most_places, places_from, places_of, planned, room_after, shown_from, shown_of, windows_of}
use Rattle.view_plan.specs.declared.plan.Shown.{Shown}

abbrev places : Shown → ℕ
places s = width s.window

-- a sum that stays small isn't cut
sum_fits : (n r : ℕ) (ws : List Window) → r < 18446744073709551615 → places_from n ws ≤ r
    → n + sum_by width ws ≤ r
sum_fits n r [] small fits = omega (arith, fits)
sum_fits n r (w ∷ ws) small fits =
    omega (
      arith,
      small,
      sum_fits (sum_up_to n (width w)) r ws small fits,
      sum_by-cons width w ws,
    )

shown_sum : (n : ℕ) (ws : List Window)
    → sum_by places (shown_of n ws) ≡ sum_by width ws
shown_sum n [] = refl
shown_sum n (w ∷ ws) =
    omega (
      arith,
      sum_by-cons places (record { inode = n; window = w }) (shown_of n ws),
      sum_by-cons width w ws,
      shown_sum n ws,
    )

fit_by : (b : Bool) (ws : List Window) (room : ℕ) → nat_le (places_of ws) room ≡ b
    → places_of (cond b ws []) ≤ room
fit_by true ws room h = leb-true (places_of ws) room h
fit_by false ws room h = omega arith

-- the windows that fit in the room need no more than it
fits : (room : ℕ) (journal : List Event) → places_of (fitting room journal) ≤ room
fits room journal =
    fit_by (nat_le (places_of (windows_of journal)) room) (windows_of journal) room refl

from_room : (room : ℕ) (inodes : List InodeValue) (ns : List ℕ) → room < 18446744073709551615
    → sum_by places (shown_from room inodes ns) ≤ room
from_room room inodes [] small = omega arith
from_room room inodes (n ∷ ns) small =
    let journal : List Event = journal_at inodes n in
    let ws : List Window = fitting room journal in
    let rest : List Shown = shown_from (room_after room journal) inodes ns in
    let most : places_of ws ≤ room = fits room journal in
    let from_none = sum_fits 0 (places_of ws) ws (omega (arith, most, small)) (omega arith) in
    let sum : sum_by width ws ≤ places_of ws = omega (arith, from_none) in
    let after : sum_by places rest ≤ room - places_of ws
    = from_room (room_after room journal) inodes ns (omega (arith, small)) in
    omega (arith, most, sum, after, shown_sum n ws, sum_by-append places (shown_of n ws) rest)

pub is_bounded : (inodes : List InodeValue) (order : List ℕ)
    → sum_by places (planned inodes order) ≤ most_places
is_bounded inodes order = from_room most_places inodes order (omega arith)
