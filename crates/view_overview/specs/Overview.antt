-- The overview of a long journal: its readers, its writers, its gravest notes, and which places are
-- drawn below. At most 900 pixels stand for all places.
use Rattle.std.specs.Prelude.{ℕ, ◌+◌, ◌-◌, ◌*◌, ◌/◌, ◌==◌, ◌<◌, ◌≤◌, min, max, List, [], ◌∷◌, ◌++◌, length, replicate, slice_get, slice_set, Option, Some, None, if◌then◌else◌}
use Rattle.std.specs.List.{flat_map}
use Rattle.view_page.specs.journals.Notes.{notes}
use Rattle.view_page.specs.journals.Walk.{states_of}
use Rattle.view_page.specs.journals.declared.kinds.Note.{Note}
use Rattle.view_page.specs.journals.declared.kinds.Note.TheVariants as note
use Rattle.view_page.specs.journals.declared.walk.State.{State}
use Rattle.view_page.specs.journals.declared.window.Window.{Window}
use Rattle.view_page.specs.journals.reading.words.declared.event.Event.{Event}
use Rattle.view_overview.specs.declared.buckets.Bucket.{Bucket}
use Rattle.view_overview.specs.declared.buckets.Scale.{Scale}
use Rattle.view_overview.specs.declared.overview.Count.{Count}
use Rattle.view_overview.specs.declared.overview.Count.TheVariants as count
use Rattle.view_page.specs.declared.part.Part.{Part}
use Rattle.view_page.specs.declared.part.Part.TheVariants as part
use Rattle.view_page.specs.declared.told.Overview.{Overview}
use Rattle.view_page.specs.declared.told.Overview.TheVariants as overview

-- ---- buckets

-- how grave a note is
abbrev pub rank_of : Note → ℕ
rank_of (note.ToMToU p) = 4
rank_of (note.OpenWriters p) = 4
rank_of note.Denied = 3
rank_of note.Labelled = 2
rank_of (note.Added p) = 1
rank_of _ = 0

abbrev pub highest_from : ℕ → List Note → ℕ
highest_from rank [] = rank
highest_from rank (n ∷ ns) = highest_from (max rank (rank_of n)) ns

-- the rank of the gravest note of an event
abbrev pub rank : Event → ℕ
rank e = highest_from 0 (notes e)

-- what the strips show, with a rank
abbrev pub bucket_with : ℕ → State → Bucket
bucket_with r s = record {
  readers = min s.readers 4294967295;
  writers = min s.writers 4294967295;
  rank = r;
}

-- what an event shows: the counts after it, and its rank
abbrev pub bucket_of : Event → State → Bucket
bucket_of e s = bucket_with (rank e) s

-- the highest of both
abbrev pub higher : Bucket → Bucket → Bucket
higher a b = record {
  readers = max a.readers b.readers;
  writers = max a.writers b.writers;
  rank = max a.rank b.rank;
}

abbrev pub raised_by : Option Bucket → List Bucket → ℕ → Bucket → List Bucket
raised_by None buckets k shown = buckets
raised_by (Some old) buckets k shown = slice_set buckets k (higher old shown)

-- the buckets after one of them was raised to what an event shows
abbrev pub raised : List Bucket → ℕ → Bucket → List Bucket
raised buckets k shown = raised_by (slice_get buckets k) buckets k shown

-- at most as many buckets
abbrev pub most_buckets : ℕ
most_buckets = 900

-- so many buckets, each so many pixels wide, of so many events
abbrev pub scale_of : ℕ → Scale
scale_of events = record {
  events = max events 1;
  buckets = min (max events 1) most_buckets;
  width = most_buckets / min (max events 1) most_buckets;
}

-- few buckets, which are narrow, of some events
pub record IsScale (scale : Scale) : Type 0 where
  pub events : 0 < scale.events
  pub buckets : scale.buckets ≤ 900
  pub width : scale.width ≤ 900

-- the bucket of a place
abbrev pub bucket_at : Scale → ℕ → ℕ
bucket_at scale place = place * scale.buckets / scale.events

abbrev pub filled : Scale → List Bucket → ℕ → List Event → List State → List Bucket
filled scale buckets place [] ss = buckets
filled scale buckets place (e ∷ es) [] = buckets
filled scale buckets place (e ∷ es) (s ∷ ss) =
    filled scale (raised buckets (bucket_at scale place) (bucket_of e s)) (place + 1) es ss

abbrev pub none : Bucket
none = record { readers = 0; writers = 0; rank = 0 }

-- the buckets of a journal: each has the highest counts and the gravest note of its places
abbrev pub buckets_of : Scale → List Event → List Bucket
buckets_of scale journal =
    filled scale (replicate scale.buckets none) 0 journal (states_of journal)

-- ---- the counts

abbrev pub value : Count → Bucket → ℕ
value count.Readers b = b.readers
value count.Writers b = b.writers

abbrev pub most_from : Count → ℕ → List Bucket → ℕ
most_from c most [] = most
most_from c most (b ∷ bs) = most_from c (max most (value c b)) bs

-- the height of a count, of which the highest has 12 pixels
abbrev pub height : ℕ → ℕ → ℕ
height most v = (12 * v + (most - 1)) / most

abbrev pub base : Count → ℕ
base count.Readers = 16
base count.Writers = 32

abbrev pub step : Count → ℕ → ℕ → Bucket → List Part
step c width most b =
    part.Overview overview.Up ∷ part.Number (base c - height most (value c b))
    ∷ part.Overview overview.Along ∷ part.Number width ∷ []

abbrev pub opens : Count → Overview
opens count.Readers = overview.Readers
opens count.Writers = overview.Writers

abbrev pub closes : Count → Overview
closes count.Readers = overview.ReadersEnd
closes count.Writers = overview.WritersEnd

abbrev pub counts : Count → ℕ → List Bucket → List Part
counts c width buckets =
    part.Overview (opens c) ∷ []
    ++ flat_map (step c width (most_from c 1 buckets)) buckets
    ++ part.Overview (closes c) ∷ []

-- ---- the marks

abbrev pub mark_of : ℕ → Overview
mark_of rank =
    if rank == 4 then overview.Violated
    else if rank == 3 then overview.Denied
    else if rank == 2 then overview.Labelled
    else overview.Added

abbrev pub colour_of : ℕ → Overview
colour_of rank =
    if rank == 4 then overview.Bad
    else if rank == 3 then overview.Bad
    else if rank == 2 then overview.Label
    else overview.Entry

-- the left edge of a bucket
abbrev pub left : ℕ → ℕ → ℕ
left width k = 96 + k * width

abbrev pub mark : ℕ → ℕ → ℕ → Bucket → List Part
mark r width k b =
    if b.rank == r
    then part.Overview overview.At ∷ part.Number (left width k) ∷ part.Overview (mark_of r) ∷ []
    else []

abbrev pub marks_from : ℕ → ℕ → ℕ → List Bucket → List Part
marks_from r width k [] = []
marks_from r width k (b ∷ bs) = mark r width k b ++ marks_from r width (k + 1) bs

-- the marks of one rank
abbrev pub marks : ℕ → ℕ → List Bucket → List Part
marks r width buckets =
    part.Overview (colour_of r) ∷ []
    ++ marks_from r width 0 buckets
    ++ part.Overview overview.PathEnd ∷ []

-- ---- the windows

abbrev pub length_of : Scale → Window → ℕ
length_of scale w =
    (bucket_at scale w.last * scale.width + scale.width)
    - bucket_at scale w.first * scale.width

abbrev pub window : Scale → Window → List Part
window scale w =
    part.Overview overview.At
    ∷ part.Number (96 + bucket_at scale w.first * scale.width) ∷ part.Overview overview.Window
    ∷ part.Number (max (length_of scale w) 2) ∷ part.Overview overview.Back
    ∷ part.Number (max (length_of scale w) 2) ∷ part.Overview overview.Close ∷ []

abbrev pub drawn : Scale → List Window → List Part
drawn scale ws =
    part.Overview overview.Windows ∷ []
    ++ flat_map (window scale) ws
    ++ part.Overview overview.PathEnd ∷ []

-- ---- the overview

abbrev pub strips : ℕ → List Bucket → List Part
strips width buckets =
    counts count.Readers width buckets
    ++ counts count.Writers width buckets
    ++ marks 4 width buckets
    ++ marks 3 width buckets
    ++ marks 2 width buckets
    ++ marks 1 width buckets

abbrev pub overview_by : Scale → List Bucket → List Window → List Part
overview_by scale buckets ws =
    part.Overview overview.Begin ∷ part.Overview overview.Names
    ∷ part.Overview overview.MoreNames ∷ part.Overview overview.NamesEnd ∷ []
    ++ strips scale.width buckets
    ++ drawn scale ws
    ++ part.Overview overview.End ∷ []

-- the overview of a journal, of which these windows are drawn
abbrev pub overview_of : List Event → List Window → List Part
overview_of journal ws =
    overview_by (scale_of (length journal)) (buckets_of (scale_of (length journal)) journal) ws
