-- Each event that is drawn has one mark.
use Rattle.std.proofs.Common.{◌≡◌, ℕ, ◌+◌, ◌==◌, ◌&&◌, List, [], ◌∷◌, ◌++◌, map, append_assoc, Option, Some, None, refl, ap, ◌∙◌, inl, inr}
use Rattle.std.specs.Prelude.{nat_le, nat_lt}
use Rattle.std.specs.List.{flat_map, list_any}
use Rattle.std.proofs.lemmas.Bool.{cases_Bool}
use Rattle.std.proofs.lemmas.Grind.{flat_map-append}
use Rattle.std.proofs.lemmas.List.{append-nil}
use Rattle.view_page.specs.journals.declared.column.Column.{Column}
use Rattle.view_layout.specs.declared.flags.Flag.{Flag}
use Rattle.view_page.specs.journals.declared.items.Guide.{Guide}
use Rattle.view_page.specs.journals.declared.items.Guide.TheVariants as guide
use Rattle.view_page.specs.journals.declared.items.Item.{Item}
use Rattle.view_page.specs.journals.declared.items.Item.TheVariants as item
use Rattle.view_page.specs.journals.declared.items.Strip.{Strip}
use Rattle.view_page.specs.journals.declared.items.Strip.TheVariants as strip
use Rattle.view_page.specs.journals.declared.kinds.Mark.{Mark}
use Rattle.view_page.specs.journals.declared.kinds.Mark.TheVariants as mark
use Rattle.view_page.specs.journals.declared.kinds.Note.{Note}
use Rattle.view_page.specs.journals.declared.kinds.Note.TheVariants as note
use Rattle.view_layout.specs.lanes.declared.lanes.Lane.{Lane}
use Rattle.view_layout.specs.lanes.declared.lanes.Seat.{Seat}
use Rattle.view_page.specs.journals.reading.words.declared.event.Deed.{Deed}
use Rattle.view_page.specs.journals.reading.words.declared.event.Deed.TheVariants as deed
use Rattle.view_page.specs.journals.reading.words.declared.event.Event.{Event}
use Rattle.view_page.specs.journals.reading.words.declared.event.Outcome.{Outcome}
use Rattle.view_page.specs.journals.reading.words.declared.event.Span.{Span}
use Rattle.view_layout.specs.Drawing.{Sketch, axis_items, back_items, bar_items, differing_items, end_of, execs_items, flag_items, front_items, gap_between, gaps_from, gaps_items, guide_by, guide_items, hashing_at, hashing_items, is_executed, is_place, items_of, lane_items, mark_items, middle_end, middle_items, parting_items, segments_from, shown_in, sketch_of, strip_items, strips_items, write_items}
use Rattle.view_layout.specs.Flags.{guide_of}
use Rattle.view_page.specs.journals.Frame.{column, margin, middle}
use Rattle.view_layout.specs.lanes.Lanes.{seat_of}
use Rattle.view_page.specs.journals.Notes.{mark_of}
use Rattle.view_drawing.specs.Drawing.{EachEventHasOneMark, detail_pieces, flag_pieces, fresh_of, item_pieces, items_pieces, room_for, segment_pieces, slant_pieces, words_pieces}
use Rattle.view_page.specs.journals.State.{is_write}
use Rattle.view_page.specs.Pieces.{marks_in}
use Rattle.view_page.specs.declared.view.View.{View}
use Rattle.view_page.specs.declared.own.Own.TheVariants as own
use Rattle.view_page.specs.declared.pieces.Piece.{Piece}
use Rattle.view_page.specs.declared.pieces.Piece.TheVariants as piece

-- the mark of an item
abbrev item_marks : Item → List Mark
item_marks (item.Mark place x y line m) = m ∷ []
item_marks _ = []

-- ---- the pieces of items

segment_quiet : (s : Strip) (x width n : ℕ) (rest : List Piece)
    → marks_in (segment_pieces s x width n ++ rest) ≡ marks_in rest
segment_quiet strip.Content x width n rest =
    elim (cases_Bool (nat_le (room_for (fresh_of n)) width)) [
      | inl t ↦ rw t refl
      | inr f ↦ rw f refl
    ]
segment_quiet strip.Readers x width n rest =
    elim (cases_Bool (n == 0)) [ inl t ↦ rw t refl | inr f ↦ rw f refl ]
segment_quiet strip.Writers x width n rest =
    elim (cases_Bool (n == 0)) [ inl t ↦ rw t refl | inr f ↦ rw f refl ]
segment_quiet strip.Execs x width n rest =
    elim (cases_Bool (n == 0)) [ inl t ↦ rw t refl | inr f ↦ rw f refl ]

words_quiet : (g : Guide) (x down : ℕ) (rest : List Piece)
    → marks_in (words_pieces g x down ++ rest) ≡ marks_in rest
words_quiet guide.Parting x down rest = refl
words_quiet _ x down rest = refl

slant_quiet : (x y : ℕ) (d : Deed) (m : Mark) (rest : List Piece)
    → marks_in (slant_pieces x y d m ++ rest) ≡ marks_in rest
slant_quiet x y d mark.Violated rest = refl
slant_quiet x y d _ rest = refl

detail_quiet : (line : Span) (d : Deed) (o : Outcome) (rest : List Piece)
    → marks_in ((detail_pieces line d o ++ piece.Own own.TextEnd ∷ []) ++ rest) ≡ marks_in rest
detail_quiet line (deed.Count k create) o rest = refl
detail_quiet line _ o rest = refl

flag_quiet : (x up width : ℕ) (e : Event) (n : Note) (rest : List Piece)
    → marks_in (flag_pieces x up width e n ++ rest) ≡ marks_in rest
flag_quiet x up width e (note.ToMToU p) rest = refl
flag_quiet x up width e _ rest = refl

of_item : (view : View) (i : Item) (rest : List Piece)
    → marks_in (item_pieces view i ++ rest) ≡ item_marks i ++ marks_in rest
of_item view (item.Block l a) rest = refl
of_item view (item.Guide g x up down) rest = words_quiet g x down rest
of_item view (item.StripName s) rest = refl
of_item view (item.Segment s x width n) rest = segment_quiet s x width n rest
of_item view (item.LaneName y task) rest = refl
of_item view (item.Mark place x y line m) rest = refl
of_item view (item.Axis x y place e m) rest =
    slant_quiet x y e.deed m
    ((detail_pieces e.line e.deed e.outcome ++ piece.Own own.TextEnd ∷ []) ++ rest)
    ∙ detail_quiet e.line e.deed e.outcome rest
of_item view (item.Flag x up width e n) rest = flag_quiet x up width e n rest
of_item view (item.Gap x height events) rest = refl

of_items : (view : View) (items : List Item)
    → marks_in (items_pieces view items ++ piece.Own own.SvgEnd ∷ []) ≡ flat_map item_marks items
of_items view [] = refl
of_items view (i ∷ items) =
    ap marks_in (append_assoc (item_pieces view i) (items_pieces view items)
    (piece.Own own.SvgEnd ∷ []))
    ∙ (of_item view i (items_pieces view items ++ piece.Own own.SvgEnd ∷ [])
    ∙ ap (λ (ms : List Mark). item_marks i ++ ms) (of_items view items))

-- ---- the items of a drawing

abbrev Quiet : List Item → Type 0
Quiet items = flat_map item_marks items ≡ []

both_quiet : (xs ys : List Item) → Quiet xs → Quiet ys → Quiet (xs ++ ys)
both_quiet xs ys h k = rw (flat_map-append item_marks xs ys, h) k

first_quiet : (xs ys : List Item) → Quiet xs
    → flat_map item_marks (xs ++ ys) ≡ flat_map item_marks ys
first_quiet xs ys h = rw (flat_map-append item_marks xs ys, h) refl

last_quiet : (xs ys : List Item) → Quiet ys
    → flat_map item_marks (xs ++ ys) ≡ flat_map item_marks xs
last_quiet xs ys h =
    rw (flat_map-append item_marks xs ys, h) (append-nil (flat_map item_marks xs))

each_quiet : {A : Type 0} → (f : A → List Item) → ((a : A) → Quiet (f a)) → (xs : List A)
    → Quiet (flat_map f xs)
each_quiet f h [] = refl
each_quiet f h (x ∷ xs) = both_quiet (f x) (flat_map f xs) (h x) (each_quiet f h xs)

differing_quiet : (differs : List ℕ) (bottom : ℕ) (c : Column)
    → Quiet (differing_items differs bottom c)
differing_quiet differs bottom c =
    elim (cases_Bool (list_any (λ (place : ℕ). place == c.place) differs)) [
      | inl t ↦ rw t refl
      | inr f ↦ rw f refl
    ]

parting_quiet : (parts : Option ℕ) (bottom : ℕ) (c : Column)
    → Quiet (parting_items parts bottom c)
parting_quiet parts bottom c =
    elim (cases_Bool (is_place parts c.place)) [ inl t ↦ rw t refl | inr f ↦ rw f refl ]

write_quiet : (bottom : ℕ) (c : Column) → Quiet (write_items bottom c)
write_quiet bottom c =
    elim (cases_Bool (is_write c.event.deed c.event.outcome)) [
      | inl t ↦ rw t refl
      | inr f ↦ rw f refl
    ]

guide_quiet : (o : Option Guide) (bottom : ℕ) (f : Flag) → Quiet (guide_by o bottom f)
guide_quiet None bottom f = refl
guide_quiet (Some g) bottom f = refl

hashing_quiet : (end : ℕ) (o : Option ℕ) (c : Column) → Quiet (hashing_at end o c)
hashing_quiet end None c = refl
hashing_quiet end (Some y) c = refl

segments_quiet : (s : Strip) (from to shown : ℕ) (cs : List Column)
    → Quiet (segments_from s from to shown cs)
segments_quiet s from to shown [] = refl
segments_quiet s from to shown (c ∷ cs) =
    elim (cases_Bool (shown_in s c.state == shown && middle c.x == to)) [
      | inl t ↦ rw t (segments_quiet s from (middle_end c.x) shown cs)
      | inr f ↦ rw f
          (segments_quiet s (middle c.x) (middle_end c.x) (shown_in s c.state) cs)
    ]

strip_quiet : (s : Strip) (cs : List Column) → Quiet (strip_items s cs)
strip_quiet s [] = refl
strip_quiet s (c ∷ cs) =
    segments_quiet s (middle c.x) (middle_end c.x) (shown_in s c.state) cs

execs_quiet : (cs : List Column) → Quiet (execs_items cs)
execs_quiet cs =
    elim (cases_Bool (list_any is_executed cs)) [
      | inl t ↦ rw t (strip_quiet strip.Execs cs)
      | inr f ↦ rw f refl
    ]

strips_quiet : (cs : List Column) → Quiet (strips_items cs)
strips_quiet cs =
    both_quiet (strip_items strip.Readers cs) (strip_items strip.Writers cs
    ++ (execs_items cs ++ strip_items strip.Content cs))
    (strip_quiet strip.Readers cs)
    (both_quiet (strip_items strip.Writers cs) (execs_items cs ++ strip_items strip.Content cs)
    (strip_quiet strip.Writers cs)
    (both_quiet (execs_items cs) (strip_items strip.Content cs) (execs_quiet cs)
    (strip_quiet strip.Content cs)))

between_quiet : (bottom next x place : ℕ) → Quiet (gap_between bottom next x place)
between_quiet bottom next x place =
    elim (cases_Bool (nat_lt next place)) [ inl t ↦ rw t refl | inr f ↦ rw f refl ]

gaps_quiet : (bottom events next x : ℕ) (cs : List Column)
    → Quiet (gaps_from bottom events next x cs)
gaps_quiet bottom events next x [] = between_quiet bottom next x events
gaps_quiet bottom events next x (c ∷ cs) =
    both_quiet (gap_between bottom next x c.place)
    (gaps_from bottom events (c.place + 1) (c.x + column) cs)
    (between_quiet bottom next x c.place)
    (gaps_quiet bottom events (c.place + 1) (c.x + column) cs)

back_quiet : (s : Sketch) (differs : List ℕ) (parts : Option ℕ)
    → Quiet (back_items s differs parts)
back_quiet s differs parts =
    both_quiet (flat_map (lane_items (end_of s.columns)) s.lanes)
    (flat_map (differing_items differs s.bottom) s.columns
    ++ flat_map (parting_items parts s.bottom) s.columns)
    (each_quiet (lane_items (end_of s.columns)) (λ (l : Lane). refl) s.lanes)
    (both_quiet (flat_map (differing_items differs s.bottom) s.columns)
    (flat_map (parting_items parts s.bottom) s.columns)
    (each_quiet (differing_items differs s.bottom) (differing_quiet differs s.bottom) s.columns)
    (each_quiet (parting_items parts s.bottom) (parting_quiet parts s.bottom) s.columns))

middle_quiet : (s : Sketch) → Quiet (middle_items s)
middle_quiet s =
    both_quiet (strips_items s.columns)
    (flat_map (write_items s.bottom) s.columns
    ++ (flat_map (guide_items s.bottom) s.flags
    ++ (flat_map (bar_items s.columns) s.seats ++ flat_map (hashing_items (end_of s.columns) s.seats) s.columns)))
    (strips_quiet s.columns)
    (both_quiet (flat_map (write_items s.bottom) s.columns)
    (flat_map (guide_items s.bottom) s.flags
    ++ (flat_map (bar_items s.columns) s.seats ++ flat_map (hashing_items (end_of s.columns) s.seats) s.columns))
    (each_quiet (write_items s.bottom) (write_quiet s.bottom) s.columns)
    (both_quiet (flat_map (guide_items s.bottom) s.flags)
    (flat_map (bar_items s.columns) s.seats ++ flat_map (hashing_items (end_of s.columns) s.seats) s.columns)
    (each_quiet (guide_items s.bottom)
    (λ (f : Flag). guide_quiet (guide_of f.note) s.bottom f) s.flags)
    (both_quiet (flat_map (bar_items s.columns) s.seats)
    (flat_map (hashing_items (end_of s.columns) s.seats) s.columns)
    (each_quiet (bar_items s.columns) (λ (x : Seat). refl) s.seats)
    (each_quiet (hashing_items (end_of s.columns) s.seats)
    (λ (c : Column). hashing_quiet (end_of s.columns) (seat_of c.hashing s.seats) c) s.columns))))

marks_of : (lanes : List Lane) (seats : List Seat) (cs : List Column)
    → flat_map item_marks (flat_map (mark_items lanes seats) cs)
    ≡ map (λ (c : Column). mark_of c.event) cs
marks_of lanes seats [] = refl
marks_of lanes seats (c ∷ cs) =
    ap (λ (ms : List Mark). mark_of c.event ∷ ms) (marks_of lanes seats cs)

front_marks : (s : Sketch)
    → flat_map item_marks (front_items s) ≡ map (λ (c : Column). mark_of c.event) s.columns
front_marks s =
    last_quiet (flat_map (mark_items s.lanes s.seats) s.columns)
    (flat_map (axis_items s.bottom) s.columns
    ++ (flat_map flag_items s.flags ++ gaps_items s.bottom s.events s.columns))
    (both_quiet (flat_map (axis_items s.bottom) s.columns)
    (flat_map flag_items s.flags ++ gaps_items s.bottom s.events s.columns)
    (each_quiet (axis_items s.bottom) (λ (c : Column). refl) s.columns)
    (both_quiet (flat_map flag_items s.flags) (gaps_items s.bottom s.events s.columns)
    (each_quiet flag_items (λ (f : Flag). refl) s.flags)
    (gaps_quiet s.bottom s.events 0 margin s.columns)))
    ∙ marks_of s.lanes s.seats s.columns

of_sketch : (s : Sketch) (differs : List ℕ) (parts : Option ℕ)
    → flat_map item_marks (items_of s differs parts)
    ≡ map (λ (c : Column). mark_of c.event) s.columns
of_sketch s differs parts =
    first_quiet (back_items s differs parts) (middle_items s ++ front_items s)
    (back_quiet s differs parts)
    ∙ (first_quiet (middle_items s) (front_items s) (middle_quiet s) ∙ front_marks s)

pub each_event_has_one_mark : EachEventHasOneMark
each_event_has_one_mark view journal ws differs =
    of_items view (items_of (sketch_of ws journal) differs view.parts)
    ∙ of_sketch (sketch_of ws journal) differs view.parts
