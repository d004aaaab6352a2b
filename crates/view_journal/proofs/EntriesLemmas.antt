-- Each entry but the first was added by exactly one event.
use Rattle.std.proofs.Common.{◌≡◌, ℕ, suc, ◌+◌, ◌==◌, Bool, true, false, ◌||◌, not, ◌&&◌, cond, List, [], ◌∷◌, ◌++◌, map, Option, Some, None, Result, Ok, Err, refl, sym, ◌∙◌, ap, arith}
use Rattle.std.specs.Prelude.{All, count_by, option_map, sum_by}
use Rattle.std.specs.List.{list_any}
use Rattle.std.proofs.lemmas.Bool.{ne_eqb}
use Rattle.std.proofs.lemmas.List.Sums.{sum_by-cons}
use Rattle.report_read.specs.Short.{short, short_deed, short_entry, short_placed, short_told}
use Rattle.report_read.specs.words.declared.event.Deed.{Deed as ReadDeed}
use Rattle.report_read.specs.words.declared.event.Deed.TheVariants as read_deed
use Rattle.report_read.specs.words.declared.event.Event.{Event as ReadEvent}
use Rattle.report_read.specs.words.declared.event.Outcome.{Outcome}
use Rattle.report_read.specs.words.declared.event.Outcome.TheVariants as outcome
use Rattle.report_read.specs.words.declared.event.Placed.{Placed as ReadPlaced}
use Rattle.report_read.specs.words.declared.event.Placed.TheVariants as read_placed
use Rattle.report_read.specs.words.declared.event.Verdict.{Verdict as ReadVerdict}
use Rattle.report_read.specs.words.declared.event.Verdict.TheVariants as read_verdict
use Rattle.report_read.specs.reports.model.events.Grants.{grant_of}
use Rattle.report_read.specs.reports.model.events.Inode.{Inode}
use Rattle.report_read.specs.reports.model.events.Integrity.{Collection, Digests, collecting, digest_from, digests_of, in_force}
use Rattle.report_read.specs.reports.model.events.Legal.{EachFollows, Follows, Legal}
use Rattle.report_read.specs.reports.model.events.Listing as listing
use Rattle.report_read.specs.reports.model.events.Listing.{Listed, added_at}
use Rattle.report_read.specs.reports.model.events.Merged.{Journal, Named, named, places_added, times_added}
use Rattle.report_read.specs.reports.model.events.Says.{chunk_told, finish_told, status_told, take_told, unless_collecting}
use Rattle.report_read.specs.reports.model.events.State.{content}
use Rattle.report_read.specs.reports.model.events.declared.deed.Deed.{Deed}
use Rattle.report_read.specs.reports.model.events.declared.deed.Deed.TheVariants as deed
use Rattle.report_read.specs.reports.model.events.declared.told.Event.{Event}
use Rattle.report_read.specs.reports.model.events.declared.told.Grant.{Grant}
use Rattle.report_read.specs.reports.model.events.declared.told.Told.{Told}
use Rattle.report_read.specs.reports.model.events.declared.told.Told.TheVariants as told
use Rattle.report_read.specs.reports.model.events.meta.declared.appraisal.EvmStatus.{EvmStatus}
use Rattle.report_read.specs.reports.model.events.meta.declared.step.Who.{Who}
use Rattle.report_read.specs.reports.model.events.templates.declared.entry.Placed.{Placed}
use Rattle.report_read.specs.reports.model.events.templates.declared.entry.Placed.TheVariants as placed
use Rattle.view_journal.specs.declared.kinds.Note.TheVariants as note
use Rattle.view_journal.specs.Notes.{flag_notes, notes_by, placed_notes, verdict_notes}
use Rattle.view_journal.specs.Promises.{EntriesAreAddedOnce}
use Rattle.view_journal.specs.Sentences.{adds, adds_by}

-- ---- the entry that an outcome says was added

-- the list's reply says that the entry was added here
abbrev placed_at : ℕ → ReadPlaced → ℕ → Bool
placed_at p read_placed.Added q = q == p
placed_at p _ q = false

-- the outcome says that the entry was added here
abbrev entry_at : ℕ → Outcome → Bool
entry_at p (outcome.ToMToU q) = q == p
entry_at p (outcome.OpenWriters q) = q == p
entry_at p (outcome.Granted g) = placed_at p g.placed g.entry
entry_at p _ = false

-- a test or none
or_false : (b : Bool) → (b || false) ≡ b
or_false true = refl
or_false false = refl

-- of a grant's marks only that of the list's reply names an added entry
grant_adds : (p : ℕ) (a : ReadPlaced) (q : ℕ) (v : ReadVerdict) (l : Bool)
    → list_any (adds_by p) (placed_notes a q ++ verdict_notes v ++ flag_notes note.Labelled l)
    ≡ placed_at p a q
grant_adds p read_placed.NotMeasured q read_verdict.NotAppraised true = refl
grant_adds p read_placed.NotMeasured q read_verdict.NotAppraised false = refl
grant_adds p read_placed.NotMeasured q read_verdict.Pass true = refl
grant_adds p read_placed.NotMeasured q read_verdict.Pass false = refl
grant_adds p read_placed.NotMeasured q read_verdict.Deny true = refl
grant_adds p read_placed.NotMeasured q read_verdict.Deny false = refl
grant_adds p read_placed.Added q read_verdict.NotAppraised true = or_false (q == p)
grant_adds p read_placed.Added q read_verdict.NotAppraised false = or_false (q == p)
grant_adds p read_placed.Added q read_verdict.Pass true = or_false (q == p)
grant_adds p read_placed.Added q read_verdict.Pass false = or_false (q == p)
grant_adds p read_placed.Added q read_verdict.Deny true = or_false (q == p)
grant_adds p read_placed.Added q read_verdict.Deny false = or_false (q == p)
grant_adds p read_placed.Already q read_verdict.NotAppraised true = refl
grant_adds p read_placed.Already q read_verdict.NotAppraised false = refl
grant_adds p read_placed.Already q read_verdict.Pass true = refl
grant_adds p read_placed.Already q read_verdict.Pass false = refl
grant_adds p read_placed.Already q read_verdict.Deny true = refl
grant_adds p read_placed.Already q read_verdict.Deny false = refl

-- an event is marked with the entry that its outcome says was added
note_adds : (p : ℕ) (d : ReadDeed) (o : Outcome)
    → list_any (adds_by p) (notes_by d o) ≡ entry_at p o
note_adds p d (outcome.ToMToU q) = or_false (q == p)
note_adds p d (outcome.OpenWriters q) = or_false (q == p)
note_adds p d (outcome.Granted g) = grant_adds p g.placed g.entry g.verdict g.labelled
note_adds p read_deed.Birth o = refl
note_adds p (read_deed.Count k create) o = refl
note_adds p (read_deed.Check f) o = refl
note_adds p (read_deed.Take f) o = refl
note_adds p (read_deed.Chunk f) o = refl
note_adds p (read_deed.Finish f) o = refl
note_adds p (read_deed.Read f from len) o = refl
note_adds p (read_deed.Write f from len) o = refl
note_adds p (read_deed.Trunc f len) o = refl
note_adds p read_deed.SetAttr o = refl
note_adds p read_deed.RemoveAttr o = refl
note_adds p read_deed.SetMeta o = refl
note_adds p (read_deed.Close f) o = refl
note_adds p (read_deed.CloseTake f) o = refl
note_adds p (read_deed.CloseChunk f) o = refl
note_adds p (read_deed.CloseFinish f) o = refl

-- ---- which outcomes name an entry

abbrev is_violation : Told → Bool
is_violation (told.OpenWriters p) = true
is_violation (told.ToMToU p) = true
is_violation _ = false

abbrev is_grant : Told → Bool
is_grant (told.Grant grant) = true
is_grant _ = false

-- the outcome is neither a violation nor a grant
abbrev is_plain : Told → Bool
is_plain t = not (is_violation t) && not (is_grant t)

-- the outcome that the journal determines is plain
same_plain : (x t : Told) → Some x ≡ Some t → is_plain x ≡ true → is_plain t ≡ true
same_plain x t e h = let is : x ≡ t = cc e in sym (ap is_plain is) ∙ h

-- or doesn't pass another test
same_test : (test : Told → Bool) (x t : Told) → Some x ≡ Some t → test x ≡ false → test t ≡ false
same_test test x t e h = let is : x ≡ t = cc e in sym (ap test is) ∙ h

-- with no collection open, the step isn't blocked
alone : (o : Option Collection) (x t : Told) → unless_collecting o x ≡ Some t → Some x ≡ Some t
alone None x t e = e
alone (Some c) x t e = cc

-- one of two plain outcomes
two_plain : (b : Bool) (x y : Told) → is_plain x ≡ true → is_plain y ≡ true
    → is_plain (cond b x y) ≡ true
two_plain true x y h k = h
two_plain false x y h k = k

-- the outcome of a chunk
chunk_plain : (bytes : List ℕ) (o : Option Collection) (t : Told) → chunk_told bytes o ≡ Some t
    → is_plain t ≡ true
chunk_plain bytes None t e = cc
chunk_plain bytes (Some c) t e =
    same_plain _ t e (two_plain _ told.Last told.More refl refl)

-- the outcome of a change that EVM may refuse
status_plain : (r : Result (Unit {0}) EvmStatus) → is_plain (status_told r) ≡ true
status_plain (Ok x) = refl
status_plain (Err status) = refl

-- the outcome of a change of an attribute
set_plain : (a b c d e f : Bool) (r : Result (Unit {0}) EvmStatus)
    → is_plain (cond a told.NotFound (cond b told.EvmName (cond c told.NotAdmin (cond d told.TooLong
    (cond e told.Invalid (cond f told.NoData (status_told r))))))) ≡ true
set_plain true b c d e f r = refl
set_plain false true c d e f r = refl
set_plain false false true d e f r = refl
set_plain false false false true e f r = refl
set_plain false false false false true f r = refl
set_plain false false false false false true r = refl
set_plain false false false false false false r = status_plain r

-- the outcome of a change of metadata
meta_plain : (a : Bool) (r : Result (Unit {0}) EvmStatus)
    → is_plain (cond a told.NotFound (status_told r)) ≡ true
meta_plain true r = refl
meta_plain false r = status_plain r

-- the outcome of a count
count_plain : (a b : Bool)
    → is_plain (cond a told.NotFound (cond b told.TextBusy told.Held)) ≡ true
count_plain true b = refl
count_plain false true = refl
count_plain false false = refl

-- a check grants nothing
check_ungranted : (a b c : Bool) (place : ℕ)
    → is_grant (cond a (cond b (told.ToMToU place) told.Quiet)
    (cond c (told.OpenWriters place) told.Quiet)) ≡ false
check_ungranted true true c place = refl
check_ungranted true false c place = refl
check_ungranted false b true place = refl
check_ungranted false b false place = refl

-- ---- the entry that an event adds

-- the event adds the entry here
abbrev is_at : ℕ → Option Listed → Bool
is_at p None = false
is_at p (Some listed) = listed.0 == p

-- a plain outcome names no entry
plain_entry : (p : ℕ) (t : Told) → is_plain t ≡ true → entry_at p (short_told t) ≡ false
plain_entry p (told.OpenWriters q) h = cc
plain_entry p (told.ToMToU q) h = cc
plain_entry p (told.Grant grant) h = cc
plain_entry p t h = refl

-- with digests, the reply that an entry was added adds it
added_same : (p : ℕ) (a : Option Placed) (f : Digests) (inode : Inode) (file : ℕ)
    (before : List Event)
    → placed_at p (short_placed a) (short_entry a)
    ≡ is_at p (added_at a (Some f) inode file before)
added_same p None f inode file before = refl
added_same p (Some (placed.Added q)) f inode file before = refl
added_same p (Some (placed.Already q)) f inode file before = refl

-- a take grants only while a digest is in force
take_adds : (p : ℕ) (inode : Inode) (file : ℕ) (before : List Event) (grant : Grant)
    (list : Placed) (o : Option Collection) (f : Option Digests)
    → unless_collecting o (take_told inode file list f before) ≡ Some (told.Grant grant)
    → placed_at p (short_placed grant.placed) (short_entry grant.placed)
    ≡ is_at p (added_at grant.placed f inode file before)
take_adds p inode file before grant list None None e = cc
take_adds p inode file before grant list None (Some f) e =
    added_same p grant.placed f inode file before
take_adds p inode file before grant list (Some c) f e = cc

-- a finish grants only if a collection is open
finish_adds : (p : ℕ) (inode : Inode) (file : ℕ) (before : List Event) (grant : Grant)
    (list : Placed) (o : Option Collection)
    → finish_told inode file list o before ≡ Some (told.Grant grant)
    → placed_at p (short_placed grant.placed) (short_entry grant.placed)
    ≡ is_at p (added_at grant.placed (option_map digests_of o) inode file before)
finish_adds p inode file before grant list None e = cc
finish_adds p inode file before grant list (Some c) e =
    added_same p grant.placed (digests_of c) inode file before

-- takes and finishes find no violation
take_quiet : (inode : Inode) (file : ℕ) (before : List Event) (list : Placed) (t : Told)
    (o : Option Collection) (f : Option Digests)
    → unless_collecting o (take_told inode file list f before) ≡ Some t → is_violation t ≡ false
take_quiet inode file before list t None None e = same_test is_violation told.Begun t e refl
take_quiet inode file before list t None (Some f) e =
    same_test is_violation (take_told inode file list (Some f) before) t e refl
take_quiet inode file before list t (Some c) f e = cc

-- a finish finds no violation
finish_quiet : (inode : Inode) (file : ℕ) (before : List Event) (list : Placed) (t : Told)
    (o : Option Collection) → finish_told inode file list o before ≡ Some t
    → is_violation t ≡ false
finish_quiet inode file before list t None e = cc
finish_quiet inode file before list t (Some c) e =
    same_test is_violation (told.Grant (grant_of inode file list (digest_from c) before)) t e refl

-- an event's outcome says that an entry was added just when the event adds it
told_adds : (p : ℕ) (inode : Inode) (before : List Event) (who : Who) (d : Deed) (t : Told)
    → Follows inode before who d t
    → entry_at p (short_told t) ≡ is_at p (listing.adds inode d t before)
told_adds p inode before who deed.Birth t h = plain_entry p t (ap is_plain h.2)
told_adds p inode before who (deed.Count how) t h =
    plain_entry p t (same_plain _ t h.2 (count_plain _ _))
told_adds p inode before who (deed.Check file func action rules) (told.OpenWriters q) h = refl
told_adds p inode before who (deed.Check file func action rules) (told.ToMToU q) h = refl
told_adds p inode before who (deed.Check file func action rules) (told.Grant grant) h =
    let no : is_grant (told.Grant grant) ≡ false
    = same_test is_grant _ (told.Grant grant) h.2 (check_ungranted _ _ _ _) in cc
told_adds p inode before who (deed.Check file func action rules) t h = refl
told_adds p inode before who (deed.Take file) (told.Grant grant) h =
    take_adds p inode file before grant _ (collecting inode before) (in_force inode before) h.2
told_adds p inode before who (deed.Take file) (told.OpenWriters q) h =
    let no : is_violation (told.OpenWriters q) ≡ false = take_quiet inode file before _
    (told.OpenWriters q) (collecting inode before) (in_force inode before) h.2 in cc
told_adds p inode before who (deed.Take file) (told.ToMToU q) h =
    let no : is_violation (told.ToMToU q) ≡ false = take_quiet inode file before _
    (told.ToMToU q) (collecting inode before) (in_force inode before) h.2 in cc
told_adds p inode before who (deed.Take file) t h = refl
told_adds p inode before who (deed.Finish file) (told.Grant grant) h =
    finish_adds p inode file before grant _ (collecting inode before) h.2
told_adds p inode before who (deed.Finish file) (told.OpenWriters q) h =
    let no : is_violation (told.OpenWriters q) ≡ false = finish_quiet inode file before _
    (told.OpenWriters q) (collecting inode before) h.2 in cc
told_adds p inode before who (deed.Finish file) (told.ToMToU q) h =
    let no : is_violation (told.ToMToU q) ≡ false = finish_quiet inode file before _
    (told.ToMToU q) (collecting inode before) h.2 in cc
told_adds p inode before who (deed.Finish file) t h = refl
told_adds p inode before who (deed.Chunk file) t h =
    plain_entry p t (chunk_plain (content before) (collecting inode before) t h.2)
told_adds p inode before who (deed.CloseChunk file) t h =
    plain_entry p t (chunk_plain (content before) (collecting inode before) t h.2)
told_adds p inode before who (deed.Read file from len) t h =
    plain_entry p t (same_plain _ t h.2 refl)
told_adds p inode before who (deed.Write file from bytes) t h =
    plain_entry p t (same_plain _ t h.2 (two_plain _ told.Done told.TooBig refl refl))
told_adds p inode before who (deed.Trunc file len) t h =
    plain_entry p t (same_plain _ t h.2 (two_plain _ told.Done told.TooBig refl refl))
told_adds p inode before who (deed.SetAttr name bytes admin) t h =
    plain_entry p t (same_plain _ t (alone (collecting inode before) _ t h.2)
    (set_plain _ _ _ _ _ _ _))
told_adds p inode before who (deed.SetMeta change) t h =
    plain_entry p t (same_plain _ t (alone (collecting inode before) _ t h.2) (meta_plain _ _))
told_adds p inode before who (deed.Close file) t h = plain_entry p t (same_plain _ t h.2 refl)
told_adds p inode before who (deed.CloseTake file) t h =
    plain_entry p t (same_plain _ t (alone (collecting inode before) _ t h.2)
    (two_plain _ told.Begun told.Dropped refl refl))
told_adds p inode before who (deed.CloseFinish file) t h =
    plain_entry p t (same_plain _ t h.2
    (two_plain _ told.LabelledDropped told.Dropped refl refl))
told_adds p inode before who (deed.Post sem) t h = cc h.2
told_adds p inode before who (deed.Wait sem) t h = cc h.2

-- the event is marked with the entry that it adds
adds_short : (p : ℕ) (inode : Inode) (before : List Event) (e : Event)
    → Follows inode before e.who e.deed e.told
    → adds p (short e) ≡ is_at p (listing.adds inode e.deed e.told before)
adds_short p inode before e h =
    note_adds p (short_deed e.deed) (short_told e.told)
    ∙ told_adds p inode before e.who e.deed e.told h

-- ---- along a journal, and over all journals

-- how often an entry is added, by one event and by the others
times_named : (p : ℕ) (who : Who) (l : Option Listed) (rest : List Named)
    → times_added p (named who l ++ rest) ≡ cond (is_at p l) 1 0 + times_added p rest
times_named p who None rest = omega arith
times_named p who (Some l) rest = at (l.0 == p) where
  at : (b : Bool) → cond b (1 + times_added p rest) (times_added p rest)
      ≡ cond b 1 0 + times_added p rest
  at true = refl
  at false = omega arith

-- whether an event is marked with the entry, as a number
abbrev counted : ℕ → ReadEvent → ℕ
counted p e = cond (adds p e) 1 0

-- a journal adds the entry as often as its events are marked with it
times_short : (p : ℕ) (inode : Inode) (events : List Event) → EachFollows inode events
    → count_by (adds p) (map short events) ≡ times_added p (places_added inode events)
times_short p inode [] h = refl
times_short p inode (x ∷ before) h =
    sum_by-cons (counted p) (short x) (map short before)
    ∙ (ap (λ (b : Bool). cond b 1 0 + sum_by (counted p) (map short before))
    (adds_short p inode before x h.0)
    ∙ (ap (λ (n : ℕ). cond (is_at p (listing.adds inode x.deed x.told before)) 1 0 + n)
    (times_short p inode before h.1)
    ∙ sym (times_named p x.who (listing.adds inode x.deed x.told before)
    (places_added inode before))))

-- how many events of a journal are marked with the entry
abbrev marked : ℕ → Journal → ℕ
marked p j = count_by (adds p) (map short j.events)

-- how often a journal adds the entry
abbrev added : ℕ → Journal → ℕ
added p j = times_added p (places_added j.inode j.events)

-- over all journals
sums_same : (p : ℕ) (js : List Journal) → All (λ (j : Journal). Legal j.inode j.events) js
    → sum_by (marked p) js ≡ sum_by (added p) js
sums_same p [] h = refl
sums_same p (j ∷ js) h =
    let first : Legal j.inode j.events = h 0 j (omega arith) in
    sum_by-cons (marked p) j js
    ∙ (ap (λ (n : ℕ). n + sum_by (marked p) js) (times_short p j.inode j.events first.1)
    ∙ (ap (λ (n : ℕ). added p j + n) (sums_same p js (λ k d lt. h (suc k) d (omega (arith, lt))))
    ∙ sym (sum_by-cons (added p) j js)))

pub entries_are_added_once : EntriesAreAddedOnce
entries_are_added_once boot list journals legal merged p some lt =
    sums_same p journals legal
    ∙ (merged.once p lt
    ∙ ap (λ (b : Bool). cond b 0 1) (ne_eqb p 0 (λ (e : p ≡ 0). omega (arith, some, e))))
