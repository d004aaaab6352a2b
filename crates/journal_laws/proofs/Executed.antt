-- A file that is held as an execution is undisturbed, from its count to its close: its count is
-- refused if there is a writer, and while it is held every open for writing is refused.
use Rattle.std.proofs.Common.{◌≡◌, ℕ, ◌<◌, ◌≤◌, Bool, true, false, ◌&&◌, ◌||◌, not, cond, List, [], ◌∷◌, ◌++◌, length, Option, Some, None, refl, sym, ◌∙◌, ap, subst, arith, inl, inr, length-append}
use Rattle.std.specs.Prelude.{◌⊎◌, ◌==◌, All, nat_lt, option_map}
use Rattle.std.proofs.lemmas.Bool.{cond-true, eq-eqb, ltb-false}
use Rattle.std.proofs.lemmas.Option.{none-some, same_Some}
use Rattle.ima_templates.proofs.DataLemmas.{IsNamed}
use Rattle.ima_templates.specs.Path.{IsMeasuredPath}
use Rattle.ima_templates.specs.declared.entry.Entry.{Entry}
use Rattle.ima_templates.specs.declared.entry.Placed.{Placed}
use Rattle.inode_meta.specs.declared.appraisal.Mode.TheVariants.{Enforce}
use Rattle.inode_meta.specs.declared.measurement.Template.TheVariants.{Ima}
use Rattle.inode_meta.specs.declared.step.Who.{Who}
use Rattle.inode_events.specs.Admission.{collection_begin, digests_begin, fits, granted_file, granted_unmodified, unmodified_since}
use Rattle.inode_events.specs.Checks.{last_check}
use Rattle.inode_events.specs.Coverage.{ShowsContent, grant_places, place_in, places_violated, violation_places}
use Rattle.inode_events.specs.Files.{creates, dropped, execs, files, held, holds, is_exec, is_writer, is_writing, readers, tally, without_file, writers}
use Rattle.inode_events.specs.Grants.{grant_of}
use Rattle.inode_events.specs.Inode.{Inode}
use Rattle.inode_events.specs.Integrity.{Collection, Digests, collecting, digest_from, in_force}
use Rattle.inode_events.specs.Legal.{EachFollows, Follows, Legal}
use Rattle.inode_events.specs.Listing.{IsListed}
use Rattle.inode_events.specs.Marks.{must_measure}
use Rattle.inode_events.specs.Says.{check_told, count_told, place_of, placed_in}
use Rattle.inode_events.specs.Stage.{is_gone, stage}
use Rattle.inode_events.specs.State.{content, present}
use Rattle.inode_events.specs.Verdicts.{fresh_verdict}
use Rattle.inode_events.specs.declared.deed.Deed.{Deed}
use Rattle.inode_events.specs.declared.deed.Deed.TheVariants as deed
use Rattle.inode_events.specs.declared.deed.How.{How}
use Rattle.inode_events.specs.declared.deed.How.TheVariants as how
use Rattle.inode_events.specs.declared.told.Event.{Event}
use Rattle.inode_events.specs.declared.told.Grant.{Grant}
use Rattle.inode_events.specs.declared.told.Told.{Told}
use Rattle.inode_events.specs.declared.told.Told.TheVariants as told
use Rattle.inode_events.specs.policy.declared.access.Action.{Action}
use Rattle.inode_events.specs.policy.declared.rule.Func.{Func}
use Rattle.journal_laws.specs.Executed.{IsUndisturbed, NeverBoth, grant_event, is_change, is_check_of}
use Rattle.journal_laws.proofs.Admitting.{admits_lem}
use Rattle.journal_laws.proofs.Covered.{Unwritten, clean_collecting_at, clean_digests_at, event_shows, follows_at}
use Rattle.journal_laws.proofs.Fresh.{finish_grants, take_grants}
use Rattle.journal_laws.proofs.FreshSteps.{freshness_lem}
use Rattle.journal_laws.proofs.Guards.{CollectionClean, DigestsClean, held_same}
use Rattle.journal_laws.proofs.Lives.{alive_before, check_alive, lives, named}
use Rattle.journal_laws.proofs.Small.{event, or_none}
use Rattle.journal_laws.proofs.Stages.{stages}
use Rattle.journal_laws.proofs.Tallies.{tally-less, tally_held}

-- ---- no inode is executed and open for writing at the same time

-- none of these files is an execution, or none is open for writing
abbrev Exclusive : List (ℕ × How) → Type 0
Exclusive hs = (tally is_exec hs ≡ 0) ⊎ (tally is_writer hs ≡ 0)

-- dropping a file raises no count
tally_without : (test : How → Bool) (o : Option ℕ) (hs : List (ℕ × How))
    → tally test (without_file o hs) ≤ tally test hs
tally_without test None hs = omega arith
tally_without test (Some f) hs = omega (arith, tally-less test f hs)

-- dropping a file keeps executions and writers apart
without_exclusive : (o : Option ℕ) (hs : List (ℕ × How)) → Exclusive hs
    → Exclusive (without_file o hs)
without_exclusive o hs (inl e) = inl (omega (arith, tally_without is_exec o hs))
without_exclusive o hs (inr e) = inr (omega (arith, tally_without is_writer o hs))

-- an open that counts its file met no file with which it can't be held
count_at : (a b : Bool) → cond a told.NotFound (cond b told.TextBusy told.Held) ≡ told.Held
    → b ≡ false
count_at true b e = absurd (cc)
count_at false true e = absurd (cc)
count_at false false e = refl

-- counting such a file keeps executions and writers apart
count_exclusive : (how : How) (place : ℕ) (hs : List (ℕ × How))
    → ((is_writer how && nat_lt 0 (tally is_exec hs))
    || (is_exec how && nat_lt 0 (tally is_writer hs))) ≡ false
    → Exclusive hs → Exclusive ((place, how) ∷ hs)
count_exclusive (how.Read create) place hs e (inl x) = inl (omega arith)
count_exclusive (how.Read create) place hs e (inr x) = inr (omega arith)
count_exclusive (how.Write read create) place hs e x =
    let none : tally is_exec hs ≤ 0 = ltb-false 0 (tally is_exec hs)
    (sym (or_none (nat_lt 0 (tally is_exec hs))) ∙ e) in inl (omega arith)
count_exclusive how.Exec place hs e x =
    let none : tally is_writer hs ≤ 0 = ltb-false 0 (tally is_writer hs) e in inr (omega arith)

-- each event keeps executions and writers apart
exclusive_step : (i : Inode) (p : List Event) (who : Who) (d : Deed) (t : Told)
    → Follows i p who d t → Exclusive (files p) → Exclusive (files (event who d t ∷ p))
exclusive_step i p who (deed.Count how) told.Held h x =
    count_exclusive how (length p) (files p)
    (count_at (not (present p) && not (creates how))
    ((is_writer how && nat_lt 0 (execs p)) || (is_exec how && nat_lt 0 (writers p)))
    (same_Some (count_told how (present p) (writers p) (execs p)) told.Held h.2)) x
exclusive_step i p who d t h x = without_exclusive (dropped d t) (files p) x

-- so they are apart in every journal
exclusive : (i : Inode) (p : List Event) → EachFollows i p → Exclusive (files p)
exclusive i [] h = inl refl
exclusive i (e ∷ p) h = exclusive_step i p e.who e.deed e.told h.0 (exclusive i p h.1)

-- proof of `NeverBoth`
pub never_both_lem : NeverBoth
never_both_lem i p h = exclusive i p h.1

-- ---- while a file is held as an execution

-- the file isn't gone, and is held as an execution
pub record Runs (i : Inode) (file : ℕ) (p : List Event) : Type 0 where
  pub alive : is_gone (stage i file p) ≡ false
  pub exec : holds is_exec (held file p) ≡ true

-- then no writer holds the inode
no_writers : (i : Inode) (file : ℕ) (p : List Event) → EachFollows i p → Runs i file p
    → writers p ≡ 0
no_writers i file p h r = at (exclusive i p h) where
  at : Exclusive (files p) → writers p ≡ 0
  at (inl e) = let some : 0 < tally is_exec (files p) =
      tally_held is_exec file (files p) r.exec in absurd (omega arith)
  at (inr e) = e

-- a file that was counted before the event and is run after it was run before it
runs_one : (i : Inode) (file : ℕ) (p : List Event) (who : Who) (d : Deed) (t : Told)
    → Follows i p who d t → file < length p → Runs i file (event who d t ∷ p) → Runs i file p
runs_one i file p who d t h l r =
    record {
      alive = alive_before i p who d t h file l r.alive;
      exec =
          sym (ap (holds is_exec) (held_same i p who d t file l r.alive)) ∙ r.exec;
    }

-- the place of a file is within a longer journal
longer : (file : ℕ) (later q : List Event) → file < length q → file < length (later ++ q)
longer file later q l = omega (arith, length-append later q)

-- the file was run at each place since its count
runs_before : (i : Inode) (file : ℕ) (later q : List Event) → EachFollows i (later ++ q)
    → file < length q → Runs i file (later ++ q) → Runs i file q
runs_before i file [] q h l r = r
runs_before i file (e ∷ later) q h l r =
    runs_before i file later q h.1 l
    (runs_one i file (later ++ q) e.who e.deed e.told h.0 (longer file later q l) r)

-- without a writer nothing is written, and no write is tried
no_change : (i : Inode) (p : List Event) (who : Who) (d : Deed) (t : Told) → Follows i p who d t
    → writers p ≡ 0 → is_change d ≡ false
no_change i p who (deed.Write g from bytes) t h none =
    let some : 0 < writers p = tally_held is_writer g (files p) h.1.1 in absurd (omega arith)
no_change i p who (deed.Trunc g len) t h none =
    let some : 0 < writers p = tally_held is_writer g (files p) h.1.1 in absurd (omega arith)
no_change i p who d t h none = refl

-- an event that tries no write leaves the content
same_content : (i : Inode) (p : List Event) (who : Who) (d : Deed) (t : Told) → Follows i p who d t
    → is_change d ≡ false → 0 < length p → content (event who d t ∷ p) ≡ content p
same_content i p who deed.Birth t h n l =
    let none : length p ≡ 0 = ap length h.0 in absurd (omega arith)
same_content i p who (deed.Write g from bytes) t h n l = absurd (cc)
same_content i p who (deed.Trunc g len) t h n l = absurd (cc)
same_content i p who d t h n l = refl

-- so the content is the same since the count
content_kept : (i : Inode) (file : ℕ) (later q : List Event) → EachFollows i (later ++ q)
    → file < length q → Runs i file (later ++ q) → content (later ++ q) ≡ content q
content_kept i file [] q h l r = refl
content_kept i file (e ∷ later) q h l r =
    let within : file < length (later ++ q) = longer file later q l in
    let before : Runs i file (later ++ q) =
    runs_one i file (later ++ q) e.who e.deed e.told h.0 within r in
    same_content i (later ++ q) e.who e.deed e.told h.0
    (no_change i (later ++ q) e.who e.deed e.told h.0
    (no_writers i file (later ++ q) h.1 before)) (omega arith)
    ∙ content_kept i file later q h.1 l before

-- ---- its checks

-- without a writer no file is open for writing
writing_none : (p : List Event) (file : ℕ) → writers p ≡ 0 → is_writing file p ≡ false
writing_none p file none = at (is_writing file p) refl where
  at : (b : Bool) → is_writing file p ≡ b → is_writing file p ≡ false
  at true e =
      let some : 0 < writers p = tally_held is_writer file (files p) e in absurd (omega arith)
  at false e = e

-- a check of a file that isn't open for writing tells no violation if there is no writer
quiet_told : (writing measure must : Bool) (readers writers place : ℕ) → writing ≡ false
    → writers ≡ 0 → check_told writing measure readers writers must place ≡ told.Quiet
quiet_told writing measure must readers writers place e none =
    ap (λ (b : Bool). check_told b measure readers writers must place) e
    ∙ ap (λ (n : ℕ). check_told false measure readers n must place) none ∙ at measure where
      at : (m : Bool) → check_told false m readers 0 must place ≡ told.Quiet
      at true = refl
      at false = refl

-- without a writer checks tell no violation
check_quiet : (i : Inode) (p : List Event) (who : Who) (g : ℕ) (func : Func) (action : Action)
    (rules : ℕ) (t : Told) → Follows i p who (deed.Check g func action rules) t → writers p ≡ 0
    → t ≡ told.Quiet
check_quiet i p who g func action rules t h none =
    sym (same_Some (check_told (is_writing g p) action.measure (readers p) (writers p)
    (must_measure p) (place_of (placed_in t))) t h.2)
    ∙ quiet_told (is_writing g p) action.measure (must_measure p) (readers p) (writers p)
    (place_of (placed_in t)) (writing_none p g none) none

-- the file's own checks among them
own_quiet : (i : Inode) (file : ℕ) (p : List Event) (who : Who) (d : Deed) (t : Told)
    → Follows i p who d t → is_check_of file d ≡ true → writers p ≡ 0 → t ≡ told.Quiet
own_quiet i file p who (deed.Check g func action rules) t h c none =
    check_quiet i p who g func action rules t h none
own_quiet i file p who d t h c none = absurd (cc)

-- so no event tells one
none_violated : (i : Inode) (p : List Event) (who : Who) (d : Deed) (t : Told)
    → Follows i p who d t → writers p ≡ 0 → violation_places d t ≡ []
none_violated i p who (deed.Check g func action rules) t h none =
    ap (violation_places (deed.Check g func action rules))
    (check_quiet i p who g func action rules t h none)
none_violated i p who d t h none = refl

-- and none is told since the count
unviolated_since : (i : Inode) (file : ℕ) (later q : List Event) → EachFollows i (later ++ q)
    → file < length q → Runs i file (later ++ q) → places_violated later ≡ []
unviolated_since i file [] q h l r = refl
unviolated_since i file (e ∷ later) q h l r =
    let before : Runs i file (later ++ q) =
    runs_one i file (later ++ q) e.who e.deed e.told h.0 (longer file later q l) r in
    let one : violation_places e.deed e.told ≡ [] =
    none_violated i (later ++ q) e.who e.deed e.told h.0
    (no_writers i file (later ++ q) h.1 before) in
    let rest : places_violated later ≡ [] = unviolated_since i file later q h.1 l before in
    (λ m. one m ++ rest m)

-- a file that is checked isn't gone
pub checked_alive : (i : Inode) (file : ℕ) (p : List Event) (who : Who) (d : Deed) (t : Told)
    → Follows i p who d t → is_check_of file d ≡ true → is_gone (stage i file p) ≡ false
checked_alive i file p who (deed.Check g func action rules) t h c =
    named i p g file (stage i g p) refl (check_alive (stage i g p) h.1) c
checked_alive i file p who d t h c = absurd (cc)

-- ---- its grants

-- a file that gets a grant isn't gone
pub granted_alive : (i : Inode) (file : ℕ) (p : List Event) (who : Who) (d : Deed) (t : Told)
    → Follows i p who d t → granted_file d ≡ Some file → is_gone (stage i file p) ≡ false
granted_alive i file p who (deed.Take g) t h e =
    subst (λ (x : ℕ). is_gone (stage i x p) ≡ false) (same_Some g file e) (ap is_gone h.1)
granted_alive i file p who (deed.Finish g) t h e =
    subst (λ (x : ℕ). is_gone (stage i x p) ≡ false) (same_Some g file e) (ap is_gone h.1)
granted_alive i file p who d t h e = absurd (none-some file e)

-- the place that a grant of the file names
place_named : (file : ℕ) (d : Deed) (grant : Grant) (placed : Placed) → granted_file d ≡ Some file
    → grant.placed ≡ Some placed
    → grant_places file d (told.Grant grant) ≡ place_of placed ∷ []
place_named file (deed.Take g) grant placed e names =
    cond-true (g == file) (place_in grant.placed) [] (eq-eqb g file (same_Some g file e))
    ∙ ap place_in names
place_named file (deed.Finish g) grant placed e names =
    cond-true (g == file) (place_in grant.placed) [] (eq-eqb g file (same_Some g file e))
    ∙ ap place_in names
place_named file d grant placed e names = absurd (none-some file e)

-- without a writer, digests in force and the open collection are of the present content
unwritten_at : (i : Inode) (p : List Event) (bytes : List ℕ) → EachFollows i p → writers p ≡ 0
    → content p ≡ bytes → Unwritten i bytes p
unwritten_at i p bytes h none e = record {
  same = e;
  clean_digests = clean_digests_at i p none (in_force i p) (freshness_lem i p h).digests_is;
  clean_collecting =
      clean_collecting_at i p none (collecting i p) (freshness_lem i p h).collection_is;
}

-- digests that nothing was written since make the grant one for an unmodified file
digests_unmodified : (p : List Event) (o : Option Digests) → DigestsClean p o
    → unmodified_since (option_map digests_begin o) p ≡ true
digests_unmodified p None clean = refl
digests_unmodified p (Some x) clean = ap not clean

-- so does a collection that nothing was written since
collection_unmodified : (p : List Event) (o : Option Collection) → CollectionClean p o
    → unmodified_since (option_map collection_begin o) p ≡ true
collection_unmodified p None clean = refl
collection_unmodified p (Some c) clean = ap not clean

-- each grant is one for an unmodified file
grant_unmodified : (i : Inode) (file : ℕ) (p : List Event) (d : Deed) (bytes : List ℕ)
    → granted_file d ≡ Some file → Unwritten i bytes p → granted_unmodified i d p ≡ true
grant_unmodified i file p (deed.Take g) bytes e u =
    digests_unmodified p (in_force i p) u.clean_digests
grant_unmodified i file p (deed.Finish g) bytes e u =
    collection_unmodified p (collecting i p) u.clean_collecting
grant_unmodified i file p d bytes e u = absurd (none-some file e)

-- a grant whose check measures names a place
grant_measured : (i : Inode) (p : List Event) (who : Who) (d : Deed) (grant : Grant) (file : ℕ)
    → Follows i p who d (told.Grant grant) → granted_file d ≡ Some file
    → (last_check file p).action.measure ≡ true → grant.placed ≡ Some (placed_in (told.Grant grant))
grant_measured i p who (deed.Take g) grant file h e m =
    let made : (x : Digests)
    × ((in_force i p ≡ Some x)
    × (grant_of i g (placed_in (told.Grant grant)) x.digest p ≡ grant)) =
    take_grants i p g (placed_in (told.Grant grant)) grant (collecting i p) (in_force i p) h.2 in
    sym (ap (λ (y : Grant). y.placed) made.1.1)
    ∙ cond-true (last_check g p).action.measure (Some (placed_in (told.Grant grant))) None
    (subst (λ (x : ℕ). (last_check x p).action.measure ≡ true) (sym (same_Some g file e)) m)
grant_measured i p who (deed.Finish g) grant file h e m =
    let made : (c : Collection)
    × ((collecting i p ≡ Some c)
    × (grant_of i g (placed_in (told.Grant grant)) (digest_from c) p ≡ grant)) =
    finish_grants i p g (placed_in (told.Grant grant)) grant (collecting i p) h.2 in
    sym (ap (λ (y : Grant). y.placed) made.1.1)
    ∙ cond-true (last_check g p).action.measure (Some (placed_in (told.Grant grant))) None
    (subst (λ (x : ℕ). (last_check x p).action.measure ≡ true) (sym (same_Some g file e)) m)
grant_measured i p who d grant file h e m = absurd (none-some file e)

-- ---- the law

-- if all events are listed, so are those of an earlier part
pub listed_before : (i : Inode) (list : List Entry) (later p : List Event)
    → IsListed i list (later ++ p) → IsListed i list p
listed_before i list [] p listed = listed
listed_before i list (e ∷ later) p listed = listed_before i list later p listed.2

module _ (i : Inode) (list : List Entry) (file : ℕ) (p : List Event) (legal : EachFollows i p)
    (runs : Runs i file p) where
  -- the event at a place, and those before it, follow
  follows : (later : List Event) (e : Event) (q : List Event) → p ≡ later ++ e ∷ q
      → EachFollows i (e ∷ q)
  follows later e q is =
      follows_at i later (e ∷ q) (subst (λ (x : List Event). EachFollows i x) is legal)

  -- the file is run after the event at each place since its count
  run_after : (later q : List Event) → p ≡ later ++ q → file < length q → Runs i file q
  run_after later q is l =
      runs_before i file later q (subst (λ (x : List Event). EachFollows i x) is legal) l
      (subst (λ (x : List Event). Runs i file x) is runs)

  -- and before it
  run_at : (later : List Event) (e : Event) (q : List Event) → p ≡ later ++ e ∷ q
      → file < length q → Runs i file q
  run_at later e q is l =
      runs_one i file q e.who e.deed e.told (follows later e q is).0 l
      (run_after later (e ∷ q) is (omega arith))

  -- there was no writer there
  alone_at : (later : List Event) (e : Event) (q : List Event) → p ≡ later ++ e ∷ q
      → file < length q → writers q ≡ 0
  alone_at later e q is l =
      no_writers i file q (follows later e q is).1 (run_at later e q is l)

  -- and no write
  still_at : (later : List Event) (e : Event) (q : List Event) → p ≡ later ++ e ∷ q
      → file < length q → is_change e.deed ≡ false
  still_at later e q is l =
      no_change i q e.who e.deed e.told (follows later e q is).0 (alone_at later e q is l)

  -- the content was the same
  same_at : (later q : List Event) → p ≡ later ++ q → file < length q → content q ≡ content p
  same_at later q is l =
      sym (ap content is ∙ content_kept i file later q
      (subst (λ (x : List Event). EachFollows i x) is legal) l
      (subst (λ (x : List Event). Runs i file x) is runs))

  -- each check of the file told no violation
  quiet_at : (later : List Event) (e : Event) (q : List Event) → p ≡ later ++ e ∷ q
      → is_check_of file e.deed ≡ true → e.told ≡ told.Quiet
  quiet_at later e q is c =
      let here : EachFollows i (e ∷ q) = follows later e q is in
      let l : file < length q = (lives i q here.1 file
      (checked_alive i file q e.who e.deed e.told here.0 c)).0 in
      own_quiet i file q e.who e.deed e.told here.0 c (alone_at later e q is l)

  -- no check of the inode told one since the count
  unviolated_at : (later q : List Event) → p ≡ later ++ q → file < length q
      → places_violated later ≡ []
  unviolated_at later q is l =
      unviolated_since i file later q (subst (λ (x : List Event). EachFollows i x) is legal) l
      (subst (λ (x : List Event). Runs i file x) is runs)

  -- the place of a file that gets a grant is in the journal before
  grant_within : (later q : List Event) (who : Who) (d : Deed) (grant : Grant)
      → p ≡ later ++ grant_event who d grant ∷ q → granted_file d ≡ Some file → file < length q
  grant_within later q who d grant is g =
      let here : EachFollows i (grant_event who d grant ∷ q) =
      follows later (grant_event who d grant) q is in
      (lives i q here.1 file (granted_alive i file q who d (told.Grant grant) here.0 g)).0

  -- nothing was written when the file gets a grant
  unwritten_grant : (later q : List Event) (who : Who) (d : Deed) (grant : Grant)
      → p ≡ later ++ grant_event who d grant ∷ q → file < length q → Unwritten i (content p) q
  unwritten_grant later q who d grant is l =
      let x : Event = grant_event who d grant in
      let here : EachFollows i (grant_event who d grant ∷ q) =
      follows later (grant_event who d grant) q is in
      let kept : content (grant_event who d grant ∷ q) ≡ content q =
      same_content i q who d (told.Grant grant) here.0
      (still_at later (grant_event who d grant) q is l) (omega arith) in
      unwritten_at i q (content p) here.1 (alone_at later (grant_event who d grant) q is l)
      (sym kept ∙ same_at later (grant_event who d grant ∷ q) is (omega arith))

  -- each grant whose check measures names a place
  measured_at : (later q : List Event) (who : Who) (d : Deed) (grant : Grant)
      → p ≡ later ++ grant_event who d grant ∷ q → granted_file d ≡ Some file
      → (last_check file q).action.measure ≡ true
      → (placed : Placed) × (grant.placed ≡ Some placed)
  measured_at later q who d grant is g m = (
    placed_in (told.Grant grant),
    grant_measured i q who d grant file (follows later (grant_event who d grant) q is).0 g m,
  )

  -- which shows the content
  listed_at : IsListed i list p → IsMeasuredPath Ima i.path → All IsNamed list
      → (later q : List Event) (who : Who) (d : Deed) (grant : Grant) (placed : Placed)
      → p ≡ later ++ grant_event who d grant ∷ q → granted_file d ≡ Some file
      → grant.placed ≡ Some placed → ShowsContent i list (content p) (place_of placed)
  listed_at listed path kept later q who d grant placed is g names =
      let here : EachFollows i (grant_event who d grant ∷ q) =
      follows later (grant_event who d grant) q is in
      let entries : IsListed i list (grant_event who d grant ∷ q) =
      listed_before i list later (grant_event who d grant ∷ q)
      (subst (λ (x : List Event). IsListed i list x) is listed) in
      let l : file < length q = grant_within later q who d grant is g in
      event_shows i list file q (content p) who d (told.Grant grant) grant placed here.0
      (stages i q here.1) (freshness_lem i q here.1)
      (unwritten_grant later q who d grant is l) entries.0 entries.1 path kept refl
      (place_named file d grant placed g names) names

  -- and in mode enforce, each grant that appraises admits exactly if the file fits
  enforced_at : i.settings.mode ≡ Enforce → (later q : List Event) (who : Who) (d : Deed)
      (grant : Grant) → p ≡ later ++ grant_event who d grant ∷ q → granted_file d ≡ Some file
      → (last_check file q).action.appraise ≡ true
      → (grant.verdict ≡ Some (fresh_verdict i (last_check file q).action.need
      (last_check file q).action.algos q))
      × (grant.admitted ≡ fits i (last_check file q).action q)
  enforced_at mode later q who d grant is g appraises =
      let here : EachFollows i (grant_event who d grant ∷ q) =
      follows later (grant_event who d grant) q is in
      let l : file < length q = grant_within later q who d grant is g in
      let a = admits_lem i q who d grant file here.0 here.1 g mode appraises in
      let u : granted_unmodified i d q ≡ true = grant_unmodified i file q d (content p) g
      (unwritten_grant later q who d grant is l) in (a.1 u, a.2 u)

-- a file that is held as an execution is undisturbed, by every list of named entries that has the
-- journal's
pub executed : (i : Inode) (list : List Entry) (p : List Event) (file : ℕ) → Legal i p
    → is_gone (stage i file p) ≡ false → holds is_exec (held file p) ≡ true
    → IsListed i list p → IsMeasuredPath Ima i.path → All IsNamed list
    → IsUndisturbed i list file p
executed i list p file legal alive exec listed path kept =
    let runs : Runs i file p = record { alive = alive; exec = exec } in
    record {
      alone = no_writers i file p legal.1 runs;
      still = still_at i list file p legal.1 runs;
      same = same_at i list file p legal.1 runs;
      unviolated = unviolated_at i list file p legal.1 runs;
      quiet = quiet_at i list file p legal.1 runs;
      measured = measured_at i list file p legal.1 runs;
      listed = listed_at i list file p legal.1 runs listed path kept;
      enforced = enforced_at i list file p legal.1 runs;
    }
