-- Each call by which the kernel has read a file has read it soundly.
use Rattle.std.proofs.Common.{◌≡◌, ℕ, suc, ◌+◌, ◌<◌, Bool, true, false, ◌&&◌, not, cond, List, [], ◌∷◌, ◌++◌, length, Option, Some, None, refl, sym, ◌∙◌, ap, subst, arith, inl, inr, length-append, append_assoc}
use Rattle.std.specs.Prelude.{◌⊎◌, ◌==◌, All, Contains, slice_get}
use Rattle.std.specs.Option.{option_or}
use Rattle.std.proofs.lemmas.Bool.{and_parts, cond-true, eq-eqb, eqb-true}
use Rattle.std.proofs.lemmas.Option.{none-some, same_Some}
use Rattle.call_steps.specs.Steps.{reply_of}
use Rattle.call_steps.specs.declared.reply.Reply.{Reply}
use Rattle.call_steps.specs.templates.Path.{IsMeasuredPath}
use Rattle.call_steps.specs.templates.declared.entry.Entry.{Entry}
use Rattle.call_steps.specs.templates.declared.entry.Placed.{Placed}
use Rattle.inode_events.specs.Admission.{fits, granted_file}
use Rattle.inode_events.specs.Callers.{caller_of}
use Rattle.inode_events.specs.Checks.{last_check}
use Rattle.inode_events.specs.Coverage.{IsAnswered, ShowsContent, ShowsViolation, is_measuring, places_granted, places_violated}
use Rattle.inode_events.specs.Files.{counted, execs, held, holds, is_exec, is_reader, writers}
use Rattle.inode_events.specs.Grants.{admits, grant_of}
use Rattle.inode_events.specs.Inode.{Inode}
use Rattle.inode_events.specs.Integrity.{Collection, Digests, collecting, digest_from, in_force}
use Rattle.inode_events.specs.Legal.{EachFollows, Follows, Legal}
use Rattle.inode_events.specs.Listing.{IsListed}
use Rattle.inode_events.specs.Merged.{Journal}
use Rattle.inode_events.specs.NewestFirst.{newest_first}
use Rattle.inode_events.specs.Says.{count_told, finish_told, place_of, placed_in, read_told}
use Rattle.inode_events.specs.Stage.{Stage, is_gone, stage, stage_after}
use Rattle.inode_events.specs.State.{content, present}
use Rattle.inode_events.specs.declared.deed.Deed.{Deed}
use Rattle.inode_events.specs.declared.deed.Deed.TheVariants as deed
use Rattle.inode_events.specs.declared.deed.How.{How}
use Rattle.inode_events.specs.declared.deed.How.TheVariants as how
use Rattle.inode_events.specs.declared.told.Event.{Event}
use Rattle.inode_events.specs.declared.told.Grant.{Grant}
use Rattle.inode_events.specs.declared.told.Told.{Told}
use Rattle.inode_events.specs.declared.told.Told.TheVariants as told
use Rattle.inode_events.specs.labels.declared.verdict.Verdict.{Verdict}
use Rattle.inode_events.specs.labels.declared.verdict.Verdict.TheVariants.{Deny}
use Rattle.inode_events.specs.meta.declared.appraisal.Mode.{Mode}
use Rattle.inode_events.specs.meta.declared.appraisal.Mode.TheVariants.{Enforce}
use Rattle.inode_events.specs.meta.declared.measurement.Template.TheVariants.{Ima}
use Rattle.inode_events.specs.meta.declared.step.Who.{Who}
use Rattle.inode_events.specs.pages.Content.{bytes_at, most_bytes}
use Rattle.run_laws.specs.shown.Places.{Stood}
use Rattle.journal_laws.specs.Executed.{IsUndisturbed, grant_event, is_check_of}
use Rattle.journal_laws.specs.Own.{names_file}
use Rattle.journal_laws.specs.Standing.{IsHeldAsCounted, event_at}
use Rattle.run_model.specs.History.{Position, own}
use Rattle.run_model.specs.Scene.{inode_of, mode_of}
use Rattle.run_model.specs.Served.{IsServed, events_of}
use Rattle.journal_laws.proofs.Bridge.{event_there}
use Rattle.journal_laws.proofs.Covered.{contains_none, covered, follows_at}
use Rattle.journal_laws.proofs.Executed.{checked_alive, executed, granted_alive, listed_before}
use Rattle.journal_laws.proofs.Fresh.{finish_grants, take_grants}
use Rattle.journal_laws.proofs.Holding.{held_counted}
use Rattle.journal_laws.proofs.Lives.{alive_before, lives}
use Rattle.run_laws.proofs.shown.Sound.{journal_has, path_there}
use Rattle.run_laws.specs.kernel_reads.Reads.{IsReadSoundly, KernelReadsSoundly, call_event, is_of_call, place_of_call, placed_by, reply_with}
use Rattle.run_laws.proofs.kernel_reads.Following.{AreTold, loaded}
use Rattle.run_laws.proofs.kernel_reads.Journals.{StandsAt, event_earlier, order, own_there, stands, stands_there, there_own}
use Rattle.run_laws.proofs.kernel_reads.Tracking.{HasLoaded, IsOn, is_barred, is_denial, is_told}
use Rattle.run_laws.proofs.shown.Named.{list_named}
use Rattle.call_steps.proofs.about_templates.DataLemmas.{IsNamed}

-- ---- outcomes in a legal journal

-- a count tells one of three outcomes
count_is : (how : How) (a b : Bool)
    → is_told (deed.Count how) (cond a told.NotFound (cond b told.TextBusy told.Held)) ≡ true
count_is how true b = refl
count_is how false true = refl
count_is how false false = refl

-- a finish tells a grant
finish_is : (i : Inode) (f : ℕ) (placed : Placed) (p : List Event) (o : Option Collection)
    (t : Told) → finish_told i f placed o p ≡ Some t → is_told (deed.Finish f) t ≡ true
finish_is i f placed p None t h = absurd (cc)
finish_is i f placed p (Some c) t h = ap (is_told (deed.Finish f)) (sym (same_Some _ t h))

-- each outcome is one that its deed can have
told_there : (i : Inode) (p : List Event) (who : Who) (d : Deed) (t : Told) → Follows i p who d t
    → is_told d t ≡ true
told_there i p who (deed.Count how) t h =
    ap (is_told (deed.Count how))
    (sym (same_Some (count_told how (present p) (writers p) (execs p)) t h.2)) ∙ count_is how _ _
told_there i p who (deed.Finish f) t h = finish_is i f (placed_in t) p (collecting i p) t h.2
told_there i p who d t h = refl

-- a grant that isn't a refusal admits its file
not_barred : (m : Mode) (v : Option Verdict) → (not (admits m v) && is_denial v) ≡ false
    → admits m v ≡ true
not_barred Enforce (Some (Deny cause)) e = absurd (cc)
not_barred m v e = refl

-- the mode and the verdict say whether a grant admits its file
grant_admits : (i : Inode) (p : List Event) (who : Who) (d : Deed) (grant : Grant) (f : ℕ)
    → Follows i p who d (told.Grant grant) → granted_file d ≡ Some f
    → grant.admitted ≡ admits i.settings.mode grant.verdict
grant_admits i p who (deed.Take g) grant f h e =
    let made : (x : Digests)
    × ((in_force i p ≡ Some x)
    × (grant_of i g (placed_in (told.Grant grant)) x.digest p ≡ grant)) =
    take_grants i p g (placed_in (told.Grant grant)) grant (collecting i p) (in_force i p) h.2 in
    sym (ap (λ (y : Grant). y.admitted) made.1.1)
    ∙ ap (λ (y : Grant). admits i.settings.mode y.verdict) made.1.1
grant_admits i p who (deed.Finish g) grant f h e =
    let made : (c : Collection)
    × ((collecting i p ≡ Some c)
    × (grant_of i g (placed_in (told.Grant grant)) (digest_from c) p ≡ grant)) =
    finish_grants i p g (placed_in (told.Grant grant)) grant (collecting i p) h.2 in
    sym (ap (λ (y : Grant). y.admitted) made.1.1)
    ∙ ap (λ (y : Grant). admits i.settings.mode y.verdict) made.1.1
grant_admits i p who d grant f h e = absurd (none-some f e)

-- ---- deeds that name a file

-- a check that names the file is one of the file
check_named : (f g : ℕ) (d : Deed) → names_file f d ≡ true → is_check_of g d ≡ true
    → is_check_of f d ≡ true
check_named f g (deed.Check other func action rules) names c = names
check_named f g d names c = absurd (cc)

-- a measuring check of the file is one of its checks
measuring_checks : (f : ℕ) (d : Deed) → is_measuring f d ≡ true → is_check_of f d ≡ true
measuring_checks f (deed.Check other func action rules) m =
    let parts : ((other == f) ≡ true) × (action.measure ≡ true) = and_parts _ _ m in parts.0
measuring_checks f d m = absurd (cc)

-- an execution is a reader
exec_reads : (o : Option How) → holds is_exec o ≡ true → holds is_reader o ≡ true
exec_reads None e = absurd (cc)
exec_reads (Some (how.Read create)) e = refl
exec_reads (Some (how.Write read create)) e = absurd (cc)
exec_reads (Some how.Exec) e = refl

-- a deed that may be granted and names the file is granted for the file
grant_named : (f g : ℕ) (d : Deed) → names_file f d ≡ true → granted_file d ≡ Some g
    → granted_file d ≡ Some f
grant_named f g (deed.Take other) names e = ap (λ (x : ℕ). Some x) (eqb-true other f names)
grant_named f g (deed.Finish other) names e = ap (λ (x : ℕ). Some x) (eqb-true other f names)
grant_named f g d names e = absurd (none-some g e)

-- the deed is the close of a file that isn't open for writing
abbrev closes : Deed → Bool
closes (deed.Close file) = true
closes _ = false

-- the newest event is such a close
abbrev begins_closed : List Event → Bool
begins_closed [] = false
begins_closed (e ∷ events) = closes e.deed

-- a check isn't such a close
check_closes : (g : ℕ) (d : Deed) → is_check_of g d ≡ true → closes d ≡ false
check_closes g (deed.Check other func action rules) c = refl
check_closes g d c = absurd (cc)

-- nor is a deed that may be granted
grant_closes : (g : ℕ) (d : Deed) → granted_file d ≡ Some g → closes d ≡ false
grant_closes g (deed.Take other) e = refl
grant_closes g (deed.Finish other) e = refl
grant_closes g d e = absurd (none-some g e)

-- ---- the place that a call's grant names

-- some event of the call has a grant that names the place
record NamesPlace (n k : ℕ) (events : List Event) (placed : Placed) : Type 0 where
  pub place : ℕ
  pub e : Event
  pub there : slice_get events place ≡ Some e
  pub of_call : is_of_call n k e ≡ true
  pub names : placed_by e.deed e.told ≡ Some placed

-- the place of a call is one that a grant of the call names
place_found : (n k : ℕ) (events : List Event) (placed : Placed)
    → place_of_call n k events ≡ Some placed → NamesPlace n k events placed
place_found n k [] placed h = absurd (none-some placed h)
place_found n k (e ∷ events) placed h =
    at (place_found n k events placed) (is_of_call n k e) refl (placed_by e.deed e.told) refl h where
      further : NamesPlace n k events placed → NamesPlace n k (e ∷ events) placed
      further f = record {
        place = suc f.place;
        e = f.e;
        there = f.there;
        of_call = f.of_call;
        names = f.names;
      }

      at : (place_of_call n k events ≡ Some placed → NamesPlace n k events placed) → (b : Bool)
          → is_of_call n k e ≡ b → (o : Option Placed) → placed_by e.deed e.told ≡ o
          → option_or (cond b o None) (place_of_call n k events) ≡ Some placed
          → NamesPlace n k (e ∷ events) placed
      at ih true q (Some x) s g =
          record { place = 0; e = e; there = refl; of_call = q; names = s ∙ g }
      at ih true q None s g = further (ih g)
      at ih false q o s g = further (ih g)

-- an outcome that names a place is a grant
record IsGrant (d : Deed) (t : Told) (placed : Placed) : Type 0 where
  pub file : ℕ
  pub grant : Grant
  pub is : t ≡ told.Grant grant
  pub of_file : granted_file d ≡ Some file
  pub names : grant.placed ≡ Some placed

-- only a grant names a place so
placed_grant : (d : Deed) (t : Told) (placed : Placed) → placed_by d t ≡ Some placed
    → IsGrant d t placed
placed_grant (deed.Take f) (told.Grant grant) placed h =
    record { file = f; grant = grant; is = refl; of_file = refl; names = h }
placed_grant (deed.Finish f) (told.Grant grant) placed h =
    record { file = f; grant = grant; is = refl; of_file = refl; names = h }
placed_grant d t placed h = absurd (none-some placed h)

-- ---- a file that isn't gone

-- a file that isn't gone wasn't gone before, since its count
alive_since : (i : Inode) (file : ℕ) (later before : List Event) → EachFollows i (later ++ before)
    → file < length before → is_gone (stage i file (later ++ before)) ≡ false
    → is_gone (stage i file before) ≡ false
alive_since i file [] before h l a = a
alive_since i file (e ∷ later) before h l a =
    alive_since i file later before h.1 l
    (alive_before i (later ++ before) e.who e.deed e.told h.0 file
    (omega (arith, length-append later before)) a)

-- after its close a file is gone
gone_after : (i : Inode) (file place : ℕ) (t : Told) (old : Stage) → t ≡ told.Dropped
    → is_gone (cond (file == file) (stage_after i (deed.Close file) t old) old) ≡ true
gone_after i file place t old e =
    ap is_gone (cond-true (file == file) (stage_after i (deed.Close file) t old) old
    (eq-eqb file file refl) ∙ ap (λ (x : Told). stage_after i (deed.Close file) x old) e)

-- ---- a call that has counted, read and closed its file

module _ (i : Inode) (list : List Entry) (journal : List Event) (n k : ℕ) (r : Reply)
    (legal : EachFollows i (newest_first journal))
    (load : HasLoaded n k r (events_of n journal)) where
  -- an own event of the call stands in the journal
  own_stands_at : (j place : ℕ) (e : Event) → slice_get (events_of n journal) j ≡ Some (place, e)
      → StandsAt (newest_first journal) place e
  own_stands_at j place e h = stands journal place e (own_there n journal j place e h)

  -- the event at a place, and those before it, follow
  follows_there : (l : List Event) (e : Event) (q : List Event) → newest_first journal ≡ l ++ e ∷ q
      → EachFollows i (e ∷ q)
  follows_there l e q is =
      follows_at i l (e ∷ q) (subst (λ (x : List Event). EachFollows i x) is legal)

  -- the call's count
  abbrev count : Event
  count = call_event n k load.counted.step (deed.Count how.Exec) told.Held

  -- the call's close
  abbrev close : Event
  close = call_event n k load.closed.step (deed.Close load.file) load.outcome

  -- where the close stands
  abbrev closing : StandsAt (newest_first journal) load.place close
  closing = own_stands_at load.closed.index load.place close load.closed.there

  -- the events before the close
  abbrev before : List Event
  before = closing.before

  -- the close follows them
  close_follows : EachFollows i (close ∷ before)
  close_follows = follows_there closing.later close before closing.is

  -- the close drops the file
  dropped : load.outcome ≡ told.Dropped
  dropped = sym (same_Some told.Dropped load.outcome close_follows.0.2)

  -- the file isn't gone before
  alive : is_gone (stage i load.file before) ≡ false
  alive = ap is_gone close_follows.0.1.0

  -- the file was counted before the close
  within : load.file < length before
  within = (lives i before close_follows.1 load.file alive).0

  -- by the call's count
  count_there : slice_get journal load.file ≡ Some count
  count_there = own_there n journal load.counted.index load.file count load.counted.there

  -- which stands before the close
  count_before : event_at load.file before ≡ Some count
  count_before =
      sym (event_earlier load.file (close ∷ []) before within)
      ∙ sym (event_earlier load.file closing.later (close ∷ before)
      (let l : load.file < length before = within in omega arith))
      ∙ sym (ap (event_at load.file) closing.is) ∙ event_there load.file journal ∙ count_there

  -- the file is held as an execution
  executing : holds is_exec (held load.file before) ≡ true
  executing =
      let h : IsHeldAsCounted load.file before = held_counted i load.file before close_follows.1
      alive in
      let same : h.count ≡ count = same_Some h.count count (sym h.stands ∙ count_before) in
      let said : Some h.how ≡ Some how.Exec =
      sym h.said ∙ ap (λ (e : Event). counted e.deed e.told) same in
      ap (holds is_exec) (h.holds ∙ said)

  -- so the law of executed files holds of it
  undisturbed : IsListed i list (newest_first journal) → IsMeasuredPath Ima i.path
      → All IsNamed list → IsUndisturbed i list load.file before
  undisturbed listed path kept =
      executed i list before load.file (close_follows.0.0, close_follows.1) alive executing
      (listed_before i list closing.later (close ∷ before)
      (subst (λ (x : List Event). IsListed i list x) closing.is listed)).2 path kept

  -- an event on the file that isn't its close stands before the close
  inside : (l : List Event) (e : Event) (q : List Event) → newest_first journal ≡ l ++ e ∷ q
      → is_gone (stage i load.file q) ≡ false → closes e.deed ≡ false
      → (m : List Event) × (before ≡ m ++ e ∷ q)
  inside l e q is live other =
      at (order l (e ∷ q) closing.later (close ∷ before) (sym is ∙ closing.is)) where
        longer : (m : List Event) → e ∷ q ≡ m ++ close ∷ before
            → (m : List Event) × (before ≡ m ++ e ∷ q)
        longer [] h = let both : closes e.deed ≡ true = ap begins_closed h in absurd (cc)
        longer (y ∷ m) h =
            let rest : q ≡ m ++ close ∷ before = cc in
            let follows : EachFollows i q = (follows_there l e q is).1 in
            let kept : is_gone (stage i load.file (close ∷ before)) ≡ false =
            alive_since i load.file m (close ∷ before)
            (subst (λ (x : List Event). EachFollows i x) rest follows)
            (let w : load.file < length before = within in omega arith)
            (subst (λ (x : List Event). is_gone (stage i load.file x) ≡ false) rest live) in
            let gone : is_gone (stage i load.file (close ∷ before)) ≡ true =
            gone_after i load.file (length before) load.outcome (stage i load.file before) dropped
            in absurd (cc)

        at : ((m : List Event) × ((y : Event) × (close ∷ before ≡ y ∷ (m ++ e ∷ q))))
            ⊎ ((m : List Event) × (e ∷ q ≡ m ++ close ∷ before))
            → (m : List Event) × (before ≡ m ++ e ∷ q)
        at (inl h) = let rest : before ≡ h.0 ++ e ∷ q = cc (h.1.1) in (h.0, rest)
        at (inr h) = longer h.0 h.1

  -- ---- the read

  -- each measuring check of the file is answered with the content
  answered : IsListed i list (newest_first journal) → IsMeasuredPath Ima i.path → All IsNamed list
      → IsUndisturbed i list load.file before → (l : List Event) (check : Event) (q : List Event)
      → before ≡ l ++ check ∷ q → is_measuring load.file check.deed ≡ true
      → (place : ℕ) × (Contains (places_granted load.file l) place
      × ShowsContent i list (content before) place)
  answered listed path kept u l check q is m =
      let here : EachFollows i (check ∷ q) =
      follows_at i l (check ∷ q) (subst (λ (x : List Event). EachFollows i x) is close_follows.1) in
      let w : load.file < length q = (lives i q here.1 load.file (checked_alive i load.file q
      check.who check.deed check.told here.0 (measuring_checks load.file check.deed m))).0 in
      let none : places_violated (l ++ check ∷ []) ≡ [] = u.unviolated (l ++ check ∷ []) q
      (is ∙ sym (append_assoc l (check ∷ []) q)) w in
      let a : IsAnswered i list load.file (content before) l check =
      covered i list before load.file close_follows.1 close_follows.0.1.0
      (exec_reads (held load.file before) executing)
      (listed_before i list closing.later (close ∷ before)
      (subst (λ (x : List Event). IsListed i list x) closing.is listed)).2 path kept l check q is m
      in (a.0, (a.1.0, at a.0 none a.1.1)) where
        at : (place : ℕ) → places_violated (l ++ check ∷ []) ≡ []
            → ShowsContent i list (content before) place
            ⊎ ((v : ℕ) × (Contains (places_violated (l ++ check ∷ [])) v
            × ShowsViolation i list v)) → ShowsContent i list (content before) place
        at place none (inl shows) = shows
        at place none (inr v) = absurd (contains_none v.0
            (subst (λ (xs : List ℕ). Contains xs v.0) none v.1.0))

  -- the call's read
  abbrev read : Event
  read = call_event n k load.read.has.step (deed.Read load.file 0 most_bytes) load.read.outcome

  -- the reply is that of the content before the close
  replied : (u : IsUndisturbed i list load.file before)
      → r ≡ reply_with (bytes_at (content before) 0 most_bytes)
  replied u =
      let s : StandsAt (newest_first journal) load.read.place read =
      own_stands_at load.read.has.index load.read.place read load.read.has.there in
      let h : EachFollows i (read ∷ s.before) = follows_there s.later read s.before s.is in
      let live : is_gone (stage i load.file s.before) ≡ false = ap is_gone h.0.1.0 in
      let m = inside s.later read s.before s.is live refl in
      let l : load.file < length s.before = (lives i s.before h.1 load.file live).0 in
      let same : content s.before ≡ content before =
      u.same m.0 (read ∷ s.before) m.1 (omega arith) in
      load.read.replied
      ∙ ap reply_of (sym (same_Some (read_told (bytes_at (content s.before) 0 most_bytes))
      load.read.outcome h.0.2))
      ∙ ap (λ (x : List ℕ). reply_with (bytes_at x 0 most_bytes)) same

  -- ---- the other events of the call

  -- an event of the call is its own
  of_call : (e : Event) → is_of_call n k e ≡ true → (caller_of e ≡ n + 1) × (e.who.call ≡ k)
  of_call e c =
      let parts : ((caller_of e == n + 1) ≡ true) × ((e.who.call == k) ≡ true) = and_parts _ _ c in
      (eqb-true (caller_of e) (n + 1) parts.0, eqb-true e.who.call k parts.1)

  -- it stands among the task's own
  own_index : (l : List Event) (e : Event) (q : List Event) → newest_first journal ≡ l ++ e ∷ q
      → is_of_call n k e ≡ true
      → (j : ℕ) × (slice_get (events_of n journal) j ≡ Some (length q, e))
  own_index l e q is c =
      there_own n journal (length q) e (stands_there journal l q e is) (of_call e c).0

  -- and so is on its file
  on_file : (l : List Event) (e : Event) (q : List Event) → newest_first journal ≡ l ++ e ∷ q
      → is_of_call n k e ≡ true → IsOn load.file (length q, e)
  on_file l e q is c =
      let j = own_index l e q is c in load.on j.0 (length q, e) j.1 (of_call e c).1

  -- the call's checks are quiet
  quiet : (u : IsUndisturbed i list load.file before) (l : List Event) (e : Event)
      (q : List Event) (g : ℕ) → newest_first journal ≡ l ++ e ∷ q → is_of_call n k e ≡ true
      → is_check_of g e.deed ≡ true → e.told ≡ told.Quiet
  quiet u l e q g is c check = at (on_file l e q is c) where
    at : IsOn load.file (length q, e) → e.told ≡ told.Quiet
    at (inl h) = let z : is_check_of g (deed.Count how.Exec) ≡ true =
        subst (λ (d : Deed). is_check_of g d ≡ true) h.1 check in absurd (cc)
    at (inr names) =
        let mine : is_check_of load.file e.deed ≡ true = check_named load.file g e.deed names check
        in
        let m = inside l e q is (checked_alive i load.file q e.who e.deed e.told
        (follows_there l e q is).0 mine) (check_closes g e.deed check) in
        u.quiet m.0 e q m.1 mine

  -- a grant of the call is for its file, before the close
  grant_inside : (l q : List Event) (who : Who) (d : Deed) (grant : Grant) (g : ℕ)
      → newest_first journal ≡ l ++ grant_event who d grant ∷ q
      → is_of_call n k (grant_event who d grant) ≡ true → granted_file d ≡ Some g
      → (granted_file d ≡ Some load.file)
      × ((m : List Event) × (before ≡ m ++ grant_event who d grant ∷ q))
  grant_inside l q who d grant g is c e = at (on_file l (grant_event who d grant) q is c) where
    at : IsOn load.file (length q, grant_event who d grant)
        → (granted_file d ≡ Some load.file)
        × ((m : List Event) × (before ≡ m ++ grant_event who d grant ∷ q))
    at (inl h) = absurd (none-some g (sym (ap granted_file h.1) ∙ e))
    at (inr names) =
        let mine : granted_file d ≡ Some load.file = grant_named load.file g d names e in (
          mine,
          inside l (grant_event who d grant) q is
              (granted_alive i load.file q who d (told.Grant grant)
              (follows_there l (grant_event who d grant) q is).0 mine) (grant_closes g d e),
        )

  -- and admits it
  admitted : (l q : List Event) (who : Who) (d : Deed) (grant : Grant) (g : ℕ)
      → newest_first journal ≡ l ++ grant_event who d grant ∷ q
      → is_of_call n k (grant_event who d grant) ≡ true → granted_file d ≡ Some g
      → grant.admitted ≡ true
  admitted l q who d grant g is c e =
      let j = own_index l (grant_event who d grant) q is c in
      let passed : is_barred grant ≡ false = load.passed j.0 (length q, grant_event who d grant) j.1
      (of_call (grant_event who d grant) c).1 g grant e refl in
      let said : grant.admitted ≡ admits i.settings.mode grant.verdict =
      grant_admits i q who d grant g (follows_there l (grant_event who d grant) q is).0 e in
      said ∙ not_barred i.settings.mode grant.verdict
      (ap (λ (b : Bool). not b && is_denial grant.verdict) (sym said) ∙ passed)

  -- in mode enforce the file fits
  fitting : (u : IsUndisturbed i list load.file before) → i.settings.mode ≡ Enforce
      → (l q : List Event) (who : Who) (d : Deed) (grant : Grant) (g : ℕ)
      → newest_first journal ≡ l ++ grant_event who d grant ∷ q
      → is_of_call n k (grant_event who d grant) ≡ true → granted_file d ≡ Some g
      → (last_check g q).action.appraise ≡ true
      → (fits i (last_check g q).action q ≡ true) × (content q ≡ content before)
  fitting u mode l q who d grant g is c e appraises =
      let m = grant_inside l q who d grant g is c e in
      let same : load.file ≡ g = same_Some load.file g (sym m.0 ∙ e) in
      let here : Follows i q who d (told.Grant grant) =
      (follows_there l (grant_event who d grant) q is).0 in
      let place : load.file < length q = (lives i q (follows_there l (grant_event who d grant) q
      is).1 load.file (granted_alive i load.file q who d (told.Grant grant) here m.0)).0 in
      let decided = u.enforced mode m.1.0 q who d grant m.1.1 m.0
      (subst (λ (x : ℕ). (last_check x q).action.appraise ≡ true) (sym same) appraises) in (
        subst (λ (x : ℕ). fits i (last_check x q).action q ≡ true) same
            (sym decided.1 ∙ admitted l q who d grant g is c e),
        u.same (m.1.0 ++ grant_event who d grant ∷ []) q
            (m.1.1 ∙ sym (append_assoc m.1.0 (grant_event who d grant ∷ []) q)) place,
      )

  -- a grant whose check measures names a place
  measured : (u : IsUndisturbed i list load.file before) (l q : List Event) (who : Who) (d : Deed)
      (grant : Grant) (g : ℕ) → newest_first journal ≡ l ++ grant_event who d grant ∷ q
      → is_of_call n k (grant_event who d grant) ≡ true → granted_file d ≡ Some g
      → (last_check g q).action.measure ≡ true
      → (placed : Placed) × (grant.placed ≡ Some placed)
  measured u l q who d grant g is c e m =
      let mine = grant_inside l q who d grant g is c e in
      u.measured mine.1.0 q who d grant mine.1.1 mine.0
      (subst (λ (x : ℕ). (last_check x q).action.measure ≡ true)
      (same_Some g load.file (sym e ∙ mine.0)) m)

  -- the place of the call shows the content
  listed : (u : IsUndisturbed i list load.file before) (placed : Placed)
      → place_of_call n k journal ≡ Some placed
      → ShowsContent i list (content before) (place_of placed)
  listed u placed h =
      let f : NamesPlace n k journal placed = place_found n k journal placed h in
      let s : StandsAt (newest_first journal) f.place f.e = stands journal f.place f.e f.there in
      let g : IsGrant f.e.deed f.e.told placed = placed_grant f.e.deed f.e.told placed f.names in
      let same : f.e ≡ grant_event f.e.who f.e.deed g.grant =
      ap (λ (t : Told). record { who = f.e.who; deed = f.e.deed; told = t }) g.is in
      let is : newest_first journal ≡ s.later ++ grant_event f.e.who f.e.deed g.grant ∷ s.before =
      s.is ∙ ap (λ (e : Event). s.later ++ e ∷ s.before) same in
      let m = grant_inside s.later s.before f.e.who f.e.deed g.grant g.file is
      (subst (λ (e : Event). is_of_call n k e ≡ true) same f.of_call) g.of_file in
      u.listed m.1.0 s.before f.e.who f.e.deed g.grant placed m.1.1 m.0 g.names

  -- the read is sound
  read_soundly : IsListed i list (newest_first journal) → IsMeasuredPath Ima i.path
      → All IsNamed list → IsReadSoundly i list journal n k r
  read_soundly listing path kept = let u = undisturbed listing path kept in record {
    file = load.file;
    first = load.counted.step;
    counted = count_there;
    last = load.closed.step;
    later = closing.later;
    before = before;
    closed = closing.is ∙ ap
        (λ (t : Told). closing.later ++ call_event n k load.closed.step (deed.Close load.file) t
        ∷ before) dropped;
    within = within;
    undisturbed = u;
    replied = replied u;
    quiet = quiet u;
    answered = answered listing path kept u;
    measured = measured u;
    listed = listed u;
    admitted = admitted;
    fitting = fitting u;
  }

-- ---- the law

-- the outcomes of a task's own events are those that their deeds can have
own_told : (i : Inode) (n : ℕ) (journal : List Event) → EachFollows i (newest_first journal)
    → AreTold (events_of n journal)
own_told i n journal legal j x e =
    let s : StandsAt (newest_first journal) x.0 x.1 = stands journal x.0 x.1
    (own_there n journal j x.0 x.1 e) in
    told_there i s.before x.1.who x.1.deed x.1.told
    (follows_at i s.later (x.1 ∷ s.before)
    (subst (λ (l : List Event). EachFollows i l) s.is legal)).0

-- proof of `KernelReadsSoundly`
pub reads_soundly : KernelReadsSoundly
reads_soundly scene ending run shown forms n k i p c t r script_file journal at_p at_c reads at_t
    replied done at_s at_j =
    let inode : Inode = inode_of scene script_file in
    let legal : Legal (inode_of scene script_file) (newest_first journal) =
    journal_has (λ (j : Journal). Legal j.inode j.events) scene scene.script_files run.journals i
    script_file journal shown.legal at_s at_j in
    let listed : IsListed (inode_of scene script_file) run.list (newest_first journal) =
    journal_has (λ (j : Journal). IsListed j.inode run.list j.events) scene scene.script_files
    run.journals i script_file journal shown.merged.listed at_s at_j in
    let stood : Stood scene run (inode_of scene script_file) (newest_first journal) = record {
      number = i;
      script_file = script_file;
      journal = journal;
      at = at_s;
      journal_at = at_j;
      inode_is = refl;
      later = [];
      is = refl;
      born = legal.0;
    } in
    let served : IsServed scene run n p t = shown.served.tasks n p t at_p at_t in
    let same : events_of n journal ≡ own (mode_of scene) n p i served.history =
    served.events i journal at_j in
    let load : HasLoaded n k r (events_of n journal) =
    subst (λ (xs : List (ℕ × Event)). HasLoaded n k r xs) (sym same)
    (loaded (mode_of scene) n p i k c served.history r at_c reads
    (subst AreTold same (own_told (inode_of scene script_file) n journal legal.1))
    (ap (λ (u : Position). slice_get u.replies k) served.stands ∙ replied) done) in
    read_soundly (inode_of scene script_file) run.list journal n k r legal.1 load listed
    (path_there scene run (inode_of scene script_file) (newest_first journal) forms stood)
    (list_named scene ending run forms shown)
