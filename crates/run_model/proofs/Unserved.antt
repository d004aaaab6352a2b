-- Runs of two tasks that aren't served, each for one reason: an event is missing, an event belongs
-- to no task, an event has the wrong Who, a check has the wrong action, or a check counts fewer
-- rules than its task appended.
use Rattle.std.proofs.Common.{◌≡◌, ℕ, ◌+◌, ◌≤◌, true, false, List, [], ◌∷◌, ◌++◌, Some, None, refl, ap, subst, sym, ◌∙◌, inl, inr, arith, max}
use Rattle.std.specs.Prelude.{◌⊎◌, All, take, slice_get}
use Rattle.std.proofs.lemmas.List.{append-nil}
use Rattle.std.proofs.lemmas.List.Elements.{All-contains}
use Rattle.std.proofs.lemmas.Option.{none-some, same_Some}
use mathlib.Core.List.{IsPrefix}
use Rattle.policy_cell.proofs.about_growing.Prefixes.{prefix_append, prefix_get, prefix_refl, prefix_trans}
use Rattle.inode_meta.specs.declared.appraisal.Mode.{Mode}
use Rattle.inode_meta.specs.declared.appraisal.Mode.TheVariants.{Off}
use Rattle.inode_meta.specs.declared.step.Who.{Who}
use Rattle.call_steps.specs.templates.Entries.{violation_of}
use Rattle.call_steps.specs.templates.declared.entry.Placed.TheVariants.{Added}
use Rattle.call_steps.specs.hashes.declared.algo.Algo.TheVariants.{Sha256}
use Rattle.inode_meta.specs.declared.measurement.Template.TheVariants.{ImaNg}
use Rattle.call_steps.specs.policy.declared.access.Action.{Action}
use Rattle.call_steps.specs.policy.declared.rule.Func.TheVariants.{FileCheck}
use Rattle.call_steps.specs.events.Callers.{caller_of}
use Rattle.call_steps.specs.events.Checks.{no_action}
use Rattle.call_steps.specs.events.NewestFirst.{newest_first}
use Rattle.call_steps.specs.events.State.{metadata}
use Rattle.call_steps.specs.events.declared.deed.Deed.{Deed}
use Rattle.call_steps.specs.events.declared.deed.Deed.TheVariants as deed
use Rattle.call_steps.specs.events.declared.deed.How.TheVariants as how
use Rattle.call_steps.specs.events.declared.told.Event.{Event}
use Rattle.call_steps.specs.events.declared.told.Told.TheVariants as told
use Rattle.call_steps.specs.declared.call.Call.TheVariants as call
use Rattle.call_steps.specs.declared.held.Name.TheVariants.{Descriptor}
use Rattle.call_steps.specs.declared.reply.Reply.TheVariants as reply
use Rattle.policy_cell.specs.declared.cell.RuleEntry.{RuleEntry}
use Rattle.run_model.specs.History.{Answer, Position, event_in, own, position, step_at, who_at}
use Rattle.run_model.specs.Scene.{Program, Scene, decided}
use Rattle.run_model.specs.Served.{AreSuited, IsDecided, IsServed, Run, Served}
use Rattle.run_model.proofs.Rows.{boot, did, entry, has_opened, has_written, measure, opened, reading, root, rule, scene_with, script_file, two, who, writing}

-- ---- the first answers of a history

-- the history has this answer right after its first ones
record GoesOn (h first : List Answer) : Type 0 where
  pub later : List Answer
  pub next : Answer
  pub is : h ≡ later ++ next ∷ first

-- a history that begins with these answers either ends there or goes on
further : (h later first : List Answer) → h ≡ later ++ first → (h ≡ first) ⊎ GoesOn h first
further h [] first e = inl e
further h (a ∷ later) first e = inr (at (further (later ++ first) later first refl)) where
  at : ((later ++ first) ≡ first) ⊎ GoesOn (later ++ first) first → GoesOn h first
  at (inl s) =
      record { later = []; next = a; is = e ∙ ap (λ (x : List Answer). a ∷ x) s }
  at (inr g) =
      record {
        later = a ∷ g.later;
        next = g.next;
        is = e ∙ ap (λ (x : List Answer). a ∷ x) g.is;
      }

-- the events of the first answers come first
own_begins : (mode : Mode) (n : ℕ) (p : Program) (i : ℕ) (later first : List Answer)
    → IsPrefix (own mode n p i first) (own mode n p i (later ++ first))
own_begins mode n p i [] first = prefix_refl (own mode n p i first)
own_begins mode n p i (a ∷ later) first =
    let m = (position mode p (later ++ first)).call_state in
    prefix_trans (own mode n p i first) (own mode n p i (later ++ first))
    (own mode n p i (later ++ first) ++ event_in i (who_at n p m) (step_at p m) a)
    (own_begins mode n p i later first)
    (prefix_append (own mode n p i (later ++ first)) (event_in i (who_at n p m) (step_at p m) a))

-- the first answers are suited too
suited_first : (scene : Scene) (run : Run) (p : Program) (later first : List Answer)
    → AreSuited scene run p (later ++ first) → AreSuited scene run p first
suited_first scene run p [] first s = s
suited_first scene run p (a ∷ later) first s = suited_first scene run p later first s.1

-- the answer right after the first ones makes this event
record Makes (h first : List Answer) (make : Answer → ℕ × Event) (x : ℕ × Event) : Type 0 where
  pub later : List Answer
  pub next : Answer
  pub is : h ≡ later ++ next ∷ first
  pub event : make next ≡ x

-- An event of task 1 in journal 0 that the first answers don't make is made by the next answer
makes : (p : Program) (h later first : List Answer) (k : ℕ) (make : Answer → ℕ × Event)
    (x : ℕ × Event) → h ≡ later ++ first
    → slice_get (own Off 1 p 0 h) k ≡ Some x → slice_get (own Off 1 p 0 first) k ≡ None
    → ((a : Answer) → slice_get (own Off 1 p 0 (a ∷ first)) k ≡ Some (make a))
    → Makes h first make x
makes p h later first k make x begins here none each = at (further h later first begins) where
  at : (h ≡ first) ⊎ GoesOn h first → Makes h first make x
  at (inl s) =
      absurd (none-some x
      (sym none ∙ ap (λ (l : List Answer). slice_get (own Off 1 p 0 l) k) (sym s) ∙ here))
  at (inr g) = record {
    later = g.later;
    next = g.next;
    is = g.is;
    event = same_Some (make g.next) x
        (sym (prefix_get (own Off 1 p 0 (g.next ∷ first))
        (own Off 1 p 0 (g.later ++ g.next ∷ first)) k
        (make g.next) (own_begins Off 1 p 0 g.later (g.next ∷ first)) (each g.next))
        ∙ ap (λ (l : List Answer). slice_get (own Off 1 p 0 l) k) (sym g.is) ∙ here);
  }

-- ---- the writer of the run in which a reader opens first

abbrev writer : Program
writer = record { cred = root; calls = writing ∷ [] }

-- the run, with these events, oldest first, after the reader's
abbrev run_with : List Event → Run
run_with events =
    record {
      journals = (opened (Added 1) ++ events) ∷ [];
      list = boot ∷ entry ∷ violation_of ImaNg Sha256 script_file.path ∷ [];
      added = [];
      positions = has_opened ∷ has_written ∷ [];
    }

-- the event that the writer's first answer makes
abbrev count : Answer → ℕ × Event
count a = (a.place, did (who 1 0 0) (deed.Count (how.Write false false)) a.told)

abbrev check : Answer → ℕ × Event
check a = (a.place, did (who 1 0 1) (deed.Check 6 FileCheck a.action a.rules) a.told)

abbrev counted : Event
counted = did (who 1 0 0) (deed.Count (how.Write false false)) told.Held

-- the writer's first answer
abbrev held : Action → ℕ → Answer
held action rules = record { place = 6; told = told.Held; action = action; rules = rules }

record Counts (h : List Answer) : Type 0 where
  pub later : List Answer
  pub action : Action
  pub rules : ℕ
  pub is : h ≡ later ++ held action rules ∷ []

-- if the writer's first event is the count of its file, that count was its first answer
counts : (h : List Answer) → slice_get (own Off 1 writer 0 h) 0 ≡ Some (6, counted) → Counts h
counts h here =
    at (makes writer h h [] 0 count (6, counted) (sym (append-nil h)) here refl (λ a. refl)) where
      at : Makes h [] count (6, counted) → Counts h
      at m =
          let place : m.next.place ≡ 6 = ap (λ (x : ℕ × Event). x.0) m.event in
          let said : m.next.told ≡ told.Held = ap (λ (x : ℕ × Event). x.1.told) m.event in
          record {
            later = m.later;
            action = m.next.action;
            rules = m.next.rules;
            is = m.is
                ∙ (λ i. m.later
                ++ record {
                  place = place i;
                  told = said i;
                  action = m.next.action;
                  rules = m.next.rules;
                } ∷ []);
          }

-- ---- an event is missing

abbrev left_out : Run
left_out = run_with (counted ∷ [])

-- the writer has its reply, but its check isn't in the journal
left_out_unserved : Served two left_out → ⊥
left_out_unserved served = at (served.tasks 1 writer has_written refl refl) where
  at : IsServed two left_out 1 writer has_written → ⊥
  at s = by (counts s.history (ap (λ (l : List (ℕ × Event)). slice_get l 0) (sym events))) where
    events : (6, counted) ∷ [] ≡ own Off 1 writer 0 s.history
    events = s.events 0 (opened (Added 1) ++ counted ∷ []) refl

    by : Counts s.history → ⊥
    by c = ends (further s.history c.later (held c.action c.rules ∷ []) c.is) where
      ends : (s.history ≡ held c.action c.rules ∷ [])
          ⊎ GoesOn s.history (held c.action c.rules ∷ []) → ⊥
      ends (inl e) =
          let none : [] ≡ reply.Done ∷ [] =
          ap (λ (h : List Answer). (position Off writer h).replies) (sym e)
          ∙ ap (λ (t : Position). t.replies) s.stands in
          cc
      ends (inr g) =
          none-some (check g.next)
          (ap (λ (l : List (ℕ × Event)). slice_get l 1) events
          ∙ ap (λ (h : List Answer). slice_get (own Off 1 writer 0 h) 1) g.is
          ∙ prefix_get (own Off 1 writer 0 (g.next ∷ held c.action c.rules ∷ []))
          (own Off 1 writer 0 (g.later ++ g.next ∷ held c.action c.rules ∷ [])) 1
          (check g.next) (own_begins Off 1 writer 0 g.later (g.next ∷ held c.action c.rules ∷ []))
          refl)

-- ---- an event belongs to no task

abbrev checked : Who → Action → Event
checked w action = did w (deed.Check 6 FileCheck action 1) (told.ToMToU 2)

-- a third task has opened the file
abbrev of_nobody : Event
of_nobody = did (who 2 0 0) (deed.Count (how.Read false)) told.Held

abbrev invented : Run
invented = run_with (counted ∷ checked (who 1 0 1) no_action ∷ of_nobody ∷ [])

-- there are only two tasks
invented_unserved : Served two invented → ⊥
invented_unserved served =
    let journal = opened (Added 1) ++ counted ∷ checked (who 1 0 1) no_action ∷ of_nobody ∷ [] in
    let all = All-contains (λ (j : List Event). All (λ (e : Event). caller_of e ≤ 2) j)
    (journal ∷ []) journal served.no_other_events (0, omega arith, refl) in
    let third : 3 ≤ 2 = All-contains (λ (e : Event). caller_of e ≤ 2) journal of_nobody
    all (8, omega arith, refl) in
    omega arith

-- ---- a wrong Who, and a wrong action

-- the writer's check, whatever its Who and action
record Checks (run : Run) (h : List Answer) (x : ℕ × Event) : Type 0 where
  pub action : Action
  pub rules : ℕ
  pub next : Answer
  pub event : check next ≡ x
  pub suited : AreSuited two run writer (next ∷ held action rules ∷ [])

-- the writer's second event is its check
checks : (e : Event) (s : IsServed two (run_with (counted ∷ e ∷ [])) 1 writer has_written)
    → ((6, counted) ∷ (7, e) ∷ []) ≡ own Off 1 writer 0 s.history
    → Checks (run_with (counted ∷ e ∷ [])) s.history (7, e)
checks e s events =
    at (counts s.history (ap (λ (l : List (ℕ × Event)). slice_get l 0) (sym events))) where
      at : Counts s.history → Checks (run_with (counted ∷ e ∷ [])) s.history (7, e)
      at c = by (makes writer s.history c.later (held c.action c.rules ∷ []) 1 check (7, e) c.is
          (ap (λ (l : List (ℕ × Event)). slice_get l 1) (sym events)) refl (λ a. refl)) where
            by : Makes s.history (held c.action c.rules ∷ []) check (7, e)
                → Checks (run_with (counted ∷ e ∷ [])) s.history (7, e)
            by m = record {
              action = c.action;
              rules = c.rules;
              next = m.next;
              event = m.event;
              suited = suited_first two (run_with (counted ∷ e ∷ [])) writer m.later
                  (m.next ∷ held c.action c.rules ∷ [])
                  (subst (λ (h : List Answer). AreSuited two (run_with (counted ∷ e ∷ [])) writer h)
                  m.is s.suited);
            }

abbrev misnamed : Run
misnamed = run_with (counted ∷ checked (who 1 0 2) no_action ∷ [])

-- the check is the second step of its call
misnamed_unserved : Served two misnamed → ⊥
misnamed_unserved served = at (served.tasks 1 writer has_written refl refl) where
  at : IsServed two misnamed 1 writer has_written → ⊥
  at s = by (checks (checked (who 1 0 2) no_action) s
      (s.events 0 (opened (Added 1) ++ counted ∷ checked (who 1 0 2) no_action ∷ []) refl)) where
        by : Checks misnamed s.history (7, checked (who 1 0 2) no_action) → ⊥
        by c =
            let step : ◌≡◌ {A = ℕ} 1 2 = ap (λ (x : ℕ × Event). x.1.who.step) c.event in
            absurd (omega arith)

abbrev misruled : Run
misruled = run_with (counted ∷ checked (who 1 0 1) measure ∷ [])

-- the action in a check's deed
abbrev action_in : Deed → Action
action_in (deed.Check file func action rules) = action
action_in d = no_action

abbrev rules_in : Deed → ℕ
rules_in (deed.Check file func action rules) = rules
rules_in d = 0

-- the rule measures only reads
misruled_unserved : Served two misruled → ⊥
unfolding newest_first
misruled_unserved served = at (served.tasks 1 writer has_written refl refl) where
  journal : List Event
  journal = opened (Added 1) ++ counted ∷ checked (who 1 0 1) measure ∷ []

  at : IsServed two misruled 1 writer has_written → ⊥
  at s = by (checks (checked (who 1 0 1) measure) s
      (s.events 0 (opened (Added 1) ++ counted ∷ checked (who 1 0 1) measure ∷ []) refl)) where
        by : Checks misruled s.history (7, checked (who 1 0 1) measure) → ⊥
        by c = decides c.suited.0 where
          decides : IsDecided two misruled writer 1 c.next 0 FileCheck 2 → ⊥
          decides d =
              let place : c.next.place ≡ 7 = ap (λ (x : ℕ × Event). x.0) c.event in
              let action : c.next.action ≡ measure =
              ap (λ (x : ℕ × Event). action_in x.1.deed) c.event in
              let rules : c.next.rules ≡ 1 = ap (λ (x : ℕ × Event). rules_in x.1.deed) c.event in
              let there : d.script_file ≡ script_file =
              sym (same_Some script_file d.script_file d.at) in
              let file : d.journal ≡ (opened (Added 1) ++ counted
              ∷ checked (who 1 0 1) measure ∷ []) =
              sym (same_Some (opened (Added 1) ++ counted ∷ checked (who 1 0 1) measure ∷ [])
              d.journal d.journal_at) in
              let decided_so : measure ≡ no_action =
              sym action ∙ d.action
              ∙ (λ i. decided (take (rules i) (rule ∷ [])) root (there i).place
              (metadata (newest_first (take (place i) (file i)))) FileCheck 2) in
              let measures : true ≡ false = ap (λ (a : Action). a.measure) decided_so in
              cc

-- ---- a check counts fewer rules than its task appended

-- an administrator, who appends a rule and then opens the file for writing
abbrev adder : Program
adder = record {
  cred = record { uid = 0; euid = 0; gid = 0; egid = 0; admin = true };
  calls = call.AddRule rule ∷ writing ∷ [];
}

abbrev adding : Scene
adding = scene_with (record { cred = root; calls = reading ∷ [] } ∷ adder ∷ [])

abbrev added : List RuleEntry
added = record { who = who 1 0 0; rule = rule } ∷ []

abbrev has_added : Position
has_added = record {
  call_state = record {
    at = 2;
    progress = None;
    handles = record {
      name = Descriptor 0;
      inode = 0;
      file = 6;
      how = how.Write false false;
    } ∷ [];
  };
  replies = reply.Done ∷ reply.Done ∷ [];
}

-- the adder's count
abbrev counted_next : Event
counted_next = did (who 1 1 0) (deed.Count (how.Write false false)) told.Held

abbrev checked_by : ℕ → Event
checked_by rules = did (who 1 1 1) (deed.Check 6 FileCheck no_action rules) (told.ToMToU 2)

abbrev count_next : Answer → ℕ × Event
count_next a = (a.place, did (who 1 1 0) (deed.Count (how.Write false false)) a.told)

abbrev check_next : Answer → ℕ × Event
check_next a = (a.place, did (who 1 1 1) (deed.Check 6 FileCheck a.action a.rules) a.told)

abbrev uncounted : Run
uncounted = record {
  journals = (opened (Added 1) ++ counted_next ∷ checked_by 1 ∷ []) ∷ [];
  list = boot ∷ entry ∷ violation_of ImaNg Sha256 script_file.path ∷ [];
  added = added;
  positions = has_opened ∷ has_added ∷ [];
}

-- the script's rule and the appended one make two
uncounted_unserved : Served adding uncounted → ⊥
uncounted_unserved served = at (served.tasks 1 adder has_added refl refl) where
  at : IsServed adding uncounted 1 adder has_added → ⊥
  at s = begins (further s.history s.history [] (sym (append-nil s.history))) where
    events : (6, counted_next) ∷ (7, checked_by 1) ∷ [] ≡ own Off 1 adder 0 s.history
    events = s.events 0 (opened (Added 1) ++ counted_next ∷ checked_by 1 ∷ []) refl

    begins : (s.history ≡ []) ⊎ GoesOn s.history [] → ⊥
    begins (inl e) =
        none-some (6, counted_next)
        (sym (ap (λ (h : List Answer). slice_get (own Off 1 adder 0 h) 0) e)
        ∙ ap (λ (l : List (ℕ × Event)). slice_get l 0) (sym events))
    begins (inr g) = appends (makes adder s.history g.later (g.next ∷ []) 0 count_next
        (6, counted_next) g.is (ap (λ (l : List (ℕ × Event)). slice_get l 0) (sym events)) refl
        (λ a. refl)) where
          appends : Makes s.history (g.next ∷ []) count_next (6, counted_next) → ⊥
          appends m = at_check (makes adder s.history m.later
              (held m.next.action m.next.rules ∷ g.next ∷ []) 1 check_next (7, checked_by 1)
              (m.is ∙ (λ i. m.later ++ record {
                place = place i;
                told = said i;
                action = m.next.action;
                rules = m.next.rules;
              } ∷ g.next ∷ []))
              (ap (λ (l : List (ℕ × Event)). slice_get l 1) (sym events)) refl (λ a. refl)) where
                place : m.next.place ≡ 6
                place = ap (λ (x : ℕ × Event). x.0) m.event

                said : m.next.told ≡ told.Held
                said = ap (λ (x : ℕ × Event). x.1.told) m.event

                at_check : Makes s.history (held m.next.action m.next.rules ∷ g.next ∷ [])
                    check_next
                    (7, checked_by 1) → ⊥
                at_check c = few (suited_first adding uncounted adder c.later
                    (c.next ∷ held m.next.action m.next.rules ∷ g.next ∷ [])
                    (subst (λ (h : List Answer). AreSuited adding uncounted adder h) c.is
                    s.suited)).0 where
                      few : IsDecided adding uncounted adder (max 1 (1 + g.next.place + 1)) c.next 0
                          FileCheck 2 → ⊥
                      few d =
                          let rules : c.next.rules
                          ≡ 1 = ap (λ (x : ℕ × Event). rules_in x.1.deed) c.event in
                          let known : max 1 (1 + g.next.place + 1) ≤ c.next.rules = d.known_rules in
                          omega arith
