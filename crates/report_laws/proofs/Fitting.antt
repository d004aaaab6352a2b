-- Each run shown by a script fits the words of a report.
use Rattle.std.proofs.Common.{◌≡◌, ℕ, suc, ◌+◌, ◌<◌, true, List, [], ◌∷◌, length, map, Some, refl, subst, arith}
use Rattle.std.specs.Prelude.{slice_get}
use Rattle.std.specs.List.{AllByRecursion}
use Rattle.std.proofs.lemmas.Bool.Decides.{nat_tests}
use Rattle.std.proofs.lemmas.List.Elements.{recursion_from_All}
use Rattle.text_forms.specs.Words.{is_clean, is_clean_byte}
use Rattle.ima_templates.proofs.DataLemmas.{IsNamed}
use Rattle.ima_templates.specs.Path.{IsGraphic, IsMeasuredPath}
use Rattle.ima_templates.specs.declared.entry.Entry.{Entry}
use Rattle.inode_meta.specs.declared.measurement.Template.TheVariants.{Ima}
use Rattle.inode_events.specs.Legal.{Legal}
use Rattle.inode_events.specs.Merged.{Journal}
use Rattle.inode_events.specs.NewestFirst.{newest_first}
use Rattle.inode_events.specs.declared.told.Event.{Event}
use Rattle.call_steps.specs.declared.ending.Ending.{Ending}
use Rattle.run_model.specs.EndedValue.{EndedTaskValue as EndedTask, ended_of, inodes_ended, tasks_ended}
use Rattle.run_model.specs.History.{Position, own}
use Rattle.run_model.specs.Scene.{Program, Scene, ScriptFile, inode_of, mode_of}
use Rattle.run_model.specs.Served.{IsServed, Run}
use Rattle.run_model.specs.Shown.{IsShown, journals_of}
use Rattle.run_laws.proofs.shown.Named.{list_named}
use Rattle.run_laws.proofs.shown.Sound.{journal_has}
use Rattle.report_text.specs.Ranges.{Fits, FitsInode, IsClean, IsDeed, IsReply}
use Rattle.report_laws.specs.Law.{HasNames}
use Rattle.report_laws.proofs.Attributes.{AreNamed, attributes_named}
use Rattle.report_laws.proofs.Made.{added_named, each_entry, each_from_past, each_past, journal_named}
use Rattle.report_laws.proofs.NoRules.{some_at}
use Rattle.report_laws.proofs.Replies.{IsToldReply, task_replies, told_replies}
use Rattle.inode_events.specs.Callers.{caller_of}

-- what holds at each place of a list holds of the list
each_from_places : {X : Type 0} (P : X → Type 0) (xs : List X)
    → ((i : ℕ) (x : X) → slice_get xs i ≡ Some x → P x) → AllByRecursion P xs
each_from_places P [] h = tt
each_from_places P (x ∷ xs) h = (h 0 x refl, each_from_places P xs (λ i y e. h (suc i) y e))

-- graphic bytes make a word
graphic_clean : (w : List ℕ) → AllByRecursion IsGraphic w → is_clean w ≡ true
graphic_clean [] h = refl
graphic_clean (b ∷ bs) h =
    let one : is_clean_byte b ≡ true = grind (arith, nat_tests, h.0.0, h.0.1) in
    rw one (graphic_clean bs h.1)

names_clean : (list : List Entry) → AllByRecursion IsNamed list
    → AllByRecursion (λ (x : Entry). IsClean x.name) list
names_clean [] h = tt
names_clean (x ∷ xs) h = (
  graphic_clean x.name (recursion_from_All IsGraphic x.name h.0.name_graphic),
  names_clean xs h.1,
)

inodes_fit : (scene : Scene) (ss : List ScriptFile) (js : List (List Event))
    → AllByRecursion (λ (s : ScriptFile). IsMeasuredPath Ima s.path) ss
    → AllByRecursion (λ (s : ScriptFile). AreNamed s.birth.attrs) ss
    → AllByRecursion (λ (j : Journal). Legal j.inode j.events) (journals_of scene ss js)
    → AllByRecursion (λ (j : List Event). AllByRecursion (λ (e : Event). IsDeed e.deed) j) js
    → AllByRecursion FitsInode (inodes_ended scene ss js)
inodes_fit scene [] js paths attrs legal deeds = tt
inodes_fit scene (s ∷ ss) [] paths attrs legal deeds = tt
inodes_fit scene (s ∷ ss) (j ∷ js) paths attrs legal deeds = (
  record {
    path = graphic_clean s.path (recursion_from_All IsGraphic s.path paths.0.graphic);
    deeds = deeds.0;
    attrs = attributes_named (inode_of scene s) (newest_first j) attrs.0 legal.0.1
        (each_past (λ (e : Event). IsDeed e.deed) j deeds.0);
  },
  inodes_fit scene ss js paths.1 attrs.1 legal.1 deeds.1,
)

tasks_fit : (ps : List Program) (ts : List Position)
    → ((n : ℕ) (p : Program) (t : Position) → slice_get ps n ≡ Some p → slice_get ts n ≡ Some t
    → AllByRecursion IsReply t.replies)
    → AllByRecursion (λ (t : EndedTask). AllByRecursion IsReply t.replies) (tasks_ended ps ts)
tasks_fit [] ts h = tt
tasks_fit (p ∷ ps) [] h = tt
tasks_fit (p ∷ ps) (t ∷ ts) h =
    (h 0 p t refl refl, tasks_fit ps ts (λ n q u ep et. h (suc n) q u ep et))

module _ (scene : Scene) (ending : Ending) (run : Run) (names : HasNames scene)
    (shown : IsShown scene ending run) where
  -- the events of a task have replies that can be read back
  own_replies : (n : ℕ) (p : Program) (t : Position) (task : IsServed scene run n p t) (i : ℕ)
      → i < length scene.script_files
      → AllByRecursion (λ (y : ℕ × Event). IsToldReply y.1.told)
      (own (mode_of scene) n p i task.history)
  own_replies n p t task i below =
      let s = some_at scene.script_files i below in
      let j = some_at run.journals i (omega (arith, below, shown.served.journals)) in
      let legal : Legal (inode_of scene s.0) (newest_first j.0) =
      journal_has (λ (x : Journal). Legal x.inode x.events) scene scene.script_files run.journals i
      s.0 j.0 shown.legal s.1 j.1 in
      subst (λ (l : List (ℕ × Event)). AllByRecursion (λ (y : ℕ × Event). IsToldReply y.1.told) l)
      (task.events i j.0 j.1)
      (each_entry (λ (e : Event). IsToldReply e.told) (n + 1) 0 (map caller_of j.0) j.0
      (each_from_past (λ (e : Event). IsToldReply e.told) j.0
      (told_replies (inode_of scene s.0) (newest_first j.0) legal.1)))

  replies_fit : (n : ℕ) (p : Program) (t : Position) → slice_get scene.programs n ≡ Some p
      → slice_get run.positions n ≡ Some t → AllByRecursion IsReply t.replies
  replies_fit n p t ep et =
      let task = shown.served.tasks n p t ep et in
      subst (λ (u : Position). AllByRecursion IsReply u.replies) task.stands
      (task_replies scene run n p task.history task.suited (own_replies n p t task))

  -- the run fits
  pub shown_fits : Fits (ended_of scene run)
  shown_fits = record {
    names = names_clean run.list (recursion_from_All IsNamed run.list
        (list_named scene ending run names.forms shown));
    rules = added_named scene run shown.served names.calls;
    inodes = inodes_fit scene scene.script_files run.journals
        (recursion_from_All (λ (s : ScriptFile). IsMeasuredPath Ima s.path) scene.script_files
        names.forms.paths) names.attrs
        (recursion_from_All (λ (j : Journal). Legal j.inode j.events)
        (journals_of scene scene.script_files run.journals) shown.legal)
        (each_from_places (λ (j : List Event). AllByRecursion (λ (e : Event). IsDeed e.deed) j)
        run.journals (journal_named scene run shown.served names.calls));
    replies = tasks_fit scene.programs run.positions replies_fit;
  }
