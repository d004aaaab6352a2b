-- The step of a task whose files have other names, and what the task is after it.
use Rattle.std.proofs.Common.{◌≡◌, ℕ, ◌+◌, ◌==◌, ◌⊎◌, Bool, true, false, ◌&&◌, ◌||◌, List, [], ◌∷◌, ◌++◌, map, Option, Some, None, if◌then◌else◌, refl, ap, sym, ◌∙◌, inl, inr, ⊎_elim}
use Rattle.std.proofs.lemmas.Bool.{and_parts, eqb-true, or_cases, or_left, true≢false}
use Rattle.std.proofs.Math.Bool.{or-false}
use Rattle.std.proofs.lemmas.List.{map-append}
use Rattle.std.proofs.lemmas.List.Folds.{list_any-append}
use Rattle.report_text.specs.model.steps.Handles.{name_ended, name_made, same_name, without}
use Rattle.report_text.specs.model.steps.CallState.{CallState, Progress, Step, deed_of, file_after, handle_made, handles_after, handles_left, is_done, moved, plain_step, step_by}
use Rattle.report_text.specs.model.steps.CallState.{Nothing, Does, Checks, Signals, Appends}
use Rattle.report_text.specs.model.steps.declared.ask.Ask.{Ask}
use Rattle.report_text.specs.model.steps.declared.ask.Ask.TheVariants as ask
use Rattle.report_text.specs.model.steps.declared.call.Call.{Call}
use Rattle.report_text.specs.model.steps.declared.call.Call.TheVariants as call
use Rattle.report_text.specs.model.steps.declared.due.Due.{Due}
use Rattle.report_text.specs.model.steps.declared.due.Next.{Next}
use Rattle.report_text.specs.model.steps.declared.due.Next.TheVariants.{On, Over}
use Rattle.report_text.specs.model.steps.declared.held.Handle.{Handle}
use Rattle.report_text.specs.model.steps.declared.held.Name.{Name}
use Rattle.report_text.specs.model.steps.declared.reply.Reply.{Reply}
use Rattle.order_outcomes.specs.alike.Names.{Naming, call_state_named, handle_named, in_handles, in_progress, progress_named}
use Rattle.order_outcomes.proofs.alike.InodeLaws.{IsUsed, deed_named, file_in}
use Rattle.order_outcomes.proofs.alike.MomentNames.{AreUsed, rest_used}

-- ---- the step

-- the step on the file's other name
abbrev pub step_named : Naming → Step → Step
step_named r Nothing = Nothing
step_named r (Does i d) = Does i (deed_named (r i) d)
step_named r (Checks i file func mask) = Checks i (r i file) func mask
step_named r (Signals d) = Signals d
step_named r (Appends rule) = Appends rule

-- the deed of a write or a change has the other name
deed_of-named : (r : ℕ → ℕ) (admin : Bool) (c : Call) (file : ℕ)
    → deed_of admin c (r file) ≡ deed_named r (deed_of admin c file)
deed_of-named r admin (call.Write fd from bytes) file = refl
deed_of-named r admin (call.SetAttr inode name value) file = refl
deed_of-named r admin (call.SetMeta inode change) file = refl
deed_of-named r admin _ file = refl

-- a step without an event has no file
plain_step-named : (r : Naming) (admin : Bool) (c : Call)
    → plain_step admin c ≡ step_named r (plain_step admin c)
plain_step-named r admin (call.Post sem) = refl
plain_step-named r admin (call.Wait sem) = refl
plain_step-named r true (call.AddRule rule) = refl
plain_step-named r false (call.AddRule rule) = refl
plain_step-named r admin _ = refl

-- a call whose file has another name makes the step on that name
pub step_by-named : (r : Naming) (admin : Bool) (c : Call) (g : Progress) (k : Ask)
    → step_by admin c (progress_named r g) k ≡ step_named r (step_by admin c g k)
step_by-named r admin c g ask.Write =
    ap (Does g.inode) (deed_of-named (r g.inode) admin c g.file)
step_by-named r admin c g ask.SetAttr =
    ap (Does g.inode) (deed_of-named (r g.inode) admin c g.file)
step_by-named r admin c g ask.SetMeta =
    ap (Does g.inode) (deed_of-named (r g.inode) admin c g.file)
step_by-named r admin c g ask.Plain = plain_step-named r admin c
step_by-named r admin c g _ = refl

-- ---- the file of the step

-- the deed of a write or a change names the file of its call
pub deed_of-used : (used : ℕ → Bool) (admin : Bool) (c : Call) (file : ℕ) → used file ≡ true
    → IsUsed used (file_in (deed_of admin c file))
deed_of-used used admin (call.Write fd from bytes) file is = is
deed_of-used used admin (call.SetAttr inode name value) file is = tt
deed_of-used used admin (call.SetMeta inode change) file is = tt
deed_of-used used admin _ file is = tt

-- ---- the files that a call makes or ends

-- a name ends in the same way whatever the files are called
left_named : (r : Naming) (n : Name) (hs : List Handle)
    → without n (map (handle_named r) hs) ≡ map (handle_named r) (without n hs)
left_named r n [] = refl
left_named r n (h ∷ hs) =
    ap (λ (l : List Handle).
    if same_name n h.name then map (handle_named r) hs else handle_named r h ∷ l)
    (left_named r n hs)
    ∙ by (same_name n h.name)
  where
    by : (b : Bool)
        → (if b then map (handle_named r) hs
        else handle_named r h ∷ map (handle_named r) (without n hs))
        ≡ map (handle_named r) (if b then hs else h ∷ without n hs)
    by true = refl
    by false = refl

-- and so it does if the call ends one
handles_left-named : (r : Naming) (o : Option Name) (hs : List Handle)
    → handles_left o (map (handle_named r) hs) ≡ map (handle_named r) (handles_left o hs)
handles_left-named r None hs = refl
handles_left-named r (Some n) hs = left_named r n hs

-- a handle that is made has the other name
handle_made-named : (r : Naming) (o : Option Name) (g : Progress)
    → handle_made o (progress_named r g) ≡ map (handle_named r) (handle_made o g)
handle_made-named r None g = refl
handle_made-named r (Some n) g = refl

-- an answered call leaves the handles with the other names
handles_after-named : (r : Naming) (c : Call) (g : Progress) (rep : Reply) (hs : List Handle)
    → handles_after c (progress_named r g) rep (map (handle_named r) hs)
    ≡ map (handle_named r) (handles_after c g rep hs)
handles_after-named r c g rep hs = by (is_done rep)
  where
    by : (b : Bool)
        → (if b then handles_left (name_ended c) (map (handle_named r) hs)
        ++ handle_made (name_made c) (progress_named r g) else map (handle_named r) hs)
        ≡ map (handle_named r) (if b then handles_left (name_ended c) hs
        ++ handle_made (name_made c) g else hs)
    by false = refl
    by true =
        let left = handles_left-named r (name_ended c) hs in
        let made = handle_made-named r (name_made c) g in
        (λ j. left j ++ made j)
        ∙ sym (map-append (handle_named r) (handles_left (name_ended c) hs)
        (handle_made (name_made c) g))

-- ---- after the step

-- the task with other names of its files, and its reply
abbrev pub after_named : Naming → CallState × Option Reply → CallState × Option Reply
after_named r x = (call_state_named r x.0, x.1)

-- If the files of the task have names r before the step and r2 after it, so has the task
pub moved_named : (r r2 : Naming) (c : Call) (m : CallState) (g : Progress) (place place2 : ℕ)
    (next : Next)
    → map (handle_named r) m.handles ≡ map (handle_named r2) m.handles
    → r g.inode g.file ≡ r2 g.inode g.file
    → file_after g.due.ask place2 (r g.inode g.file)
    ≡ r2 g.inode (file_after g.due.ask place g.file)
    → moved c (call_state_named r m) (progress_named r g) place2 next
    ≡ after_named r2 (moved c m g place next)
moved_named r r2 c m g place place2 (On s) hs same file = λ j. (
  record {
    at = m.at;
    progress = Some (record {
      due = s;
      step = g.step + 1;
      inode = g.inode;
      file = file j;
      how = g.how;
    });
    handles = hs j;
  },
  None,
)
moved_named r r2 c m g place place2 (Over rep) hs same file =
    let renamed : handles_after c (progress_named r g) rep (map (handle_named r) m.handles)
    ≡ handles_after c (progress_named r2 g) rep (map (handle_named r2) m.handles)
    = λ j. handles_after c (record g { file = same j }) rep (hs j) in
    let left = renamed ∙ handles_after-named r2 c g rep m.handles in
    λ j. (record { at = m.at + 1; progress = None; handles = left j }, Some rep)

-- ---- the files after the step

-- the step counts a file
abbrev pub IsNew : Ask → Next → Progress → ℕ → ℕ → ℕ → Type 0
IsNew ask.Count (On s) g place i file = (i ≡ g.inode) × (file ≡ place)
IsNew _ _ g place i file = ⊥

module _ (used : ℕ → ℕ → Bool) where
  -- a name that ends leaves no other file
  without_used : (n : Name) (hs : List Handle) → AreUsed used hs → AreUsed used (without n hs)
  without_used n [] all = all
  without_used n (h ∷ hs) all =
      by (same_name n h.name) (without_used n hs (rest_used used h hs all))
    where
      by : (b : Bool) → AreUsed used (without n hs)
          → AreUsed used (if b then hs else h ∷ without n hs)
      by true rest i file is = rest_used used h hs all i file is
      by false rest i file is =
          ⊎_elim (λ here. all i file (or_left (h.inode == i && h.file == file)
          (in_handles i file hs) here)) (rest i file)
          (or_cases (h.inode == i && h.file == file) (in_handles i file (without n hs)) is)

  -- nor does a call that ends one
  handles_left-used : (o : Option Name) (hs : List Handle) → AreUsed used hs
      → AreUsed used (handles_left o hs)
  handles_left-used None hs all = all
  handles_left-used (Some n) hs all = without_used n hs all

  -- a file of this inode, by the tests
  at_file : (i file k f : ℕ) → used k f ≡ true → (k == i && f == file) ≡ true
      → used i file ≡ true
  at_file i file k f is both =
      let parts = and_parts (k == i) (f == file) both in
      sym (λ j. used (eqb-true k i parts.0 j) (eqb-true f file parts.1 j)) ∙ is

  -- the file of a handle that is made is the call's
  handle_made-used : (o : Option Name) (g : Progress) → used g.inode g.file ≡ true
      → AreUsed used (handle_made o g)
  handle_made-used None g is i file at = absurd (true≢false (sym at))
  handle_made-used (Some n) g is i file at =
      at_file i file g.inode g.file is (sym (or-false (g.inode == i && g.file == file)) ∙ at)

  -- after the call all files of handles are used
  handles_after-used : (c : Call) (g : Progress) (rep : Reply) (hs : List Handle)
      → AreUsed used hs → used g.inode g.file ≡ true → AreUsed used (handles_after c g rep hs)
  handles_after-used c g rep hs all is = by (is_done rep)
    where
      by : (b : Bool) → AreUsed used (if b then handles_left (name_ended c) hs
          ++ handle_made (name_made c) g else hs)
      by false i file at = all i file at
      by true i file at =
          let left = handles_left (name_ended c) hs in
          let made = handle_made (name_made c) g in
          let test = λ (h : Handle). h.inode == i && h.file == file in
          ⊎_elim (handles_left-used (name_ended c) hs all i file)
          (handle_made-used (name_made c) g is i file)
          (or_cases (in_handles i file left) (in_handles i file made)
          (sym (list_any-append test left made) ∙ at))

  -- the file of the call after the step
  progress_used : (g : Progress) (k : Ask) (s : Due) (place i file : ℕ)
      → used g.inode g.file ≡ true
      → (g.inode == i && file_after k place g.file == file) ≡ true
      → (used i file ≡ true) ⊎ IsNew k (On s) g place i file
  progress_used g ask.Count s place i file is at =
      let parts = and_parts (g.inode == i) (place == file) at in
      inr (sym (eqb-true g.inode i parts.0), sym (eqb-true place file parts.1))
  progress_used g _ s place i file is at = inl (at_file i file g.inode g.file is at)

  -- each file of the task after its step was used, or the step has counted it
  pub moved_used : (c : Call) (m : CallState) (g : Progress) (place : ℕ) (next : Next)
      → AreUsed used m.handles → used g.inode g.file ≡ true → (i file : ℕ)
      → (in_progress i file (moved c m g place next).0.progress
      || in_handles i file (moved c m g place next).0.handles) ≡ true
      → (used i file ≡ true) ⊎ IsNew g.due.ask next g place i file
  moved_used c m g place (On s) all is i file has =
      ⊎_elim (progress_used g g.due.ask s place i file is) (λ at. inl (all i file at))
      (or_cases (g.inode == i && file_after g.due.ask place g.file == file)
      (in_handles i file m.handles) has)
  moved_used c m g place (Over rep) all is i file has =
      inl (handles_after-used c g rep m.handles all is i file has)
