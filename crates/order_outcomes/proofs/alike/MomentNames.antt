-- What a task makes next if its files have other names: the same step on the file's other name.
use Rattle.std.proofs.Common.{◌≡◌, ℕ, ◌+◌, ◌==◌, Bool, true, false, ◌&&◌, nat_le, List, [], ◌∷◌, map, Option, Some, None, is_none, option_map, option_and_then, unwrap_or, if◌then◌else◌, refl, ap, sym, ◌∙◌}
use Rattle.std.proofs.lemmas.Bool.{and_from, eq-eqb, eqb-true, or_left, or_right}
use Rattle.std.proofs.lemmas.Option.{none-some, same_Some}
use Rattle.report_text.specs.model.steps.Handles.{hand_of, handle_of, held_by, is_free_for, name_made, name_used, names_of, same_name}
use Rattle.report_text.specs.model.steps.CallState.{CallState, Progress, begun, file_of, how_held, inode_of, progress_of}
use Rattle.report_text.specs.model.steps.Steps.{first}
use Rattle.report_text.specs.model.steps.declared.call.Call.{Call}
use Rattle.report_text.specs.model.steps.declared.call.Call.TheVariants as call
use Rattle.report_text.specs.model.steps.declared.held.Hand.{Hand}
use Rattle.report_text.specs.model.steps.declared.held.Handle.{Handle}
use Rattle.report_text.specs.model.steps.declared.held.Held.{Held}
use Rattle.report_text.specs.model.steps.declared.held.Name.{Name}
use Rattle.order_outcomes.specs.alike.Names.{Naming, call_state_named, handle_named, in_handles, progress_named}

-- different files that are used have different names, and a file without a name keeps it so
pub record KeepsApart (r : Naming) (used : ℕ → ℕ → Bool) : Type 0 where
  pub none : (i : ℕ) → r i 0 ≡ 0
  pub zero : (i : ℕ) → used i 0 ≡ true
  pub apart : (i f g : ℕ) → used i f ≡ true → used i g ≡ true → (r i f == r i g) ≡ (f == g)

-- the files of all these handles are used
abbrev pub AreUsed : (ℕ → ℕ → Bool) → List Handle → Type 0
AreUsed used hs = (i file : ℕ) → in_handles i file hs ≡ true → used i file ≡ true

-- a file that is held, and what a task holds, under other names
abbrev pub held_named : Naming → Held → Held
held_named r h = record h { file = r h.inode h.file }

abbrev pub hand_named : Naming → Hand → Hand
hand_named r h = record h { held = option_map (held_named r) h.held }

-- ---- the handle of a name

-- a handle that is chosen before or after it is named
chosen : (r : Naming) (b : Bool) (h : Handle) (o : Option Handle)
    → (if b then Some (handle_named r h) else option_map (handle_named r) o)
    ≡ option_map (handle_named r) (if b then Some h else o)
chosen r true h o = refl
chosen r false h o = refl

-- the handle of a name has the file's other name
pub handle_of-named : (r : Naming) (n : Name) (hs : List Handle)
    → handle_of n (map (handle_named r) hs) ≡ option_map (handle_named r) (handle_of n hs)
handle_of-named r n [] = refl
handle_of-named r n (h ∷ hs) =
    ap (λ (o : Option Handle). if same_name n h.name then Some (handle_named r h) else o)
    (handle_of-named r n hs)
    ∙ chosen r (same_name n h.name) h (handle_of n hs)

-- whether there is one doesn't depend on the name of its file
none_named : (r : Naming) (o : Option Handle)
    → is_none (option_map (handle_named r) o) ≡ is_none o
none_named r None = refl
none_named r (Some h) = refl

-- and so a name is free or not
pub is_free-named : (r : Naming) (o : Option Name) (hs : List Handle)
    → is_free_for o (map (handle_named r) hs) ≡ is_free_for o hs
is_free-named r None hs = refl
is_free-named r (Some n) hs = ap is_none (handle_of-named r n hs) ∙ none_named r (handle_of n hs)

-- the first of these handles is used
pub first_used : (used : ℕ → ℕ → Bool) (h : Handle) (hs : List Handle) → AreUsed used (h ∷ hs)
    → used h.inode h.file ≡ true
first_used used h hs all =
    all h.inode h.file (or_left (h.inode == h.inode && h.file == h.file)
    (in_handles h.inode h.file hs)
    (and_from (h.inode == h.inode) (h.file == h.file) (eq-eqb h.inode h.inode refl)
    (eq-eqb h.file h.file refl)))

-- and so are the others
pub rest_used : (used : ℕ → ℕ → Bool) (h : Handle) (hs : List Handle) → AreUsed used (h ∷ hs)
    → AreUsed used hs
rest_used used h hs all i file is =
    all i file (or_right (h.inode == i && h.file == file) (in_handles i file hs) is)

-- ---- the number of a file's names

module _ (r : Naming) (used : ℕ → ℕ → Bool) (keeps : KeepsApart r used) where
  -- a used file is the same one under its other name
  same_file : (k f i g : ℕ) → used k f ≡ true → used i g ≡ true
      → (k == i && r k f == r i g) ≡ (k == i && f == g)
  same_file k f i g is is2 = by (k == i) refl
    where
      by : (b : Bool) → (k == i) ≡ b → (b && r k f == r i g) ≡ (b && f == g)
      by false e = refl
      by true e =
          let ki = eqb-true k i e in
          ap (λ (j : ℕ). r k f == r j g) (sym ki)
          ∙ keeps.apart k f g is (ap (λ (j : ℕ). used j g) ki ∙ is2)

  -- the file has as many names
  pub names_of-named : (i g : ℕ) → used i g ≡ true → (hs : List Handle) → AreUsed used hs
      → names_of i (r i g) (map (handle_named r) hs) ≡ names_of i g hs
  names_of-named i g is [] all = refl
  names_of-named i g is (h ∷ hs) all =
      let rest = names_of-named i g is hs (rest_used used h hs all) in
      let same = same_file h.inode h.file i g (first_used used h hs all) is in
      λ j. if same j then 1 + rest j else rest j

  -- a handle with a name that is found among these is used
  found_used : (n : Name) (hs : List Handle) → AreUsed used hs → (h : Handle)
      → handle_of n hs ≡ Some h → used h.inode h.file ≡ true
  found_used n [] all h e = absurd (none-some h e)
  found_used n (k ∷ hs) all h e =
      by (same_name n k.name) (found_used n hs (rest_used used k hs all) h) e
    where
      by : (b : Bool) → (handle_of n hs ≡ Some h → used h.inode h.file ≡ true)
          → (if b then Some k else handle_of n hs) ≡ Some h → used h.inode h.file ≡ true
      by true rest at =
          ap (λ (x : Handle). used x.inode x.file) (sym (same_Some k h at))
          ∙ first_used used k hs all
      by false rest at = rest at

  -- ---- the file that a call uses

  -- the file of a handle, as a call sees it, has the other name
  held_by-named : (hs : List Handle) → AreUsed used hs → (h : Handle)
      → used h.inode h.file ≡ true
      → held_by (map (handle_named r) hs) (handle_named r h) ≡ held_named r (held_by hs h)
  held_by-named hs all h is =
      let names = names_of-named h.inode h.file is hs all in
      λ j. record {
        inode = h.inode;
        file = r h.inode h.file;
        how = h.how;
        last = nat_le (names j) 1;
      }

  -- and so has that of a handle that is found
  held_found : (hs : List Handle) → AreUsed used hs → (o : Option Handle)
      → ((h : Handle) → o ≡ Some h → used h.inode h.file ≡ true)
      → option_map (held_by (map (handle_named r) hs)) (option_map (handle_named r) o)
      ≡ option_map (held_named r) (option_map (held_by hs) o)
  held_found hs all None found = refl
  held_found hs all (Some h) found = ap Some (held_by-named hs all h (found h refl))

  -- the file of this name, as a call sees it
  abbrev held_in : List Handle → Option Name → Option Held
  held_in hs o = option_map (held_by hs) (option_and_then (λ n. handle_of n hs) o)

  -- it has the other name
  pub held_in-named : (hs : List Handle) → AreUsed used hs → (o : Option Name)
      → held_in (map (handle_named r) hs) o ≡ option_map (held_named r) (held_in hs o)
  held_in-named hs all None = refl
  held_in-named hs all (Some n) =
      ap (option_map (held_by (map (handle_named r) hs))) (handle_of-named r n hs)
      ∙ held_found hs all (handle_of n hs) (found_used n hs all)

  -- what the task holds has the other names
  pub hand_of-named : (admin : Bool) (hs : List Handle) → AreUsed used hs → (c : Call)
      → hand_of admin (map (handle_named r) hs) c ≡ hand_named r (hand_of admin hs c)
  hand_of-named admin hs all c =
      let held = held_in-named hs all (name_used c) in
      let free = is_free-named r (name_made c) hs in
      λ j. record { held = held j; free = free j; admin = admin }

  -- the file that a call uses is used
  held_in-used : (hs : List Handle) → AreUsed used hs → (o : Option Name) (h : Held)
      → held_in hs o ≡ Some h → used h.inode h.file ≡ true
  held_in-used hs all None h e = absurd (none-some h e)
  held_in-used hs all (Some n) h e = by (handle_of n hs) (found_used n hs all) e
    where
      by : (o : Option Handle) → ((k : Handle) → o ≡ Some k → used k.inode k.file ≡ true)
          → option_map (held_by hs) o ≡ Some h → used h.inode h.file ≡ true
      by None found at = absurd (none-some h at)
      by (Some k) found at =
          ap (λ (x : Held). used x.inode x.file) (sym (same_Some (held_by hs k) h at))
          ∙ found k refl

  -- ---- how a call begins

  -- its first step doesn't depend on the name of the file
  first_named : (c : Call) (h : Held) (free admin : Bool)
      → first c (record { held = Some (held_named r h); free = free; admin = admin })
      ≡ first c (record { held = Some h; free = free; admin = admin })
  first_named (call.Open fd inode how trunc) h free admin = refl
  first_named _ h free admin = refl

  -- nor does the inode on which it acts
  inode_named : (c : Call) (h : Held) → inode_of c (Some (held_named r h)) ≡ inode_of c (Some h)
  inode_named (call.Open fd inode how trunc) h = refl
  inode_named _ h = refl

  -- a call that uses a file acts on its inode
  inode_held : (c : Call) (hs : List Handle) (h : Held) → held_in hs (name_used c) ≡ Some h
      → inode_of c (Some h) ≡ h.inode
  inode_held (call.Open fd inode how trunc) hs h e = absurd (none-some h e)
  inode_held (call.Exec run inode) hs h e = absurd (none-some h e)
  inode_held (call.SetAttr inode name value) hs h e = absurd (none-some h e)
  inode_held (call.SetMeta inode change) hs h e = absurd (none-some h e)
  inode_held (call.Module inode) hs h e = absurd (none-some h e)
  inode_held (call.Firmware inode) hs h e = absurd (none-some h e)
  inode_held _ hs h e = refl

  -- how the call begins, by what the task holds
  abbrev begun_by : Call → Hand → Progress
  begun_by c hand = record {
    due = first c hand;
    step = 0;
    inode = inode_of c hand.held;
    file = file_of hand.held;
    how = how_held c hand.held;
  }

  -- with the file's other name it begins with that name
  begun_by-named : (c : Call) (o : Option Held) (free admin : Bool)
      → ((h : Held) → o ≡ Some h → inode_of c (Some h) ≡ h.inode)
      → begun_by c (record {
        held = option_map (held_named r) o;
        free = free;
        admin = admin;
      })
      ≡ progress_named r (begun_by c (record { held = o; free = free; admin = admin }))
  begun_by-named c None free admin on = λ j. record {
    due = first c (record { held = None; free = free; admin = admin });
    step = 0;
    inode = inode_of c None;
    file = sym (keeps.none (inode_of c None)) j;
    how = how_held c None;
  }
  begun_by-named c (Some h) free admin on =
      let due = first_named c h free admin in
      let inode = inode_named c h in
      let file = ap (λ (i : ℕ). r i h.file) (sym (on h refl)) in
      λ j. record {
        due = due j;
        step = 0;
        inode = inode j;
        file = file j;
        how = h.how;
      }

  -- the file with which it begins is used
  begun_by-used : (c : Call) (o : Option Held) (free admin : Bool)
      → ((h : Held) → o ≡ Some h → inode_of c (Some h) ≡ h.inode)
      → ((h : Held) → o ≡ Some h → used h.inode h.file ≡ true)
      → used (inode_of c o) (file_of o) ≡ true
  begun_by-used c None free admin on is = keeps.zero (inode_of c None)
  begun_by-used c (Some h) free admin on is =
      ap (λ (i : ℕ). used i h.file) (on h refl) ∙ is h refl

  -- ---- the present call

  -- its progress has the file's other name
  pub progress_of-named : (admin : Bool) (c : Call) (m : CallState) → AreUsed used m.handles
      → progress_of admin c (call_state_named r m) ≡ progress_named r (progress_of admin c m)
  progress_of-named admin c m all = by m.progress
    where
      by : (o : Option Progress)
          → unwrap_or (option_map (progress_named r) o)
          (begun admin (map (handle_named r) m.handles) c)
          ≡ progress_named r (unwrap_or o (begun admin m.handles c))
      by (Some g) = refl
      by None =
          let hand = hand_of admin m.handles c in
          ap (begun_by c) (hand_of-named admin m.handles all c)
          ∙ begun_by-named c hand.held hand.free admin (inode_held c m.handles)

  -- its file is used
  pub progress_of-used : (admin : Bool) (c : Call) (m : CallState) → AreUsed used m.handles
      → ((g : Progress) → m.progress ≡ Some g → used g.inode g.file ≡ true)
      → used (progress_of admin c m).inode (progress_of admin c m).file ≡ true
  progress_of-used admin c m all present = by m.progress present
    where
      by : (o : Option Progress) → ((g : Progress) → o ≡ Some g → used g.inode g.file ≡ true)
          → used (unwrap_or o (begun admin m.handles c)).inode
          (unwrap_or o (begun admin m.handles c)).file ≡ true
      by (Some g) is = is g refl
      by None is =
          let hand = hand_of admin m.handles c in
          begun_by-used c hand.held hand.free admin (inode_held c m.handles)
          (held_in-used m.handles all (name_used c))
