-- The moments to which turns lead are sound: the first moment is alike to itself, and each turn
-- leads to one that is.
use Rattle.std.proofs.Common.{◌≡◌, ℕ, ◌<◌, ◌==◌, Bool, true, false, ◌||◌, List, [], ◌∷◌, length, map, get_or, Option, Some, None, option_map, slice_get, refl, ap, sym, subst, ◌∙◌, arith}
use Rattle.std.specs.List.{list_any}
use Rattle.std.proofs.lemmas.Bool.{eqb-true}
use Rattle.std.proofs.lemmas.List.Elements.{All-nil}
use Rattle.std.proofs.lemmas.Option.{get_or_from_slice_get, none-some, same_Some, slice_get-map}
use Rattle.order_outcomes.specs.Orders.{moved}
use Rattle.order_counts.specs.Layers.{BothOrNone}
use Rattle.order_counts.specs.Orders.{led}
use Rattle.report_text.specs.model.History.{Position, start}
use Rattle.report_text.specs.model.Scene.{Program, Scene, ScriptFile, inode_of}
use Rattle.report_text.specs.model.Turns.{Moment, newborn, start_of}
use Rattle.report_text.specs.model.events.Inode.{Inode}
use Rattle.report_text.specs.model.events.NewestFirst.{newest_first}
use Rattle.report_text.specs.model.events.declared.told.Event.{Event}
use Rattle.report_text.specs.model.events.templates.declared.entry.Entry.{Entry}
use Rattle.order_counts.proofs.Turns.{led-none}
use Rattle.order_outcomes.specs.alike.Alike.{AreSound, IsAlikeBy, IsInodeAlike, IsRenamed, IsSound}
use Rattle.order_outcomes.specs.alike.Laws.{ReachedAreSound}
use Rattle.order_outcomes.specs.alike.Names.{Naming, has_file, is_used, position_named}
use Rattle.order_outcomes.proofs.alike.InodeLaws.{InodeLaws}
use Rattle.order_outcomes.proofs.alike.InodeLists.{lists_itself}
use Rattle.order_outcomes.proofs.alike.MomentTasks.{turn_alike}

-- ---- the first moment

-- each file has its own name
abbrev pub own : Naming
own i file = file

-- tasks that haven't begun
abbrev pub starts : List Program → List Position
starts programs = map (λ (p : Program). start) programs

-- have no files
starts_named : (programs : List Program)
    → starts programs ≡ map (position_named own) (starts programs)
starts_named [] = refl
starts_named (p ∷ ps) = ap (λ (ts : List Position). start ∷ ts) (starts_named ps)

starts_unused : (i file : ℕ) (programs : List Program)
    → list_any (has_file i file) (starts programs) ≡ false
starts_unused i file [] = refl
starts_unused i file (p ∷ ps) = starts_unused i file ps

-- so only the name of files that aren't counted yet is used
pub start_used : (i file : ℕ) (programs : List Program) → is_used (starts programs) i file ≡ true
    → file ≡ 0
start_used i file programs u = at (file == 0) refl u where
  at : (b : Bool) → (file == 0) ≡ b
      → (b || list_any (has_file i file) (starts programs)) ≡ true → file ≡ 0
  at true e h = eqb-true file 0 e
  at false e h = let n = starts_unused i file programs in cc

-- a journal with a birth alone is sound
birth_sound : (inode : Inode) (list : List Entry) (s : ScriptFile)
    → IsSound inode list (newest_first (newborn s))
unfolding newest_first
birth_sound inode list s = record {
  files = λ file h. refl;
  collection = tt;
  digests = tt;
  places = All-nil (λ (place : ℕ). place < length list);
}

-- and alike to itself
pub birth_alike : (inode : Inode) (list list2 : List Entry) (used : ℕ → Bool) (s : ScriptFile)
    → ((file : ℕ) → used file ≡ true → file ≡ 0)
    → IsInodeAlike inode list list2 used (λ file. file) (newborn s) (newborn s)
unfolding newest_first
birth_alike inode list list2 used s zero_used = record {
  sound = birth_sound inode list s;
  sound2 = birth_sound inode list2 s;
  below = λ file u. let is = zero_used file u in omega arith;
  below2 = λ file u. let is = zero_used file u in omega arith;
  apart = λ f g uf ug. refl;
  how = λ file u. refl;
  checks = λ file u. refl;
  present_in = refl;
  new_in = refl;
  versions_in = refl;
  content_in = refl;
  metadata_in = refl;
  attributes_in = refl;
  writers_in = refl;
  readers_in = refl;
  execs_in = refl;
  must_measure_in = refl;
  update_in = refl;
  modified = refl;
  collection = refl;
  digests = refl;
  verdicts = λ key. refl;
  shown = λ bytes. refl;
  told = λ task n. refl;
  listed = λ task n. refl;
}

-- the first journal of each inode
first_journal : (script_files : List ScriptFile) (i : ℕ) (s : ScriptFile)
    → slice_get script_files i ≡ Some s → get_or (map newborn script_files) i [] ≡ newborn s
first_journal script_files i s at =
    get_or_from_slice_get (map newborn script_files) i (newborn s) []
    (slice_get-map newborn script_files i ∙ ap (λ (o : Option ScriptFile). option_map newborn o) at)

-- the first moment is alike to itself
start_alike : (scene : Scene) → IsAlikeBy scene own (start_of scene) (start_of scene)
start_alike scene = record {
  none = λ i. refl;
  elsewhere = λ i out file. refl;
  positions = starts_named scene.programs;
  inodes = λ i s at.
      subst (λ (j : List Event). IsInodeAlike (inode_of scene s) (scene.boot ∷ [])
      (scene.boot ∷ []) (is_used (starts scene.programs) i) (λ file. file) j j)
      (sym (first_journal scene.script_files i s at))
      (birth_alike (inode_of scene s) (scene.boot ∷ []) (scene.boot ∷ [])
      (is_used (starts scene.programs) i) s
      (λ file u. start_used i file scene.programs u));
  lists = lists_itself (scene.boot ∷ []);
  added = refl;
  semaphores = λ sem. refl;
}

-- ---- turns

-- turns lead from a moment that is alike to itself to one that is
led_alike : InodeLaws → (scene : Scene) (turns : List ℕ) (x a : Moment) → IsRenamed scene x x
    → led (moved scene) (Some x) turns ≡ Some a → IsRenamed scene a a
led_alike laws scene [] x a alike leads =
    subst (λ (m : Moment). IsRenamed scene m m) (same_Some x a leads) alike
led_alike laws scene (n ∷ ns) x a alike leads =
    at (moved scene x n) (turn_alike laws scene alike.0 x x alike.1 n) leads
    (λ y. led_alike laws scene ns y a)
  where
    at : (o : Option Moment) → BothOrNone (IsRenamed scene) o o
        → led (moved scene) o ns ≡ Some a
        → ((y : Moment) → IsRenamed scene y y → led (moved scene) (Some y) ns ≡ Some a
        → IsRenamed scene a a) → IsRenamed scene a a
    at None both h rest = absurd (none-some a (sym (led-none (moved scene) ns) ∙ h))
    at (Some y) both h rest = rest y both h

-- what is alike to itself is sound
sound_of : (scene : Scene) (a : Moment) → IsRenamed scene a a → AreSound scene a
sound_of scene a alike = record {
  journals = λ i s at. (alike.1.inodes i s at).sound;
  files = λ i s at file u. (alike.1.inodes i s at).below file u;
}

-- each moment to which turns lead is sound
pub reached_sound : InodeLaws → ReachedAreSound
reached_sound laws scene turns a leads =
    sound_of scene a
    (led_alike laws scene turns (start_of scene) a (own, start_alike scene) leads)
