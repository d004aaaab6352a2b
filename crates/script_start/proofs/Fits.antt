-- A script that the grammar accepts has all that a world and its tasks require.
use Rattle.std.proofs.Common.{◌≡◌, ℕ, zero, suc, ◌<◌, ◌≤◌, ◌||◌, Bool, true, false, nat_le, nat_lt, List, [], ◌∷◌, length, map, Option, Some, None, refl, subst, arith}
use Rattle.std.specs.Prelude.{slice_get}
use Rattle.std.specs.List.{AllByRecursion, list_all}
use Rattle.std.proofs.lemmas.Bool.Decides.{nat_tests}
use Rattle.std.proofs.lemmas.Option.{none-some, same_Some}
use Rattle.call_steps.specs.Forms.{is_call, is_offset, is_portion}
use Rattle.call_steps.specs.declared.call.Call.{Call}
use Rattle.call_steps.specs.declared.call.Call.TheVariants as call
use Rattle.run_model.specs.events.Files.{is_writer}
use Rattle.run_model.specs.events.declared.image.Image.{Image}
use Rattle.policy_rules.specs.declared.access.Super.{Super}
use Rattle.script_text.specs.Forms.{IsFile, IsOnSome, is_line_call}
use Rattle.script_text.specs.declared.blocks.FileBlock.{FileBlock}
use Rattle.script_text.proofs.Holding.{left_true, right_true}
use Rattle.script_text.proofs.about_calls.Ranges.{line_call_is}
use Rattle.task_core.specs.laws_of_progress.NextSteps.{IsFit}
use Rattle.task_core.specs.laws_of_progress.ScriptFiles.{IsWithin}
use Rattle.task_core.specs.starts.Started as started
use Rattle.script_scene.specs.Scene.{file_of, fs_of}
use Rattle.script_scene.proofs.Paths.{measured_path}

pub below : (n m : ℕ) → nat_lt n m ≡ true → n < m
below n m h = grind (arith, nat_tests)

pub at_most : (n m : ℕ) → nat_le n m ≡ true → n ≤ m
at_most n m h = grind (arith, nat_tests)

or_false : (b : Bool) → (b || false) ≡ true → b ≡ true
or_false true h = refl
or_false false h = h

-- ---- files

-- each file of a script is one that a world can have
pub files_fit : (supers : List Super) (files : List FileBlock)
    → AllByRecursion (IsFile supers) files → AllByRecursion started.IsFile (map file_of files)
files_fit supers [] h = tt
files_fit supers (b ∷ bs) h = (
  record { path = measured_path b.path h.0.path; content = h.0.content },
  files_fit supers bs h.1,
)

-- the index of a file system that is found is within the list
there : (supers : List Super) (n : ℕ) (o : Option Super) (i : Image) → slice_get supers n ≡ o
    → IsOnSome o i → n < length supers
there [] n None i is on = absurd on
there [] n (Some s) i is on = absurd (none-some s is)
there (s ∷ ss) zero o i is on = omega arith
there (s ∷ ss) (suc n) o i is on = omega (arith, there ss n o i is on)

-- each file of a script names a file system that the script has
pub places_fit : (supers : List Super) (files : List FileBlock)
    → AllByRecursion (IsFile supers) files
    → AllByRecursion (λ place. place < length supers) (map fs_of files)
places_fit supers [] h = tt
places_fit supers (b ∷ bs) h =
    (there supers b.fs (slice_get supers b.fs) b.image refl h.0.on, places_fit supers bs h.1)

-- ---- calls

-- each call of a script has the form that a task requires
call_fits : (files : ℕ) (c : Call) → is_call files c ≡ true → IsFit c × IsWithin files c
call_fits files (call.Open fd inode how true) h =
    let writes : is_writer how ≡ true =
    or_false (is_writer how) (right_true (nat_lt inode files) (is_writer how || false) h) in
    (writes, below inode files (left_true (nat_lt inode files) (is_writer how || false) h))
call_fits files (call.Open fd inode how false) h =
    (tt, below inode files (left_true (nat_lt inode files) (is_writer how || true) h))
call_fits files (call.Read fd from len) h = (tt, tt)
call_fits files (call.Write fd from bytes) h =
    let portion : is_portion (length bytes) ≡ true =
    right_true (is_offset from) (is_portion (length bytes)) h in
    (omega (arith, at_most 1 (length bytes) (left_true (nat_le 1 (length bytes)) _ portion)), tt)
call_fits files (call.Ftruncate fd len) h = (tt, tt)
call_fits files (call.Close fd) h = (tt, tt)
call_fits files (call.Mmap map fd exec) h = (tt, tt)
call_fits files (call.Mread map from len) h = (tt, tt)
call_fits files (call.Munmap map) h = (tt, tt)
call_fits files (call.Exec run inode) h =
    (tt, below inode files (right_true (nat_lt run 64) (nat_lt inode files) h))
call_fits files (call.Endexec run) h = (tt, tt)
call_fits files (call.SetAttr inode name value) h = (
  tt,
  below inode files (left_true (nat_lt inode files) _ (left_true _ _ h)),
)
call_fits files (call.SetMeta inode change) h = (tt, below inode files h)
call_fits files (call.Post sem) h = (tt, tt)
call_fits files (call.Wait sem) h = (tt, tt)
call_fits files (call.AddRule rule) h = (tt, tt)
call_fits files (call.Module inode) h = (tt, below inode files h)
call_fits files (call.Firmware inode) h = (tt, below inode files h)

-- the call at each place of a script's calls has the form that a task requires
pub calls_fit : (files : ℕ) (calls : List Call) → list_all (is_line_call files) calls ≡ true
    → (k : ℕ) (c : Call) → slice_get calls k ≡ Some c → IsFit c × IsWithin files c
calls_fit files [] h k c at = absurd (none-some c at)
calls_fit files (d ∷ ds) h zero c at =
    let first = left_true (is_line_call files d) (list_all (is_line_call files) ds) h in
    let is : d ≡ c = same_Some d c at in
    call_fits files c (subst (λ (x : Call). is_call files x ≡ true) is
    (line_call_is files d first))
calls_fit files (d ∷ ds) h (suc k) c at =
    calls_fit files ds (right_true (is_line_call files d) (list_all (is_line_call files) ds) h)
    k c at
