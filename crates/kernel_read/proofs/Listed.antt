-- If the check of a call measures, the call's line has a place that shows what the call has read.
use Rattle.std.proofs.Common.{◌≡◌, ℕ, zero, suc, Bool, true, cond, List, [], ◌∷◌, length, Option, Some, None, refl, ap, ◌∙◌}
use Rattle.std.specs.Prelude.{slice_get}
use Rattle.std.specs.Option.{option_or}
use Rattle.std.proofs.lemmas.Option.{none-some, same_Some}
use Rattle.script_text.specs.events.Admission.{granted_file}
use Rattle.script_text.specs.events.EndedInode.{ended_inode}
use Rattle.script_text.specs.events.State.{content}
use Rattle.script_text.specs.events.declared.deed.Deed.{Deed}
use Rattle.script_text.specs.events.declared.deed.Deed.TheVariants as deed
use Rattle.script_text.specs.events.declared.told.Event.{Event}
use Rattle.script_text.specs.events.declared.told.Grant.{Grant}
use Rattle.script_text.specs.events.declared.told.Told.TheVariants as told
use Rattle.script_text.specs.steps.templates.declared.entry.Placed.{Placed}
use Rattle.run_laws.specs.kernel_reads.Reads.{IsReadSoundly, is_of_call, place_of_call, placed_by}
use Rattle.run_laws.specs.laws_of_journals.Executed.{grant_event}
use Rattle.run_laws.specs.model.EndedValue.{inodes_ended}
use Rattle.run_laws.specs.model.Scene.{Scene, ScriptFile, inode_of}
use Rattle.run_laws.proofs.kernel_reads.Journals.{stands_there}
use Rattle.run_laws.proofs.kernel_reads.Sound.{reads_soundly}
use Rattle.kernel_read.specs.Listed.{MeasuredReadsAreListed}
use Rattle.kernel_read.specs.Places.{named_by}
use Rattle.kernel_read.specs.Table.{call_line, func_raised, inode_line, load_line}

-- a grant's event names the place that the grant has
place_named : (d : Deed) (grant : Grant) (g : ℕ) → granted_file d ≡ Some g
    → placed_by d (told.Grant grant) ≡ grant.placed
place_named (deed.Take f) grant g h = refl
place_named (deed.Finish f) grant g h = refl
place_named d grant g h = absurd (none-some g h)

-- if the second of two options is filled, so is the first that is
found_after : (o rest : Option Placed) (p : Placed) → rest ≡ Some p
    → (x : Placed) × (option_or o rest ≡ Some x)
found_after None rest p h = (p, h)
found_after (Some x) rest p h = (x, refl)

-- if an event of the call names a place, the call has a place
has_place : (n k : ℕ) (journal : List Event) (j : ℕ) (e : Event) (placed : Placed)
    → slice_get journal j ≡ Some e → is_of_call n k e ≡ true
    → placed_by e.deed e.told ≡ Some placed
    → (x : Placed) × (place_of_call n k journal ≡ Some x)
has_place n k [] j e placed at mine names = absurd (none-some e at)
has_place n k (x ∷ events) zero e placed at mine names =
    let named : named_by n k x ≡ Some placed =
    ap (named_by n k) (same_Some x e at)
    ∙ ap (λ (b : Bool). cond b (placed_by e.deed e.told) None) mine ∙ names in
    (placed, ap (λ (o : Option Placed). option_or o (place_of_call n k events)) named)
has_place n k (x ∷ events) (suc j) e placed at mine names =
    let later = has_place n k events j e placed at mine names in
    found_after (named_by n k x) (place_of_call n k events) later.0 later.1

-- the ended run has each inode with its journal
ended_there : (scene : Scene) (ss : List ScriptFile) (js : List (List Event)) (i : ℕ)
    (s : ScriptFile) (j : List Event) → slice_get ss i ≡ Some s → slice_get js i ≡ Some j
    → slice_get (inodes_ended scene ss js) i ≡ Some (ended_inode (inode_of scene s) j)
ended_there scene [] js i s j at_s at_j = absurd (none-some s at_s)
ended_there scene (x ∷ ss) [] i s j at_s at_j = absurd (none-some j at_j)
ended_there scene (x ∷ ss) (y ∷ js) zero s j at_s at_j =
    let a : x ≡ s = same_Some x s at_s in
    let b : y ≡ j = same_Some y j at_j in
    λ m. Some (ended_inode (inode_of scene (a m)) (b m))
ended_there scene (x ∷ ss) (y ∷ js) (suc i) s j at_s at_j =
    ended_there scene ss js i s j at_s at_j

-- proof of `MeasuredReadsAreListed`
pub measured_listed : MeasuredReadsAreListed
measured_listed scene ending run shown forms n k i p c t r script_file journal at_p at_c reads at_t
    replied done at_s at_j l q who d grant g is mine file measures =
    let sound : IsReadSoundly (inode_of scene script_file) run.list journal n k r =
    reads_soundly scene ending run shown forms n k i p c t r script_file journal at_p at_c
    reads at_t replied done at_s at_j in
    let named = sound.measured l q who d grant g is mine file measures in
    let found = has_place n k journal (length q) (grant_event who d grant) named.0
    (stands_there journal l q (grant_event who d grant) is) mine
    (place_named d grant g file ∙ named.1) in
    record {
      place = found.0;
      line = ap (call_line (inodes_ended scene scene.script_files run.journals) n k c r) reads
          ∙ ap (inode_line n k c r)
          (ended_there scene scene.script_files run.journals i script_file journal at_s at_j)
          ∙ ap (λ (o : Option Placed). load_line n k (func_raised c) script_file.path o r ∷ [])
          found.1;
      bytes = content sound.before;
      replied = sound.replied;
      shows = sound.listed found.0 found.1;
    }
