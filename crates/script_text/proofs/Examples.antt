-- Examples of lines and texts, each with its value.
use Rattle.std.proofs.Common.{◌≡◌, true, false, [], ◌∷◌, codes, Ok, Err, refl}
use Rattle.call_steps.specs.declared.ending.Ending.TheVariants as ending
use Rattle.script_words.specs.declared.fault.LineCause.TheVariants as cause
use Rattle.script_words.specs.Read.{fault_at}
use Rattle.script_text.specs.Draft.{plain_script}
use Rattle.script_fields.specs.Limits.{is_counted}
use Rattle.script_text.specs.Forms.{are_apart, is_among, is_ending}
use Rattle.script_text.specs.Grammar.{add, placed, script_of, with_head}
use Rattle.script_text.specs.ListGrammar as list
use Rattle.script_text.specs.Settings.{with_mode, with_version}
use Rattle.script_fields.specs.SettingFields.{is_added_name}
use Rattle.script_text.specs.Tasks.{with_rounds, with_schedule}
use Rattle.script_fields.specs.TaskFields.{turns_of}

names : (is_added_name (codes "security.x") ≡ true) × (is_added_name (codes "security.") ≡ false)
    × (is_added_name (codes "security.evm") ≡ false) × (is_added_name (codes "user.name.x") ≡ false)
    × (is_counted (codes "security.ima") ≡ false) × (is_counted (codes "security.evm") ≡ false)
    × (is_counted (codes "security.capability") ≡ true)
    × (are_apart is_among (codes "a" ∷ []) (codes "b" ∷ codes "a" ∷ []) ≡ false)
    × (are_apart is_among (codes "a" ∷ []) (codes "b" ∷ codes "c" ∷ []) ≡ true)
names = (refl, refl, refl, refl, refl, refl, refl, refl, refl)

turns : (turns_of 2 (codes "1" ∷ codes "0" ∷ []) ≡ Ok (1 ∷ 0 ∷ []))
    × (turns_of 2 (codes "2" ∷ codes "x" ∷ []) ≡ Err cause.BadField)
    × (turns_of 2 (codes "2" ∷ []) ≡ Err cause.Unknown) × (turns_of 0 [] ≡ Ok [])
    × (is_ending 2 (ending.Schedule (1 ∷ [])) ≡ true)
    × (is_ending 2 (ending.Schedule (2 ∷ [])) ≡ false)
    × (is_ending 0 (ending.Threads 16) ≡ true) × (is_ending 0 (ending.Threads 17) ≡ false)
turns = (refl, refl, refl, refl, refl, refl, refl, refl)

texts : (script_of (codes "imakern 1\n# c\nrounds\n") ≡ Ok plain_script)
    × (script_of (codes "imakern 1\nrounds") ≡ Err (fault_at 2 cause.NoEnd))
    × (script_of (codes "imakern 1\n") ≡ Err (fault_at 2 cause.NoEnd))
    × (script_of (codes "imakern 1\nround\nx\n") ≡ Err (fault_at 2 cause.BadWord))
    × (script_of (codes "imakern 1\n\nrounds x\nround\n") ≡ Err (fault_at 3 cause.BadField))
    × (script_of (codes "rounds x\n") ≡ Err (fault_at 1 cause.OutOfPlace))
    × (script_of (codes "imakern 1\nschedule 0\n") ≡ Err (fault_at 2 cause.Unknown))
    × (script_of (codes "imakern 1\nappraise off\nappraise x\n")
    ≡ Err (fault_at 3 cause.OutOfPlace))
unfolding add placed with_head with_version with_rounds with_schedule with_mode
texts = (refl, refl, refl, refl, refl, refl, refl, refl)

lists : (list.list_of (codes "imalist 1\nfile /a txt:x\nfile /a txt:\nend\n")
    ≡ Ok ((codes "/a", codes "x") ∷ (codes "/a", []) ∷ []))
    × (list.list_of (codes "imalist 1\nfile /a\n") ≡ Err (fault_at 2 cause.BadField))
    × (list.list_of (codes "imalist 1\nfile /a txt:\n") ≡ Err (fault_at 3 cause.NoEnd))
    × (list.list_of (codes "file /a txt:\n") ≡ Err (fault_at 1 cause.OutOfPlace))
lists = (refl, refl, refl, refl)
