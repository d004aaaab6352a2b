-- The places of a journal: the events before each, newest first, and what legality says there.
use Rattle.std.proofs.Common.{◌≡◌, ℕ, zero, suc, ◌+◌, ◌<◌, ◌≤◌, List, [], ◌∷◌, ◌++◌, length, take, drop, get_or, reverse, Some, refl, sym, ◌∙◌, ap, subst}
use Rattle.std.specs.Prelude.{All, slice_get}
use Rattle.std.proofs.lemmas.List.{length-reverse, length-take-le, reverse-append, take-append-drop, take_all, take_more}
use Rattle.std.proofs.lemmas.List.Elements.{All-head, All-tail}
use Rattle.std.proofs.lemmas.Option.{none-some, same_Some}
use Rattle.world_model.proofs.laws_of_journals.Covered.{follows_at}
use Rattle.world_model.specs.model.EndedValue.{EndedValue, inodes_ended}
use Rattle.world_model.specs.model.Scene.{Scene, ScriptFile, inode_of}
use Rattle.world_model.specs.model.Shown.{journals_of}
use Rattle.world_model.specs.model.events.EndedInode.{EndedInodeValue, ended_inode}
use Rattle.world_model.specs.model.events.Inode.{Inode}
use Rattle.world_model.specs.model.events.Legal.{EachFollows, Follows, Legal}
use Rattle.world_model.specs.model.events.Merged.{Journal}
use Rattle.world_model.specs.model.events.NewestFirst.{newest_first, past_more}
use Rattle.world_model.specs.model.events.declared.settings.Settings.{Settings}
use Rattle.world_model.specs.model.events.declared.told.Event.{Event}
use Rattle.world_model.specs.model.steps.declared.ending.Ending.{Ending}
use Rattle.audit_trail.specs.Trail.{IsOfRun, inode_with}

-- before the first event there is none
pub past_none : (j : List Event) → newest_first (take 0 j) ≡ []
unfolding newest_first
past_none j = refl

-- one event more
pub past_next : (j : List Event) (i : ℕ) (e : Event) → i < length j → e ≡ get_or j i e
    → newest_first (take (i + 1) j) ≡ e ∷ newest_first (take i j)
past_next j i e l is =
    ap newest_first (take_more j i e l ∙ ap (λ (x : Event). take i j ++ x ∷ []) (sym is))
    ∙ past_more (take i j) e

-- so many events are before a place
pub past_count : (j : List Event) (i : ℕ) → i ≤ length j → length (newest_first (take i j)) ≡ i
unfolding newest_first
past_count j i l = length-reverse (take i j) ∙ length-take-le i j l

-- beyond the last event, all are before
pub past_all : (j : List Event) (i : ℕ) → length j ≤ i → newest_first (take i j) ≡ newest_first j
past_all j i l = ap newest_first (take_all i j l)

-- the later events and the earlier ones
past_split : (j : List Event) (n : ℕ)
    → newest_first j ≡ newest_first (drop n j) ++ newest_first (take n j)
unfolding newest_first
past_split j n = ap reverse (sym (take-append-drop n j)) ∙ reverse-append (take n j) (drop n j)

-- each event of a legal journal follows those before it
pub follows_there : (inode : Inode) (j : List Event) (i : ℕ) (e : Event)
    → Legal inode (newest_first j)
    → i < length j → e ≡ get_or j i e → Follows inode (newest_first (take i j)) e.who e.deed e.told
follows_there inode j i e legal l is =
    let each : EachFollows inode (newest_first (take (i + 1) j)) =
    follows_at inode (newest_first (drop (i + 1) j)) (newest_first (take (i + 1) j))
    (subst (λ (p : List Event). EachFollows inode p) (past_split j (i + 1)) legal.1) in
    let here : EachFollows inode (e ∷ newest_first (take i j)) =
    subst (λ (p : List Event). EachFollows inode p) (past_next j i e l is) each in
    here.0

-- what a shown run leaves of an inode is a legal journal
pub ended_legal : (scene : Scene) (script_files : List ScriptFile) (journals : List (List Event))
    → All (λ (j : Journal). Legal j.inode j.events) (journals_of scene script_files journals)
    → (i : ℕ) (s : ScriptFile) (e : EndedInodeValue) → slice_get script_files i ≡ Some s
    → slice_get (inodes_ended scene script_files journals) i ≡ Some e
    → Legal (inode_of scene s) (newest_first e.journal)
ended_legal scene [] journals all i s e a b = absurd (none-some s a)
ended_legal scene (x ∷ script_files) [] all i s e a b = absurd (none-some e b)
ended_legal scene (x ∷ script_files) (y ∷ journals) all zero s e a b =
    let first : Legal (inode_of scene x) (newest_first y) =
    All-head (λ (j : Journal). Legal j.inode j.events)
    (record {
      inode = inode_of scene x;
      events = newest_first y;
    }) (journals_of scene script_files journals)
    all in
    subst (λ (z : ScriptFile). Legal (inode_of scene z) (newest_first e.journal)) (same_Some x s a)
    (subst (λ (z : EndedInodeValue). Legal (inode_of scene x) (newest_first z.journal))
    (same_Some (ended_inode (inode_of scene x) y) e b) first)
ended_legal scene (x ∷ script_files) (y ∷ journals) all (suc i) s e a b =
    ended_legal scene script_files journals (All-tail (λ (j : Journal). Legal j.inode j.events)
    (record {
      inode = inode_of scene x;
      events = newest_first y;
    }) (journals_of scene script_files journals)
    all) i s e a b

-- the journals of a state that a shown run leaves are legal
pub run_legal : (scene : Scene) (ending : Ending) (e : EndedValue) → IsOfRun scene ending e
    → (settings : Settings) → settings ≡ scene.settings → (script_files : List ScriptFile)
    → script_files ≡ scene.script_files → (inodes : List EndedInodeValue) → inodes ≡ e.inodes
    → (i : ℕ) (s : ScriptFile) (x : EndedInodeValue) → slice_get script_files i ≡ Some s
    → slice_get inodes i ≡ Some x → Legal (inode_with settings s) (newest_first x.journal)
run_legal scene ending e shown settings same script_files script_files_are inodes inodes_are i s x a
    b =
    subst (λ (z : Settings). Legal (inode_with z s) (newest_first x.journal)) (sym same)
    (ended_legal scene scene.script_files shown.run.journals shown.shown.legal i s x
    (sym (ap (λ (l : List ScriptFile). slice_get l i) script_files_are) ∙ a)
    (sym (ap (λ (l : List EndedInodeValue). slice_get l i)
    (inodes_are ∙ ap (λ (v : EndedValue). v.inodes) shown.leaves)) ∙ b))
