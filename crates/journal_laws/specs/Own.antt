-- What a caller knows of a journal from its own entries. The journal and the entries are in order
-- from the newest event to the oldest.
use Rattle.std.specs.Prelude.{◌≡◌, ◌≢◌, ℕ, ◌==◌, Bool, true, false, List, [], ◌∷◌, length, Option, Some, None, option_map, reverse, if◌then◌else◌}
use Rattle.inode_events.specs.policy.declared.rule.Func.TheVariants as func
use Rattle.inode_events.specs.Callers.{caller_of}
use Rattle.inode_events.specs.Checks.{Check, check_after, no_action}
use Rattle.inode_events.specs.Files.{counted}
use Rattle.inode_events.specs.Inode.{Inode}
use Rattle.inode_events.specs.Legal.{MayAt}
use Rattle.inode_events.specs.Stage.{stage_in, touches}
use Rattle.inode_events.specs.declared.deed.Deed.{Deed}
use Rattle.inode_events.specs.declared.deed.Deed.TheVariants as deed
use Rattle.inode_events.specs.declared.deed.How.{How}
use Rattle.inode_events.specs.declared.told.Event.{Event}
use Rattle.journal_laws.specs.Standing.{event_at}

-- ---- the entries of one caller

-- the events of caller n, each with its place
abbrev pub own_past : ℕ → List Event → List (ℕ × Event)
own_past n [] = []
own_past n (e ∷ before) =
    if n == caller_of e then (length before, e) ∷ own_past n before else own_past n before

-- no event is by this caller
abbrev pub NoneOf : ℕ → List Event → Type 0
NoneOf n [] = Unit {0}
NoneOf n (e ∷ before) = (caller_of e ≢ n) × NoneOf n before

-- ---- the owner of a file

-- the caller of the event at this place, who owns the file that the place names
abbrev pub counter : ℕ → List Event → Option ℕ
counter file before = option_map caller_of (event_at file before)

-- whether the deed names the file. A count names none: its file is named by the count's place
abbrev pub names_file : ℕ → Deed → Bool
names_file file (deed.Count how) = false
names_file file d = touches file file d

-- the caller owns the files that the deed names
abbrev pub IsBy : ℕ → Deed → List Event → Type 0
IsBy n d before = (file : ℕ) → names_file file d ≡ true → counter file before ≡ Some n

-- each event on a file is by the caller who counted the file
abbrev pub IsOwned : List Event → Type 0
IsOwned [] = Unit {0}
IsOwned (e ∷ before) = IsBy (caller_of e) e.deed before × IsOwned before

-- ---- what entries with their places say of a file

-- the last check of the file
abbrev pub check_in : ℕ → List (ℕ × Event) → Check
check_in file [] = record { func = func.FileCheck; action = no_action }
check_in file (x ∷ xs) = check_after file x.1.deed (check_in file xs)

-- how the file was opened
abbrev pub how_in : ℕ → List (ℕ × Event) → Option How
how_in file [] = None
how_in file (x ∷ xs) = if x.0 == file then counted x.1.deed x.1.told else how_in file xs

-- the deed may be done, according to the entries
abbrev pub MayByOwn : Inode → List (ℕ × Event) → Deed → Type 0
MayByOwn inode own d = MayAt (λ file. stage_in inode file own) (λ file. how_in file own) d

-- the deed may be done, according to the entries of a pass, which are oldest first
abbrev pub MayByMine : Inode → List (ℕ × Event) → Deed → Type 0
MayByMine inode mine d = MayByOwn inode (reverse mine) d
