-- The legal journals: the first event is the birth, each later one is permitted by the events
-- before it, and each has the outcome that the journal before it determines.
use Rattle.std.specs.Prelude.{◌≡◌, ◌<◌, ℕ, true, false, List, [], ◌∷◌, length, Option, Some}
use Rattle.inode_meta.specs.declared.step.Who.{Who}
use Rattle.inode_events.specs.Files.{can_read, held, holds, is_writer}
use Rattle.inode_events.specs.Inode.{Inode, nobody}
use Rattle.inode_events.specs.Stage.{Stage, stage, may_check}
use Rattle.inode_events.specs.Stage.{Asked, CloseCollected, CloseCollecting, Collected, Collecting, Settled}
use Rattle.inode_events.specs.Says.{says, placed_in}
use Rattle.inode_events.specs.declared.deed.Deed.{Deed}
use Rattle.inode_events.specs.declared.deed.Deed.TheVariants as deed
use Rattle.inode_events.specs.declared.deed.How.{How}
use Rattle.inode_events.specs.declared.told.Event.{Event}
use Rattle.inode_events.specs.declared.told.Told.{Told}
use Rattle.inode_events.specs.declared.told.Told.TheVariants as told

-- the precondition of the deed's call, by the stage of its file and the way the file is open
abbrev pub MayAt : (ℕ → Stage) → (ℕ → Option How) → Deed → Type 0
MayAt stages hows (deed.Count how) = Unit {0}
MayAt stages hows (deed.Check file func action rules) = may_check (stages file) ≡ true
MayAt stages hows (deed.Take file) = stages file ≡ Asked
MayAt stages hows (deed.Chunk file) = stages file ≡ Collecting
MayAt stages hows (deed.Finish file) = stages file ≡ Collected
MayAt stages hows (deed.Read file from len) =
    (stages file ≡ Settled) × (holds can_read (hows file) ≡ true)
MayAt stages hows (deed.Write file from bytes) =
    (stages file ≡ Settled) × (holds is_writer (hows file) ≡ true) × (0 < length bytes)
MayAt stages hows (deed.Trunc file len) =
    (stages file ≡ Settled) × (holds is_writer (hows file) ≡ true)
MayAt stages hows (deed.SetAttr name bytes admin) = Unit {0}
MayAt stages hows (deed.SetMeta change) = Unit {0}
MayAt stages hows (deed.Close file) =
    (stages file ≡ Settled) × (holds is_writer (hows file) ≡ false)
MayAt stages hows (deed.CloseTake file) =
    (stages file ≡ Settled) × (holds is_writer (hows file) ≡ true)
MayAt stages hows (deed.CloseChunk file) = stages file ≡ CloseCollecting
MayAt stages hows (deed.CloseFinish file) = stages file ≡ CloseCollected
MayAt stages hows _ = ⊥

-- the precondition of the deed's call, by the whole journal
abbrev pub May : Inode → List Event → Deed → Type 0
May inode before d = MayAt (λ file. stage inode file before) (λ file. held file before) d

-- the inode has been created: there is an event
abbrev pub IsBorn : List Event → Type 0
IsBorn [] = ⊥
IsBorn (e ∷ before) = Unit {0}

-- the event may follow these
abbrev pub Follows : Inode → List Event → Who → Deed → Told → Type 0
Follows inode before who deed.Birth t =
    (before ≡ []) × (who ≡ nobody) × (t ≡ told.Image inode.birth)
Follows inode before who d t =
    IsBorn before × May inode before d × (says inode before (placed_in t) d ≡ Some t)

-- each event may follow those before it
abbrev pub EachFollows : Inode → List Event → Type 0
EachFollows inode [] = Unit {0}
EachFollows inode (e ∷ before) = Follows inode before e.who e.deed e.told × EachFollows inode before

-- the journal, read from its newest event back, is legal
abbrev pub Legal : Inode → List Event → Type 0
Legal inode events = IsBorn events × EachFollows inode events
