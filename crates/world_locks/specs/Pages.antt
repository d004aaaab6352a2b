-- A page of a collection, which is taken under the inode's lock alone.
use Rattle.std.specs.Prelude.{◌≡◌, ℕ, ◌+◌, length, List, Option, Some, IfOk, Result, Ok, Err, slice_get}
use Rattle.grow_list.specs.Shown.{Passed}
use Rattle.ima_templates.specs.declared.entry.Entry.{Entry}
use Rattle.inode_cell.specs.answers.Answers.{piece_told}
use Rattle.inode_cell.specs.answers.declared.answers.Piece.{Piece}
use Rattle.inode_events.specs.Asked.{outcome}
use Rattle.inode_events.specs.Integrity.{Collection, collecting}
use Rattle.inode_events.specs.Legal.{May}
use Rattle.inode_events.specs.NewestFirst.{newest_first}
use Rattle.inode_events.specs.State.{content}
use Rattle.inode_events.specs.declared.deed.Deed.{Deed}
use Rattle.inode_events.specs.declared.told.Event.{Event}
use Rattle.inode_events.specs.declared.told.Told.{Told}
use Rattle.inode_meta.specs.declared.step.Who.{Who}
use Rattle.inode_events.specs.pages.Content.{piece_at}
use Rattle.inode_cell.specs.laws_of_journals.Own.{IsBy}
use Rattle.task_steps.specs.Leaving.{Leaves, told_by}
use Rattle.world_close.specs.worlds.WorldConsts.{InodeConsts, WorldConsts, inode_in}
use Rattle.world_close.specs.worlds.World.{IsWorldInode, WorldInodeValue}
use Rattle.task_steps.specs.worlds.Ready.{HasLooked}
use Rattle.world_locks.specs.declared.pages.TakenPage.{TakenPage}

-- the page that was taken, with the place of its event
abbrev pub taken_in : {E : Type 0} → ℕ → Result (Piece × List ℕ) E → Result TakenPage E
taken_in place (Ok x) = Ok (record { place = place; piece = x.0; page = x.1 })
taken_in place (Err e) = Err e

-- after a look by the pass the deed may be done
abbrev pub MayByLook : WorldConsts → ℕ → ℕ → Passed Event → Deed → Type 0
MayByLook consts i task pass d =
    (s : InodeConsts) (list : List Event) → slice_get consts.each_inode i ≡ Some s
    → HasLooked (inode_in consts s) (task + 1) pass.seen list pass.mine
    → May (inode_in consts s) (newest_first list) d × IsBy (task + 1) d (newest_first list)

-- after a look by any of these passes the deed may be done
abbrev pub MayAt : WorldConsts → ℕ → List (Passed Event) → ℕ → Deed → Type 0
MayAt consts i passes task d =
    (s : InodeConsts) (q : Passed Event) (list : List Event)
    → slice_get consts.each_inode i ≡ Some s → slice_get passes i ≡ Some q
    → HasLooked (inode_in consts s) (task + 1) q.seen list q.mine
    → May (inode_in consts s) (newest_first list) d × IsBy (task + 1) d (newest_first list)

-- the deed met an inode of this number, and didn't consult the measurement list
pub record AloneMet (consts : WorldConsts) (i : ℕ) (pass pass2 : Passed Event) (who : Who)
    (d : Deed) (o : Option Told) (world_inode world_inode2 : WorldInodeValue) : Type 0 where
  pub is : IsWorldInode consts i world_inode
  pub looked : HasLooked world_inode.cell.inode pass.number pass.seen
      world_inode.cell.list pass.mine
  pub leaves : (list : List Entry)
      → Leaves world_inode.cell world_inode2.cell list list pass pass2 who d o
  pub rules : world_inode2.rules ≡ world_inode.rules
  pub place : world_inode2.place ≡ world_inode.place

-- the deed took a page of a collection
pub record PageMet {E : Type 0} (consts : WorldConsts) (i : ℕ) (pass pass2 : Passed Event)
    (who : Who) (d : Deed) (r : Result TakenPage E) : Type 0 where
  pub world_inode : WorldInodeValue
  pub world_inode2 : WorldInodeValue
  pub alone : AloneMet consts i pass pass2 who d
      (told_by (λ (t : TakenPage). piece_told t.piece) r) world_inode world_inode2
  pub told : IfOk r (λ t. (list : List Entry)
      → Some (piece_told t.piece)
      ≡ outcome world_inode.cell.inode list d (newest_first world_inode.cell.list))
  pub at : IfOk r (λ t. t.place ≡ length world_inode.cell.list)
  pub page : IfOk r (λ t. (c : Collection)
      → collecting world_inode.cell.inode (newest_first world_inode.cell.list) ≡ Some c
      → t.page ≡ piece_at (content (newest_first world_inode.cell.list)) c.pieces)
