-- A deed under the inode's lock alone, as one that met the measurement list as its task last saw
-- it.
use Rattle.std.proofs.Common.{◌≡◌, ℕ, ◌+◌, ◌++◌, List, [], length, Option, Some, None, refl, sym, subst}
use Rattle.std.specs.Prelude.{IfOk, Result, Ok, Err}
use Rattle.grow_list.proofs.Prefixes.{prefix_refl}
use Rattle.grow_list.specs.Shown.{Grown, Passed}
use Rattle.ima_templates.specs.declared.entry.Entry.{Entry}
use Rattle.inode_cell.specs.Acts.{MayBy}
use Rattle.inode_cell.specs.answers.Answers.{piece_told}
use Rattle.inode_cell.specs.Value.{CellValue}
use Rattle.inode_cell.specs.answers.declared.answers.Piece.{Piece}
use Rattle.inode_events.specs.Asked.{made, outcome}
use Rattle.inode_events.specs.Inode.{Inode}
use Rattle.inode_events.specs.Integrity.{Collection, collecting}
use Rattle.inode_events.specs.Legal.{May}
use Rattle.inode_events.specs.NewestFirst.{newest_first}
use Rattle.inode_events.specs.State.{content}
use Rattle.inode_events.specs.declared.deed.Deed.{Deed}
use Rattle.inode_events.specs.declared.deed.Deed.TheVariants as deed
use Rattle.inode_events.specs.declared.told.Event.{Event}
use Rattle.inode_events.specs.declared.told.Told.{Told}
use Rattle.inode_meta.specs.declared.step.Who.{Who}
use Rattle.inode_events.specs.pages.Content.{piece_at}
use Rattle.inode_cell.specs.laws_of_journals.Own.{IsBy}
use Rattle.task_steps.proofs.Hashing.{close_piece_left, piece_left}
use Rattle.task_steps.specs.Hashed.{HasGathered, IsPageDeed}
use Rattle.task_steps.specs.Leaving.{Leaves, told_by}
use Rattle.world_close.specs.worlds.WorldConsts.{WorldConsts}
use Rattle.world_close.specs.worlds.Tasks.{HashesBefore, HasTakenIn}
use Rattle.world_close.specs.worlds.World.{IsWorldInode, WorldInodeValue, inode_consts_of}
use Rattle.world_close.specs.worlds.declared.hash_state.HashState.{HashState}
use Rattle.task_steps.proofs.about_worlds.Eventing.{adds_none}
use Rattle.task_steps.specs.worlds.Due.{HashesAfter, HashesTold}
use Rattle.task_steps.specs.worlds.Ready.{HasLooked}
use Rattle.task_steps.specs.Acting.{IsPlacedAt, WorldInodeDid, WorldInodeDidAlone, told_in, told_of}
use Rattle.task_steps.specs.declared.answers.StepResult.{StepResult}
use Rattle.world_locks.proofs.WorldInodes.{inode_same, its_pass}
use Rattle.world_locks.specs.Tagged.{DeedMet, IsPassAt}
use Rattle.world_locks.specs.Pages.{AloneMet, MayByLook, PageMet, taken_in}
use Rattle.world_locks.specs.declared.pages.TakenPage.{TakenPage}

-- ---- the inode under its lock

module _ (consts : WorldConsts) (i : ℕ) (st : WorldInodeValue) (is : IsWorldInode consts i st) where
  -- after a look the deed may be done
  pub may_alone : (n : ℕ) (q : Passed Event) (d : Deed) → IsPassAt consts i n q
      → MayByLook consts i n q d
      → HasLooked st.cell.inode q.number q.seen st.cell.list q.mine → MayBy st.cell q.number d
  may_alone n q d at may looked =
      let number : q.number ≡ n + 1 = (its_pass consts i st is n q at).1 in
      let same = inode_same consts i st is in
      let x : May st.cell.inode (newest_first st.cell.list) d
      × IsBy (n + 1) d (newest_first st.cell.list) =
      subst (λ (y : Inode). May y (newest_first st.cell.list) d
      × IsBy (n + 1) d (newest_first st.cell.list)) same
      (may (inode_consts_of st) st.cell.list is.inode_consts
      (subst (λ (y : Inode). HasLooked y (n + 1) q.seen st.cell.list q.mine) (sym same)
      (subst (λ (k : ℕ). HasLooked st.cell.inode k q.seen st.cell.list q.mine) number looked))) in
      record {
        may = x.0;
        by = subst (λ (k : ℕ). IsBy k d (newest_first st.cell.list)) (sym number) x.1;
      }

  module _ (cell2 : CellValue) (pass pass2 : Passed Event) (who : Who) (d : Deed)
      (looked : HasLooked st.cell.inode pass.number pass.seen st.cell.list pass.mine)
      (place : ℕ) (place_is : place ≡ length st.cell.list) where
    alone : (o : Option Told)
        → ((list : List Entry) → Leaves st.cell cell2 list list pass pass2 who d o)
        → AloneMet consts i pass pass2 who d o st (record st { cell = cell2 })
    alone o leaves = record {
      is = is;
      looked = looked;
      leaves = leaves;
      rules = refl;
      place = refl;
    }

    -- the page that was taken meets `PageMet`
    pub page_is_met : {E : Type 0} (r : Result (Piece × List ℕ) E)
        → ((list : List Entry)
        → Leaves st.cell cell2 list list pass pass2 who d (told_by (λ x. piece_told x.0) r))
        → IfOk r (λ x. (list : List Entry)
        → Some (piece_told x.0) ≡ outcome st.cell.inode list d (newest_first st.cell.list))
        → IfOk r (λ x. (c : Collection)
        → collecting st.cell.inode (newest_first st.cell.list) ≡ Some c
        → x.1 ≡ piece_at (content (newest_first st.cell.list)) c.pieces)
        → PageMet consts i pass pass2 who d (taken_in place r)
    page_is_met (Ok x) leaves told page = record {
      world_inode = st;
      world_inode2 = record st { cell = cell2 };
      alone = alone (Some (piece_told x.0)) leaves;
      told = told;
      at = place_is;
      page = page;
    }
    page_is_met (Err e) leaves told page = record {
      world_inode = st;
      world_inode2 = record st { cell = cell2 };
      alone = alone None leaves;
      told = tt;
      at = tt;
      page = tt;
    }

-- ---- from the view of the task

-- the measurement list as the pass has seen it
abbrev as_seen : Passed Entry → Grown Entry
as_seen q = record { name = q.name; callers = 0; spare = 0; list = q.seen; numbers = [] }

-- the deed left the measurement list as the pass had seen it
did_alone : (pass pass2 : Passed Event) (listed : Passed Entry) (who : Who) (d : Deed)
    (g g2 : HashState) (o : Option Told) (st st2 : WorldInodeValue)
    → WorldInodeDidAlone st st2 pass pass2 who d g g2 o
    → WorldInodeDid st st2 (as_seen listed) (as_seen listed) pass pass2 listed listed who d g g2 o
did_alone pass pass2 listed who d g g2 o st st2 did = record {
  looked = did.looked;
  leaves = did.leaves listed.seen;
  rules = did.rules;
  place = did.place;
  book_name = refl;
  book_callers = refl;
  book_pass = adds_none listed listed refl;
  before = prefix_refl listed.seen;
  seen = refl;
  hashes = did.hashes;
}

-- a deed that didn't consult the measurement list, from the view of a pass of that list
pub alone_met : {E : Type 0} (consts : WorldConsts) (i : ℕ) (pass pass2 : Passed Event)
    (listed : Passed Entry) (who : Who) (d : Deed) (g g2 : HashState) (st st2 : WorldInodeValue)
    (r : Result (Option StepResult) E) → IsWorldInode consts i st
    → WorldInodeDidAlone st st2 pass pass2 who d g g2 (told_in r)
    → IfOk r (λ o. (list : List Entry)
    → told_of o ≡ outcome st.cell.inode list d (newest_first st.cell.list))
    → IfOk r (λ o. IsPlacedAt (length st.cell.list) o)
    → DeedMet consts i pass pass2 listed listed who d g g2 r
alone_met consts i pass pass2 listed who d g g2 st st2 (Ok o) is did told place = record {
  world_inode = st;
  world_inode2 = st2;
  book = as_seen listed;
  book2 = as_seen listed;
  is = is;
  did = did_alone pass pass2 listed who d g g2 (told_of o) st st2 did;
  told = told listed.seen;
  place = place;
}
alone_met consts i pass pass2 listed who d g g2 st st2 (Err e) is did told place = record {
  world_inode = st;
  world_inode2 = st2;
  book = as_seen listed;
  book2 = as_seen listed;
  is = is;
  did = did_alone pass pass2 listed who d g g2 None st st2 did;
  told = tt;
  place = tt;
}

-- a deed under the inode's lock alone, with what its task has hashed
hashed_alone : (consts : WorldConsts) (i : ℕ) (pass pass2 : Passed Event) (who : Who) (d : Deed)
    (g g2 : HashState) (o : Option Told) (st st2 : WorldInodeValue)
    → AloneMet consts i pass pass2 who d o st st2
    → HashesTold st.cell.inode st2.cell.list g g2 d o
    → WorldInodeDidAlone st st2 pass pass2 who d g g2 o
hashed_alone consts i pass pass2 who d g g2 o st st2 m hashes = record {
  looked = m.looked;
  leaves = m.leaves;
  rules = m.rules;
  place = m.place;
  hashes = hashes;
}

page_hashes : (inode : Inode) (list list2 : List Event) (g g2 : HashState) (page : List ℕ)
    (who : Who) (p : Piece) (d : Deed) → IsPageDeed d → HashesBefore inode list g d
    → ((c : Collection) → collecting inode (newest_first list) ≡ Some c
    → page ≡ piece_at (content (newest_first list)) c.pieces)
    → list2 ≡ list ++ made who d (Some (piece_told p))
    → ((c : Collection) → HasTakenIn g c
    → HasGathered p g2 (record c { bytes = c.bytes ++ page }))
    → HashesAfter inode list2 g2 d (piece_told p)
page_hashes inode list list2 g g2 page who p (deed.Chunk file) is before taken e h =
    piece_left inode list g g2 page before taken file who list2 p e h
page_hashes inode list list2 g g2 page who p (deed.CloseChunk file) is before taken e h =
    close_piece_left inode list g g2 page before taken file who list2 p e h
page_hashes inode list list2 g g2 page who p d is before taken e h = absurd is

-- the page of a collection, which is hashed, from the view of the task
pub page_met : {E : Type 0} (consts : WorldConsts) (i : ℕ) (pass pass2 : Passed Event)
    (listed : Passed Entry) (who : Who) (d : Deed) (g g2 : HashState) (t : TakenPage)
    → IsPageDeed d → (m : PageMet {E = E} consts i pass pass2 who d (Ok t))
    → HashesBefore m.world_inode.cell.inode m.world_inode.cell.list g d
    → ((c : Collection) → HasTakenIn g c
    → HasGathered t.piece g2 (record c { bytes = c.bytes ++ t.page }))
    → (u : Told) → u ≡ piece_told t.piece
    → DeedMet {E = E} consts i pass pass2 listed listed who d g g2
    (Ok (Some (record { place = t.place; told = u; action = None })))
page_met {E} consts i pass pass2 listed who d g g2 t is m before hash_state u e =
    subst (λ (x : Told). DeedMet {E = E} consts i pass pass2 listed listed who d g g2
    (Ok (Some (record { place = t.place; told = x; action = None })))) (sym e)
    (record {
      world_inode = m.world_inode;
      world_inode2 = m.world_inode2;
      book = as_seen listed;
      book2 = as_seen listed;
      is = m.alone.is;
      did = did_alone pass pass2 listed who d g g2 (Some (piece_told t.piece)) m.world_inode
          m.world_inode2
          (hashed_alone consts i pass pass2 who d g g2 (Some (piece_told t.piece)) m.world_inode
          m.world_inode2 m.alone
          (page_hashes m.world_inode.cell.inode m.world_inode.cell.list m.world_inode2.cell.list g
          g2 t.page
          who t.piece d is before m.page (m.alone.leaves listed.seen).journal hash_state));
      told = m.told listed.seen;
      place = (m.at, refl);
    })

-- no page was taken, since memory ran out
pub page_failed : {E : Type 0} (consts : WorldConsts) (i : ℕ) (pass pass2 : Passed Event)
    (listed : Passed Entry) (who : Who) (d : Deed) (g : HashState) (e e2 : E)
    → PageMet {E = E} consts i pass pass2 who d (Err e)
    → DeedMet {E = E} consts i pass pass2 listed listed who d g g (Err e2)
page_failed consts i pass pass2 listed who d g e e2 m = record {
  world_inode = m.world_inode;
  world_inode2 = m.world_inode2;
  book = as_seen listed;
  book2 = as_seen listed;
  is = m.alone.is;
  did = did_alone pass pass2 listed who d g g None m.world_inode m.world_inode2
      (hashed_alone consts i pass pass2 who d g g None m.world_inode m.world_inode2 m.alone refl);
  told = tt;
  place = tt;
}
