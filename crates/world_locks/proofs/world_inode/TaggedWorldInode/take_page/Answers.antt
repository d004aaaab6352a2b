-- A page of the inode under its lock is taken.
use Rattle.std.proofs.Common.{ℕ, List, [], refl, subst, sym}
use Rattle.std.specs.Prelude.{Result}
use Rattle.std.specs.declared.alloc.AllocError.{AllocError}
use Rattle.inode_cell.specs.answers.Answers.{piece_told}
use Rattle.inode_cell.specs.answers.declared.answers.Piece.{Piece}
use Rattle.task_steps.specs.Leaving.{told_by}
use Rattle.world_close.specs.worlds.World.{IsWorldInode, WorldInodeValue}
use Rattle.task_state.specs.Steps.{deed_in}
use Rattle.task_steps.proofs.Calls.{does_count}
use Rattle.world_locks.proofs.Paging.{may_alone, page_is_met}
use Rattle.world_locks.proofs.WorldInodes.{world_inode_left, world_inode_opened}
use Rattle.world_locks.specs.Pages.{PageMet}
use Rattle.world_locks.specs.declared.pages.TakenPage.{TakenPage}
use Rattle.world_locks.proofs.world_inode.TaggedWorldInode.take_page.Goals as goal

pub take_page-requires-clause-may : goal.take_page-requires-clause-may
take_page-requires-clause-may g c =
    let w = c.self.inside in
    let s = c.world_inode.inside in
    let st : WorldInodeValue = record { cell = s.cell; rules = s.rules; place = s.place } in
    let v = c.args.self.now in
    let is : IsWorldInode g.N.Name.consts v.number st =
    world_inode_opened g.N.Name.consts w.number st w.world_inode v c.world_inode.view_is
    c.self.view_is c.self.invariant in
    may_alone g.N.Name.consts v.number st is c.args.who.task c.args.pass.now (deed_in c.args.due)
    c.requires.pass c.requires.may

pub invariant_of-self : goal.invariant_of-self
invariant_of-self g c =
    let w = c.self.inside in
    let s = c.world_inode.inside in
    let st : WorldInodeValue = record { cell = s.cell; rules = s.rules; place = s.place } in
    let is : IsWorldInode g.N.Name.consts w.number st =
    subst (λ (x : WorldInodeValue). IsWorldInode g.N.Name.consts w.number x)
    (sym c.world_inode.view_is) c.self.invariant in
    world_inode_left g.N.Name.consts w.number st is (record st {
      cell = c.take_page.new.cell;
    }) [] []
    c.args.pass.now c.take_page.new.pass c.args.who (deed_in c.args.due)
    (told_by (λ (r : Piece × List ℕ). piece_told r.0) c.take_page.result)
    (c.take_page.ensures.leaves []) refl refl (does_count _ c.args.due)

pub returns-clause-met : goal.returns-clause-met
returns-clause-met g c =
    let w = c.self.inside in
    let s = c.world_inode.inside in
    let st : WorldInodeValue = record { cell = s.cell; rules = s.rules; place = s.place } in
    let v = c.args.self.now in
    let is : IsWorldInode g.N.Name.consts v.number st =
    world_inode_opened g.N.Name.consts w.number st w.world_inode v c.world_inode.view_is
    c.self.view_is c.self.invariant in
    subst (λ (r : Result TakenPage AllocError). PageMet g.N.Name.consts v.number c.args.pass.now
    c.take_page.new.pass c.args.who (deed_in c.args.due) r) (sym c.taken_at.ensures)
    (page_is_met g.N.Name.consts v.number st is c.take_page.new.cell c.args.pass.now
    c.take_page.new.pass
    c.args.who (deed_in c.args.due) c.take_page.ensures.looked c.len-place.result
    c.len-place.ensures
    c.take_page.result c.take_page.ensures.leaves c.take_page.ensures.told c.take_page.ensures.page)
