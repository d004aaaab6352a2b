use Rattle.std.proofs.Common.{◌≡◌, ℕ, [], length, rules, subst, sym}
use Rattle.std.specs.Prelude.{All, List}
use Rattle.std.proofs.lemmas.List.Elements.{All-head}
use Rattle.ima_templates.specs.declared.entry.Entry.{Entry}
use Rattle.inode_events.specs.declared.image.Image.{Image}
use Rattle.inode_events.specs.declared.told.Event.{Event}
use Rattle.grow_list.specs.Shown.{Passed}
use Rattle.world_close.specs.worlds.World.{WorldInodeValue}
use Rattle.world_close.proofs.Listing.{all_at}
use Rattle.world_start.specs.Started.{AreRows, IsFile, StartsBefore}
use Rattle.world_start.proofs.Starting.{rows_more, started_all, started_more, started_none}
use Rattle.world_start.proofs.world_inodes.start_world_inodes.Goals as goal

pub loop-file-init : goal.loop-file-init
loop-file-init c = record {
  before = subst (λ (x : List (List ℕ × Image) × List WorldInodeValue). StartsBefore
      c.args.settings.now c.args.tasks c.args.inodes.items c.args.seats x.0 c.args.seats x.1)
      (λ i. (sym c.from-left.ensures.0 i, sym c.new-world_inodes.ensures.items i))
      (started_none c.args.settings.now c.args.tasks c.args.inodes.items c.args.seats
      c.requires.places c.requires.list_passes c.requires.rule_passes c.requires.files
      c.requires.unused);
  rows = subst (λ (l : List WorldInodeValue). AreRows l c.args.tasks c.in_ok-rows.rows.items)
      (sym c.new-world_inodes.ensures.items) (
        c.in_ok-rows.ensures.count,
        λ k row at.
            all_at (λ (r : List (Passed Event)). r ≡ []) c.in_ok-rows.rows.items k row
            c.in_ok-rows.ensures.empty at,
      );
}

pub loop-file-preserved : goal.loop-file-preserved
loop-file-preserved c =
    let old = c.loop-file.invariant in
    let e = c.in_ok-world_inode.ensures in
    let world_inodes = c.loop-file.world_inodes.items in
    let s = c.in_ok-world_inode.world_inode in
    record {
      before = subst (λ (l : List WorldInodeValue). StartsBefore c.args.settings.now c.args.tasks
          c.args.inodes.items c.args.seats c.pop_front.new.self.items c.next-seat.new.self l)
          (sym c.in_ok-push.ensures.items)
          (started_more c.args.settings.now c.args.tasks c.args.inodes.items c.args.seats
          c.loop-file.left.items c.pop_front.new.self.items c.loop-file.seats
          c.next-seat.new.self world_inodes c.in-Some.file c.next-seat.result.place
          c.next-seat.result.listed c.next-seat.result.counted s c.in-Some.ensures.items
          c.next-seat.ensures.places c.next-seat.ensures.list_passes c.next-seat.ensures.rule_passes
          e.world_inode
          e.file e.place e.listed e.counted old.before);
      rows = subst (λ (l : List WorldInodeValue). AreRows l c.args.tasks
          c.start_world_inode.new.rows.items) (sym c.in_ok-push.ensures.items)
          (rows_more world_inodes s c.args.tasks c.loop-file.rows.items
          c.start_world_inode.new.rows.items old.rows e.count e.given);
    }

pub start_world_inode-requires-clause-file : goal.start_world_inode-requires-clause-file
start_world_inode-requires-clause-file c =
    All-head IsFile c.in-Some.file c.pop_front.new.self.items
    (subst (λ (l : List (List ℕ × Image)). All IsFile l) c.in-Some.ensures.items
    c.loop-file.invariant.before.left_files)

pub start_world_inode-requires-clause-listed : goal.start_world_inode-requires-clause-listed
start_world_inode-requires-clause-listed c =
    All-head (λ (q : Passed Entry). q.mine ≡ []) c.next-seat.result.listed
    c.next-seat.new.self.list_passes
    (subst (λ (l : List (Passed Entry)). All (λ (q : Passed Entry). q.mine ≡ []) l)
    c.next-seat.ensures.list_passes c.loop-file.invariant.before.left_list_passes)

pub returns-clause-world_inodes : goal.returns-clause-world_inodes
returns-clause-world_inodes c =
    let empty : length c.loop-file.left.items ≡ 0 = search rules in
    started_all c.args.settings.now c.args.tasks c.args.inodes.items c.args.seats
    c.loop-file.left.items c.loop-file.seats c.loop-file.world_inodes.items empty
    c.loop-file.invariant.before
