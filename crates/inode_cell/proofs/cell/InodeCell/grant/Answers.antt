-- The grant is entered once there is room.
use Rattle.std.proofs.Common.{List, Some, sym, subst}
use Rattle.std.proofs.lemmas.Result.{IfOk-weaker}
use Rattle.ima_templates.specs.declared.entry.Entry.{Entry}
use Rattle.inode_events.specs.Checks.{last_check}
use Rattle.inode_events.specs.NewestFirst.{newest_first}
use Rattle.inode_events.specs.declared.told.Told.TheVariants as told
use Rattle.inode_cell.specs.Acts.{Acts}
use Rattle.inode_cell.specs.Granting.{IsEntering}
use Rattle.inode_cell.specs.Value.{CellValue}
use Rattle.inode_cell.proofs.Acting.{acts_from, may_from, same_value}
use Rattle.inode_cell.proofs.GrantLemmas.{entering}
use Rattle.inode_cell.proofs.cell.InodeCell.grant.Goals as goal

pub enter_grant-requires-clause-may : goal.enter_grant-requires-clause-may
enter_grant-requires-clause-may c = may_from c.args.self.now c.reserve_with.new.self
    c.args.pass.now.number c.args.deed c.in_ok-reserve_with.ensures.list
    c.in_ok-reserve_with.ensures.same c.requires.may

pub enter_grant-requires-clause-enters : goal.enter_grant-requires-clause-enters
enter_grant-requires-clause-enters c =
    let old = c.args.self.now in
    let room = c.in_ok-reserve_with.ensures in
    let check = c.requires.grants.check in
    subst (λ (v : CellValue). IsEntering v.inode (newest_first v.list) c.args.who c.args.deed
    c.args.asked.now.action c.args.sums.now.digest c.answer-grant.result c.in_ok-entry.entry
    c.args.facts.now) (sym (same_value old c.reserve_with.new.self room.list room.same))
    (entering old.inode (newest_first old.list) c.args.who c.args.deed c.args.file
    c.args.asked.now c.args.sums.now c.answer-grant.result c.in_ok-entry.entry c.args.facts.now
    c.requires.grants
    (λ placed. c.answer-grant.ensures (last_check c.args.file (newest_first old.list)) placed check)
    (c.in_ok-entry.ensures c.args.file check.action))

pub returns-clause-acts : goal.returns-clause-acts
returns-clause-acts c =
    let old = c.args.self.now in
    let mid = c.reserve_with.new.self in
    let new = c.enter_grant.new.self in
    let room = c.in_ok-reserve_with.ensures in
    let end : List Entry = c.enter_grant.new.book.list in
    IfOk-weaker c.enter_grant.result
    (λ g. Acts mid new c.reserve_with.new.book.list end c.args.pass.now c.enter_grant.new.pass
    c.args.who c.args.deed (Some (told.Grant g)))
    (λ g. Acts old new c.args.book.now.list end c.args.pass.now c.enter_grant.new.pass
    c.args.who c.args.deed (Some (told.Grant g)))
    (λ g x. acts_from old mid new c.args.book.now.list end c.args.pass.now
    c.enter_grant.new.pass c.args.who c.args.deed (Some (told.Grant g)) room.list room.same
    (subst (λ (l : List Entry). Acts mid new l end c.args.pass.now c.enter_grant.new.pass
    c.args.who c.args.deed (Some (told.Grant g))) room.book.list x))
    c.enter_grant.ensures.acts
