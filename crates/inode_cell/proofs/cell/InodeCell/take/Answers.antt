use Rattle.std.proofs.Common.{◌≡◌, ℕ, List, Option, Some, None, false, refl, sym, ◌∙◌, ap, subst}
use Rattle.std.specs.Prelude.{is_some}
use Rattle.hash_algos.specs.declared.digest.Digest.{Digest}
use Rattle.ima_templates.specs.declared.entry.Placed.TheVariants.{Added}
use Rattle.inode_events.specs.Asked.{asked, placed_for}
use Rattle.inode_events.specs.Checks.{last_check}
use Rattle.inode_events.specs.Inode.{Inode}
use Rattle.inode_events.specs.Integrity.{attributes, collecting, fixed_by, in_force}
use Rattle.inode_events.specs.NewestFirst.{newest_first}
use Rattle.inode_events.specs.Says.{take_told}
use Rattle.inode_events.specs.State.{metadata}
use Rattle.inode_events.specs.declared.deed.Deed.TheVariants as deed
use Rattle.inode_events.specs.declared.told.Event.{Event}
use Rattle.inode_events.specs.declared.told.Told.TheVariants as told
use Rattle.inode_state.specs.Facts.{AreFacts}
use Rattle.inode_state.specs.laws_of_journals.Own.{IsBy}
use Rattle.inode_cell.specs.Acts.{MayBy}
use Rattle.inode_cell.specs.Granting.{sums_in_force}
use Rattle.inode_cell.proofs.Acting.{acts_from, blocked, may_from}
use Rattle.inode_cell.proofs.GrantLemmas.{moved, take_asks, take_asks_none, take_begins, take_digest, take_tells}
use Rattle.inode_cell.proofs.Guarding.{force_sha1, take_sha1}
use Rattle.inode_cell.proofs.cell.InodeCell.take.Goals as goal

pub returns-then-is_collecting-clause-acts : goal.returns-then-is_collecting-clause-acts
returns-then-is_collecting-clause-acts c =
    let v = c.args.self.now in
    c.block.ensures c.args.book.now.list c.args.who (deed.Take c.args.file)
    (blocked (collecting v.inode (newest_first v.list)) (take_told v.inode c.args.file (placed_for
    c.args.book.now.list (asked v.inode (deed.Take c.args.file) (newest_first v.list))) (in_force
    v.inode (newest_first v.list)) (newest_first v.list)) (sym c.is_collecting.ensures
    ∙ c.if-is_collecting.true))

pub returns-in_ok-reserve-in-None-clause-acts : goal.returns-in_ok-reserve-in-None-clause-acts
returns-in_ok-reserve-in-None-clause-acts c =
    acts_from c.args.self.now c.reserve.new.self c.step.new.self c.args.book.now.list
    c.args.book.now.list c.args.pass.now c.step.new.pass c.args.who (deed.Take c.args.file)
    (Some told.Begun)
    c.in_ok-reserve-in-None.ensures.list c.in_ok-reserve-in-None.ensures.same (c.step.ensures
    c.args.book.now.list)

pub step-requires-clause-plain : goal.step-requires-clause-plain
step-requires-clause-plain c =
    let old = c.args.self.now in
    let v = c.reserve.new.self in
    let i = v.inode in
    let p = newest_first v.list in
    let move = moved old v v c.in_ok-reserve-in-None.ensures.list
    c.in_ok-reserve-in-None.ensures.same refl in
    let free : is_some (collecting i p) ≡ false =
    move (λ (i : Inode) (p : List Event). is_some (collecting i p) ≡ false) (sym
    c.is_collecting.ensures ∙ c.if-is_collecting.false) in
    let none : sums_in_force (in_force i p) ≡ None =
    move (λ (i : Inode) (p : List Event). sums_in_force (in_force i p) ≡ None) (sym
    c.in-None.ensures) in
    let m : MayBy v c.args.pass.now.number (deed.Take c.args.file) = may_from old v
    c.args.pass.now.number (deed.Take c.args.file) c.in_ok-reserve-in-None.ensures.list
    c.in_ok-reserve-in-None.ensures.same c.requires.may in
    record {
      may = m.may;
      by = subst (λ (n : ℕ). IsBy n (deed.Take c.args.file) p) c.requires.number m.by;
      quiet = take_asks_none i c.args.file p (last_check c.args.file p).action.measure (collecting
          i p) (in_force i p) none;
      told = take_begins i c.args.file (Added 0) p (collecting i p) (in_force i p) free none;
      content = refl;
      attributes = refl;
      facts = move (λ (i : Inode) (p : List Event). AreFacts i p (record {
        who = c.args.who;
        deed =
            deed.Take c.args.file;
        told = told.Begun;
      }) c.taking-facts.result)
          (c.taking-facts.ensures c.args.who told.Begun);
    }

pub grant-requires-clause-grants : goal.grant-requires-clause-grants
grant-requires-clause-grants c =
    let v = c.args.self.now in
    let i = v.inode in
    let p = newest_first v.list in
    let file = c.args.file in
    let sums = c.in-Some.sums in
    let free : is_some (collecting i p) ≡ false = sym c.is_collecting.ensures
    ∙ c.if-is_collecting.false in
    let some : sums_in_force (in_force i p) ≡ Some sums = sym c.in-Some.ensures in
    record {
      check = record { slot = c.requires.slot; action = c.requires.action };
      sha1 = take_sha1 sums (in_force i p) (force_sha1 i p) some;
      tells = λ placed. take_tells i file placed p sums (collecting i p) (in_force i p) free some;
      asks = take_asks i file p (last_check file p).action.measure sums (collecting i p) (in_force
          i p) free some;
      leaves = λ g. ap (λ (o : Option Digest). fixed_by i g.labelled o (metadata p) (attributes i
          p)) (take_digest sums (in_force i p) some);
      keeps = λ g. refl;
      facts = λ g. c.taking-facts.ensures c.args.who (told.Grant g);
    }
