use Rattle.std.proofs.Common.{◌≡◌, ℕ, ◌+◌, List, [], ◌++◌, length, take, sym, ◌∙◌, ap, subst, arith}
use Rattle.std.proofs.lemmas.List.{append-nil}
use Rattle.report_text.specs.Words.{Line}
use Rattle.world_model.specs.model.events.Inode.{Inode}
use Rattle.world_model.specs.model.events.NewestFirst.{newest_first}
use Rattle.world_model.specs.model.events.declared.told.Event.{Event}
use Rattle.world_model.specs.model.events.forms.Words.{text_of}
use Rattle.audit_trail.proofs.Passing.{journal_next}
use Rattle.audit_trail.proofs.Printing.{counts_join, texts_join}
use Rattle.audit_trail.proofs.Standing.{follows_there, past_all, past_next, past_none}
use Rattle.audit_trail.proofs.Stepping.{walk_on, well_formed}
use Rattle.audit_trail.specs.Sites.{event_lines, inode_at, site_lines}
use Rattle.audit_trail.specs.Walk.{IsWalk}
use Rattle.audit_trail.specs.declared.walk.Walk.{Walk}
use Rattle.audit_trail.proofs.journals.push_events.Goals as goal

pub loop-place-init : goal.loop-place-init
loop-place-init c =
    let none = past_none c.args.journal.now in
    let lines : site_lines c.args.context.now c.args.site.now
    (newest_first (take 0 c.args.journal.now))
    ≡ [] = ap (site_lines c.args.context.now c.args.site.now) none in
    record {
      walk = subst (λ (p : List Event). IsWalk (inode_at c.args.context.now c.args.site.now) p
          c.args.walk.now) (sym none) c.requires.walk;
      text = sym (ap (λ (l : List Line). c.args.out.now.items ++ text_of l) lines
          ∙ append-nil c.args.out.now.items);
      count = sym (ap (λ (l : List Line). length l) lines);
      grows = omega arith;
    }

pub push_event-requires : goal.push_event-requires
push_event-requires c = c.loop-place.invariant.walk.cached

pub advance-requires-clause-form : goal.advance-requires-clause-form
advance-requires-clause-form c =
    let e : Event = c.index-journal-place.result in
    well_formed (inode_at c.args.context.now c.args.site.now)
    (newest_first (take c.loop-place.place c.args.journal.now)) e.who e.deed e.told
    (follows_there (inode_at c.args.context.now c.args.site.now) c.args.journal.now
    c.loop-place.place e c.requires.legal c.loop-place-test.true c.index-journal-place.is)

pub advance-requires-clause-cached : goal.advance-requires-clause-cached
advance-requires-clause-cached c =
    (c.in_ok-count.ensures.walk (inode_at c.args.context.now c.args.site.now)
    (newest_first (take c.loop-place.place c.args.journal.now)) c.loop-place.invariant.walk).cached

pub loop-place-preserved : goal.loop-place-preserved
loop-place-preserved c =
    let j : List Event = c.args.journal.now in
    let k : ℕ = c.loop-place.place in
    let e : Event = c.index-journal-place.result in
    let i : Inode = inode_at c.args.context.now c.args.site.now in
    let w : Walk = c.push_event.new.walk in
    let next = past_next c.args.journal.now c.loop-place.place c.index-journal-place.result
    c.loop-place-test.true c.index-journal-place.is in
    let follows = follows_there (inode_at c.args.context.now c.args.site.now) c.args.journal.now
    c.loop-place.place c.index-journal-place.result c.requires.legal c.loop-place-test.true
    c.index-journal-place.is in
    let h : IsWalk (inode_at c.args.context.now c.args.site.now)
    (newest_first (take c.loop-place.place c.args.journal.now)) c.push_event.new.walk =
    c.in_ok-count.ensures.walk (inode_at c.args.context.now c.args.site.now)
    (newest_first (take c.loop-place.place c.args.journal.now)) c.loop-place.invariant.walk in
    let lines : site_lines c.args.context.now c.args.site.now
    (newest_first (take (c.loop-place.place + 1) c.args.journal.now))
    ≡ site_lines c.args.context.now c.args.site.now
    (newest_first (take c.loop-place.place c.args.journal.now))
    ++ event_lines c.args.context.now c.args.site.now c.loop-place.place c.loop-place.walk
    c.index-journal-place.result =
    journal_next c.args.context.now c.args.site.now c.args.journal.now c.loop-place.place
    c.index-journal-place.result c.loop-place.walk c.loop-place.invariant.walk
    c.loop-place-test.true c.index-journal-place.is in
    record {
      walk = subst (λ (p : List Event). IsWalk (inode_at c.args.context.now c.args.site.now) p
          c.advance.new.self) (sym next)
          (walk_on i (newest_first (take k j)) w c.advance.new.self e follows h
          c.in_ok-advance.ensures);
      text = texts_join c.args.out.now.items c.loop-place.out.items c.push_event.new.out.items _ _
          c.loop-place.invariant.text c.in_ok-count.ensures.text
          ∙ ap (λ (l : List Line). c.args.out.now.items ++ text_of l) (sym lines);
      count = counts_join c.loop-place.count c.in_ok-count.field-0 _ _
          c.loop-place.invariant.count c.in_ok-count.ensures.count
          ∙ ap (λ (l : List Line). length l) (sym lines);
      grows = omega (arith, c.loop-place.invariant.grows, c.in_ok-count.ensures.grows);
    }

pub returns-clause-text : goal.returns-clause-text
returns-clause-text c =
    c.loop-place.invariant.text
    ∙ ap (λ (p : List Event). c.args.out.now.items
    ++ text_of (site_lines c.args.context.now c.args.site.now p))
    (past_all c.args.journal.now c.loop-place.place c.loop-place-test.false)

pub returns-clause-count : goal.returns-clause-count
returns-clause-count c =
    c.loop-place.invariant.count
    ∙ ap (λ (p : List Event). length (site_lines c.args.context.now c.args.site.now p))
    (past_all c.args.journal.now c.loop-place.place c.loop-place-test.false)
