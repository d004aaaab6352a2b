use Rattle.std.proofs.Common.{◌≡◌, ◌<◌, ◌≤◌, List, subst, sym, arith}
use Rattle.std.specs.Prelude.{All, count_by}
use Rattle.std.proofs.lemmas.List.Elements.{All-weaker}
use mathlib.Core.List.{IsPrefix}
use Rattle.grow_list.specs.Entries.{has_place}
use Rattle.grow_list.specs.Others.{HasOthers}
use Rattle.grow_list.specs.Shown.{HasEach, HasItsOwn, Passed}
use Rattle.inode_events.specs.Callers.{caller_of}
use Rattle.inode_events.specs.declared.told.Event.{Event}
use Rattle.ima_templates.specs.declared.entry.Entry.{Entry}
use Rattle.world_model.specs.states.Value.{beside_own}
use Rattle.policy_cell.specs.declared.cell.RuleEntry.{RuleEntry}
use Rattle.world_close.proofs.Listing.{all_ruled, book_others, rules_each, sem_others}
use Rattle.world_close.proofs.lists.close_lists.Goals as goal

-- the requires, in order: inodes, book, sems, rules, spares, count, passes
pub take_back-requires : goal.take_back-requires
take_back-requires g c = (c.requires.0, c.requires.1.1.1.1.1)

pub close-list-requires : goal.close-list-requires
close-list-requires g c =
    let r = c.in_ok-back.ensures in
    subst (λ (l : List (Passed Entry)). HasOthers c.args.parts.book l) (sym r.list_passes_are)
    (book_others g.consts c.args.parts.book c.args.parts.world_inodes.items r.book
    c.args.passes.items
    c.requires.1.0 c.requires.0 r.closed c.requires.1.1.1.1.1.1 c.requires.1.1.1.1.1.0)

pub close-signals-requires : goal.close-signals-requires
close-signals-requires g c =
    subst (λ (l : List (Passed Event)). HasOthers c.args.parts.sems l)
    (sym c.in_ok-back.ensures.signals_are)
    (sem_others g.consts c.args.parts.sems c.args.passes.items c.requires.1.1.0
    c.requires.1.1.1.1.1.1 c.requires.1.1.1.1.1.0)

pub close-rules-requires : goal.close-rules-requires
close-rules-requires g c =
    subst (λ (l : List (Passed RuleEntry)). HasEach c.args.parts.rules.appended l)
    (sym c.in_ok-back.ensures.appenders_are)
    (rules_each g.consts c.args.parts.rules c.args.parts.world_inodes.items c.args.passes.items
    c.args.parts.spares.items c.requires.1.1.1.0 c.requires.0 c.requires.1.1.1.1.0
    c.requires.1.1.1.1.1.1 c.requires.1.1.1.1.1.0)

pub returns-clause-closed : goal.returns-clause-closed
returns-clause-closed g c =
    let r = c.in_ok-back.ensures in
    record {
      inodes = r.book;
      closed = r.closed;
      book = record {
        first = c.requires.1.0.boot;
        seen = subst (λ (l : List (Passed Entry)). All
            (λ (p : Passed Entry). IsPrefix p.seen c.args.parts.book.list) l) r.list_passes_are
            c.close-list.ensures.seen;
        places = λ k below.
            subst (λ (l : List (Passed Entry)). count_by
            (λ (p : Passed Entry). has_place k p.mine) l ≡ beside_own k) r.list_passes_are
            (c.close-list.ensures.places k below);
        distinct = c.close-list.ensures.distinct;
      };
      entries = c.close-list.ensures.entries;
      are_signals = c.close-signals.ensures.legal;
      signed = All-weaker (λ (e : Event). (0 < caller_of e) × (caller_of e < c.args.parts.sems.callers))
          (λ (e : Event). (0 < caller_of e) × (caller_of e ≤ g.consts.tasks))
          (λ e s. (
            s.0,
            (let callers = c.requires.1.1.0.callers in let below = s.1 in omega arith),
          )) c.args.parts.sems.list c.close-signals.ensures.signed;
      ruled = all_ruled g.consts c.args.parts.rules c.args.parts.world_inodes.items
          c.args.passes.items
          c.args.parts.spares.items c.requires.1.1.1.0 c.requires.0 c.requires.1.1.1.1.0
          c.requires.1.1.1.1.1.1 c.requires.1.1.1.1.1.0
          (subst (λ (l : List (Passed RuleEntry)). All
          (λ (q : Passed RuleEntry). HasItsOwn c.args.parts.rules.appended q) l) r.appenders_are
          c.close-rules.ensures.own)
          (λ k below. subst (λ (l : List (Passed RuleEntry)). count_by
          (λ (q : Passed RuleEntry). has_place k q.mine) l ≡ 1) r.appenders_are
          (c.close-rules.ensures.places k below));
    }
