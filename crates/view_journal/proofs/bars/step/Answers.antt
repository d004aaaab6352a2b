use Rattle.report_read.specs.words.declared.event.Deed.TheVariants as deed
use Rattle.report_read.specs.words.declared.event.Event.{Event}
use Rattle.report_read.specs.words.declared.event.Outcome.TheVariants as outcome
use Rattle.view_journal.proofs.BarsSteps.{walked_next}
use Rattle.view_journal.proofs.bars.step.Goals as goal

abbrev blank : Event
blank = record {
  line = record { at = 0; len = 0 };
  who = record { task = 0; call = 0; step = 0 };
  deed = deed.Birth;
  outcome = outcome.Born;
}

pub returns-clause-walked : goal.returns-clause-walked
returns-clause-walked c =
    walked_next c.args.windows.now c.args.journal.now c.args.place c.args.drops.now
    c.set_drop.new.drops c.args.bars.now.items c.push_bar.new.bars.items blank
    c.requires.within c.requires.walked (rw c.drop_in.ensures at c.in_ok-push_bar.ensures.is)
    c.set_drop.ensures
