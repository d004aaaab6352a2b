-- Lines of reports, each with what is read of it.
use Rattle.std.proofs.Common.{◌≡◌, ℕ, true, false, List, codes, Option, Some, None, refl}
use Rattle.inode_meta.specs.declared.step.Who.{Who}
use Rattle.report_words.specs.declared.event.Deed.TheVariants as deed
use Rattle.report_words.specs.declared.event.Event.{Event}
use Rattle.report_words.specs.declared.event.Kind.TheVariants as kind
use Rattle.report_words.specs.declared.event.Outcome.TheVariants as outcome
use Rattle.report_words.specs.declared.event.Placed.TheVariants as placed
use Rattle.report_words.specs.declared.event.Span.{Span}
use Rattle.report_words.specs.declared.event.Verdict.TheVariants as verdict
use Rattle.report_words.specs.Deeds.{deed_by, deed_in}
use Rattle.report_words.specs.Forms.{first_words}
use Rattle.report_lines.specs.Lines.{birth_event, event_of, is_attr, is_force, reply_of, rule_of, task_of}
use Rattle.report_words.specs.Outcomes.{outcome_of}

-- ---- events

abbrev nowhere : Span
nowhere = record { at = 0; len = 0 }

abbrev reads_as : ℕ → List ℕ → Option Event
reads_as place line = event_of place nowhere (first_words line)

abbrev step : ℕ → ℕ → ℕ → Who
step t c s = record { task = t; call = c; step = s }

births : (reads_as 0 (codes "0 birth") ≡ Some (birth_event nowhere))
    × (reads_as 1 (codes "1 birth") ≡ None) × (reads_as 0 (codes "0 birth ") ≡ None)
    × (reads_as 0 (codes "0 0.0.0 count r = held") ≡ None)
unfolding event_of
births = (refl, refl, refl, refl)

counts : (reads_as 1 (codes "1 0.2.0 count rw create = held") ≡ Some (record {
  line = nowhere;
  who = step 0 2 0;
  deed = deed.Count kind.ReadWrite true;
  outcome = outcome.Held;
}))
    × (reads_as 1 (codes "1 0.2.0 count w create = notfound") ≡ None)
    × (reads_as 1 (codes "1 0.2.0 count r = textbusy") ≡ None)
    × (reads_as 1 (codes "1 0.2.0 count x create = held") ≡ None)
    × (reads_as 2 (codes "1 0.2.0 count r = held") ≡ None)
    × (reads_as 1 (codes "1 0.2.00 count r = held") ≡ None)
unfolding event_of deed_in deed_by outcome_of
counts = (refl, refl, refl, refl, refl, refl)

checks : (reads_as 7 (codes "7 1.0.1 check 2 FILE_CHECK rules 3 measure 10 ima-ng audit = tomtou 3")
    ≡ Some (record {
      line = nowhere;
      who = step 1 0 1;
      deed = deed.Check 2;
      outcome = outcome.ToMToU 3;
    }))
    × (reads_as 7 (codes "7 1.0.1 check 2 FILE_CHECK audit measure 10 ima-ng = quiet") ≡ None)
    × (reads_as 7 (codes "7 1.0.1 check 2 FILE_CHECK = quiet") ≡ None)
    × (reads_as 7 (codes "7 1.0.1 check 2 FILE_CHECK measure 24 ima-ng = quiet") ≡ None)
    × (reads_as 7 (codes "7 1.0.1 check 2 FILE_MMAP - = quiet") ≡ None)
unfolding event_of deed_in deed_by outcome_of
checks = (refl, refl, refl, refl, refl)

grants : (reads_as 6 (codes "6 0.0.4 finish 1 = added 2 deny invalid-hash refused") ≡ Some (record {
  line = nowhere;
  who = step 0 0 4;
  deed = deed.Finish 1;
  outcome = outcome.Granted (record {
    entry = 2;
    placed = placed.Added;
    verdict = verdict.Deny;
    admitted = false;
    labelled = false;
  });
}))
    × (reads_as 6 (codes "6 0.0.4 finish 1 = begun") ≡ None)
    × (reads_as 6 (codes "6 0.0.4 finish 1 = added admitted") ≡ None)
    × (reads_as 6 (codes "6 0.0.4 finish 1 = deny admitted") ≡ None)
unfolding event_of deed_in deed_by outcome_of
grants = (refl, refl, refl, refl)

-- a name may be the word `=`
changes : (reads_as 3 (codes "3 0.1.0 set-attr = - = nodata") ≡ Some (record {
  line = nowhere;
  who = step 0 1 0;
  deed = deed.RemoveAttr;
  outcome = outcome.NoData;
}))
    × (reads_as 3 (codes "3 0.1.0 set-attr user.a 3 = nodata") ≡ None)
    × (reads_as 3 (codes "3 0.1.0 set-meta owner 0 1 = status no-xattrs") ≡ None)
    × (reads_as 3 (codes "3 0.1.0 close-finish 1 = labelled dropped") ≡ Some (record {
      line = nowhere;
      who = step 0 1 0;
      deed = deed.CloseFinish 1;
      outcome = outcome.LabelledDropped;
    }))
unfolding event_of deed_in deed_by outcome_of
changes = (refl, refl, refl, refl)

-- ---- the other lines

others : (reply_of (first_words (codes "0 ok")) ≡ Some (0, true))
    × (reply_of (first_words (codes "4 EACCES missing-hash")) ≡ Some (4, false))
    × (reply_of (first_words (codes "4 EACCES")) ≡ None)
    × (reply_of (first_words (codes "4 ok 3")) ≡ None)
    × (task_of (first_words (codes "task 2 unfinished")) ≡ Some (2, false))
    × (rule_of (first_words (codes "rule 3 0.1.0 audit func=FILE_CHECK")) ≡ Some 3)
    × (rule_of (first_words (codes "rule 3 0.1.0 ")) ≡ None)
    × (is_force (first_words (codes "force none")) ≡ true)
    × (is_force (first_words (codes "force md5:00")) ≡ false)
    × (is_attr (first_words (codes "end ")) ≡ true) × (is_attr (first_words (codes "end")) ≡ false)
unfolding reply_of
others = (refl, refl, refl, refl, refl, refl, refl, refl, refl, refl, refl)
