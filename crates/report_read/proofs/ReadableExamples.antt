-- A run whose report can be read: a list of one entry, a file that a task opens, and its reply.
use Rattle.std.proofs.Common.{◌≡◌, ℕ, zero, suc, ◌+◌, ◌<◌, ◌^◌, Bool, true, false, cond, List, [], ◌∷◌, codes, None, refl, arith}
use Rattle.std.specs.Prelude.{slice_index}
use Rattle.report_text.specs.Ranges.{IsClean}
use Rattle.report_text.specs.model.EndedValue.{EndedValue as Ended}
use Rattle.report_text.specs.model.events.Inode.{Inode, nobody}
use Rattle.report_text.specs.model.events.Legal.{Legal}
use Rattle.report_text.specs.model.events.NewestFirst.{newest_first}
use Rattle.report_text.specs.model.events.declared.deed.Deed.TheVariants as deed
use Rattle.report_text.specs.model.events.declared.deed.How.TheVariants as how
use Rattle.report_text.specs.model.events.declared.told.Event.{Event}
use Rattle.report_text.specs.model.events.declared.told.Told.TheVariants as told
use Rattle.report_text.specs.model.events.meta.declared.measurement.Template.TheVariants as template
use Rattle.report_text.specs.model.registers.declared.banks.Banks.{Banks}
use Rattle.report_text.specs.model.events.templates.declared.entry.Entry.{Entry}
use Rattle.report_text.specs.model.steps.declared.reply.Reply.TheVariants as reply
use Rattle.report_read.specs.ReadBack.{AreRegisters, IsReadable, IsShownEntry}

abbrev journal : Inode → List Event
journal inode =
    record { who = nobody; deed = deed.Birth; told = told.Image inode.birth }
    ∷ record { who = nobody; deed = deed.Count (how.Read false); told = told.Held } ∷ []

abbrev run : Inode → Entry → Banks → Ended
run inode entry banks = record {
  inodes = record {
    path = codes "/a";
    journal = journal inode;
    force = None;
    attrs = (codes "user.a", 1 ∷ []) ∷ [];
    writers = 0;
    readers = 1;
    execs = 0;
  } ∷ [];
  list = entry ∷ [];
  banks = banks;
  tasks = record { done = true; replies = reply.Done ∷ [] } ∷ [];
  stuck = false;
  template = template.ImaNg;
  rules = [];
  base = 0;
  grows = false;
}

legal : (inode : Inode) → inode.birth.present ≡ true → Legal inode (newest_first (journal inode))
unfolding newest_first
legal inode here = (tt, ((tt, tt, rw here refl), ((refl, refl, refl), tt)))

few : (b : Bool) → 0 + cond b 1 0 < 2 ^ 32
few true = omega arith
few false = omega arith

one_byte : (i : ℕ) → slice_index (1 ∷ []) i < 256
one_byte zero = omega arith
one_byte (suc i) = omega arith

readable : (inode : Inode) (entry : Entry) (banks : Banks) → inode.birth.present ≡ true
    → IsClean entry.name → IsShownEntry entry → AreRegisters banks
    → IsReadable (run inode entry banks)
readable inode entry banks here name shown registers = record {
  fits = record {
    names = (name, tt);
    rules = tt;
    inodes = (record { path = refl; deeds = (tt, (tt, tt)); attrs = (refl, tt) }, tt);
    replies = ((tt, tt), tt);
  };
  few_entries = omega arith;
  few_violations = few entry.violation;
  entries = (shown, tt);
  registers = registers;
  few_rules = omega arith;
  rules = tt;
  few_inodes = omega arith;
  inodes = (
    record {
      inode = inode;
      legal = legal inode here;
      small = (
        record {
          task = omega arith;
          call = omega arith;
          step = omega arith;
          deed = tt;
          told = tt;
        },
        (
          record {
            task = omega arith;
            call = omega arith;
            step = omega arith;
            deed = tt;
            told = tt;
          },
          tt,
        ),
      );
      entries = (refl, (refl, tt));
      few_events = omega arith;
      force = tt;
      attrs = ((refl, one_byte), tt);
      few_attrs = omega arith;
      writers = omega arith;
      readers = omega arith;
      execs = omega arith;
    },
    tt,
  );
  few_tasks = omega arith;
  tasks = ((omega arith, (tt, tt)), tt);
}
