-- The part of an event, an entry and a run that the words of a report determine.
use Rattle.std.specs.Prelude.{◌≡◌, map, ℕ, Bool, false, List, [], length, Some, None, unwrap_or, option_map, replicate, if◌then◌else◌}
use Rattle.std.specs.List.{AllByRecursion}
use Rattle.hash_algos.specs.declared.algo.Algo.TheVariants.{Sha256}
use Rattle.hash_algos.specs.declared.digest.Digest.{Digest}
use Rattle.inode_meta.specs.declared.appraisal.Need.TheVariants as need
use Rattle.inode_meta.specs.declared.measurement.Template.{Template}
use Rattle.policy_text.specs.rules.declared.access.Action.{Action}
use Rattle.ima_templates.specs.declared.entry.Entry.{Entry}
use Rattle.run_model.specs.EndedValue.{EndedValue as Ended}
use Rattle.inode_events.specs.Inode.{nobody}
use Rattle.inode_events.specs.declared.deed.Deed.{Deed}
use Rattle.inode_events.specs.declared.deed.Deed.TheVariants as deed
use Rattle.inode_events.specs.declared.told.Event.{Event}
use Rattle.inode_events.specs.declared.told.Told.{Told}
use Rattle.inode_events.specs.declared.told.Told.TheVariants as told
use Rattle.report_text.specs.Ranges.{IsListEntry}

-- the action as printed: the template is the one that will be used, and the allowed algorithms
-- aren't shown
abbrev pub printed_action : Template → Action → Action
printed_action default a = record {
  measure = a.measure;
  pcr = if a.measure then a.pcr else 10;
  template = if a.measure then Some (unwrap_or a.template default) else None;
  appraise = a.appraise;
  need = if a.appraise then a.need else need.Any;
  algos = None;
  audit = a.audit;
  hash = a.hash;
}

-- the bytes as printed: only their length is shown
abbrev pub blank : List ℕ → List ℕ
blank bytes = replicate (length bytes) 0

abbrev pub printed_deed : Template → Bool → Deed → Deed
printed_deed default grows (deed.Check file func action rules) =
    deed.Check file func (printed_action default action) (if grows then rules else 0)
printed_deed default grows (deed.Write file from bytes) = deed.Write file from (blank bytes)
printed_deed default grows (deed.SetAttr name bytes admin) =
    deed.SetAttr name (option_map blank bytes) false
printed_deed default grows d = d

abbrev pub no_digest : Digest
no_digest = record { algo = Sha256; bytes = [] }

-- the outcome as printed: the image of a birth and the digest of a read aren't shown
abbrev pub printed_told : Told → Told
printed_told (told.Image image) = told.Nothing
printed_told (told.Read n digest) = told.Read n no_digest
printed_told t = t

abbrev pub birth_event : Event
birth_event = record { who = nobody; deed = deed.Birth; told = told.Nothing }

abbrev pub printed_by : Template → Bool → Event → Deed → Event
printed_by default grows e deed.Birth = birth_event
printed_by default grows e d =
    record { who = e.who; deed = printed_deed default grows d; told = printed_told e.told }

abbrev pub printed : Template → Bool → Event → Event
printed default grows e = printed_by default grows e e.deed

-- the entry as printed: a line of the list doesn't show whether its entry is a violation
abbrev pub printed_entry : Entry → Entry
printed_entry e = record {
  pcr = e.pcr;
  template = e.template;
  digest = e.digest;
  name = e.name;
  sig = e.sig;
  violation = false;
}

-- what two runs of one script have in common if their reports are equal
pub record IsTold (a b : Ended) : Type 0 where
  pub events : map (λ i. map (printed a.template a.grows) i.journal) a.inodes
      ≡ map (λ i. map (printed a.template a.grows) i.journal) b.inodes
  pub count : length a.list ≡ length b.list
  pub entries : AllByRecursion IsListEntry a.list → AllByRecursion IsListEntry b.list
      → map printed_entry a.list ≡ map printed_entry b.list
  pub rules : a.rules ≡ b.rules
  pub replies : map (λ t. t.replies) a.tasks ≡ map (λ t. t.replies) b.tasks

-- what two runs have in common because they are of one script
pub record IsOneScript (a b : Ended) : Type 0 where
  pub template : a.template ≡ b.template
  pub grows : a.grows ≡ b.grows
  pub base : a.base ≡ b.base
  pub inodes : length a.inodes ≡ length b.inodes
  pub tasks : length a.tasks ≡ length b.tasks
  -- a program without `addrule` appends none
  pub none_of_a : a.grows ≡ false → a.rules ≡ []
  pub none_of_b : b.grows ≡ false → b.rules ≡ []
