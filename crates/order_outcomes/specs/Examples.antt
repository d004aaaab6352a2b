-- Scripts whose orders are worked out by hand.
use Rattle.std.specs.Prelude.{◌≡◌, ℕ, true, false, List, [], ◌∷◌, codes, Some, None, refl}
use Rattle.report_text.specs.model.Scene.{Program, Scene, ScriptFile}
use Rattle.report_text.specs.model.events.declared.deed.How.TheVariants as how
use Rattle.report_text.specs.model.events.declared.settings.Settings.{Settings}
use Rattle.report_text.specs.model.events.hashes.Digest.{zero_digest}
use Rattle.report_text.specs.model.events.hashes.declared.algo.Algo.TheVariants.{Sha256}
use Rattle.report_text.specs.model.events.meta.declared.appraisal.Mode.TheVariants.{Off}
use Rattle.report_text.specs.model.events.meta.declared.measurement.Template.TheVariants.{ImaNg}
use Rattle.report_text.specs.model.events.templates.declared.entry.Entry.{Entry}
use Rattle.report_text.specs.model.steps.declared.call.Call.{Call}
use Rattle.report_text.specs.model.steps.declared.call.Call.TheVariants as call
use Rattle.report_text.specs.model.EndedValue.{EndedTaskValue}
use Rattle.report_text.specs.model.events.EndedInode.{EndedInodeValue}
use Rattle.report_text.specs.model.events.declared.deed.Deed.{Deed}
use Rattle.report_text.specs.model.events.declared.deed.Deed.TheVariants as deed
use Rattle.report_text.specs.model.events.declared.told.Event.{Event}
use Rattle.report_text.specs.model.events.declared.told.Told.{Told}
use Rattle.report_text.specs.model.events.declared.told.Told.TheVariants as told
use Rattle.report_text.specs.model.events.labels.declared.verdict.Verdict.TheVariants.{Pass}
use Rattle.report_text.specs.model.steps.declared.reply.Reply.TheVariants as reply
use Rattle.order_outcomes.specs.Calls.{listed_of, shows_at, verdict_of}
use Rattle.order_outcomes.specs.Orders.{is_order_of, orders_of}
use Rattle.order_outcomes.specs.Outcome.{lines_of, lines_text, tasks_text}
use Rattle.order_outcomes.specs.Sets.{place_for, with_text}
use Rattle.order_outcomes.specs.declared.lines.Kind.TheVariants.{Measurements, Violations}

-- ---- scripts

abbrev pub settings : Settings
settings = record {
  hash = Sha256;
  template = ImaNg;
  mode = Off;
  evm = record { key = None; added = []; format = 1 };
  for_files = refl;
}

-- the file /a with the content `abc`
abbrev pub script_file : ScriptFile
script_file = record {
  path = codes "/a";
  birth = record {
    present = true;
    content = 97 ∷ 98 ∷ 99 ∷ [];
    attrs = [];
    meta = record { ino = 12; generation = 1; uid = 0; gid = 0; mode = 33188; place = 1 };
    versions = true;
  };
  place = record { magic = 0xef53; uuid = 1; name = codes "ext4"; versions = true };
}

abbrev pub boot : Entry
boot = record {
  pcr = 10;
  template = ImaNg;
  digest = zero_digest Sha256;
  name = codes "boot_aggregate";
  sig = [];
  violation = false;
}

-- a task of the superuser
abbrev pub task : List Call → Program
task calls = record {
  cred = record { uid = 0; euid = 0; gid = 0; egid = 0; admin = true };
  calls = calls;
}

-- a script without rules, whose tasks have these calls
abbrev pub scene : List Program → Scene
scene programs = record {
  settings = settings;
  boot = boot;
  script_files = script_file ∷ [];
  rules = [];
  programs = programs;
}

-- a task posts, and another waits for it
abbrev pub signalled : Scene
signalled = scene (task (call.Wait 3 ∷ []) ∷ task (call.Post 3 ∷ []) ∷ [])

-- two tasks post, one of them twice
abbrev pub posts : Scene
posts = scene (task (call.Post 0 ∷ call.Post 1 ∷ []) ∷ task (call.Post 0 ∷ []) ∷ [])

-- each of two tasks waits for the other's post
abbrev pub deadlocked : Scene
deadlocked = scene (task (call.Wait 0 ∷ call.Post 1 ∷ []) ∷ task (call.Wait 1 ∷ call.Post 0 ∷ [])
    ∷ [])

-- a reader and a writer open the file
abbrev pub opens : Scene
opens = scene (task (call.Open 0 0 (how.Read false) false ∷ [])
    ∷ task (call.Open 0 0 (how.Write false false) false ∷ []) ∷ [])

-- ---- the journal of a file

abbrev pub step : ℕ → Deed → Told → Event
step call d t = record { who = record { task = 0; call = call; step = 0 }; deed = d; told = t }

-- call 1 of task 0 is granted the file, and call 2 reads it
abbrev pub inode : EndedInodeValue
inode = record {
  path = codes "/a";
  journal = step 0 (deed.Count (how.Read false)) told.Held
      ∷ step 1 (deed.Take 0) (told.Grant (record {
        placed = None;
        verdict = Some Pass;
        admitted = true;
        labelled = false;
      }))
      ∷ step 2 (deed.Read 0 0 4) (told.Read 0 (zero_digest Sha256)) ∷ [];
  force = None;
  attrs = [];
  writers = 0;
  readers = 1;
  execs = 0;
}

abbrev pub done_task : EndedTaskValue
done_task = record { done = true; replies = reply.Done ∷ reply.Done ∷ reply.Done ∷ [] }

abbrev pub open_task : EndedTaskValue
open_task = record { done = false; replies = [] }

-- an open-writers violation, as the list has it
abbrev pub violation : Entry
violation = record boot { name = codes "/a"; violation = true }

-- ---- what the definitions say of them

pub record OrderExamples : Type 0 where
  -- a script without tasks has one order, which has no turns
  pub none : orders_of (scene []) 3 ≡ [] ∷ []
  -- a wait is blocked until the post, and a blocked turn isn't in any order
  pub post_first : orders_of signalled 5 ≡ (1 ∷ 0 ∷ []) ∷ []
  pub blocked : is_order_of signalled (0 ∷ 1 ∷ 0 ∷ []) ≡ false
  -- an order goes on until no task can move
  pub unfinished : is_order_of signalled (1 ∷ []) ≡ false
  pub whole : is_order_of signalled (1 ∷ 0 ∷ []) ≡ true
  -- a task that is done can't move
  pub over : is_order_of signalled (1 ∷ 0 ∷ 0 ∷ []) ≡ false
  -- the orders come in lexicographic order
  pub mixed : orders_of posts 5
      ≡ (0 ∷ 0 ∷ 1 ∷ []) ∷ (0 ∷ 1 ∷ 0 ∷ []) ∷ (1 ∷ 0 ∷ 0 ∷ []) ∷ []
  -- longer orders than are asked for aren't listed
  pub short : orders_of posts 2 ≡ []
  -- no task of a stuck script can move
  pub stuck : orders_of deadlocked 5 ≡ [] ∷ []
  -- a count and a check each
  pub six : orders_of opens 9
      ≡ (0 ∷ 0 ∷ 1 ∷ 1 ∷ []) ∷ (0 ∷ 1 ∷ 0 ∷ 1 ∷ []) ∷ (0 ∷ 1 ∷ 1 ∷ 0 ∷ [])
      ∷ (1 ∷ 0 ∷ 0 ∷ 1 ∷ []) ∷ (1 ∷ 0 ∷ 1 ∷ 0 ∷ []) ∷ (1 ∷ 1 ∷ 0 ∷ 0 ∷ []) ∷ []
  -- a set has each text once, in byte order
  pub first : with_text (1 ∷ []) ((1 ∷ 2 ∷ []) ∷ []) ≡ (1 ∷ []) ∷ (1 ∷ 2 ∷ []) ∷ []
  pub among : with_text (2 ∷ []) ((1 ∷ []) ∷ (3 ∷ []) ∷ []) ≡ (1 ∷ []) ∷ (2 ∷ []) ∷ (3 ∷ []) ∷ []
  pub again : with_text (3 ∷ []) ((1 ∷ []) ∷ (3 ∷ []) ∷ []) ≡ (1 ∷ []) ∷ (3 ∷ []) ∷ []
  pub place : place_for (2 ∷ []) ((1 ∷ []) ∷ (3 ∷ []) ∷ []) ≡ Some 1
  pub no_place : place_for (3 ∷ []) ((1 ∷ []) ∷ (3 ∷ []) ∷ []) ≡ None
  -- a verdict is that of a grant of the call
  pub verdict : verdict_of 0 1 (inode ∷ []) ≡ Some Pass
  pub no_verdict : verdict_of 0 2 (inode ∷ []) ≡ None
  pub other_task : verdict_of 1 1 (inode ∷ []) ≡ None
  -- a read whose content no grant has added or found isn't listed, and other calls don't tell
  pub unlisted : listed_of [] 0 2 (inode ∷ []) ≡ Some false
  pub no_read : listed_of [] 0 1 (inode ∷ []) ≡ None
  -- a violation shows no content
  pub shows_none : shows_at (violation ∷ []) [] (Some 0) ≡ false
  -- an entry is either a measurement or a violation
  pub not_measured : lines_of Measurements (violation ∷ []) ≡ []
  pub not_violated : lines_of Violations (boot ∷ []) ≡ []
  -- the texts
  pub lines : lines_text Violations (codes "x\n" ∷ codes "y\n" ∷ []) ≡ codes "violations 2\nx\ny\n"
  pub tasks : tasks_text [] (inode ∷ []) 0 (done_task ∷ open_task ∷ [])
      ≡ codes "task 0 done\n0 ok\n1 ok pass\n2 ok unlisted\ntask 1 unfinished\n"
