-- Two whole runs, turn by turn from the start. Digests are left unevaluated.
use Rattle.std.proofs.Common.{◌≡◌, ℕ, Bool, true, false, List, [], ◌∷◌, codes, Option, Some, None, zero, suc, arith, refl, ap, subst, lit<, sym, ◌∙◌}
use Rattle.std.specs.Prelude.{All, ◌≤◌, ◌<◌, ◌&&◌, leb, slice_get}
use Rattle.std.proofs.lemmas.Bool.{and_parts, leb-true}
use Rattle.std.proofs.lemmas.List.Elements.{All-cons, All-nil}
use Rattle.std.proofs.lemmas.Option.{none-some, same_Some}
use Rattle.call_steps.specs.hashes.Digest.{digest_of, zero_digest}
use Rattle.call_steps.specs.hashes.declared.algo.Algo.TheVariants.{Sha1, Sha256}
use Rattle.call_steps.specs.templates.Entries.{entry_of, violation_of}
use Rattle.call_steps.specs.templates.Same.{add_by, place_of_same, placed_by, same}
use Rattle.call_steps.specs.templates.declared.entry.Entry.{Entry}
use Rattle.call_steps.specs.templates.declared.entry.Placed.{Placed}
use Rattle.call_steps.specs.templates.declared.entry.Placed.TheVariants.{Added}
use Rattle.inode_meta.specs.declared.appraisal.Mode.TheVariants.{Off}
use Rattle.inode_meta.specs.declared.appraisal.Need.TheVariants.{Any}
use Rattle.inode_meta.specs.declared.identity.Cred.{Cred}
use Rattle.inode_meta.specs.declared.measurement.Template.TheVariants.{ImaNg}
use Rattle.inode_meta.specs.declared.step.Who.{Who}
use Rattle.call_steps.specs.policy.RuleValue.{RuleValue}
use Rattle.call_steps.specs.policy.declared.access.Action.{Action}
use Rattle.call_steps.specs.policy.declared.rule.Act.TheVariants as act
use Rattle.call_steps.specs.policy.declared.rule.Func.TheVariants.{FileCheck}
use Rattle.call_steps.specs.events.Callers.{caller_of}
use Rattle.call_steps.specs.events.Checks.{no_action}
use Rattle.call_steps.specs.events.Inode.{nobody}
use Rattle.call_steps.specs.events.NewestFirst.{newest_first}
use Rattle.call_steps.specs.events.declared.deed.Deed.{Deed}
use Rattle.call_steps.specs.events.declared.deed.Deed.TheVariants as deed
use Rattle.call_steps.specs.events.declared.deed.How.TheVariants as how
use Rattle.call_steps.specs.events.declared.image.Image.{Image}
use Rattle.call_steps.specs.events.declared.settings.Settings.{Settings}
use Rattle.call_steps.specs.events.declared.told.Event.{Event}
use Rattle.call_steps.specs.events.declared.told.Told.{Told}
use Rattle.call_steps.specs.events.declared.told.Told.TheVariants as told
use Rattle.call_steps.specs.declared.ask.Ask.TheVariants as ask
use Rattle.call_steps.specs.declared.call.Call.{Call}
use Rattle.call_steps.specs.declared.call.Call.TheVariants as call
use Rattle.call_steps.specs.declared.held.Handle.{Handle}
use Rattle.call_steps.specs.declared.held.Name.TheVariants.{Descriptor}
use Rattle.call_steps.specs.declared.reply.Reply.TheVariants as reply
use Rattle.run_model.specs.History.{Answer, Position, own, plain_answer, start}
use Rattle.run_model.specs.Rounds.{IsRunOf, round_moves, rounds}
use Rattle.call_steps.specs.declared.ending.Ending.TheVariants as ending
use Rattle.run_model.specs.Scene.{Program, Scene, ScriptFile}
use Rattle.run_model.specs.Served.{IsDecided, IsServed, RulesRise, Run, Served, events_of}
use Rattle.run_model.specs.Turns.{Moment, run_at, start_of, turn, turns_of}

-- ---- the script

abbrev pub settings : Settings
settings = record {
  hash = Sha256;
  template = ImaNg;
  mode = Off;
  evm = record { key = None; added = []; format = 1 };
  for_files = refl;
}

abbrev pub image : Image
image = record {
  present = true;
  content = 97 ∷ 98 ∷ 99 ∷ [];
  attrs = [];
  meta = record { ino = 12; generation = 1; uid = 0; gid = 0; mode = 33188; place = 1 };
  versions = true;
}

abbrev pub script_file : ScriptFile
script_file = record {
  path = 47 ∷ 97 ∷ [];
  birth = image;
  place = record { magic = 0xef53; uuid = 1; name = codes "ext4"; versions = true };
}

-- `measure func=FILE_CHECK mask=MAY_READ`
abbrev pub rule : RuleValue
rule = record {
  act = act.Measure;
  func = Some FileCheck;
  mask = Some (record { exact = true; bits = 4 });
  fsmagic = None;
  fsuuid = None;
  fsname = None;
  uid = None;
  euid = None;
  gid = None;
  egid = None;
  fowner = None;
  fgroup = None;
  need = Any;
  blacklist = false;
  algos = None;
  directio = false;
  pcr = None;
  template = None;
}

abbrev pub boot : Entry
boot = record {
  pcr = 10;
  template = ImaNg;
  digest = zero_digest Sha256;
  name = codes "boot_aggregate";
  sig = [];
  violation = false;
}

abbrev pub root : Cred
root = record { uid = 0; euid = 0; gid = 0; egid = 0; admin = false }

abbrev pub scene_with : List Program → Scene
scene_with programs =
    record {
      settings = settings;
      boot = boot;
      script_files = script_file ∷ [];
      rules = rule
          ∷ [];
      programs = programs;
    }

abbrev pub reading : Call
reading = call.Open 0 0 (how.Read false) false

abbrev pub reader : Program
reader = record { cred = root; calls = reading ∷ call.Read 0 0 3 ∷ call.Close 0 ∷ [] }

-- ---- what happens

abbrev pub who : ℕ → ℕ → ℕ → Who
who task call step = record { task = task; call = call; step = step }

abbrev pub did : Who → Deed → Told → Event
did who d t = record { who = who; deed = d; told = t }

abbrev pub measure : Action
measure = record {
  measure = true;
  pcr = 10;
  template = None;
  appraise = false;
  need = Any;
  algos = None;
  audit = false;
  hash = false;
}

abbrev pub entry : Entry
entry = entry_of 10 ImaNg (digest_of Sha256 image.content)
    (digest_of Sha1 image.content) script_file.path []

abbrev pub granted : Placed → Told
granted placed =
    told.Grant (record { placed = Some placed; verdict = None; admitted = true; labelled = false })

-- the events up to the finish of the first collection
abbrev pub hashed : List Event
hashed =
    did nobody deed.Birth (told.Image image)
    ∷ did (who 0 0 0) (deed.Count (how.Read false)) told.Held
    ∷ did (who 0 0 1) (deed.Check 1 FileCheck measure 1) told.Quiet
    ∷ did (who 0 0 2) (deed.Take 1) told.Begun
    ∷ did (who 0 0 3) (deed.Chunk 1) told.Last
    ∷ []

abbrev pub opened : Placed → List Event
opened placed =
    did nobody deed.Birth (told.Image image)
    ∷ did (who 0 0 0) (deed.Count (how.Read false)) told.Held
    ∷ did (who 0 0 1) (deed.Check 1 FileCheck measure 1) told.Quiet
    ∷ did (who 0 0 2) (deed.Take 1) told.Begun
    ∷ did (who 0 0 3) (deed.Chunk 1) told.Last
    ∷ did (who 0 0 4) (deed.Finish 1) (granted placed)
    ∷ []

abbrev pub handle : Handle
handle = record { name = Descriptor 0; inode = 0; file = 1; how = how.Read false }

abbrev pub has_opened : Position
has_opened =
    record {
      call_state = record { at = 1; progress = None; handles = handle ∷ [] };
      replies = reply.Done
          ∷ [];
    }

abbrev pub finishing : Position
finishing = record {
  call_state = record {
    at = 0;
    progress = Some (record {
      due = record { ask = ask.Finish; reply = reply.Done };
      step = 4;
      inode = 0;
      file = 1;
      how = how.Read false;
    });
    handles = [];
  };
  replies = [];
}

abbrev pub moment : List Event → List Entry → List Position → Moment
moment journal list positions =
    record {
      state = record { journals = journal ∷ []; list = list; signals = []; added = [] };
      positions = positions;
    }

-- ---- a task opens, reads and closes

abbrev pub one : Scene
one = scene_with (reader ∷ [])

one_hashes : turns_of one (start_of one) (0 ∷ 0 ∷ 0 ∷ 0 ∷ [])
    ≡ moment hashed (boot ∷ []) (finishing ∷ [])
unfolding newest_first
one_hashes = refl

-- the moment after the finish, given where the entry is in the list
abbrev one_finished : Option ℕ → Moment
one_finished at = moment (opened (placed_by at 1)) (add_by at (boot ∷ []) entry) (has_opened ∷ [])

one_finishes : turn one (moment hashed (boot ∷ []) (finishing ∷ [])) 0
    ≡ one_finished (place_of_same (boot ∷ []) entry)
unfolding newest_first
one_finishes = refl

abbrev pub read : List Event
read =
    did nobody deed.Birth (told.Image image)
    ∷ did (who 0 0 0) (deed.Count (how.Read false)) told.Held
    ∷ did (who 0 0 1) (deed.Check 1 FileCheck measure 1) told.Quiet
    ∷ did (who 0 0 2) (deed.Take 1) told.Begun
    ∷ did (who 0 0 3) (deed.Chunk 1) told.Last
    ∷ did (who 0 0 4) (deed.Finish 1) (granted (Added 1))
    ∷ did (who 0 1 0) (deed.Read 1 0 3) (told.Read 3 (digest_of Sha256 image.content))
    ∷ did (who 0 2 0) (deed.Close 1) told.Dropped
    ∷ []

abbrev pub has_closed : Position
has_closed = record {
  call_state = record { at = 3; progress = None; handles = [] };
  replies = reply.Done ∷ reply.Bytes 3 (digest_of Sha256 image.content) ∷ reply.Done ∷ [];
}

abbrev pub one_end : Moment
one_end = moment read (boot ∷ entry ∷ []) (has_closed ∷ [])

one_ends : turns_of one (one_finished None) (0 ∷ 0 ∷ []) ≡ one_end
unfolding newest_first
one_ends = refl

-- the seven turns, if the entry isn't the same as the boot aggregate
pub one_runs : place_of_same (boot ∷ []) entry ≡ None
    → turns_of one (start_of one) (0 ∷ 0 ∷ 0 ∷ 0 ∷ 0 ∷ 0 ∷ 0 ∷ []) ≡ one_end
one_runs differs =
    ap (λ m. turns_of one m (0 ∷ 0 ∷ 0 ∷ [])) one_hashes
    ∙ ap (λ m. turns_of one m (0 ∷ 0 ∷ [])) (one_finishes ∙ ap one_finished differs) ∙ one_ends

-- a round at the end moves no task
pub one_is_still : round_moves one one_end ≡ false
one_is_still = refl

abbrev pub one_run : Run
one_run = run_at one_end

-- the history of the task, newest answer first
abbrev pub answers : List Answer
answers =
    plain_answer 7 told.Dropped ∷ plain_answer 6 (told.Read 3 (digest_of Sha256 image.content))
    ∷ plain_answer 5 (granted (Added 1))
    ∷ plain_answer 4 told.Last ∷ plain_answer 3 told.Begun
    ∷ record { place = 2; told = told.Quiet; action = measure; rules = 1 }
    ∷ plain_answer 1 told.Held ∷ []

-- the check was decided by the script's rule
one_is_decided : IsDecided one one_run reader 1
    (record { place = 2; told = told.Quiet; action = measure; rules = 1 }) 0 FileCheck 4
unfolding newest_first
one_is_decided = record {
  script_file = script_file;
  journal = read;
  at = refl;
  journal_at = refl;
  known_rules = omega arith;
  final = omega arith;
  action = refl;
}

one_events : (i : ℕ) (journal : List Event) → slice_get (read ∷ []) i ≡ Some journal
    → events_of 0 journal ≡ own Off 0 reader i answers
one_events zero journal e =
    subst (λ j. events_of 0 j ≡ own Off 0 reader 0 answers) (same_Some read journal e) refl
one_events (suc i) journal e = absurd (none-some journal e)

one_is_served : IsServed one one_run 0 reader has_closed
unfolding newest_first
one_is_served = record {
  history = answers;
  stands = refl;
  suited = (
    (lit< tt, refl),
    (
      (lit< tt, refl),
      (
        (lit< tt, refl),
        (
          (lit< tt, refl),
          (
            (lit< tt, refl),
            (one_is_decided, ((lit< tt, refl), tt)),
          ),
        ),
      ),
    ),
  );
  events = one_events;
  rules = refl;
}

one_tasks : (n : ℕ) (p : Program) (t : Position) → slice_get (reader ∷ []) n ≡ Some p
    → slice_get (has_closed ∷ []) n ≡ Some t → IsServed one one_run n p t
one_tasks zero p t e f =
    subst (λ q. IsServed one one_run 0 q t) (same_Some reader p e)
    (subst (λ u. IsServed one one_run 0 reader u) (same_Some has_closed t f) one_is_served)
one_tasks (suc n) p t e f = absurd (none-some p e)

-- the event is the birth, or the task's
abbrev IsOfOne : Event → Type 0
IsOfOne e = caller_of e ≤ 1

abbrev are_of_one : List Event → Bool
are_of_one [] = true
are_of_one (e ∷ es) = leb (caller_of e) 1 && are_of_one es

all_of_one : (es : List Event) → are_of_one es ≡ true → All IsOfOne es
all_of_one [] is = All-nil IsOfOne
all_of_one (e ∷ es) is =
    All-cons IsOfOne e es (leb-true (caller_of e) 1
    (and_parts (leb (caller_of e) 1) (are_of_one es) is).0)
    (all_of_one es (and_parts (leb (caller_of e) 1) (are_of_one es) is).1)

read_by : All IsOfOne read
read_by = all_of_one read refl

read_rises : RulesRise 1 (newest_first read)
unfolding newest_first
read_rises = (
  omega arith,
  (
    omega arith,
    (
      omega arith,
      (omega arith, (omega arith, (omega arith, (omega arith, (omega arith, tt))))),
    ),
  ),
)

-- the run is served
pub one_run_is_served : Served one one_run
unfolding newest_first
one_run_is_served = record {
  journals = refl;
  positions = refl;
  tasks = one_tasks;
  no_other_events = All-cons (All IsOfOne) read [] read_by (All-nil (All IsOfOne));
  no_other_rules = All-nil (λ r. r.who.task < 1);
  rules_rise =
      All-cons (λ j. RulesRise 1 (newest_first j)) read [] read_rises
      (All-nil (λ j. RulesRise 1 (newest_first j)));
}

-- ---- by rounds

five_turns : place_of_same (boot ∷ []) entry ≡ None
    → turns_of one (start_of one) (0 ∷ 0 ∷ 0 ∷ 0 ∷ 0 ∷ []) ≡ one_finished None
five_turns differs =
    ap (λ m. turns_of one m (0 ∷ [])) one_hashes ∙ one_finishes ∙ ap one_finished differs

fifth_moves : round_moves one (one_finished None) ≡ true
unfolding newest_first
fifth_moves = refl

sixth_moves : round_moves one (turns_of one (one_finished None) (0 ∷ [])) ≡ true
unfolding newest_first
sixth_moves = refl

each_moves : place_of_same (boot ∷ []) entry ≡ None → (k : ℕ) → k < 7
    → round_moves one (rounds one k (start_of one)) ≡ true
unfolding newest_first
each_moves differs zero below = refl
each_moves differs (suc zero) below = refl
each_moves differs (suc (suc zero)) below = refl
each_moves differs (suc (suc (suc zero))) below = refl
each_moves differs (suc (suc (suc (suc zero)))) below = refl
each_moves differs (suc (suc (suc (suc (suc zero))))) below =
    subst (λ m. round_moves one m ≡ true) (sym (five_turns differs)) fifth_moves
each_moves differs (suc (suc (suc (suc (suc (suc zero)))))) below =
    subst (λ m. round_moves one (turns_of one m (0 ∷ [])) ≡ true)
    (sym (five_turns differs)) sixth_moves
each_moves differs (suc (suc (suc (suc (suc (suc (suc k))))))) below = absurd (too_many k below)
  where
    too_many : (k : ℕ) → suc (suc (suc (suc (suc (suc (suc k)))))) < 7 → ⊥
    too_many k below = omega arith

-- the run by rounds is the run of the script
pub one_is_run : place_of_same (boot ∷ []) entry ≡ None → IsRunOf one ending.Rounds one_run
one_is_run differs = (
  one_end,
  (
    record {
      count = 7;
      ends = sym (one_runs differs);
      still = one_is_still;
      before = each_moves differs;
    },
    refl,
  ),
)

-- ---- a reader opens, and then a writer: two entries and a violation

abbrev pub writing : Call
writing = call.Open 0 0 (how.Write false false) false

abbrev pub two : Scene
two = scene_with (record { cred = root; calls = reading ∷ [] }
    ∷ record { cred = root; calls = writing ∷ [] } ∷ [])

two_hash : turns_of two (start_of two) (0 ∷ 0 ∷ 0 ∷ 0 ∷ [])
    ≡ moment hashed (boot ∷ []) (finishing ∷ start ∷ [])
unfolding newest_first
two_hash = refl

abbrev two_finished : Option ℕ → Moment
two_finished at =
    moment (opened (placed_by at 1)) (add_by at (boot ∷ []) entry) (has_opened ∷ start ∷ [])

two_finish : turn two (moment hashed (boot ∷ []) (finishing ∷ start ∷ [])) 0
    ≡ two_finished (place_of_same (boot ∷ []) entry)
unfolding newest_first
two_finish = refl

abbrev pub met : List Event
met =
    did nobody deed.Birth (told.Image image)
    ∷ did (who 0 0 0) (deed.Count (how.Read false)) told.Held
    ∷ did (who 0 0 1) (deed.Check 1 FileCheck measure 1) told.Quiet
    ∷ did (who 0 0 2) (deed.Take 1) told.Begun
    ∷ did (who 0 0 3) (deed.Chunk 1) told.Last
    ∷ did (who 0 0 4) (deed.Finish 1) (granted (Added 1))
    ∷ did (who 1 0 0) (deed.Count (how.Write false false)) told.Held
    ∷ did (who 1 0 1) (deed.Check 6 FileCheck no_action 1) (told.ToMToU 2)
    ∷ []

abbrev pub has_written : Position
has_written = record {
  call_state = record {
    at = 1;
    progress = None;
    handles = record {
      name = Descriptor 0;
      inode = 0;
      file = 6;
      how = how.Write false false;
    } ∷ [];
  };
  replies = reply.Done ∷ [];
}

abbrev pub two_end : Moment
two_end = moment met (boot ∷ entry ∷ violation_of ImaNg Sha256 script_file.path ∷ [])
    (has_opened ∷ has_written ∷ [])

two_end_so : turns_of two (two_finished None) (1 ∷ 1 ∷ []) ≡ two_end
unfolding newest_first same
two_end_so = refl

-- the seven turns of the schedule
pub two_run : place_of_same (boot ∷ []) entry ≡ None
    → turns_of two (start_of two) (0 ∷ 0 ∷ 0 ∷ 0 ∷ 0 ∷ 1 ∷ 1 ∷ []) ≡ two_end
two_run differs =
    ap (λ m. turns_of two m (0 ∷ 1 ∷ 1 ∷ [])) two_hash
    ∙ ap (λ m. turns_of two m (1 ∷ 1 ∷ [])) (two_finish ∙ ap two_finished differs) ∙ two_end_so
