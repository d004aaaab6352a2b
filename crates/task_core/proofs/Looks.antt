-- A look at all lists of a world.
use Rattle.std.proofs.Common.{◌≡◌, ℕ, ◌+◌, List, map, Some, sym, ◌∙◌, ap, subst}
use Rattle.std.specs.Prelude.{slice_get}
use Rattle.std.proofs.lemmas.List.{length-map}
use Rattle.std.proofs.lemmas.Option.{same_Some}
use Rattle.grow_list.specs.Entries.{entries_of}
use Rattle.grow_list.specs.Shown.{Grown, IsSameList, ListName, Passed}
use Rattle.ima_templates.specs.declared.entry.Entry.{Entry}
use Rattle.inode_events.specs.Callers.{caller_of}
use Rattle.inode_events.specs.Inode.{Inode}
use Rattle.inode_events.specs.declared.settings.Settings.{Settings}
use Rattle.inode_events.specs.declared.told.Event.{Event}
use Rattle.policy_cell.specs.Policy.{PolicyValue}
use Rattle.policy_cell.specs.declared.cell.RuleEntry.{RuleEntry}
use Rattle.policy_rules.specs.RuleValue.{RuleValue}
use Rattle.policy_rules.specs.declared.access.Super.{Super}
use Rattle.run_model.specs.Turns.{State}
use Rattle.task_core.proofs.Seen.{PassSees, sees_alone}
use Rattle.world_model.specs.WorldConsts.{InodeConsts, WorldConsts, boot_in, inode_in}
use Rattle.world_model.specs.Runs.{HasMade}
use Rattle.world_model.specs.Tasks.{ArePassesOf, IsTask, PassesValue, Tasked}
use Rattle.world_model.specs.World.{WorldInodeValue, WorldValue, inode_consts_of, journal_of}
use Rattle.world_model.specs.declared.hash_state.HashState.{HashState}
use Rattle.world_locks.proofs.about_worlds.Eventing.{get_map}
use Rattle.world_locks.proofs.about_worlds.Looking.{look_is_made, look_is_played}
use Rattle.world_locks.specs.worlds.Looks.{HasLookedAtAll, InodeLooked}
use Rattle.world_locks.specs.worlds.Plays.{task_left}
use Rattle.world_locks.specs.worlds.Ready.{HasLooked}
use Rattle.task_state.specs.Value.{TaskValue}
use Rattle.world_close.specs.Closed.{AreSpares}
use Rattle.world_locks.proofs.about_acts.Keeping.{each_inode_kept, journals_kept, world_inodes_kept}
use Rattle.world_locks.specs.acts.Looking.{AreSameWorldInodes, HaveLooked, LookedAt}
use Rattle.world_model.specs.Parts.{AreParts, consts_by, state_by}

module _ (settings : Settings) (world_inodes world_inodes2 : List WorldInodeValue)
    (supers : List Super)
    (book book2 : Grown Entry) (sems sems2 : Grown Event) (rules rules2 : PolicyValue) (tasks : ℕ)
    (kept : AreSameWorldInodes world_inodes world_inodes2) (books : IsSameList book book2)
    (signals : IsSameList sems sems2) (base : rules2.base ≡ rules.base)
    (added : IsSameList rules.appended rules2.appended) where
  abbrev F : WorldConsts
  F = consts_by settings world_inodes supers book sems rules tasks

  abbrev Later : WorldConsts
  Later = consts_by settings world_inodes2 supers book2 sems2 rules2 tasks

  -- the constants stay the same
  pub consts_looked : Later ≡ F
  consts_looked =
      ap (λ (xs : List InodeConsts). record Later {
        each_inode = xs;
      }) (each_inode_kept world_inodes world_inodes2 kept)
      ∙ ap (λ (xs : List Entry). record Later {
        each_inode = F.each_inode;
        boot = boot_in xs;
      }) books.list
      ∙ ap (λ (x : ListName). record Later {
        each_inode = F.each_inode;
        boot = F.boot;
        book = x;
      }) books.name
      ∙ ap (λ (x : ListName). record F { signals = x; base = rules2.base; rules = Later.rules })
      signals.name
      ∙ ap (λ (xs : List RuleValue). record F { base = xs; rules = Later.rules }) base
      ∙ ap (λ (x : ListName). record F { rules = x }) added.name

  -- the lists stay the same
  pub state_looked : state_by world_inodes2 book2 sems2 rules2
      ≡ state_by world_inodes book sems rules
  state_looked =
      ap (λ (js : List (List Event)). record {
        journals = js;
        list = book2.list;
        signals = sems2.list;
        added = rules2.appended.list;
      }) (journals_kept world_inodes world_inodes2 kept)
      ∙ ap (λ (xs : List Entry). record {
        journals = map journal_of world_inodes;
        list = xs;
        signals = sems2.list;
        added = rules2.appended.list;
      }) books.list
      ∙ ap (λ (xs : List Event). record {
        journals = map journal_of world_inodes;
        list = book.list;
        signals = xs;
        added = rules2.appended.list;
      }) signals.list
      ∙ ap (λ (xs : List RuleEntry). record {
        journals = map journal_of world_inodes;
        list = book.list;
        signals = sems.list;
        added = xs;
      }) added.list

  -- each part belongs to the constants
  parts_at : AreParts F world_inodes book sems rules → AreParts F world_inodes2 book2 sems2 rules2
  parts_at parts = record {
    world_inodes = world_inodes_kept F world_inodes world_inodes2 kept parts.world_inodes;
    book = record {
      name = books.name ∙ parts.book.name;
      boot = ap (λ (xs : List Entry). slice_get xs 0) books.list ∙ parts.book.boot;
      callers = books.callers ∙ parts.book.callers;
    };
    sems = record {
      name = signals.name ∙ parts.sems.name;
      callers = signals.callers ∙ parts.sems.callers;
    };
    rules = record {
      name = added.name ∙ parts.rules.name;
      base = base ∙ parts.rules.base;
      callers = added.callers ∙ parts.rules.callers;
      numbers = added.numbers ∙ parts.rules.numbers
          ∙ ap (λ (xs : List RuleEntry). map (λ (r : RuleEntry). r.who.task) xs) (sym added.list);
    };
  }

  pub parts_looked : AreParts F world_inodes book sems rules
      → AreParts Later world_inodes2 book2 sems2 rules2
  parts_looked parts =
      subst (λ (x : WorldConsts). AreParts x world_inodes2 book2 sems2 rules2) (sym consts_looked)
      (parts_at parts)

  -- the spare passes stay unused
  pub spares_looked : (spares : List (Passed RuleEntry)) → AreSpares F spares
      → AreSpares Later spares
  spares_looked spares h = subst (λ (x : WorldConsts). AreSpares x spares) (sym consts_looked) h

  -- the effect of the looks on the task
  module _ (t : Tasked) (passes : PassesValue)
      (parts : AreParts F world_inodes book sems rules)
      (is : IsTask F t)
      (looks : HaveLooked world_inodes t.passes.inodes passes.inodes)
      (sem_look : PassSees sems sems2 t.passes.sems passes.sems)
      (numbers : sems2.numbers ≡ map caller_of sems2.list)
      (book_look : PassSees book book2 t.passes.book passes.book)
      (rule_look : PassSees rules.appended rules2.appended t.passes.rules passes.rules) where
    abbrev S : State
    S = state_by world_inodes book sems rules

    own : ArePassesOf F t.number t.passes
    own = is.played.passes

    -- each pass of a journal has seen the journal
    inode_looked : (i : ℕ) (q : Passed Event) → slice_get passes.inodes i ≡ Some q
        → InodeLooked F (t.number + 1) i S.journals t.passes.inodes q
    inode_looked i q h =
        let x : LookedAt world_inodes t.passes.inodes i q = looks.each i q h in
        let inode_consts : slice_get F.each_inode i ≡ Some (inode_consts_of x.world_inode) =
        get_map inode_consts_of world_inodes i x.world_inode x.world_inode_at in
        let number : x.before.number ≡ t.number + 1 =
        (own.inodes i (inode_consts_of x.world_inode) x.before inode_consts x.at).1 in
        record {
          before = x.before;
          at = x.at;
          name = x.looked.name;
          number = x.looked.number;
          mine = x.looked.mine;
          journal = x.world_inode.cell.list;
          journal_at = get_map journal_of world_inodes i x.world_inode x.world_inode_at;
          seen = x.looked.seen;
          looked = λ s here.
              subst (λ (z : InodeConsts). HasLooked (inode_in F z) (t.number + 1) x.before.seen
              x.world_inode.cell.list x.before.mine)
              (same_Some (inode_consts_of x.world_inode) s (sym inode_consts ∙ here))
              (subst (λ (z : Inode). HasLooked z (t.number + 1) x.before.seen
              x.world_inode.cell.list x.before.mine)
              (ap (λ (z : Settings). record {
                path = x.world_inode.cell.inode.path;
                settings = z;
                birth = x.world_inode.cell.inode.birth;
              }) (parts.world_inodes i x.world_inode x.world_inode_at).settings)
              (subst (λ (k : ℕ). HasLooked x.world_inode.cell.inode k x.before.seen
              x.world_inode.cell.list x.before.mine) number x.looked.looked));
        }

    -- the passes have seen all lists
    looked_at_all : HasLookedAtAll F t S passes
    looked_at_all = record {
      even = looks.even;
      journals = length-map world_inodes journal_of ∙ sym (length-map world_inodes inode_consts_of);
      inodes = inode_looked;
      sems = sees_alone sems sems2 t.passes.sems passes.sems sem_look;
      signals =
          ap (λ (k : ℕ). entries_of k (map caller_of sems.list) sems.list)
          (sym (sem_look.pass.1 ∙ own.sems.1))
          ∙ ap (λ (xs : List Event). entries_of passes.sems.number (map caller_of xs) xs)
          (sym signals.list)
          ∙ ap (λ (ns : List ℕ). entries_of passes.sems.number ns sems2.list) (sym numbers)
          ∙ sem_look.own;
      book = sees_alone book book2 t.passes.book passes.book book_look;
      book_before = book_look.before;
      book_seen = book_look.seen ∙ books.list;
      rules = sees_alone rules.appended rules2.appended t.passes.rules passes.rules rule_look;
      rules_before = rule_look.before;
      rules_seen = rule_look.seen ∙ added.list;
      appended =
          ap (λ (k : ℕ). entries_of k
          (map (λ (r : RuleEntry). r.who.task) rules.appended.list) rules.appended.list)
          (sym (rule_look.pass.1 ∙ own.rules.1))
          ∙ ap (λ (ns : List ℕ). entries_of passes.rules.number ns rules.appended.list)
          (sym (added.numbers ∙ parts.rules.numbers))
          ∙ ap (λ (xs : List RuleEntry). entries_of passes.rules.number rules2.appended.numbers xs)
          (sym added.list)
          ∙ rule_look.own;
    }

    -- in each list the entries of the task's number are exactly those that the task has made
    pub looked_made : HasMade Later (state_by world_inodes2 book2 sems2 rules2)
        (task_left t passes t.hash_state)
    looked_made =
        subst (λ (x : WorldConsts). HasMade x (state_by world_inodes2 book2 sems2 rules2)
        (task_left t passes t.hash_state)) (sym consts_looked)
        (subst (λ (x : State). HasMade F x (task_left t passes t.hash_state)) (sym state_looked)
        (look_is_made F t S passes is looked_at_all))

    -- the task is still one of its world
    pub looked_still : IsTask Later (task_left t passes t.hash_state)
    looked_still =
        subst (λ (x : WorldConsts). IsTask x (task_left t passes t.hash_state)) (sym consts_looked)
        (record {
          history = is.history;
          played = look_is_played F t is.history S passes is.played looked_at_all;
        })

-- the passes are of the journals of the inodes
pub look_names : (settings : Settings) (world_inodes : List WorldInodeValue) (supers : List Super)
    (book : Grown Entry) (sems : Grown Event) (rules : PolicyValue) (tasks n : ℕ)
    (passes : PassesValue)
    → ArePassesOf (consts_by settings world_inodes supers book sems rules tasks) n passes
    → (i : ℕ) (s : WorldInodeValue) (q : Passed Event) → slice_get world_inodes i ≡ Some s
    → slice_get passes.inodes i ≡ Some q → q.name ≡ s.cell.journal
look_names settings world_inodes supers book sems rules tasks n passes own i s q at here =
    (own.inodes i (inode_consts_of s) q (get_map inode_consts_of world_inodes i s at) here).0

-- the task of an unpacked world, with its passes unpacked
pub look_opens : (w0 w : WorldValue) (t : Tasked) (n : ℕ) (task_state : TaskValue) (g : HashState)
    (passes q : PassesValue) → w0 ≡ w
    → ◌≡◌ {A = Tasked} (record {
      number = n;
      task_state = task_state;
      hash_state = g;
      passes = q;
    }) t
    → passes ≡ q → IsTask w.consts t
    → IsTask w0.consts (record {
      number = n;
      task_state = task_state;
      hash_state = g;
      passes = passes;
    })
look_opens w0 w t n task_state g passes q e f k is =
    subst (λ (x : WorldValue). IsTask x.consts
    (record { number = n; task_state = task_state; hash_state = g; passes = passes })) (sym e)
    (subst (λ (y : PassesValue). IsTask w.consts
    (record { number = n; task_state = task_state; hash_state = g; passes = y })) (sym k)
    (subst (λ (x : Tasked). IsTask w.consts x) (sym f) is))
