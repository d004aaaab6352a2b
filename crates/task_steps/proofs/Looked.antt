-- Before a check the inode's pass and the task's pass see the appended rules.
use Rattle.std.proofs.Common.{◌≡◌, ◌≢◌, ℕ, ◌+◌, List, length, map, Some, refl, sym, ◌∙◌, ap, subst, inl, inr, length-append}
use Rattle.std.specs.Prelude.{◌⊎◌, slice_get, slice_set}
use Rattle.std.proofs.lemmas.List.{length-map}
use Rattle.std.proofs.lemmas.Option.{slice_get_within}
use mathlib.Core.List.{IsPrefix}
use Rattle.grow_list.specs.Shown.{Grown, IsSameList, ListName, Passed}
use Rattle.ima_templates.specs.declared.entry.Entry.{Entry}
use Rattle.inode_events.specs.declared.settings.Settings.{Settings}
use Rattle.inode_events.specs.declared.told.Event.{Event}
use Rattle.policy_cell.specs.Policy.{PolicyValue, in_force, rules_in}
use Rattle.policy_cell.specs.declared.cell.RuleEntry.{RuleEntry}
use Rattle.policy_rules.specs.RuleValue.{RuleValue}
use Rattle.policy_rules.specs.declared.access.Super.{Super}
use Rattle.task_steps.proofs.laws_of_runs.Owned.{set_parts}
use Rattle.task_steps.proofs.laws_of_runs.Risen.{law_rise_by_look}
use Rattle.task_steps.proofs.Lists.{map_same}
use Rattle.world_model.specs.Parts.{AreParts, consts_by}
use Rattle.task_steps.specs.worlds.WorldConsts.{InodeConsts, WorldConsts}
use Rattle.task_steps.specs.worlds.World.{AreRulesOf, IsWorldInode, WorldInodeValue, inode_consts_of}

-- the number of rules in force is that of the script's and the appended ones
pub force_count : (p : PolicyValue) → length (in_force p) ≡ length p.base + length p.appended.list
force_count p =
    length-append p.base (rules_in p.appended.list)
    ∙ ap (λ (n : ℕ). length p.base + n) (length-map p.appended.list (λ (r : RuleEntry). r.rule))

module _ (settings : Settings) (world_inodes : List WorldInodeValue) (supers : List Super)
    (book : Grown Entry) (sems : Grown Event) (rules rules2 : PolicyValue) (tasks i : ℕ)
    (st : WorldInodeValue) (q : Passed RuleEntry)
    (parts : AreParts (consts_by settings world_inodes supers book sems rules tasks) world_inodes
    book sems rules) (there : slice_get world_inodes i ≡ Some st)
    (base : rules2.base ≡ rules.base) (list : IsSameList rules.appended rules2.appended)
    (name : q.name ≡ st.rules.name) (number : q.number ≡ st.rules.number)
    (mine : q.mine ≡ st.rules.mine) (more : IsPrefix st.rules.seen q.seen) where
  abbrev F : WorldConsts
  F = consts_by settings world_inodes supers book sems rules tasks

  abbrev st2 : WorldInodeValue
  st2 = record st { rules = q }

  abbrev world_inodes2 : List WorldInodeValue
  world_inodes2 = slice_set world_inodes i st2

  pub consts_looked : consts_by settings world_inodes2 supers book sems rules2 tasks ≡ F
  consts_looked =
      ap (λ (xs : List InodeConsts). record F {
        each_inode = xs;
        base = rules2.base;
        rules = rules2.appended.name;
      }) (map_same inode_consts_of world_inodes i st st2 there refl)
      ∙ ap (λ (xs : List RuleValue). record F { base = xs; rules = rules2.appended.name }) base
      ∙ ap (λ (x : ListName). record F { rules = x }) list.name

  world_inode_looked : IsWorldInode F i st2
  world_inode_looked =
      let old : IsWorldInode F i st = parts.world_inodes i st there in
      record {
        inode_consts = old.inode_consts;
        settings = old.settings;
        place = old.place;
        callers = old.callers;
        book = old.book;
        booked = old.booked;
        rules_name = name ∙ old.rules_name;
        rules_number = number ∙ old.rules_number;
        rules_mine = mine ∙ old.rules_mine;
        rise = law_rise_by_look (length F.base) st.cell.list st.rules.seen q.seen more old.rise;
      }

  rules_looked : AreRulesOf F rules2
  rules_looked = record {
    name = list.name ∙ parts.rules.name;
    base = base ∙ parts.rules.base;
    callers = list.callers ∙ parts.rules.callers;
    numbers = list.numbers ∙ parts.rules.numbers
        ∙ ap (λ (xs : List RuleEntry). map (λ (r : RuleEntry). r.who.task) xs) (sym list.list);
  }

  pub parts_looked : AreParts (consts_by settings world_inodes2 supers book sems rules2 tasks)
      world_inodes2 book sems rules2
  parts_looked =
      subst (λ (x : WorldConsts). AreParts x world_inodes2 book sems rules2) (sym consts_looked)
      (record {
        world_inodes = λ j s h.
            at j s (set_parts world_inodes i j st2 s h (slice_get_within world_inodes i st there));
        book = parts.book;
        sems = parts.sems;
        rules = rules_looked;
      }) where
        at : (j : ℕ) (s : WorldInodeValue)
            → ((j ≡ i) × (s ≡ st2)) ⊎ ((i ≢ j) × (slice_get world_inodes j ≡ Some s))
            → IsWorldInode F j s
        at j s (inl x) =
            subst (λ (k : ℕ). IsWorldInode F k s) (sym x.0)
            (subst (λ (z : WorldInodeValue). IsWorldInode F i z) (sym x.1) world_inode_looked)
        at j s (inr x) = parts.world_inodes j s x.1
