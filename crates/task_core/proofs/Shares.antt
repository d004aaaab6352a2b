-- A world whose semaphores or rules have changed.
use Rattle.std.proofs.Common.{◌≡◌, ℕ, List, [], ◌∷◌, ◌++◌, map, sym, ◌∙◌, ap, subst}
use Rattle.std.proofs.lemmas.List.{map-append}
use Rattle.grow_list.specs.Shown.{Grown, IsSameList, ListName, Passed}
use Rattle.ima_templates.specs.declared.entry.Entry.{Entry}
use Rattle.inode_events.specs.declared.settings.Settings.{Settings}
use Rattle.inode_events.specs.declared.told.Event.{Event}
use Rattle.policy_cell.specs.Policy.{PolicyValue}
use Rattle.policy_cell.specs.declared.cell.RuleEntry.{RuleEntry}
use Rattle.policy_rules.specs.RuleValue.{RuleValue}
use Rattle.policy_rules.specs.declared.access.Super.{Super}
use Rattle.world_model.specs.WorldConsts.{WorldConsts}
use Rattle.world_model.specs.World.{AreRulesOf, AreSignalsOf, WorldInodeValue}
use Rattle.world_close.specs.Closed.{AreSpares}
use Rattle.world_model.specs.Parts.{AreParts, consts_by}

module _ (settings : Settings) (world_inodes : List WorldInodeValue) (supers : List Super)
    (book : Grown Entry) (sems sems2 : Grown Event) (rules rules2 : PolicyValue) (tasks : ℕ)
    (spares : List (Passed RuleEntry))
    (parts : AreParts (consts_by settings world_inodes supers book sems rules tasks) world_inodes
    book sems
    rules) (rest : AreSpares (consts_by settings world_inodes supers book sems rules tasks)
    spares) where
  abbrev F : WorldConsts
  F = consts_by settings world_inodes supers book sems rules tasks

  -- the constants stay the same, and each part belongs to them
  with_both : consts_by settings world_inodes supers book sems2 rules2 tasks ≡ F
      → AreSignalsOf F sems2 → AreRulesOf F rules2
      → AreParts (consts_by settings world_inodes supers book sems2 rules2 tasks) world_inodes
      book sems2 rules2
      × AreSpares (consts_by settings world_inodes supers book sems2 rules2 tasks) spares
  with_both same s r = (
    subst (λ (x : WorldConsts). AreParts x world_inodes book sems2 rules2) (sym same)
        (record { world_inodes = parts.world_inodes; book = parts.book; sems = s; rules = r }),
    subst (λ (x : WorldConsts). AreSpares x spares) (sym same) rest,
  )

module _ (settings : Settings) (world_inodes : List WorldInodeValue) (supers : List Super)
    (book : Grown Entry) (sems : Grown Event) (rules : PolicyValue) (tasks : ℕ)
    (spares : List (Passed RuleEntry))
    (parts : AreParts (consts_by settings world_inodes supers book sems rules tasks) world_inodes
    book sems
    rules) (rest : AreSpares (consts_by settings world_inodes supers book sems rules tasks)
    spares) where
  abbrev G : WorldConsts
  G = consts_by settings world_inodes supers book sems rules tasks

  -- the semaphores with the same name and callers still belong to the constants
  pub with_sems : (sems2 : Grown Event) → sems2.name ≡ sems.name → sems2.callers ≡ sems.callers
      → AreParts (consts_by settings world_inodes supers book sems2 rules tasks) world_inodes
      book sems2 rules
      × AreSpares (consts_by settings world_inodes supers book sems2 rules tasks) spares
  with_sems sems2 name callers =
      with_both settings world_inodes supers book sems sems2 rules rules tasks spares parts rest
      (ap (λ (x : ListName). record G { signals = x }) name)
      (record { name = name; callers = callers ∙ parts.sems.callers }) parts.rules

  -- the rules with the same base, name and callers still belong to the constants
  with_rules : (rules2 : PolicyValue) → rules2.base ≡ rules.base
      → rules2.appended.name ≡ rules.appended.name
      → rules2.appended.callers ≡ rules.appended.callers
      → rules2.appended.numbers ≡ map (λ (r : RuleEntry). r.who.task) rules2.appended.list
      → AreParts (consts_by settings world_inodes supers book sems rules2 tasks) world_inodes
      book sems rules2
      × AreSpares (consts_by settings world_inodes supers book sems rules2 tasks) spares
  with_rules rules2 base name callers numbers =
      with_both settings world_inodes supers book sems sems rules rules2 tasks spares parts rest
      (ap (λ (xs : List RuleValue). record G { base = xs; rules = rules2.appended.name }) base
      ∙ ap (λ (x : ListName). record G { rules = x }) name) parts.sems
      (record {
        name = name;
        base = base;
        callers = callers ∙ parts.rules.callers;
        numbers = numbers;
      })

  -- the rules stay the same after a look
  pub with_same_rules : (rules2 : PolicyValue) → rules2.base ≡ rules.base
      → IsSameList rules.appended rules2.appended
      → AreParts (consts_by settings world_inodes supers book sems rules2 tasks) world_inodes
      book sems rules2
      × AreSpares (consts_by settings world_inodes supers book sems rules2 tasks) spares
  with_same_rules rules2 base list =
      with_rules rules2 base list.name list.callers
      (list.numbers ∙ parts.rules.numbers
      ∙ ap (λ (xs : List RuleEntry). map (λ (r : RuleEntry). r.who.task) xs) (sym list.list))

  -- the rules still belong to the constants after the task of its `Who` appended one
  pub with_rule : (rules2 : PolicyValue) (e : RuleEntry) (n : ℕ)
      → (rules2.base ≡ rules.base) × (rules2.appended.name ≡ rules.appended.name)
      × (rules2.appended.callers ≡ rules.appended.callers)
      → rules2.appended.list ≡ rules.appended.list ++ e ∷ []
      → rules2.appended.numbers ≡ rules.appended.numbers ++ n ∷ [] → n ≡ e.who.task
      → AreParts (consts_by settings world_inodes supers book sems rules2 tasks) world_inodes
      book sems rules2
      × AreSpares (consts_by settings world_inodes supers book sems rules2 tasks) spares
  with_rule rules2 e n kept list numbers is =
      with_rules rules2 kept.0 kept.1 kept.2
      (numbers
      ∙ ap (λ (ns : List ℕ). ns ++ n ∷ []) parts.rules.numbers
      ∙ ap (λ (m : ℕ). map (λ (r : RuleEntry). r.who.task) rules.appended.list ++ m ∷ []) is
      ∙ sym (map-append (λ (r : RuleEntry). r.who.task) rules.appended.list (e ∷ []))
      ∙ ap (λ (xs : List RuleEntry). map (λ (r : RuleEntry). r.who.task) xs) (sym list))
