-- The parts that a world starts with belong to its constants.
use Rattle.std.proofs.Common.{◌≡◌, ℕ, ◌+◌, ◌-◌, ◌<◌, List, [], ◌∷◌, length, refl, ap, sym, subst, ◌∙◌, arith, Some}
use Rattle.std.specs.Prelude.{All, map, max, slice_get}
use mathlib.Core.List.{map-map}
use Rattle.std.proofs.lemmas.List.{length-map}
use Rattle.std.proofs.lemmas.List.Elements.{All-head, All-map, All-tail}
use Rattle.std.proofs.lemmas.Option.{same_Some, slice_get_within}
use Rattle.grow_list.specs.Shown.{Grown, ListName, Passed, fresh}
use Rattle.ima_templates.specs.declared.entry.Entry.{Entry}
use Rattle.inode_events.specs.declared.image.Image.{Image}
use Rattle.inode_events.specs.declared.settings.Settings.{Settings}
use Rattle.inode_events.specs.declared.told.Event.{Event}
use Rattle.world_close.specs.states.Value.{birth_of}
use Rattle.policy_cell.specs.Policy.{PolicyValue}
use Rattle.policy_cell.specs.declared.cell.RuleEntry.{RuleEntry}
use Rattle.policy_rules.specs.declared.access.Super.{Super}
use Rattle.world_close.specs.laws_of_runs.ScriptFiles.{ScriptFileRules}
use Rattle.world_close.proofs.laws_of_runs.Risen.{law_rise_at_first}
use Rattle.world_close.specs.model.Turns.{newborn}
use Rattle.world_close.specs.worlds.WorldConsts.{InodeConsts, WorldConsts, boot_in, script_file_of}
use Rattle.world_close.specs.worlds.Tasks.{ArePassesOf, AreUnused, PassesValue}
use Rattle.world_close.specs.worlds.World.{AreRulesOf, AreSignalsOf, IsBookOf, IsWorldInode, WorldInodeValue, inode_consts_of, journal_of}
use Rattle.world_close.specs.Closed.{AreSpares, AreWorldInodes}
use Rattle.world_close.proofs.Gets.{all_by_get, get_map, map_get}
use Rattle.world_close.proofs.Listing.{all_at}
use Rattle.world_start.proofs.Fresh.{below_max}
use Rattle.world_close.specs.worlds.Parts.{consts_by, state_by}
use Rattle.world_start.specs.Start.{AreConstsOf, AreFirstPasses, Begins}
use Rattle.world_start.specs.Started.{AreFresh, AreRows, AreStarted, IsStarted, SeatsValue, file_of, list_pass_of, named_by, pass_of, place_of, row_of, rule_pass_of}

-- the journal of each inode holds only its birth
born : (settings : Settings) (tasks : ℕ) (consts : WorldConsts)
    (world_inodes : List WorldInodeValue) → All (IsStarted settings tasks) world_inodes
    → map journal_of world_inodes
    ≡ map newborn (map (script_file_of consts) (map inode_consts_of world_inodes))
born settings tasks consts [] all = refl
born settings tasks consts (s ∷ world_inodes) all =
    let first = All-head (IsStarted settings tasks) s world_inodes all in
    let rest =
    born settings tasks consts world_inodes
    (All-tail (IsStarted settings tasks) s world_inodes all) in
    λ i. first.list i ∷ rest i

module _ (settings : Settings) (boot : Entry) (inodes : List (List ℕ × Image))
    (supers : List Super) (tasks : ℕ) (seats : SeatsValue) (world_inodes : List WorldInodeValue)
    (book : Grown Entry) (sems : Grown Event) (rules : PolicyValue)
    (started : AreStarted settings tasks inodes seats world_inodes) where
  abbrev consts : WorldConsts
  consts = consts_by settings world_inodes supers book sems rules tasks

  even : length (map inode_consts_of world_inodes) ≡ length inodes
  even = length-map world_inodes inode_consts_of ∙ sym (length-map world_inodes file_of)
      ∙ ap length started.files

  -- the constants are those of the script
  pub is_consts : book.list ≡ boot ∷ []
      → AreConstsOf settings boot inodes supers seats.places rules.base tasks consts
  is_consts list = record {
    settings = refl;
    boot = ap boot_in list;
    files = map-map (λ (s : InodeConsts). (s.path, s.birth)) inode_consts_of world_inodes
        ∙ started.files;
    supers = refl;
    places = map-map (λ (s : InodeConsts). s.place) inode_consts_of world_inodes ∙ started.places;
    base = refl;
    tasks = refl;
  }

  -- the lists are those with which a run begins
  pub begins : book.list ≡ boot ∷ [] → sems.list ≡ [] → rules.appended.list ≡ []
      → Begins consts (state_by world_inodes book sems rules)
  begins list signals added programs =
      let journals = born settings tasks consts world_inodes started.each in
      let first : book.list ≡ boot_in book.list ∷ [] =
      list ∙ ap (λ (b : Entry). b ∷ []) (sym (ap boot_in list)) in
      λ i. record {
        journals = journals i;
        list = first i;
        signals = signals i;
        added = added i;
      }

  module _ (list_passes : AreFresh book.name (λ k. k + 1) (length inodes) seats.list_passes)
      (rule_passes : AreFresh rules.appended.name (λ k. tasks + k) (length inodes)
      seats.rule_passes) (places : All (λ (p : ℕ). p < length supers) seats.places) where
    -- the pass of the measurement list of inode i has caller number i + 1
    lister : (i : ℕ) (s : WorldInodeValue) → slice_get world_inodes i ≡ Some s
        → list_pass_of s ≡ (book.name, i + 1)
    lister i s at =
        by (get_map named_by seats.list_passes i (list_pass_of s)
        (ap (λ (l : List (ListName × ℕ)). slice_get l i) (sym started.list_passes)
        ∙ map_get list_pass_of world_inodes i s at)) where
          by : (q : Passed Entry) × ((slice_get seats.list_passes i ≡ Some q)
              × (named_by q ≡ list_pass_of s)) → list_pass_of s ≡ (book.name, i + 1)
          by q =
              sym q.1.1
              ∙ ap named_by (same_Some q.0 (fresh book.name (i + 1))
              (sym q.1.0 ∙ list_passes.each i (slice_get_within seats.list_passes i q.0 q.1.0)))

    -- the pass of the appended rules of inode i comes after those of the tasks
    counter : (i : ℕ) (s : WorldInodeValue) → slice_get world_inodes i ≡ Some s
        → s.rules ≡ fresh rules.appended.name (tasks + i)
    counter i s at =
        let there : slice_get seats.rule_passes i ≡ Some s.rules =
        ap (λ (l : List (Passed RuleEntry)). slice_get l i) (sym started.rule_passes)
        ∙ map_get rule_pass_of world_inodes i s at in
        same_Some s.rules (fresh rules.appended.name (tasks + i))
        (sym there ∙ rule_passes.each i (slice_get_within seats.rule_passes i s.rules there))

    is_world_inode : (i : ℕ) (s : WorldInodeValue) → slice_get world_inodes i ≡ Some s
        → IsWorldInode consts i s
    is_world_inode i s at =
        let one = all_at (IsStarted settings tasks) world_inodes i s started.each at in
        let listed = lister i s at in
        let counted = counter i s at in
        record {
          inode_consts = map_get inode_consts_of world_inodes i s at;
          settings = one.settings;
          place = all_at (λ (p : ℕ). p < length supers) seats.places i s.place places
              (ap (λ (l : List ℕ). slice_get l i) (sym started.places)
              ∙ map_get place_of world_inodes i s at);
          callers = one.callers;
          book = ap (λ (x : ListName × ℕ). x.0) listed;
          booked = ap (λ (x : ListName × ℕ). x.1) listed;
          rules_name = ap (λ (q : Passed RuleEntry). q.name) counted;
          rules_number = ap (λ (q : Passed RuleEntry). q.number) counted;
          rules_mine = ap (λ (q : Passed RuleEntry). q.mine) counted;
          rise = subst (λ (l : List Event). ScriptFileRules (length rules.base) l s.rules.seen)
              (sym one.list)
              (law_rise_at_first (length rules.base) (birth_of s.cell.inode.birth) s.rules.seen
              refl);
        }

    -- the inodes are those of the constants
    pub are_world_inodes : AreWorldInodes consts world_inodes
    are_world_inodes = record {
      even = sym (length-map world_inodes inode_consts_of);
      each = is_world_inode;
    }

  pub is_book : book.list ≡ boot ∷ [] → book.callers ≡ 1 + length inodes + tasks
      → IsBookOf consts book
  is_book list callers = record {
    name = refl;
    boot = ap (λ (l : List Entry). slice_get l 0) list
        ∙ ap (λ (l : List Entry). Some (boot_in l)) (sym list);
    callers = callers ∙ ap (λ (n : ℕ). 1 + n + tasks) (sym even);
  }

  pub are_signals : sems.callers ≡ tasks + 1 → AreSignalsOf consts sems
  are_signals callers = record { name = refl; callers = callers }

  pub are_rules : rules.appended.list ≡ [] → rules.appended.numbers ≡ []
      → rules.appended.callers ≡ max 1 (tasks + length inodes) → AreRulesOf consts rules
  are_rules added numbers callers = record {
    name = refl;
    base = refl;
    callers = callers ∙ ap (λ (n : ℕ). max 1 (tasks + n)) (sym even);
    numbers = numbers
        ∙ ap (λ (l : List RuleEntry). map (λ (r : RuleEntry). r.who.task) l) (sym added);
  }

  -- the spare passes of the rules come after all others
  pub are_spares : (spares : List (Passed RuleEntry))
      → AreFresh rules.appended.name (λ k. tasks + length inodes + k)
      (max 1 (tasks + length inodes) - (tasks + length inodes)) spares → AreSpares consts spares
  are_spares spares new = record {
    count = ap (λ (n : ℕ). tasks + n + length spares) even
        ∙ after (tasks + length inodes) (length spares) new.even
        ∙ ap (λ (n : ℕ). max 1 (tasks + n)) (sym even);
    each = λ k q at.
        let is = same_Some q (fresh rules.appended.name (tasks + length inodes + k))
        (sym at ∙ new.each k (slice_get_within spares k q at)) in (
          ap (λ (p : Passed RuleEntry). p.name) is,
          ap (λ (p : Passed RuleEntry). p.number) is
              ∙ ap (λ (n : ℕ). tasks + n + k) (sym even),
          ap (λ (p : Passed RuleEntry). p.mine) is,
        );
  } where
    after : (n m : ℕ) → m ≡ max 1 n - n → n + m ≡ max 1 n
    after n m e = let above = below_max n in omega arith

  -- ---- the tasks

  module _ (passes : List PassesValue) (rows : List (List (Passed Event)))
      (signal_passes : List (Passed Event)) (list_passes : List (Passed Entry))
      (appenders : List (Passed RuleEntry))
      (rows_is : map (λ (p : PassesValue). p.inodes) passes ≡ rows)
      (sems_is : map (λ (p : PassesValue). p.sems) passes ≡ signal_passes)
      (book_is : map (λ (p : PassesValue). p.book) passes ≡ list_passes)
      (rules_is : map (λ (p : PassesValue). p.rules) passes ≡ appenders)
      (are_rows : AreRows world_inodes tasks rows)
      (signal : AreFresh sems.name (λ k. k + 1) tasks signal_passes)
      (listed : AreFresh book.name (λ k. length inodes + k + 1) tasks list_passes)
      (append : AreFresh rules.appended.name (λ k. k) tasks appenders) where
    row : (k : ℕ) (p : PassesValue) → slice_get passes k ≡ Some p
        → p.inodes ≡ row_of world_inodes k
    row k p at =
        are_rows.1 k p.inodes
        (ap (λ (l : List (List (Passed Event))). slice_get l k) (sym rows_is)
        ∙ map_get (λ (x : PassesValue). x.inodes) passes k p at)

    -- a task's pass of one list is the one at its number
    its : {E : Type 0} (f : PassesValue → Passed E) (all : List (Passed E)) (name : ListName)
        (number : ℕ → ℕ) → map f passes ≡ all → AreFresh name number tasks all
        → (k : ℕ) (p : PassesValue) → slice_get passes k ≡ Some p
        → f p ≡ fresh name (number k)
    its {E} f all name number is each k p at =
        let there : slice_get all k ≡ Some (f p) =
        ap (λ (l : List (Passed E)). slice_get l k) (sym is) ∙ map_get f passes k p at in
        same_Some (f p) (fresh name (number k))
        (sym there ∙ each.each k (slice_get_within all k (f p) there))

    sem : (k : ℕ) (p : PassesValue) → slice_get passes k ≡ Some p
        → p.sems ≡ fresh sems.name (k + 1)
    sem = its (λ (p : PassesValue). p.sems) signal_passes sems.name (λ k. k + 1) sems_is signal

    of_book : (k : ℕ) (p : PassesValue) → slice_get passes k ≡ Some p
        → p.book ≡ fresh book.name (length inodes + k + 1)
    of_book = its (λ (p : PassesValue). p.book) list_passes book.name (λ k. length inodes + k + 1)
        book_is listed

    rule : (k : ℕ) (p : PassesValue) → slice_get passes k ≡ Some p
        → p.rules ≡ fresh rules.appended.name k
    rule = its (λ (p : PassesValue). p.rules) appenders rules.appended.name (λ k. k) rules_is
        append

    -- each pass of a row is one of its inode
    of_inode : (k : ℕ) (p : PassesValue) → slice_get passes k ≡ Some p → (i : ℕ) (s : InodeConsts)
        → (q : Passed Event) → slice_get (map inode_consts_of world_inodes) i ≡ Some s
        → slice_get p.inodes i ≡ Some q → (q.name ≡ s.journal) × (q.number ≡ k + 1)
    of_inode k p at i s q inode_consts there =
        by (get_map inode_consts_of world_inodes i s inode_consts) where
          by : (t : WorldInodeValue)
              × ((slice_get world_inodes i ≡ Some t) × (inode_consts_of t ≡ s))
              → (q.name ≡ s.journal) × (q.number ≡ k + 1)
          by t =
              let is : q ≡ pass_of t.0 k =
              same_Some q (pass_of t.0 k)
              (sym there ∙ ap (λ (l : List (Passed Event)). slice_get l i) (row k p at)
              ∙ map_get (λ (x : WorldInodeValue). pass_of x k) world_inodes i t.0 t.1.0) in (
                ap (λ (x : Passed Event). x.name) is ∙ ap (λ (x : InodeConsts). x.journal) t.1.1,
                ap (λ (x : Passed Event). x.number) is,
              )

    are_passes : (k : ℕ) (p : PassesValue) → slice_get passes k ≡ Some p
        → ArePassesOf consts k p
    are_passes k p at = record {
      even = ap length (row k p at)
          ∙ length-map world_inodes (λ (s : WorldInodeValue). pass_of s k)
          ∙ sym (length-map world_inodes inode_consts_of);
      inodes = of_inode k p at;
      sems = (
        ap (λ (q : Passed Event). q.name) (sem k p at),
        ap (λ (q : Passed Event). q.number) (sem k p at),
      );
      book = (
        ap (λ (q : Passed Entry). q.name) (of_book k p at),
        ap (λ (q : Passed Entry). q.number) (of_book k p at) ∙ after k,
      );
      rules = (
        ap (λ (q : Passed RuleEntry). q.name) (rule k p at),
        ap (λ (q : Passed RuleEntry). q.number) (rule k p at),
      );
    } where
      after : (k : ℕ) → length inodes + k + 1 ≡ 1 + length (map inode_consts_of world_inodes) + k
      after k = omega (arith, even)

    are_unused : (k : ℕ) (p : PassesValue) → slice_get passes k ≡ Some p → AreUnused p
    are_unused k p at = record {
      inodes = subst (λ (r : List (Passed Event)). All (λ (q : Passed Event). q.mine ≡ []) r)
          (sym (row k p at))
          (All-map (λ (q : Passed Event). q.mine ≡ [])
          (λ (s : WorldInodeValue). pass_of s k) world_inodes
          (all_by_get (λ (s : WorldInodeValue). ◌≡◌ {A = List (ℕ × Event)} [] []) world_inodes
          (λ j s here. refl)));
      sems = ap (λ (q : Passed Event). q.mine) (sem k p at);
      book = ap (λ (q : Passed Entry). q.mine) (of_book k p at);
      rules = ap (λ (q : Passed RuleEntry). q.mine) (rule k p at);
    }

    -- the passes are those of the constants, and none has an entry of its own
    pub first_passes : AreFirstPasses consts passes
    first_passes = record {
      count = sym (length-map passes (λ (p : PassesValue). p.inodes)) ∙ ap length rows_is
          ∙ are_rows.0;
      each = λ k p at. (are_passes k p at, are_unused k p at);
    }
