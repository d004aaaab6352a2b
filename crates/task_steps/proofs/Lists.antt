-- A deed on one inode leaves the constants of its world as they were, and changes the lists as a
-- turn does.
use Rattle.std.proofs.Common.{◌≡◌, ◌≢◌, ℕ, zero, suc, ◌+◌, ◌<◌, List, [], ◌∷◌, ◌++◌, length, map, get_or, Option, Some, None, refl, sym, ◌∙◌, ap, subst, inl, inr}
use Rattle.std.specs.Prelude.{◌⊎◌, slice_get, slice_set}
use Rattle.std.proofs.lemmas.Option.{get_or_from_slice_get, same_Some, slice_get_within}
use mathlib.Core.List.{IsPrefix}
use Rattle.grow_list.proofs.Prefixes.{prefix_refl}
use Rattle.grow_list.specs.Shown.{Grown, ListName, Passed}
use Rattle.ima_templates.specs.Same.{add, add_by, place_of_same}
use Rattle.ima_templates.specs.declared.entry.Entry.{Entry}
use Rattle.inode_meta.specs.declared.step.Who.{Who}
use Rattle.inode_events.specs.Asked.{asked, list_after, made}
use Rattle.inode_events.specs.Inode.{Inode}
use Rattle.inode_events.specs.NewestFirst.{newest_first}
use Rattle.inode_events.specs.declared.deed.Deed.{Deed}
use Rattle.inode_events.specs.declared.settings.Settings.{Settings}
use Rattle.inode_events.specs.declared.told.Event.{Event}
use Rattle.inode_events.specs.declared.told.Told.{Told}
use Rattle.policy_cell.specs.Policy.{PolicyValue}
use Rattle.policy_cell.specs.declared.cell.RuleEntry.{RuleEntry}
use Rattle.policy_rules.specs.declared.access.Super.{Super}
use Rattle.task_steps.proofs.laws_of_runs.Owned.{set_parts}
use Rattle.task_steps.proofs.laws_of_runs.Risen.{law_rise_by_outcome}
use Rattle.task_steps.specs.laws_of_runs.ScriptFiles.{CountsAll, ScriptFileRules}
use Rattle.run_model.specs.Turns.{State, state_on}
use Rattle.task_steps.specs.Acting.{EventIn, WorldInodeDid}
use Rattle.world_model.specs.Parts.{AreParts, consts_by, state_by}
use Rattle.task_steps.specs.worlds.WorldConsts.{InodeConsts, WorldConsts, boot_in, inode_in}
use Rattle.task_steps.specs.worlds.Tasks.{PassesValue}
use Rattle.task_steps.specs.worlds.World.{IsWorldInode, WorldInodeValue, inode_consts_of, journal_of}
use Rattle.task_steps.specs.worlds.declared.hash_state.HashState.{HashState}
use Rattle.task_steps.proofs.about_worlds.Eventing.{get_map}
use Rattle.task_steps.specs.worlds.Events.{EventOn}
use Rattle.task_steps.specs.worlds.Due.{HashesTold}
use Rattle.task_steps.specs.worlds.Ready.{HasLooked}
use Rattle.task_steps.specs.worlds.Steps.{Adds}

-- ---- lists

pub map_same : {A B : Type 0} (f : A → B) (xs : List A) (i : ℕ) (x y : A) → slice_get xs i ≡ Some x
    → f y ≡ f x → map f (slice_set xs i y) ≡ map f xs
map_same f [] i x y h e = refl
map_same f (z ∷ xs) zero x y h e = ap (λ b. b ∷ map f xs) (e ∙ ap f (sym (same_Some z x h)))
map_same f (z ∷ xs) (suc i) x y h e = ap (λ bs. f z ∷ bs) (map_same f xs i x y h e)

pub map_set : {A B : Type 0} (f : A → B) (xs : List A) (i : ℕ) (y : A)
    → map f (slice_set xs i y) ≡ slice_set (map f xs) i (f y)
map_set f [] i y = refl
map_set f (z ∷ xs) zero y = refl
map_set f (z ∷ xs) (suc i) y = ap (λ bs. f z ∷ bs) (map_set f xs i y)

-- ---- the measurement list

added_first : (x : Entry) (xs : List Entry) (e : Entry) → (ys : List Entry)
    × (add (x ∷ xs) e ≡ x ∷ ys)
added_first x xs e = at (place_of_same (x ∷ xs) e) where
  at : (o : Option ℕ) → (ys : List Entry) × (add_by o (x ∷ xs) e ≡ x ∷ ys)
  at None = (xs ++ e ∷ [], refl)
  at (Some k) = (xs, refl)

listed_first : (list : List Entry) (b : Entry) (e : Option Entry) (o : Option Told)
    → slice_get list 0 ≡ Some b → (ys : List Entry) × (list_after list e o ≡ b ∷ ys)
listed_first [] b e o h = absurd (cc)
listed_first (x ∷ xs) b e None h = (xs, ap (λ y. y ∷ xs) (same_Some x b h))
listed_first (x ∷ xs) b None (Some t) h = (xs, ap (λ y. y ∷ xs) (same_Some x b h))
listed_first (x ∷ xs) b (Some e) (Some t) h =
    let a = added_first x xs e in (a.0, a.1 ∙ ap (λ y. y ∷ a.0) (same_Some x b h))

-- ---- one inode

module _ (settings : Settings) (world_inodes : List WorldInodeValue) (supers : List Super)
    (book book2 : Grown Entry) (sems : Grown Event) (rules : PolicyValue) (tasks i : ℕ)
    (st st2 : WorldInodeValue) (pass pass2 : Passed Event) (listed listed2 : Passed Entry)
    (who : Who) (d : Deed) (g g2 : HashState) (o : Option Told)
    (parts : AreParts (consts_by settings world_inodes supers book sems rules tasks) world_inodes
    book sems rules) (there : slice_get world_inodes i ≡ Some st)
    (did : WorldInodeDid st st2 book book2 pass pass2 listed listed2 who d g g2 o) where
  abbrev F : WorldConsts
  F = consts_by settings world_inodes supers book sems rules tasks

  abbrev world_inodes2 : List WorldInodeValue
  world_inodes2 = slice_set world_inodes i st2

  first : (ys : List Entry) × (book2.list ≡ F.boot ∷ ys)
  first =
      let a = listed_first book.list F.boot
      (asked st.cell.inode d (newest_first st.cell.list)) o parts.book.boot in
      (a.0, did.leaves.book ∙ a.1)

  inode_consts_same : inode_consts_of st2 ≡ inode_consts_of st
  inode_consts_same =
      ap (λ (x : Inode). record {
        path = x.path;
        birth = x.birth;
        place = st2.place;
        journal = st2.cell.journal;
      }) did.leaves.same.inode
      ∙ ap (λ (k : ℕ). record {
        path = st.cell.inode.path;
        birth = st.cell.inode.birth;
        place = k;
        journal = st2.cell.journal;
      }) did.place
      ∙ ap (λ (x : ListName). record {
        path = st.cell.inode.path;
        birth = st.cell.inode.birth;
        place = st.place;
        journal = x;
      }) did.leaves.same.journal

  -- the constants stay the same
  pub consts_same : consts_by settings world_inodes2 supers book2 sems rules tasks ≡ F
  consts_same =
      ap (λ (xs : List InodeConsts). record F {
        boot = boot_in book2.list;
        each_inode = xs;
        book = book2.name;
      })
      (map_same inode_consts_of world_inodes i st st2 there inode_consts_same)
      ∙ ap (λ (e : Entry). record F { boot = e; book = book2.name }) (ap boot_in first.1)
      ∙ ap (λ (x : ListName). record F { book = x }) did.book_name

  -- the inode still belongs to the constants
  pub world_inode_same : CountsAll (length F.base + length st.rules.seen) d → IsWorldInode F i st2
  world_inode_same counts =
      let old : IsWorldInode F i st = parts.world_inodes i st there in
      let rise : ScriptFileRules (length F.base) (st.cell.list ++ made who d o) st.rules.seen =
      law_rise_by_outcome (length F.base) st.cell.list st.rules.seen st.rules.seen who d o
      (prefix_refl st.rules.seen) old.rise counts in
      record {
        inode_consts = old.inode_consts ∙ ap (λ (x : InodeConsts). Some x) (sym inode_consts_same);
        settings = ap (λ (x : Inode). x.settings) did.leaves.same.inode ∙ old.settings;
        place = subst (λ (k : ℕ). k < length F.supers) (sym did.place) old.place;
        callers = did.leaves.same.callers ∙ old.callers;
        book = did.leaves.same.book ∙ old.book;
        booked = did.leaves.same.booked ∙ old.booked;
        rules_name = ap (λ (q : Passed RuleEntry). q.name) did.rules ∙ old.rules_name;
        rules_number = ap (λ (q : Passed RuleEntry). q.number) did.rules ∙ old.rules_number;
        rules_mine = ap (λ (q : Passed RuleEntry). q.mine) did.rules ∙ old.rules_mine;
        rise = subst (λ (q : Passed RuleEntry). ScriptFileRules (length F.base)
            st2.cell.list q.seen) (sym did.rules)
            (subst (λ (xs : List Event). ScriptFileRules (length F.base) xs st.rules.seen)
            (sym did.leaves.journal) rise);
      }

  -- all parts still belong to the constants
  pub parts_same : CountsAll (length F.base + length st.rules.seen) d
      → AreParts F world_inodes2 book2 sems rules
  parts_same counts = record {
    world_inodes = λ j s h.
        at j s (set_parts world_inodes i j st2 s h (slice_get_within world_inodes i st there));
    book = record {
      name = did.book_name;
      boot = ap (λ (xs : List Entry). slice_get xs 0) first.1;
      callers = did.book_callers ∙ parts.book.callers;
    };
    sems = parts.sems;
    rules = parts.rules;
  } where
    at : (j : ℕ) (s : WorldInodeValue)
        → ((j ≡ i) × (s ≡ st2)) ⊎ ((i ≢ j) × (slice_get world_inodes j ≡ Some s))
        → IsWorldInode F j s
    at j s (inl x) =
        subst (λ (k : ℕ). IsWorldInode F k s) (sym x.0)
        (subst (λ (z : WorldInodeValue). IsWorldInode F i z) (sym x.1) (world_inode_same counts))
    at j s (inr x) = parts.world_inodes j s x.1

  pub world_same : CountsAll (length F.base + length st.rules.seen) d
      → AreParts (consts_by settings world_inodes2 supers book2 sems rules tasks) world_inodes2
      book2 sems rules
  world_same counts =
      subst (λ (x : WorldConsts). AreParts x world_inodes2 book2 sems rules) (sym consts_same)
      (parts_same counts)

  abbrev S : State
  S = state_by world_inodes book sems rules

  journal_there : slice_get S.journals i ≡ Some st.cell.list
  journal_there = get_map journal_of world_inodes i st there

  -- the lists are those after a turn
  pub state_same : state_by world_inodes2 book2 sems rules ≡ state_on S i st.cell.inode who d o
  state_same =
      let here : get_or S.journals i [] ≡ st.cell.list =
      get_or_from_slice_get S.journals i st.cell.list [] journal_there in
      ap (λ (js : List (List Event)). record S { journals = js; list = book2.list })
      (map_set journal_of world_inodes i st2
      ∙ ap (λ (xs : List Event). slice_set S.journals i xs)
      (did.leaves.journal ∙ ap (λ (xs : List Event). xs ++ made who d o) (sym here)))
      ∙ ap (λ (xs : List Entry). record S {
        journals = slice_set S.journals i (get_or S.journals i [] ++ made who d o);
        list = xs;
      }) (did.leaves.book
      ∙ ap (λ (xs : List Event). list_after book.list (asked st.cell.inode d (newest_first xs)) o)
      (sym here))

  inode_same : inode_in F (inode_consts_of st) ≡ st.cell.inode
  inode_same =
      ap (λ (x : Settings). record {
        path = st.cell.inode.path;
        settings = x;
        birth = st.cell.inode.birth;
      }) (sym (parts.world_inodes i st there).settings)

  -- the effect of the deed, from the view of its task
  pub event_on : (passes passes2 : PassesValue) → slice_get passes.inodes i ≡ Some pass
      → passes2.inodes ≡ slice_set passes.inodes i pass2 → passes2.sems ≡ passes.sems
      → Adds passes.rules passes2.rules [] → IsPrefix passes.rules.seen passes2.rules.seen
      → passes.book ≡ listed → passes2.book ≡ listed2
      → pass.number ≡ who.task + 1
      → EventOn F i (inode_consts_of st) who d S (state_by world_inodes2 book2 sems rules) passes
      passes2 g g2 o
  event_on passes passes2 at inodes semaphores appended more before after number = record {
    journal = st.cell.list;
    journal_at = journal_there;
    pass = pass;
    pass_at = at;
    pass2 = pass2;
    inodes = inodes;
    looked = subst (λ (x : Inode). HasLooked x (who.task + 1) pass.seen st.cell.list pass.mine)
        (sym inode_same)
        (subst (λ (n : ℕ). HasLooked st.cell.inode n pass.seen st.cell.list pass.mine) number
        did.looked);
    name = did.leaves.pass_name;
    number = did.leaves.pass_number;
    seen = did.leaves.seen ∙ did.leaves.journal;
    mine = did.leaves.mine;
    state = state_same
        ∙ ap (λ (x : Inode). state_on S i x who d o) (sym inode_same);
    sems = semaphores;
    rules = appended;
    rules_seen = more;
    book = subst (λ (q : Passed Entry). Adds q passes2.book []) (sym before)
        (subst (λ (q : Passed Entry). Adds listed q []) (sym after) did.book_pass);
    book_before = subst (λ (q : Passed Entry). IsPrefix q.seen book.list) (sym before) did.before;
    book_seen = ap (λ (q : Passed Entry). q.seen) after ∙ did.seen;
    hashes = subst (λ (x : Inode). HashesTold x (st.cell.list ++ made who d o) g g2 d o)
        (sym inode_same)
        (subst (λ (xs : List Event). HashesTold st.cell.inode xs g g2 d o) did.leaves.journal
        did.hashes);
  }

  -- the effect of the deed at the own constants of this number
  pub event_in : (passes passes2 : PassesValue) → slice_get passes.inodes i ≡ Some pass
      → passes2.inodes ≡ slice_set passes.inodes i pass2 → passes2.sems ≡ passes.sems
      → Adds passes.rules passes2.rules [] → IsPrefix passes.rules.seen passes2.rules.seen
      → passes.book ≡ listed → passes2.book ≡ listed2
      → pass.number ≡ who.task + 1
      → EventIn F i (slice_get F.each_inode i) who d S
      (state_by world_inodes2 book2 sems rules) passes passes2 g g2 o
  event_in passes passes2 at inodes semaphores appended more before after number =
      subst (λ (x : Option InodeConsts). EventIn F i x who d S
      (state_by world_inodes2 book2 sems rules) passes
      passes2 g g2 o) (sym (get_map inode_consts_of world_inodes i st there))
      (event_on passes passes2 at inodes semaphores appended more before after number)
