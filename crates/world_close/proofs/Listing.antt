-- The passes of all tasks, returned to the lists that they belong to.
use Rattle.std.proofs.Common.{◌≡◌, ℕ, ◌+◌, ◌<◌, Bool, true, false, List, [], ◌∷◌, ◌++◌, length, refl, ap, sym, subst, ◌∙◌, arith, Some, ◌⊎◌, inl, inr, suc, zero, get_or, length-append, eqb}
use Rattle.std.specs.Prelude.{All, count_by, map, slice_get}
use Rattle.std.specs.List.{AllZip}
use Rattle.std.proofs.lemmas.Bool.{eqb-true}
use Rattle.std.proofs.lemmas.List.{length-map}
use Rattle.std.proofs.lemmas.List.Elements.{All-get_or}
use Rattle.std.proofs.lemmas.Option.{get_or_from_slice_get, same_Some, slice_get_within}
use Rattle.grow_list.specs.Entries.{has_place}
use Rattle.grow_list.specs.Others.{HasOthers}
use Rattle.grow_list.specs.Shown.{Grown, HasEach, HasItsOwn, Passed}
use Rattle.grow_list.proofs.Closing.{each_in_order, has_place-entries}
use Rattle.grow_list.proofs.Others.{bit, count_by-cons, others_in_order}
use Rattle.ima_templates.specs.declared.entry.Entry.{Entry}
use Rattle.inode_events.specs.declared.told.Event.{Event}
use Rattle.policy_cell.specs.Policy.{PolicyValue}
use Rattle.policy_cell.specs.declared.cell.RuleEntry.{RuleEntry}
use Rattle.world_model.specs.WorldConsts.{InodeConsts, WorldConsts}
use Rattle.world_model.specs.Tasks.{ArePassesOf, PassesValue}
use Rattle.world_model.specs.World.{AreRulesOf, AreSignalsOf, IsBookOf, WorldInodeValue}
use Rattle.world_close.specs.Closed.{AreSpares, AreWorldInodes, WorldInodeClosed, journal_name, no_inode_consts}
use Rattle.world_close.specs.Rows.{AreNamed, RowFits, RowsFit}
use Rattle.world_close.proofs.Gets.{all_by_get, get_map, get_parts, got, map_get}
use Rattle.world_close.proofs.Scening.{zip_even}

-- the passes are those of the tasks, in order
abbrev pub AreOfTasks : WorldConsts → List PassesValue → Type 0
AreOfTasks consts passes = (n : ℕ) (p : PassesValue) → slice_get passes n ≡ Some p
    → ArePassesOf consts n p

-- ---- the journals

-- each row has a pass of each journal
pub rows_fit : (consts : WorldConsts) (passes : List PassesValue) (count : ℕ)
    → count ≡ length consts.each_inode → AreOfTasks consts passes
    → RowsFit count (journal_name consts) (map (λ (q : PassesValue). q.inodes) passes)
rows_fit consts passes count even of k row at =
    fit (get_map (λ (q : PassesValue). q.inodes) passes k row at) where
      fit : (p : PassesValue) × ((slice_get passes k ≡ Some p) × (p.inodes ≡ row))
          → RowFits count (journal_name consts) k row
      fit p = record {
        count = sym (ap length p.1.1) ∙ (of k p.0 p.1.0).even ∙ sym even;
        each = λ i q here.
            let there : slice_get p.0.inodes i ≡ Some q =
            ap (λ (l : List (Passed Event)). slice_get l i) p.1.1 ∙ here in
            let inside : i < length consts.each_inode =
            subst (λ (n : ℕ). i < n) (of k p.0 p.1.0).even
            (slice_get_within p.0.inodes i q there) in
            let is = (of k p.0 p.1.0).inodes i (get_or consts.each_inode i no_inode_consts) q
            (got consts.each_inode i no_inode_consts inside) there in
            (is.1, is.0);
      }

-- the journals of the inodes have the names of the constants
pub are_named : (consts : WorldConsts) (world_inodes : List WorldInodeValue) (rows : ℕ)
    → rows ≡ consts.tasks → AreWorldInodes consts world_inodes
    → AreNamed (journal_name consts) rows world_inodes
are_named consts world_inodes rows even are k s at =
    let is = are.each k s at in (
      ap (λ (x : InodeConsts). x.journal)
          (sym (get_or_from_slice_get consts.each_inode k _ no_inode_consts is.inode_consts)),
      is.callers ∙ ap (λ (n : ℕ). n + 1) (sym even),
    )

-- ---- two lists side by side

-- each element of the second list has a partner in the first
zip_back : {A B : Type 0} (R : A → B → Type 0) (xs : List A) (ys : List B) (k : ℕ) (y : B)
    → AllZip R xs ys → slice_get ys k ≡ Some y
    → (x : A) × ((slice_get xs k ≡ Some x) × R x y)
zip_back R xs [] k y z h = absurd (cc)
zip_back R [] (w ∷ ys) k y z h = absurd z
zip_back {B = B} R (x ∷ xs) (w ∷ ys) zero y z h =
    (x, (refl, subst (λ (v : B). R x v) (same_Some w y h) z.0))
zip_back R (x ∷ xs) (w ∷ ys) (suc k) y z h = zip_back R xs ys k y z.1 h

-- ---- the measurement list

-- the other passes of the measurement list are the inodes', followed by the tasks'
module _ (consts : WorldConsts) (book : Grown Entry) (world_inodes : List WorldInodeValue)
    (inodes : List (Passed Entry)) (passes : List PassesValue) where
  book_pass : IsBookOf consts book → AreWorldInodes consts world_inodes
      → AllZip WorldInodeClosed world_inodes inodes → AreOfTasks consts passes → (k : ℕ)
      → (q : Passed Entry)
      → slice_get (inodes ++ map (λ (p : PassesValue). p.book) passes) k ≡ Some q
      → (q.name ≡ book.name) × (q.number ≡ k + 1)
  book_pass is are closed of k q at =
      by (get_parts inodes (map (λ (p : PassesValue). p.book) passes) k q at) where
        tasks : (j : ℕ) → k ≡ length inodes + j
            → (p : PassesValue) × ((slice_get passes j ≡ Some p) × (p.book ≡ q))
            → (q.name ≡ book.name) × (q.number ≡ k + 1)
        tasks j here p =
            let its = (of j p.0 p.1.0).book in
            let count : length inodes ≡ length consts.each_inode =
            zip_even WorldInodeClosed world_inodes inodes closed ∙ are.even in (
              sym (ap (λ (x : Passed Entry). x.name) p.1.1) ∙ its.0 ∙ sym is.name,
              sym (ap (λ (x : Passed Entry). x.number) p.1.1) ∙ its.1 ∙ omega arith,
            )

        by : (slice_get inodes k ≡ Some q)
            ⊎ ((j : ℕ) × ((k ≡ length inodes + j)
            × (slice_get (map (λ (p : PassesValue). p.book) passes) j ≡ Some q)))
            → (q.name ≡ book.name) × (q.number ≡ k + 1)
        by (inl w) =
            let s = zip_back WorldInodeClosed world_inodes inodes k q closed w in
            let its = are.each k s.0 s.1.0 in (
              s.1.1.name ∙ its.book ∙ sym is.name,
              s.1.1.number ∙ its.booked,
            )
        by (inr w) =
            tasks w.0 w.1.0 (get_map (λ (p : PassesValue). p.book) passes w.0 q w.1.1)

  pub book_others : IsBookOf consts book → AreWorldInodes consts world_inodes
      → AllZip WorldInodeClosed world_inodes inodes → AreOfTasks consts passes
      → length passes ≡ consts.tasks
      → HasOthers book (inodes ++ map (λ (p : PassesValue). p.book) passes)
  book_others is are closed of count =
      others_in_order book (inodes ++ map (λ (p : PassesValue). p.book) passes)
      (omega (
        arith,
        length-append inodes (map (λ (p : PassesValue). p.book) passes),
        length-map passes (λ (p : PassesValue). p.book),
        zip_even WorldInodeClosed world_inodes inodes closed,
        are.even,
        count,
        is.callers,
      ))
      (all_by_get (λ (q : Passed Entry). q.name ≡ book.name)
      (inodes ++ map (λ (p : PassesValue). p.book) passes)
      (λ k q at. (book_pass is are closed of k q at).0))
      (λ k q at. (book_pass is are closed of k q at).1)

-- ---- the semaphores

pub sem_others : (consts : WorldConsts) (sems : Grown Event) (passes : List PassesValue)
    → AreSignalsOf consts sems → AreOfTasks consts passes → length passes ≡ consts.tasks
    → HasOthers sems (map (λ (p : PassesValue). p.sems) passes)
sem_others consts sems passes is of count =
    others_in_order sems (map (λ (p : PassesValue). p.sems) passes)
    (omega (arith, length-map passes (λ (p : PassesValue). p.sems), count, is.callers))
    (all_by_get (λ (q : Passed Event). q.name ≡ sems.name)
    (map (λ (p : PassesValue). p.sems) passes)
    (λ k q at. (pass k q (get_map (λ (p : PassesValue). p.sems) passes k q at)).0))
    (λ k q at. (pass k q (get_map (λ (p : PassesValue). p.sems) passes k q at)).1) where
      pass : (k : ℕ) (q : Passed Event)
          → (p : PassesValue) × ((slice_get passes k ≡ Some p) × (p.sems ≡ q))
          → (q.name ≡ sems.name) × (q.number ≡ k + 1)
      pass k q p =
          let its = (of k p.0 p.1.0).sems in (
            sym (ap (λ (x : Passed Event). x.name) p.1.1) ∙ its.0 ∙ sym is.name,
            sym (ap (λ (x : Passed Event). x.number) p.1.1) ∙ its.1,
          )

-- ---- the rules

-- an element of the list that passes the test
record Counted {A : Type 0} (test : A → Bool) (xs : List A) : Type 0 where
  pub place : ℕ
  pub item : A
  pub at : slice_get xs place ≡ Some item
  pub passes : test item ≡ true

add_none : (n : ℕ) → n ≡ bit false + n
add_none n = omega arith

counted : {A : Type 0} (test : A → Bool) (xs : List A) → count_by test xs ≡ 1 → Counted test xs
counted test [] one = absurd (let e : ◌≡◌ {A = ℕ} 0 1 = one in omega arith)
counted test (x ∷ xs) one = at (counted test xs) (test x) refl where
  later : Counted test xs → Counted test (x ∷ xs)
  later c = record { place = suc c.place; item = c.item; at = c.at; passes = c.passes }

  at : (count_by test xs ≡ 1 → Counted test xs) → (b : Bool) → test x ≡ b
      → Counted test (x ∷ xs)
  at rest true is = record { place = 0; item = x; at = refl; passes = is }
  at rest false is = later (rest
      (add_none (count_by test xs) ∙ ap (λ (b : Bool). bit b + count_by test xs) (sym is)
      ∙ sym (count_by-cons test x xs) ∙ one))

-- a property of all elements holds of the one at a place
pub all_at : {A : Type 0} (P : A → Type 0) (xs : List A) (k : ℕ) (x : A) → All P xs
    → slice_get xs k ≡ Some x → P x
all_at P xs k x all at =
    subst P (get_or_from_slice_get xs k x x at)
    (All-get_or P xs k x (slice_get_within xs k x at) all)

-- a pass of the rules has its number in order, and is a task's or has added nothing
record IsRulesPass (consts : WorldConsts) (p : PolicyValue) (k : ℕ) (q : Passed RuleEntry)
    : Type 0 where
  pub name : q.name ≡ p.appended.name
  pub number : q.number ≡ k
  pub whose : (k < consts.tasks) ⊎ (q.mine ≡ [])

module _ (consts : WorldConsts) (rules : PolicyValue) (world_inodes : List WorldInodeValue)
    (passes : List PassesValue) (spares : List (Passed RuleEntry)) where
  abbrev pub all_rules : List (Passed RuleEntry)
  all_rules = map (λ (p : PassesValue). p.rules) passes
      ++ map (λ (s : WorldInodeValue). s.rules) world_inodes ++ spares

  rules_pass : AreRulesOf consts rules → AreWorldInodes consts world_inodes
      → AreSpares consts spares → AreOfTasks consts passes → length passes ≡ consts.tasks → (k : ℕ)
      → (q : Passed RuleEntry) → slice_get all_rules k ≡ Some q → IsRulesPass consts rules k q
  rules_pass is are rest of count k q at =
      by (get_parts (map (λ (p : PassesValue). p.rules) passes
      ++ map (λ (s : WorldInodeValue). s.rules) world_inodes) spares k q at) where
        counts : length (map (λ (p : PassesValue). p.rules) passes) ≡ consts.tasks
        counts = length-map passes (λ (p : PassesValue). p.rules) ∙ count

        both : length (map (λ (p : PassesValue). p.rules) passes
            ++ map (λ (s : WorldInodeValue). s.rules) world_inodes)
            ≡ consts.tasks + length consts.each_inode
        both = omega (
          arith,
          counts,
          length-append (map (λ (p : PassesValue). p.rules) passes)
              (map (λ (s : WorldInodeValue). s.rules) world_inodes),
          length-map world_inodes (λ (s : WorldInodeValue). s.rules),
          are.even,
        )

        task : (p : PassesValue) × ((slice_get passes k ≡ Some p) × (p.rules ≡ q))
            → IsRulesPass consts rules k q
        task p =
            let its = (of k p.0 p.1.0).rules in
            record {
              name = sym (ap (λ (x : Passed RuleEntry). x.name) p.1.1) ∙ its.0 ∙ sym is.name;
              number = sym (ap (λ (x : Passed RuleEntry). x.number) p.1.1) ∙ its.1;
              whose = inl (subst (λ (n : ℕ). k < n) count
                  (slice_get_within passes k p.0 p.1.0));
            }

        inode : (j : ℕ) → k ≡ length (map (λ (p : PassesValue). p.rules) passes) + j
            → (s : WorldInodeValue) × ((slice_get world_inodes j ≡ Some s) × (s.rules ≡ q))
            → IsRulesPass consts rules k q
        inode j here s =
            let its = are.each j s.0 s.1.0 in
            record {
              name = sym (ap (λ (x : Passed RuleEntry). x.name) s.1.1) ∙ its.rules_name
                  ∙ sym is.name;
              number = sym (ap (λ (x : Passed RuleEntry). x.number) s.1.1) ∙ its.rules_number
                  ∙ omega (arith, counts, here);
              whose = inr (sym (ap (λ (x : Passed RuleEntry). x.mine) s.1.1) ∙ its.rules_mine);
            }

        front : (slice_get (map (λ (p : PassesValue). p.rules) passes) k ≡ Some q)
            ⊎ ((j : ℕ) × ((k ≡ length (map (λ (p : PassesValue). p.rules) passes) + j)
            × (slice_get (map (λ (s : WorldInodeValue). s.rules) world_inodes) j ≡ Some q)))
            → IsRulesPass consts rules k q
        front (inl w) = task (get_map (λ (p : PassesValue). p.rules) passes k q w)
        front (inr w) =
            inode w.0 w.1.0 (get_map (λ (s : WorldInodeValue). s.rules) world_inodes w.0 q w.1.1)

        by : (slice_get (map (λ (p : PassesValue). p.rules) passes
            ++ map (λ (s : WorldInodeValue). s.rules) world_inodes) k ≡ Some q)
            ⊎ ((j : ℕ) × ((k ≡ length (map (λ (p : PassesValue). p.rules) passes
            ++ map (λ (s : WorldInodeValue). s.rules) world_inodes) + j)
            × (slice_get spares j ≡ Some q))) → IsRulesPass consts rules k q
        by (inl w) =
            front (get_parts (map (λ (p : PassesValue). p.rules) passes)
            (map (λ (s : WorldInodeValue). s.rules) world_inodes) k q w)
        by (inr w) =
            let its = rest.each w.0 q w.1.1 in
            record {
              name = its.0 ∙ sym is.name;
              number = its.1 ∙ omega (arith, both, w.1.0);
              whose = inr its.2;
            }

  pub rules_each : AreRulesOf consts rules → AreWorldInodes consts world_inodes
      → AreSpares consts spares → AreOfTasks consts passes → length passes ≡ consts.tasks
      → HasEach rules.appended all_rules
  rules_each is are rest of count =
      each_in_order rules.appended all_rules
      (omega (
        arith,
        length-append (map (λ (p : PassesValue). p.rules) passes
            ++ map (λ (s : WorldInodeValue). s.rules) world_inodes) spares,
        length-append (map (λ (p : PassesValue). p.rules) passes)
            (map (λ (s : WorldInodeValue). s.rules) world_inodes),
        length-map passes (λ (p : PassesValue). p.rules),
        length-map world_inodes (λ (s : WorldInodeValue). s.rules),
        are.even,
        count,
        rest.count,
        is.callers,
      ))
      (all_by_get (λ (q : Passed RuleEntry). q.name ≡ rules.appended.name) all_rules
      (λ k q at. (rules_pass is are rest of count k q at).name))
      (λ k q at. (rules_pass is are rest of count k q at).number)

  -- each appended rule is of a task
  pub all_ruled : AreRulesOf consts rules → AreWorldInodes consts world_inodes
      → AreSpares consts spares → AreOfTasks consts passes → length passes ≡ consts.tasks
      → All (λ (q : Passed RuleEntry). HasItsOwn rules.appended q) all_rules
      → ((k : ℕ) → k < length rules.appended.list
      → count_by (λ (q : Passed RuleEntry). has_place k q.mine) all_rules ≡ 1)
      → All (λ (r : RuleEntry). r.who.task < consts.tasks) rules.appended.list
  all_ruled is are rest of count own places =
      all_by_get (λ (r : RuleEntry). r.who.task < consts.tasks) rules.appended.list
      (λ k r at. by k r at (counted (λ (q : Passed RuleEntry). has_place k q.mine) all_rules
      (places k (slice_get_within rules.appended.list k r at)))) where
        numbers : (k : ℕ) (r : RuleEntry) → slice_get rules.appended.list k ≡ Some r
            → get_or rules.appended.numbers k 0 ≡ r.who.task
        numbers k r at =
            ap (λ (l : List ℕ). get_or l k 0) is.numbers
            ∙ get_or_from_slice_get (map (λ (r : RuleEntry). r.who.task) rules.appended.list) k
            r.who.task 0
            (map_get (λ (r : RuleEntry). r.who.task) rules.appended.list k r at)

        even : length rules.appended.numbers ≡ length rules.appended.list
        even = ap length is.numbers
            ∙ length-map rules.appended.list (λ (r : RuleEntry). r.who.task)

        whose : (k : ℕ) (r : RuleEntry) (j : ℕ) (q : Passed RuleEntry)
            → q.number ≡ j → q.number ≡ r.who.task → has_place k q.mine ≡ true
            → (j < consts.tasks) ⊎ (q.mine ≡ []) → r.who.task < consts.tasks
        whose k r j q number same has (inl below) = omega (arith, number, same, below)
        whose k r j q number same has (inr none) =
            let no : false ≡ true = sym (ap (has_place k) none) ∙ has in absurd (cc)

        by : (k : ℕ) (r : RuleEntry) → slice_get rules.appended.list k ≡ Some r
            → Counted (λ (q : Passed RuleEntry). has_place k q.mine) all_rules
            → r.who.task < consts.tasks
        by k r at c =
            let pass = rules_pass is are rest of count c.place c.item c.at in
            let mine : HasItsOwn rules.appended c.item =
            all_at (λ (q : Passed RuleEntry). HasItsOwn rules.appended q) all_rules c.place c.item
            own c.at in
            let same : eqb c.item.number (get_or rules.appended.numbers k 0) ≡ true =
            sym (has_place-entries c.item.number k rules.appended.numbers rules.appended.list even
            (slice_get_within rules.appended.list k r at))
            ∙ ap (has_place k) mine ∙ c.passes in
            whose k r c.place c.item pass.number
            (eqb-true c.item.number (get_or rules.appended.numbers k 0) same ∙ numbers k r at)
            c.passes pass.whose
