-- The cells of the table of places, as events, journals and inodes are noted one after the other.
use Rattle.std.proofs.Common.{◌≡◌, ℕ, zero, suc, ◌+◌, ◌<◌, Bool, true, false, ◌&&◌, cond, List, [], ◌∷◌, ◌++◌, length, map, take, get_or, Option, Some, None, refl, sym, ◌∙◌, ap, subst, arith}
use Rattle.std.specs.Prelude.{◌==◌, slice_get, slice_set, replicate}
use Rattle.std.specs.Option.{option_and_then, option_or}
use Rattle.std.proofs.lemmas.Bool.{cond-true, eq-eqb, eqb-true, ne_eqb}
use Rattle.std.proofs.lemmas.List.{length-take-le, map_push, take_more}
use Rattle.std.proofs.lemmas.Option.{none-some, slice_get-get_or, slice_get_past, slice_get_within}
use Rattle.script_text.specs.declared.blocks.TaskBlock.{TaskBlock}
use Rattle.script_text.specs.events.Callers.{caller_in, caller_of}
use Rattle.script_text.specs.events.EndedInode.{EndedInodeValue}
use Rattle.script_text.specs.events.declared.deed.Deed.{Deed}
use Rattle.script_text.specs.events.declared.deed.Deed.TheVariants as deed
use Rattle.script_text.specs.events.declared.told.Event.{Event}
use Rattle.script_text.specs.events.declared.told.Told.{Told}
use Rattle.script_text.specs.steps.declared.call.Call.{Call}
use Rattle.script_text.specs.steps.templates.declared.entry.Placed.{Placed}
use Rattle.run_laws.specs.kernel_reads.Reads.{is_of_call, place_of_call, placed_by, read_by}
use Rattle.kernel_read.specs.Places.{HasShape, calls_in, cell, flat, is_some_of, named_by, noted, placed_at, placed_in, reads}

-- the cells of a task
abbrev Row : Type 0
Row = List (Option Placed)

-- the cell of a call without a place
abbrev no_place : Option Placed
no_place = None

-- ---- lists with one element set or added

-- the element that was set
get_set : {A : Type 0} (xs : List A) (i : ℕ) (y : A) → i < length xs
    → slice_get (slice_set xs i y) i ≡ Some y
get_set [] i y l = absurd (omega arith)
get_set (x ∷ xs) zero y l = refl
get_set (x ∷ xs) (suc i) y l = get_set xs i y (omega arith)

-- the other elements stay
get_apart : {A : Type 0} (xs : List A) (i j : ℕ) (y : A) → (i ≡ j → ⊥)
    → slice_get (slice_set xs i y) j ≡ slice_get xs j
get_apart [] i j y ne = refl
get_apart (x ∷ xs) zero zero y ne = absurd (ne refl)
get_apart (x ∷ xs) zero (suc j) y ne = refl
get_apart (x ∷ xs) (suc i) zero y ne = refl
get_apart (x ∷ xs) (suc i) (suc j) y ne = get_apart xs i j y (λ e. ne (ap suc e))

-- a set leaves the length
length_set : {A : Type 0} (xs : List A) (i : ℕ) (y : A) → length (slice_set xs i y) ≡ length xs
length_set [] i y = refl
length_set (x ∷ xs) zero y = refl
length_set (x ∷ xs) (suc i) y = ap suc (length_set xs i y)

-- the last element of a list with one more, and the others
get_last : {A : Type 0} (xs : List A) (y : A) → slice_get (xs ++ y ∷ []) (length xs) ≡ Some y
get_last [] y = refl
get_last (x ∷ xs) y = get_last xs y

-- the elements before stay
get_before : {A : Type 0} (xs : List A) (y : A) (j : ℕ) → (length xs ≡ j → ⊥)
    → slice_get (xs ++ y ∷ []) j ≡ slice_get xs j
get_before [] y zero ne = absurd (ne refl)
get_before [] y (suc j) ne = refl
get_before (x ∷ xs) y zero ne = refl
get_before (x ∷ xs) y (suc j) ne = get_before xs y j (λ e. ne (ap suc e))

-- each element of a list of equal ones
flat_none : (n k : ℕ) → flat (slice_get (replicate n no_place) k) ≡ None
flat_none zero k = refl
flat_none (suc n) zero = refl
flat_none (suc n) (suc k) = flat_none n k

-- so many equal elements
length_replicate : (n : ℕ) → length (replicate n no_place) ≡ n
length_replicate zero = refl
length_replicate (suc n) = ap suc (length_replicate n)

-- ---- the shape of the table

-- a row whose length stays leaves the shape
lengths_set : (rows : List Row) (n : ℕ) (row d : Row) → length row ≡ length (get_or rows n d)
    → map (λ (r : Row). length r) (slice_set rows n row) ≡ map (λ (r : Row). length r) rows
lengths_set [] n row d e = refl
lengths_set (x ∷ rows) zero row d e = ap (λ (l : ℕ). l ∷ map (λ (r : Row). length r) rows) e
lengths_set (x ∷ rows) (suc n) row d e =
    ap (λ (l : List ℕ). length x ∷ l) (lengths_set rows n row d e)

-- noting a place leaves the shape
pub shape_set : (tasks : List (List Call)) (rows : List Row) (n k : ℕ) (d row : Row)
    (v : Option Placed) → HasShape tasks rows → row ≡ slice_set (get_or rows n d) k v
    → HasShape tasks (slice_set rows n row)
shape_set tasks rows n k d row v h e =
    lengths_set rows n row d (ap (λ (r : Row). length r) e ∙ length_set (get_or rows n d) k v) ∙ h

-- a call by which the kernel reads has a cell
pub cell_within : (tasks : List (List Call)) (rows : List Row) (n k i : ℕ) (d : Row)
    → HasShape tasks rows → reads tasks n k i ≡ true
    → (n < length rows) × (k < length (get_or rows n d))
cell_within [] rows n k i d h r = absurd (cc)
cell_within (cs ∷ tasks) [] n k i d h r = absurd (cc)
cell_within (cs ∷ tasks) (row ∷ rows) zero k i d h r = at (slice_get cs k) refl r where
  same : length row ≡ length cs
  same = cc

  at : (o : Option Call) → slice_get cs k ≡ o
      → is_some_of i (option_and_then read_by o) ≡ true
      → (0 < length (row ∷ rows)) × (k < length row)
  at None e g = absurd (cc)
  at (Some c) e g =
      let l : k < length cs = slice_get_within cs k c e in (omega arith, omega (arith, same))
cell_within (cs ∷ tasks) (row ∷ rows) (suc n) k i d h r =
    let rest : HasShape tasks rows = cc in
    let l = cell_within tasks rows n k i d rest r in (omega (arith, l.0), l.1)

-- ---- a cell that is set

-- the cell that is set
cell_set : (rows : List Row) (n k : ℕ) (row : Row) (v : Option Placed) → n < length rows
    → k < length row → cell (slice_set rows n (slice_set row k v)) n k ≡ v
cell_set rows n k row v a b =
    ap (λ (o : Option Row). flat (option_and_then (λ (r : Row). slice_get r k) o))
    (get_set rows n (slice_set row k v) a) ∙ ap flat (get_set row k v b)

-- cells of other tasks stay
cell_row : (rows : List Row) (n m k : ℕ) (row : Row) → (n ≡ m → ⊥)
    → cell (slice_set rows n row) m k ≡ cell rows m k
cell_row rows n m k row ne =
    ap (λ (o : Option Row). flat (option_and_then (λ (r : Row). slice_get r k) o))
    (get_apart rows n m row ne)

-- and so do other cells of the task
cell_apart : (rows : List Row) (n k c : ℕ) (row : Row) (v : Option Placed)
    → slice_get rows n ≡ Some row → n < length rows → (k ≡ c → ⊥)
    → cell (slice_set rows n (slice_set row k v)) n c ≡ cell rows n c
cell_apart rows n k c row v is a ne =
    ap (λ (o : Option Row). flat (option_and_then (λ (r : Row). slice_get r c) o))
    (get_set rows n (slice_set row k v) a) ∙ ap flat (get_apart row k c v ne)
    ∙ sym (ap (λ (o : Option Row). flat (option_and_then (λ (r : Row). slice_get r c) o)) is)

-- ---- an event

-- nothing noted leaves the cell
pub noted_none : (r : Bool) (old : Option Placed) → noted r old None ≡ old
noted_none false old = refl
noted_none true None = refl
noted_none true (Some x) = refl

-- what two events note one after the other
noted_more : (r : Bool) (old a b : Option Placed)
    → noted r (noted r old a) b ≡ noted r old (option_or a b)
noted_more false old a b = refl
noted_more true None a b = refl
noted_more true (Some x) a b = refl

-- a grant is a task's
caller_named : (d : Deed) (t : Told) (placed : Placed) (task : ℕ) → placed_by d t ≡ Some placed
    → caller_in task d ≡ task + 1
caller_named (deed.Take f) t placed task h = refl
caller_named (deed.Finish f) t placed task h = refl
caller_named d t placed task h = absurd (none-some placed h)

-- a test of two parts
both : (a b : Bool) → a ≡ true → b ≡ true → (a && b) ≡ true
both a b x y = ap (λ (c : Bool). c && b) x ∙ y

-- a test whose second part fails
not_both : (a b : Bool) → b ≡ false → (a && b) ≡ false
not_both true b y = y
not_both false b y = refl

module _ (e : Event) (placed : Placed) (h : placed_by e.deed e.told ≡ Some placed) where
  -- the event names the place for its own call
  named_here : named_by e.who.task e.who.call e ≡ Some placed
  named_here = cond-true (is_of_call e.who.task e.who.call e) (placed_by e.deed e.told) None
      (both (caller_of e == e.who.task + 1) (e.who.call == e.who.call)
      (eq-eqb (caller_of e) (e.who.task + 1)
      (caller_named e.deed e.told placed e.who.task h))
      (eq-eqb e.who.call e.who.call refl)) ∙ h

  none_for : (n k : ℕ) → is_of_call n k e ≡ false → named_by n k e ≡ None
  none_for n k f = ap (λ (b : Bool). cond b (placed_by e.deed e.told) None) f

  -- and for no other
  other_task : (n k : ℕ) → (e.who.task ≡ n → ⊥) → named_by n k e ≡ None
  other_task n k ne = none_for n k (ap (λ (b : Bool). b && (e.who.call == k))
      (ne_eqb (caller_of e) (n + 1) (λ s. ne (let c : caller_of e ≡ e.who.task + 1 =
      caller_named e.deed e.told placed e.who.task h in omega arith))))

  other_call : (n k : ℕ) → (e.who.call ≡ k → ⊥) → named_by n k e ≡ None
  other_call n k ne = none_for n k (not_both (caller_of e == n + 1) (e.who.call == k)
      (ne_eqb e.who.call k ne))

  -- the event of a call that doesn't read the inode leaves the table
  pub event_left : (tasks : List (List Call)) (rows : List Row) (i : ℕ)
      → reads tasks e.who.task e.who.call i ≡ false → (n k : ℕ)
      → cell rows n k ≡ noted (reads tasks n k i) (cell rows n k) (named_by n k e)
  event_left tasks rows i unread n k = at (e.who.task == n) refl (e.who.call == k) refl where
    none : named_by n k e ≡ None
        → cell rows n k ≡ noted (reads tasks n k i) (cell rows n k) (named_by n k e)
    none f = sym (ap (λ (o : Option Placed). noted (reads tasks n k i) (cell rows n k) o) f
        ∙ noted_none (reads tasks n k i) (cell rows n k))

    at : (a : Bool) → (e.who.task == n) ≡ a → (b : Bool) → (e.who.call == k) ≡ b
        → cell rows n k ≡ noted (reads tasks n k i) (cell rows n k) (named_by n k e)
    at false p b q = none (other_task n k (λ s. cc (eq-eqb e.who.task n s)))
    at true p false q = none (other_call n k (λ s. cc (eq-eqb e.who.call k s)))
    at true p true q =
        let task : e.who.task ≡ n = eqb-true e.who.task n p in
        let call : e.who.call ≡ k = eqb-true e.who.call k q in
        let mine : reads tasks n k i ≡ false = sym (λ j. reads tasks (task j) (call j) i) ∙ unread in
        sym (ap (λ (r : Bool). noted r (cell rows n k) (named_by n k e)) mine)

  -- the table after the event
  pub event_noted : (tasks : List (List Call)) (rows : List Row) (i : ℕ) (d row : Row)
      → HasShape tasks rows → reads tasks e.who.task e.who.call i ≡ true
      → row ≡ slice_set (get_or rows e.who.task d) e.who.call
      (option_or (get_or (get_or rows e.who.task d) e.who.call None) (Some placed))
      → (n k : ℕ) → cell (slice_set rows e.who.task row) n k
      ≡ noted (reads tasks n k i) (cell rows n k) (named_by n k e)
  event_noted tasks rows i d row shape reading is n k =
      ap (λ (r : Row). cell (slice_set rows e.who.task r) n k) is
      ∙ at (e.who.task == n) refl (e.who.call == k) refl where
        inside : (e.who.task < length rows) × (e.who.call < length (get_or rows e.who.task d))
        inside = cell_within tasks rows e.who.task e.who.call i d shape reading

        there : slice_get rows e.who.task ≡ Some (get_or rows e.who.task d)
        there = slice_get-get_or rows e.who.task d inside.0

        was : cell rows e.who.task e.who.call
            ≡ get_or (get_or rows e.who.task d) e.who.call None
        was = ap (λ (o : Option Row).
            flat (option_and_then (λ (r : Row). slice_get r e.who.call) o)) there
            ∙ ap flat (slice_get-get_or (get_or rows e.who.task d) e.who.call None inside.1)

        here : cell (slice_set rows e.who.task (slice_set (get_or rows e.who.task d) e.who.call
            (option_or (get_or (get_or rows e.who.task d) e.who.call None) (Some placed))))
            e.who.task e.who.call
            ≡ noted (reads tasks e.who.task e.who.call i) (cell rows e.who.task e.who.call)
            (named_by e.who.task e.who.call e)
        here = cell_set rows e.who.task e.who.call (get_or rows e.who.task d)
            (option_or (get_or (get_or rows e.who.task d) e.who.call None) (Some placed)) inside.0
            inside.1
            ∙ sym (ap (λ (b : Bool). noted b (cell rows e.who.task e.who.call)
            (named_by e.who.task e.who.call e)) reading
            ∙ ap (λ (o : Option Placed). option_or (cell rows e.who.task e.who.call) o) named_here
            ∙ ap (λ (o : Option Placed). option_or o (Some placed)) was)

        apart : (m c : ℕ)
            → cell (slice_set rows e.who.task (slice_set (get_or rows e.who.task d) e.who.call
            (option_or (get_or (get_or rows e.who.task d) e.who.call None) (Some placed)))) m c
            ≡ cell rows m c → named_by m c e ≡ None
            → cell (slice_set rows e.who.task (slice_set (get_or rows e.who.task d) e.who.call
            (option_or (get_or (get_or rows e.who.task d) e.who.call None) (Some placed)))) m c
            ≡ noted (reads tasks m c i) (cell rows m c) (named_by m c e)
        apart m c same none =
            same ∙ sym (ap (λ (o : Option Placed). noted (reads tasks m c i) (cell rows m c) o) none
            ∙ noted_none (reads tasks m c i) (cell rows m c))

        at : (a : Bool) → (e.who.task == n) ≡ a → (b : Bool) → (e.who.call == k) ≡ b
            → cell (slice_set rows e.who.task (slice_set (get_or rows e.who.task d) e.who.call
            (option_or (get_or (get_or rows e.who.task d) e.who.call None) (Some placed)))) n k
            ≡ noted (reads tasks n k i) (cell rows n k) (named_by n k e)
        at false p b q =
            let ne : e.who.task ≡ n → ⊥ = λ s. cc (eq-eqb e.who.task n s) in
            apart n k (cell_row rows e.who.task n k (slice_set (get_or rows e.who.task d) e.who.call
            (option_or (get_or (get_or rows e.who.task d) e.who.call None) (Some placed))) ne)
            (other_task n k ne)
        at true p false q =
            let ne : e.who.call ≡ k → ⊥ = λ s. cc (eq-eqb e.who.call k s) in
            subst (λ (m : ℕ). cell (slice_set rows e.who.task
            (slice_set (get_or rows e.who.task d) e.who.call
            (option_or (get_or (get_or rows e.who.task d) e.who.call None) (Some placed)))) m k
            ≡ noted (reads tasks m k i) (cell rows m k) (named_by m k e))
            (eqb-true e.who.task n p)
            (apart e.who.task k (cell_apart rows e.who.task e.who.call k (get_or rows e.who.task d)
            (option_or (get_or (get_or rows e.who.task d) e.who.call None) (Some placed)) there
            inside.0 ne) (other_call e.who.task k ne))
        at true p true q =
            subst (λ (m : ℕ). cell (slice_set rows e.who.task
            (slice_set (get_or rows e.who.task d) e.who.call
            (option_or (get_or (get_or rows e.who.task d) e.who.call None) (Some placed)))) m k
            ≡ noted (reads tasks m k i) (cell rows m k) (named_by m k e))
            (eqb-true e.who.task n p)
            (subst (λ (c : ℕ). cell (slice_set rows e.who.task
            (slice_set (get_or rows e.who.task d) e.who.call
            (option_or (get_or (get_or rows e.who.task d) e.who.call None) (Some placed))))
            e.who.task c
            ≡ noted (reads tasks e.who.task c i) (cell rows e.who.task c)
            (named_by e.who.task c e)) (eqb-true e.who.call k q) here)

-- ---- a journal

-- the place of a call by a journal with one event more
place_more : (n k : ℕ) (events : List Event) (e : Event)
    → place_of_call n k (events ++ e ∷ []) ≡ option_or (place_of_call n k events) (named_by n k e)
place_more n k [] e = at (named_by n k e) where
  at : (o : Option Placed) → option_or o None ≡ o
  at None = refl
  at (Some x) = refl
place_more n k (x ∷ events) e =
    ap (λ (o : Option Placed). option_or (named_by n k x) o) (place_more n k events e)
    ∙ at (named_by n k x) where
      at : (o : Option Placed)
          → option_or o (option_or (place_of_call n k events) (named_by n k e))
          ≡ option_or (option_or o (place_of_call n k events)) (named_by n k e)
      at None = refl
      at (Some y) = refl

-- one event more of the journal is noted
pub journal_more : (r : Bool) (first old new : Option Placed) (n k i : ℕ) (journal : List Event)
    (e : Event) → i < length journal → e ≡ get_or journal i e
    → old ≡ noted r first (place_of_call n k (take i journal)) → new ≡ noted r old (named_by n k e)
    → new ≡ noted r first (place_of_call n k (take (i + 1) journal))
journal_more r first old new n k i journal e l is before after =
    after ∙ ap (λ (o : Option Placed). noted r o (named_by n k e)) before
    ∙ noted_more r first (place_of_call n k (take i journal)) (named_by n k e)
    ∙ ap (λ (o : Option Placed). noted r first o)
    (sym (ap (place_of_call n k) (take_more journal i e l
    ∙ ap (λ (x : Event). take i journal ++ x ∷ []) (sym is))
    ∙ place_more n k (take i journal) e))

-- ---- all inodes

-- the journal of one inode more is noted
pub inode_more : (inodes : List EndedInodeValue) (number : ℕ) (inode : EndedInodeValue)
    (old new : Option Placed) (n k : ℕ) (reading : Option ℕ) → number < length inodes
    → inode ≡ get_or inodes number inode
    → old ≡ placed_in (take number inodes) n k reading
    → new ≡ noted (is_some_of number reading) old (place_of_call n k inode.journal)
    → new ≡ placed_in (take (number + 1) inodes) n k reading
inode_more inodes number inode old new n k None l is before after = after ∙ before
inode_more inodes number inode old new n k (Some j) l is before after =
    after ∙ at (j == number) refl
    ∙ ap (λ (xs : List EndedInodeValue). placed_in xs n k (Some j))
    (sym (take_more inodes number inode l
    ∙ ap (λ (x : EndedInodeValue). take number inodes ++ x ∷ []) (sym is))) where
      full : length (take number inodes) ≡ number
      full = length-take-le number inodes (omega arith)

      at : (b : Bool) → (j == number) ≡ b
          → noted b old (place_of_call n k inode.journal)
          ≡ placed_in (take number inodes ++ inode ∷ []) n k (Some j)
      at true e =
          let same : length (take number inodes) ≡ j = full ∙ sym (eqb-true j number e) in
          let none : old ≡ None = before ∙ ap (placed_at n k)
          (slice_get_past (take number inodes) j (omega arith)) in
          ap (λ (o : Option Placed). option_or o (place_of_call n k inode.journal)) none
          ∙ sym (ap (placed_at n k) (sym (ap (slice_get (take number inodes ++ inode ∷ [])) same)
          ∙ get_last (take number inodes) inode))
      at false e =
          before ∙ sym (ap (placed_at n k) (get_before (take number inodes) inode j
          (λ s. cc (eq-eqb j number (sym (sym full ∙ s))))))

-- ---- an empty table

-- the calls of one task more
pub calls_more : (tasks : List TaskBlock) (i : ℕ) (t : TaskBlock) → i < length tasks
    → t ≡ get_or tasks i t
    → calls_in (take (i + 1) tasks) ≡ calls_in (take i tasks) ++ t.calls ∷ []
calls_more tasks i t l is =
    ap calls_in (take_more tasks i t l
    ∙ ap (λ (x : TaskBlock). take i tasks ++ x ∷ []) (sym is))
    ∙ map_push (λ (x : TaskBlock). x.calls) (take i tasks) t

-- one row more
pub rows_more : (tasks : List (List Call)) (rows : List Row) (cs : List Call) (row : Row)
    → HasShape tasks rows → row ≡ replicate (length cs) None
    → HasShape (tasks ++ cs ∷ []) (rows ++ row ∷ [])
rows_more [] [] cs row h e =
    ap (λ (l : ℕ). l ∷ []) (ap (λ (r : Row). length r) e ∙ length_replicate (length cs))
rows_more [] (x ∷ rows) cs row h e = absurd (cc)
rows_more (x ∷ tasks) [] cs row h e = absurd (cc)
rows_more (x ∷ tasks) (y ∷ rows) cs row h e =
    let first : length y ≡ length x = cc in
    let rest : HasShape tasks rows = cc in
    (λ i. first i ∷ rows_more tasks rows cs row rest e i)

-- with one empty row more, all cells are still empty
pub empty_more : (rows : List Row) (row : Row) (c : ℕ) → row ≡ replicate c None
    → ((n k : ℕ) → cell rows n k ≡ None) → (n k : ℕ) → cell (rows ++ row ∷ []) n k ≡ None
empty_more rows row c e none n k = at (length rows == n) refl where
  at : (b : Bool) → (length rows == n) ≡ b → cell (rows ++ row ∷ []) n k ≡ None
  at true q =
      ap (λ (o : Option Row). flat (option_and_then (λ (r : Row). slice_get r k) o))
      (sym (ap (slice_get (rows ++ row ∷ [])) (eqb-true (length rows) n q)) ∙ get_last rows row)
      ∙ ap (λ (r : Row). flat (slice_get r k)) e ∙ flat_none c k
  at false q =
      ap (λ (o : Option Row). flat (option_and_then (λ (r : Row). slice_get r k) o))
      (get_before rows row n (λ s. cc (eq-eqb (length rows) n s))) ∙ none n k
