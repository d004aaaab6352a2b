-- The files that tasks have, and tasks under two namings that agree on these files.
use Rattle.std.proofs.Common.{◌≡◌, ℕ, ◌==◌, ◌⊎◌, Bool, true, List, [], ◌∷◌, map, Option, Some, None, option_map, slice_get, slice_set, zero, suc, refl, ap, sym, ◌∙◌, inl, inr, ⊎_elim}
use Rattle.std.specs.List.{list_any}
use Rattle.std.proofs.lemmas.Bool.{and_from, eq-eqb, or_cases, or_left, or_right, true≢false}
use Rattle.std.proofs.lemmas.Option.{none-some, same_Some}
use Rattle.report_text.specs.model.History.{Position}
use Rattle.report_text.specs.model.steps.CallState.{Progress}
use Rattle.report_text.specs.model.steps.declared.held.Handle.{Handle}
use Rattle.order_outcomes.specs.alike.Names.{Naming, handle_named, has_file, in_handles, in_progress, is_used, position_named, progress_named}
use Rattle.order_outcomes.proofs.alike.MomentNames.{AreUsed, first_used, rest_used}

-- all files of the task are used
abbrev pub Covers : (ℕ → ℕ → Bool) → Position → Type 0
Covers used t = (i file : ℕ) → has_file i file t ≡ true → used i file ≡ true

-- those of its handles are
pub handles_used : (used : ℕ → ℕ → Bool) (t : Position) → Covers used t
    → AreUsed used t.call_state.handles
handles_used used t covers i file is =
    covers i file (or_right (in_progress i file t.call_state.progress)
    (in_handles i file t.call_state.handles) is)

-- that of its call is
pub progress_used : (used : ℕ → ℕ → Bool) (t : Position) → Covers used t → (g : Progress)
    → t.call_state.progress ≡ Some g → used g.inode g.file ≡ true
progress_used used t covers g e =
    covers g.inode g.file (or_left (in_progress g.inode g.file t.call_state.progress)
    (in_handles g.inode g.file t.call_state.handles) (ap (in_progress g.inode g.file) e
    ∙ and_from (g.inode == g.inode) (g.file == g.file) (eq-eqb g.inode g.inode refl)
    (eq-eqb g.file g.file refl)))

-- ---- two namings

-- the namings agree on the used files
abbrev pub Agree : Naming → Naming → (ℕ → ℕ → Bool) → Type 0
Agree r r2 used = (i file : ℕ) → used i file ≡ true → r i file ≡ r2 i file

-- handles are the same under both
pub handles_agree : (r r2 : Naming) (used : ℕ → ℕ → Bool) → Agree r r2 used → (hs : List Handle)
    → AreUsed used hs → map (handle_named r) hs ≡ map (handle_named r2) hs
handles_agree r r2 used agree [] all = refl
handles_agree r r2 used agree (h ∷ hs) all =
    let file = agree h.inode h.file (first_used used h hs all) in
    let rest = handles_agree r r2 used agree hs (rest_used used h hs all) in
    λ j. record h { file = file j } ∷ rest j

-- a call in progress is the same under both
progress_agree : (r r2 : Naming) (used : ℕ → ℕ → Bool) → Agree r r2 used → (o : Option Progress)
    → ((g : Progress) → o ≡ Some g → used g.inode g.file ≡ true)
    → option_map (progress_named r) o ≡ option_map (progress_named r2) o
progress_agree r r2 used agree None is = refl
progress_agree r r2 used agree (Some g) is =
    let file = agree g.inode g.file (is g refl) in
    λ j. Some (record g { file = file j })

-- a task all of whose files are used is the same under both
pub position_agree : (r r2 : Naming) (used : ℕ → ℕ → Bool) → Agree r r2 used → (t : Position)
    → Covers used t → position_named r t ≡ position_named r2 t
position_agree r r2 used agree t covers =
    let progress = progress_agree r r2 used agree t.call_state.progress
    (progress_used used t covers) in
    let handles = handles_agree r r2 used agree t.call_state.handles (handles_used used t covers) in
    λ j. record t {
      call_state = record t.call_state { progress = progress j; handles = handles j };
    }

-- and so are all tasks
pub positions_agree : (r r2 : Naming) (used : ℕ → ℕ → Bool) → Agree r r2 used → (ts : List Position)
    → ((i file : ℕ) → list_any (has_file i file) ts ≡ true → used i file ≡ true)
    → map (position_named r) ts ≡ map (position_named r2) ts
positions_agree r r2 used agree [] all = refl
positions_agree r r2 used agree (t ∷ ts) all =
    let first = position_agree r r2 used agree t
    (λ i file is. all i file (or_left (has_file i file t) (list_any (has_file i file) ts) is)) in
    let rest = positions_agree r r2 used agree ts
    (λ i file is. all i file (or_right (has_file i file t) (list_any (has_file i file) ts) is)) in
    λ j. first j ∷ rest j

-- ---- all tasks

-- a test that an element passes is passed by some element
any_at : {X : Type 0} (p : X → Bool) (xs : List X) (n : ℕ) (x : X) → slice_get xs n ≡ Some x
    → p x ≡ true → list_any p xs ≡ true
any_at p [] n x e is = absurd (none-some x e)
any_at p (y ∷ xs) zero x e is =
    or_left (p y) (list_any p xs) (ap p (same_Some y x e) ∙ is)
any_at p (y ∷ xs) (suc n) x e is = or_right (p y) (list_any p xs) (any_at p xs n x e is)

-- the files of one of the tasks are used
pub covers_at : (ts : List Position) (n : ℕ) (t : Position) → slice_get ts n ≡ Some t
    → Covers (is_used ts) t
covers_at ts n t e i file is =
    or_right (file == 0) (list_any (has_file i file) ts) (any_at (has_file i file) ts n t e is)

-- if one element is another, an element passes the test only if one did or the new one does
any_set : {X : Type 0} (p : X → Bool) (xs : List X) (n : ℕ) (x : X)
    → list_any p (slice_set xs n x) ≡ true → (list_any p xs ≡ true) ⊎ (p x ≡ true)
any_set p [] n x e = absurd (true≢false (sym e))
any_set p (y ∷ xs) zero x e =
    ⊎_elim (λ new. inr new) (λ old. inl (or_right (p y) (list_any p xs) old))
    (or_cases (p x) (list_any p xs) e)
any_set p (y ∷ xs) (suc n) x e =
    ⊎_elim (λ old. inl (or_left (p y) (list_any p xs) old))
    (λ more. ⊎_elim (λ old. inl (or_right (p y) (list_any p xs) old)) (λ new. inr new)
    (any_set p xs n x more))
    (or_cases (p y) (list_any p (slice_set xs n x)) e)

-- after the step of a task a file is used only if it was, or if the task has it now
pub used_after : (ts : List Position) (n : ℕ) (t : Position) (i file : ℕ)
    → is_used (slice_set ts n t) i file ≡ true
    → (is_used ts i file ≡ true) ⊎ (has_file i file t ≡ true)
used_after ts n t i file is =
    ⊎_elim (λ none. inl (or_left (file == 0) (list_any (has_file i file) ts) none))
    (λ more. ⊎_elim (λ old. inl (or_right (file == 0) (list_any (has_file i file) ts) old))
    (λ new. inr new) (any_set (has_file i file) ts n t more))
    (or_cases (file == 0) (list_any (has_file i file) (slice_set ts n t)) is)
