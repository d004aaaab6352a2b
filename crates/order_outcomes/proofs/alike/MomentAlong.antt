-- A moment that is alike to one that is alike to a third is alike to the third: the names are given
-- one after the other.
use Rattle.std.proofs.Common.{◌≡◌, ℕ, ◌==◌, true, ◌&&◌, List, [], ◌∷◌, map, Option, Some, None, option_map, refl, ap, sym, subst, ◌∙◌, inl, inr, ⊎_elim, arith}
use Rattle.std.specs.List.{list_any}
use Rattle.std.proofs.lemmas.Bool.{and_from, and_parts, eq-eqb, eqb-true, or_cases, or_left, or_right}
use Rattle.report_text.specs.model.History.{Position}
use Rattle.report_text.specs.model.Scene.{Scene, inode_of}
use Rattle.report_text.specs.model.Turns.{Moment, journal_at}
use Rattle.report_text.specs.model.steps.CallState.{Progress}
use Rattle.report_text.specs.model.steps.declared.held.Handle.{Handle}
use Rattle.order_outcomes.specs.alike.Alike.{IsAlike, IsAlikeBy}
use Rattle.order_outcomes.specs.alike.Names.{Naming, handle_named, has_file, in_handles, in_progress, is_used, position_named, progress_named}
use Rattle.order_outcomes.proofs.alike.InodeLaws.{InodeLaws}
use Rattle.order_outcomes.proofs.alike.InodeLists.{lists_along}

-- first the names r, and for these the names r2
abbrev pub composed : Naming → Naming → Naming
composed r r2 i file = r2 i (r i file)

-- ---- tasks

-- handles that are named twice have the composed names
handles_composed : (r r2 : Naming) (hs : List Handle)
    → map (handle_named r2) (map (handle_named r) hs) ≡ map (handle_named (composed r r2)) hs
handles_composed r r2 [] = refl
handles_composed r r2 (h ∷ hs) =
    ap (λ (l : List Handle). handle_named (composed r r2) h ∷ l) (handles_composed r r2 hs)

-- and so has a call in progress
progress_composed : (r r2 : Naming) (o : Option Progress)
    → option_map (progress_named r2) (option_map (progress_named r) o)
    ≡ option_map (progress_named (composed r r2)) o
progress_composed r r2 None = refl
progress_composed r r2 (Some g) = refl

-- the tasks have the composed names
positions_composed : (r r2 : Naming) (ts : List Position)
    → map (position_named r2) (map (position_named r) ts) ≡ map (position_named (composed r r2)) ts
positions_composed r r2 [] = refl
positions_composed r r2 (t ∷ ts) =
    let progress = progress_composed r r2 t.call_state.progress in
    let handles = handles_composed r r2 t.call_state.handles in
    let rest = positions_composed r r2 ts in
    λ j. record t {
      call_state = record t.call_state { progress = progress j; handles = handles j };
    } ∷ rest j

-- ---- the files that are used

module _ (r : Naming) (i file : ℕ) where
  -- the same file, by its other name
  same_named : (k f : ℕ) → (k == i && f == file) ≡ true → (k == i && r k f == r i file) ≡ true
  same_named k f both =
      let parts = and_parts (k == i) (f == file) both in
      let name : r k f ≡ r i file
      = λ j. r (eqb-true k i parts.0 j) (eqb-true f file parts.1 j) in
      and_from (k == i) (r k f == r i file) parts.0 (eq-eqb (r k f) (r i file) name)

  -- the file of a call, by its other name
  in_progress-named : (o : Option Progress) → in_progress i file o ≡ true
      → in_progress i (r i file) (option_map (progress_named r) o) ≡ true
  in_progress-named None is = is
  in_progress-named (Some g) is = same_named g.inode g.file is

  -- the file of a handle, by its other name
  in_handles-named : (hs : List Handle) → in_handles i file hs ≡ true
      → in_handles i (r i file) (map (handle_named r) hs) ≡ true
  in_handles-named [] is = is
  in_handles-named (h ∷ hs) is =
      ⊎_elim
      (λ here. or_left (h.inode == i && r h.inode h.file == r i file)
      (in_handles i (r i file) (map (handle_named r) hs)) (same_named h.inode h.file here))
      (λ more. or_right (h.inode == i && r h.inode h.file == r i file)
      (in_handles i (r i file) (map (handle_named r) hs)) (in_handles-named hs more))
      (or_cases (h.inode == i && h.file == file) (in_handles i file hs) is)

  -- a file that a task has, by its other name
  has_file-named : (t : Position) → has_file i file t ≡ true
      → has_file i (r i file) (position_named r t) ≡ true
  has_file-named t is =
      let progress = option_map (progress_named r) t.call_state.progress in
      let handles = map (handle_named r) t.call_state.handles in
      ⊎_elim
      (λ here. or_left (in_progress i (r i file) progress) (in_handles i (r i file) handles)
      (in_progress-named t.call_state.progress here))
      (λ more. or_right (in_progress i (r i file) progress) (in_handles i (r i file) handles)
      (in_handles-named t.call_state.handles more))
      (or_cases (in_progress i file t.call_state.progress)
      (in_handles i file t.call_state.handles) is)

  -- a file that some task has, by its other name
  any_named : (ts : List Position) → list_any (has_file i file) ts ≡ true
      → list_any (has_file i (r i file)) (map (position_named r) ts) ≡ true
  any_named [] is = is
  any_named (t ∷ ts) is =
      let rest = list_any (has_file i (r i file)) (map (position_named r) ts) in
      ⊎_elim
      (λ here. or_left (has_file i (r i file) (position_named r t)) rest (has_file-named t here))
      (λ more. or_right (has_file i (r i file) (position_named r t)) rest (any_named ts more))
      (or_cases (has_file i file t) (list_any (has_file i file) ts) is)

  -- a file that is used in the first moment is used in the second, by its name there
  pub used_named : r i 0 ≡ 0 → (ts : List Position) → is_used ts i file ≡ true
      → is_used (map (position_named r) ts) i (r i file) ≡ true
  used_named none ts is =
      let rest = list_any (has_file i (r i file)) (map (position_named r) ts) in
      ⊎_elim
      (λ zero. or_left (r i file == 0) rest
      (eq-eqb (r i file) 0 (ap (r i) (eqb-true file 0 zero) ∙ none)))
      (λ more. or_right (r i file == 0) rest (any_named ts more))
      (or_cases (file == 0) (list_any (has_file i file) ts) is)

-- ---- moments

-- the first moment and the third are alike by the composed names
by_both : InodeLaws → (scene : Scene) (r r2 : Naming) (a b c : Moment) → IsAlikeBy scene r a b
    → IsAlikeBy scene r2 b c → IsAlikeBy scene (composed r r2) a c
by_both laws scene r r2 a b c x y = record {
  none = λ i. ap (r2 i) (x.none i) ∙ y.none i;
  elsewhere = λ i e file. y.elsewhere i e (r i file) ∙ x.elsewhere i e file;
  positions = y.positions ∙ ap (map (position_named r2)) x.positions
      ∙ positions_composed r r2 a.positions;
  inodes = λ i s e. laws.along (inode_of scene s) a.state.list b.state.list c.state.list
      (is_used a.positions i) (is_used b.positions i) (r i) (r2 i) (journal_at a.state i)
      (journal_at b.state i) (journal_at c.state i) (x.inodes i s e) (y.inodes i s e)
      (λ file is. ap (λ (ts : List Position). is_used ts i (r i file)) x.positions
      ∙ used_named r i file (x.none i) a.positions is);
  lists = lists_along a.state.list b.state.list c.state.list x.lists y.lists;
  added = y.added ∙ x.added;
  semaphores = λ sem. let ab = x.semaphores sem in let bc = y.semaphores sem in
      omega (arith, ab, bc);
}

-- with equal moments
pub alike_along : InodeLaws → (scene : Scene) (a b c : Moment) → IsAlike scene a b
    → IsAlike scene b c → IsAlike scene a c
alike_along laws scene a b c (inl e) y = subst (λ (x : Moment). IsAlike scene x c) (sym e) y
alike_along laws scene a b c (inr x) (inl e) =
    subst (λ (y : Moment). IsAlike scene a y) e (inr x)
alike_along laws scene a b c (inr x) (inr y) =
    inr (composed x.0 y.0, by_both laws scene x.0 y.0 a b c x.1 y.1)
