-- The cell with one more post or wait.
use Rattle.std.proofs.Common.{◌≡◌, ℕ, ◌+◌, ◌-◌, ◌<◌, ◌≤◌, length, All, cond, get_or, Some, None, refl, sym, ap, subst, ◌∙◌, arith}
use Rattle.std.specs.Prelude.{nat_lt}
use Rattle.std.proofs.lemmas.Bool.{lt-ltb}
use mathlib.Core.List.{IsPrefix}
use Rattle.grow_list.specs.Shown.{Grown, HasItsOwn, Passed}
use Rattle.inode_events.specs.NewestFirst.{newest_first}
use Rattle.inode_events.specs.Semaphores.{left, posts}
use Rattle.inode_events.specs.declared.deed.Deed.TheVariants as deed
use Rattle.inode_events.specs.declared.told.Event.{Event}
use Rattle.inode_events.specs.declared.told.Told.TheVariants as told
use Rattle.std.proofs.lemmas.List.{length-append}
use Rattle.semaphore_cell.proofs.Keeping.{IsSemaphores-more, counts_set, left_post, left_wait, past_length, posts_within}
use Rattle.semaphore_cell.proofs.cell.SemaphoreCell.signal.Goals as goal
use Rattle.semaphore_cell.proofs.cell.SemaphoreCell.signal.Goals.{in-Post, in-Wait, in_default}

pub overflow_add-self : goal.overflow_add-self
overflow_add-self c =
    let small : c.in-Post.sem < 256 = omega arith in
    let is : get_or c.self.inside.left c.in-Post.sem 0
    ≡ left c.in-Post.sem (newest_first c.self.inside.journal.list) =
    c.self.invariant.counts c.in-Post.sem small in
    let within : posts c.in-Post.sem (newest_first c.self.inside.journal.list) ≤ length
    (newest_first c.self.inside.journal.list) =
    posts_within c.in-Post.sem (newest_first c.self.inside.journal.list) in
    let grown : length c.push-place.new.self.list ≡ length c.self.inside.journal.list + 1 =
    ap length c.push-place.ensures.list ∙ length-append c.self.inside.journal.list _ in
    omega (
      arith,
      is,
      within,
      grown,
      past_length c.self.inside.journal.list,
      c.len-len.ensures,
      c.len-len.type_inv,
    )

pub invariant_of-self : goal.invariant_of-self
invariant_of-self c =
    let small : c.in-Post.sem < 256 = omega arith in
    IsSemaphores-more c.self.inside _ c.args.who (deed.Post c.in-Post.sem) c.args.pass.now.number
    c.self.invariant refl refl
    c.requires.number (omega (arith, c.push-place.ensures.number, c.push-place.ensures.same_pass.1))
    (counts_set c.self.inside.left (λ s. left s (newest_first c.self.inside.journal.list)) _
    (λ n. n + 1) c.in-Post.sem _
    (omega (arith, c.self.told)) small c.self.invariant.counts
    (λ s. left_post s c.in-Post.sem c.args.who (newest_first c.self.inside.journal.list)
    c.self.invariant.legal) refl)
    c.push-place.ensures.list c.push-place.ensures.numbers c.push-place.ensures.kept.0
    c.push-place.ensures.kept.1 refl

-- a wait for a semaphore above 0 is done
may_wait : (n : ℕ) → 0 < n → cond (nat_lt 0 n) (Some told.Done) None ≡ Some told.Done
may_wait n some = ap (λ b. cond b (Some told.Done) None) (lt-ltb 0 n some)

pub invariant_of-self-then-self-sem-gt0 : goal.invariant_of-self-then-self-sem-gt0
invariant_of-self-then-self-sem-gt0 c =
    let small : c.in-Wait.sem < 256 = omega arith in
    let some : 0 < left c.in-Wait.sem (newest_first c.self.inside.journal.list) =
    subst (λ (n : ℕ). 0 < n) (c.self.invariant.counts c.in-Wait.sem small) c.if-self-sem-gt0.true in
    IsSemaphores-more c.self.inside _ c.args.who (deed.Wait c.in-Wait.sem) c.args.pass.now.number
    c.self.invariant
    (may_wait _ some) refl c.requires.number
    (omega (arith, c.push.ensures.number, c.push.ensures.same_pass.1))
    (counts_set c.self.inside.left (λ s. left s (newest_first c.self.inside.journal.list)) _
    (λ n. n - 1) c.in-Wait.sem _
    (omega (arith, c.self.told)) small c.self.invariant.counts
    (λ s. left_wait s c.in-Wait.sem c.args.who (newest_first c.self.inside.journal.list)) refl)
    c.push.ensures.list c.push.ensures.numbers c.push.ensures.kept.0 c.push.ensures.kept.1 refl

-- what holds of the cell and the pass after an arm holds after the match
both : (P : Grown Event → Passed Event → Type 0) (g h : Grown Event) (p q : Passed Event) → g ≡ h
    → p ≡ q → P h q → P g p
both P g h p q same_list same_pass it =
    subst (λ (x : Grown Event × Passed Event). P x.0 x.1)
    (λ i. (sym same_list i, sym same_pass i)) it

pub returns-clause-below : goal.returns-clause-below
returns-clause-below c = elim c.match-deed.branch [
  | in-Post w ↦
      both (λ g p. All (λ x. x.0 < length g.list) p.mine)
      _ _ _ _ w.self-is w.pass-is w.push-place.ensures.placed
  | in-Wait w ↦
      both (λ g p. All (λ x. x.0 < length g.list) p.mine)
      _ _ _ _ w.self-is w.pass-is w.push.ensures.placed
  | in_default w ↦
      both (λ g p. All (λ x. x.0 < length g.list) p.mine)
      _ _ _ _ w.self-is w.pass-is w.look.ensures.placed
]

pub returns-clause-seen : goal.returns-clause-seen
returns-clause-seen c = elim c.match-deed.branch [
  | in-Post w ↦ both (λ g p. p.seen ≡ g.list) _ _ _ _ w.self-is w.pass-is w.push-place.ensures.seen
  | in-Wait w ↦ both (λ g p. p.seen ≡ g.list) _ _ _ _ w.self-is w.pass-is w.push.ensures.seen
  | in_default w ↦ both (λ g p. p.seen ≡ g.list) _ _ _ _ w.self-is w.pass-is w.look.ensures.seen
]

pub returns-clause-own : goal.returns-clause-own
returns-clause-own c = elim c.match-deed.branch [
  | in-Post w ↦ both (λ g p. HasItsOwn g p) _ _ _ _ w.self-is w.pass-is w.push-place.ensures.own
  | in-Wait w ↦ both (λ g p. HasItsOwn g p) _ _ _ _ w.self-is w.pass-is w.push.ensures.own
  | in_default w ↦ both (λ g p. HasItsOwn g p) _ _ _ _ w.self-is w.pass-is w.look.ensures.own
]

pub returns-clause-number : goal.returns-clause-number
returns-clause-number c = elim c.match-deed.branch [
  | in-Post w ↦
      both (λ g p. p.number < g.callers)
      _ _ _ _ w.self-is w.pass-is w.push-place.ensures.number
  | in-Wait w ↦ both (λ g p. p.number < g.callers) _ _ _ _ w.self-is w.pass-is w.push.ensures.number
  | in_default w ↦
      both (λ g p. p.number < g.callers)
      _ _ _ _ w.self-is w.pass-is w.look.ensures.number
]

pub returns-clause-same_pass : goal.returns-clause-same_pass
returns-clause-same_pass c = elim c.match-deed.branch [
  | in-Post w ↦
      both (λ g p. (p.name ≡ c.args.pass.now.name) × (p.number ≡ c.args.pass.now.number))
      _ _ _ _ w.self-is w.pass-is w.push-place.ensures.same_pass
  | in-Wait w ↦
      both (λ g p. (p.name ≡ c.args.pass.now.name) × (p.number ≡ c.args.pass.now.number))
      _ _ _ _ w.self-is w.pass-is w.push.ensures.same_pass
  | in_default w ↦
      both (λ g p. (p.name ≡ c.args.pass.now.name) × (p.number ≡ c.args.pass.now.number))
      _ _ _ _ w.self-is w.pass-is w.look.ensures.same_pass
]

pub returns-clause-before : goal.returns-clause-before
returns-clause-before c =
    let before : IsPrefix c.args.pass.now.seen c.self.inside.journal.list =
    elim c.match-deed.branch [
      | in-Post w ↦ w.push-place.ensures.before
      | in-Wait w ↦ w.push.ensures.before
      | in_default w ↦ w.look.ensures.before
    ] in
    subst (λ (g : Grown Event). IsPrefix c.args.pass.now.seen g.list) c.self.view_is before

pub returns-clause-place : goal.returns-clause-place
returns-clause-place c = elim c.match-deed.branch [
  | in-Post w ↦
      rw w.result-is (w.push-place.ensures.place ∙ ap (λ v. length v.list) c.self.view_is)
  | in-Wait w ↦ rw w.result-is (w.push.ensures.place ∙ ap (λ v. length v.list) c.self.view_is)
  | in_default w ↦ rw w.result-is tt
]

pub returns-clause-kept : goal.returns-clause-kept
returns-clause-kept c =
    let journal : Grown Event = c.self.inside.journal in
    let kept : (c.match-deed.self.name ≡ journal.name)
    × (c.match-deed.self.callers ≡ journal.callers) =
    elim c.match-deed.branch [
      | in-Post w ↦
          both (λ g p. (g.name ≡ journal.name) × (g.callers ≡ journal.callers)) _ _ _ _
          w.self-is w.pass-is w.push-place.ensures.kept
      | in-Wait w ↦
          both (λ g p. (g.name ≡ journal.name) × (g.callers ≡ journal.callers)) _ _ _ _
          w.self-is w.pass-is w.push.ensures.kept
      | in_default w ↦
          both (λ g p. (g.name ≡ journal.name) × (g.callers ≡ journal.callers)) _ _ _ _
          w.self-is w.pass-is (w.look.ensures.list.name, w.look.ensures.list.callers)
    ] in
    subst (λ (g : Grown Event). (c.match-deed.self.name ≡ g.name)
    × (c.match-deed.self.callers ≡ g.callers)) c.self.view_is kept

pub returns-clause-spare : goal.returns-clause-spare
returns-clause-spare c =
    let journal : Grown Event = c.self.inside.journal in
    let spare : journal.spare ≤ c.match-deed.self.spare + 1 =
    elim c.match-deed.branch [
      | in-Post w ↦ both (λ g p. journal.spare ≤ g.spare + 1) _ _ _ _ w.self-is w.pass-is
          w.push-place.ensures.spare
      | in-Wait w ↦ both (λ g p. journal.spare ≤ g.spare + 1) _ _ _ _ w.self-is w.pass-is
          w.push.ensures.spare
      | in_default w ↦ both (λ g p. journal.spare ≤ g.spare + 1) _ _ _ _ w.self-is w.pass-is
          (omega (arith, w.look.ensures.spare))
    ] in
    subst (λ (g : Grown Event). g.spare ≤ c.match-deed.self.spare + 1) c.self.view_is spare
