-- The invariant of a semaphore cell, at its start and after one more event.
use Rattle.std.proofs.Common.{◌≡◌, ℕ, ◌+◌, ◌-◌, ◌<◌, ◌≤◌, ◌==◌, Bool, true, false, cond, List, [], ◌∷◌, ◌++◌, length, map, All, get_or, set, Some, refl, ap, subst, sym, ◌∙◌, arith, ◌⊎◌, inl, inr, eq-eqb, ne_eqb}
use Rattle.std.proofs.lemmas.Bool.{cases_eq}
use Rattle.std.proofs.lemmas.List.{get_or-replicate, get_or-set_other, get_or-set_same, length-reverse, map-append}
use Rattle.std.proofs.lemmas.List.Elements.{All-nil, All-push}
use Rattle.std.specs.Prelude.{replicate}
use Rattle.inode_events.specs.meta.declared.step.Who.{Who}
use Rattle.inode_events.specs.Callers.{caller_in, caller_of}
use Rattle.inode_events.specs.NewestFirst.{newest_first, past_more}
use Rattle.inode_events.specs.Semaphores.{LegalSemaphores, is_post, left, posts, semaphore_says, waits}
use Rattle.inode_events.specs.declared.deed.Deed.{Deed}
use Rattle.inode_events.specs.declared.deed.Deed.TheVariants as deed
use Rattle.inode_events.specs.declared.told.Event.{Event}
use Rattle.inode_events.specs.declared.told.Told.TheVariants as told
use Rattle.inode_events.proofs.Paid.{paid}
use Rattle.semaphore_cell.specs.Fields.{IsIdle, IsSemaphores}
use Rattle.semaphore_cell.specs.declared.cell.SemaphoreCell.TheInside.{Inside}

abbrev pub done : Who → Deed → Event
done w d = record { who = w; deed = d; told = told.Done }

-- there are at most as many posts as events
pub posts_within : (sem : ℕ) (before : List Event) → posts sem before ≤ length before
posts_within sem [] = omega arith
posts_within sem (e ∷ before) = at (is_post sem e.deed) (posts_within sem before) where
  at : (b : Bool) → posts sem before ≤ length before
      → cond b (1 + posts sem before) (posts sem before) ≤ length (e ∷ before)
  at true within = omega arith
  at false within = omega arith

-- reversing a journal keeps its length
pub past_length : (journal : List Event) → length (newest_first journal) ≡ length journal
unfolding newest_first
past_length journal = length-reverse journal

-- a post adds one to its semaphore and leaves the others
pub left_post : (sem other : ℕ) (w : Who) (before : List Event) → LegalSemaphores before
    → left sem (done w (deed.Post other) ∷ before)
    ≡ cond (other == sem) (left sem before + 1) (left sem before)
left_post sem other w before legal = at (other == sem) (paid sem before legal) where
  at : (b : Bool) → waits sem before ≤ posts sem before
      → cond b (1 + posts sem before) (posts sem before) - waits sem before
      ≡ cond b (posts sem before - waits sem before + 1) (posts sem before - waits sem before)
  at true within = omega arith
  at false within = refl

-- a wait subtracts one from its semaphore and leaves the others
pub left_wait : (sem other : ℕ) (w : Who) (before : List Event)
    → left sem (done w (deed.Wait other) ∷ before)
    ≡ cond (other == sem) (left sem before - 1) (left sem before)
left_wait sem other w before = at (other == sem) where
  at : (b : Bool) → posts sem before - cond b (1 + waits sem before) (waits sem before)
      ≡ cond b (posts sem before - waits sem before - 1) (posts sem before - waits sem before)
  at true = omega arith
  at false = refl

-- a table of counts with one entry changed
pub counts_set : (counts : List ℕ) (f g change : ℕ → ℕ) (at new : ℕ) → at < length counts → at < 256
    → ((s : ℕ) → s < 256 → get_or counts s 0 ≡ f s)
    → ((s : ℕ) → g s ≡ cond (at == s) (change (f s)) (f s))
    → new ≡ change (get_or counts at 0)
    → (s : ℕ) → s < 256 → get_or (set counts at new) s 0 ≡ g s
counts_set counts f g change at new within small before after is s below = by (cases_eq at s) where
  by : (at ≡ s) ⊎ (at ≡ s → ⊥) → get_or (set counts at new) s 0 ≡ g s
  by (inl same) =
      ap (λ k. get_or (set counts at new) k 0) (sym same)
      ∙ get_or-set_same counts at new 0 within ∙ is ∙ ap change (before at small)
      ∙ ap (λ k. change (f k)) same
      ∙ sym (after s ∙ ap (λ b. cond b (change (f s)) (f s)) (eq-eqb at s same))
  by (inr other) =
      get_or-set_other counts at s new 0 (λ e. other (sym e)) ∙ before s below
      ∙ sym (after s ∙ ap (λ b. cond b (change (f s)) (f s)) (ne_eqb at s other))

-- the invariant holds after one more event, by the pass of its task
pub IsSemaphores-more : (c d : Inside) (w : Who) (deed : Deed) (number : ℕ) → IsSemaphores c
    → semaphore_says (newest_first c.journal.list) deed ≡ Some told.Done → caller_in w.task deed
    ≡ w.task + 1
    → number ≡ w.task + 1 → number < d.journal.callers
    → ((s : ℕ) → s < 256 → get_or d.left s 0 ≡ left s (done w deed ∷ newest_first c.journal.list))
    → d.journal.list ≡ c.journal.list ++ done w deed ∷ []
    → d.journal.numbers ≡ c.journal.numbers ++ number ∷ []
    → d.journal.name ≡ c.journal.name → d.journal.callers ≡ c.journal.callers → d.own ≡ c.own
    → IsSemaphores d
IsSemaphores-more c d w deed number kept says caller is below counts list numbers name callers own =
    let newest : newest_first d.journal.list ≡ done w deed ∷ newest_first c.journal.list =
    ap newest_first list ∙ past_more c.journal.list (done w deed) in
    let signed : All (λ e. (0 < caller_of e) × (caller_of e < d.journal.callers)) c.journal.list =
    subst (λ (n : ℕ). All (λ e. (0 < caller_of e) × (caller_of e < n)) c.journal.list) (sym callers)
    kept.signed in
    let last : (0 < caller_in w.task deed) × (caller_in w.task deed < d.journal.callers) =
    (omega (arith, caller), omega (arith, caller, is, below)) in
    record {
      counts = λ s small. counts s small ∙ ap (left s) (sym newest);
      legal = subst LegalSemaphores (sym newest) (says, kept.legal);
      numbers = numbers
          ∙ (λ i. kept.numbers i ++ (is ∙ sym caller) i ∷ [])
          ∙ sym (map-append caller_of c.journal.list (done w deed ∷ []))
          ∙ ap (map caller_of) (sym list);
      signed = subst (All (λ e. (0 < caller_of e) × (caller_of e < d.journal.callers))) (sym list)
          (All-push (λ e. (0 < caller_of e) × (caller_of e < d.journal.callers)) c.journal.list
          (done w deed) signed last);
      own = subst (IsIdle d.journal) (sym own)
          (record {
            name = kept.own.name ∙ sym name;
            number = kept.own.number;
            mine =
                kept.own.mine;
          });
    }

-- the invariant holds at the start
pub IsSemaphores-start : (c : Inside) → c.left ≡ replicate 256 0 → c.journal.list ≡ []
    → c.journal.numbers ≡ [] → c.own.name ≡ c.journal.name → c.own.number ≡ 0 → c.own.mine ≡ []
    → IsSemaphores c
unfolding newest_first
IsSemaphores-start c zeros list numbers name number mine =
    let none : newest_first c.journal.list ≡ [] = ap newest_first list in
    record {
      counts = λ s small. ap (λ (l : List ℕ). get_or l s 0) zeros ∙ get_or-replicate 256 s 0 0 small
          ∙ ap (left s) (sym none);
      legal = subst LegalSemaphores (sym none) tt;
      numbers = numbers ∙ ap (map caller_of) (sym list);
      signed = subst (All (λ e. (0 < caller_of e) × (caller_of e < c.journal.callers))) (sym list)
          (All-nil (λ e. (0 < caller_of e) × (caller_of e < c.journal.callers)));
      own = record { name = name; number = number; mine = mine };
    }
