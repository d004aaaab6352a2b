use Rattle.std.proofs.Common.{◌≡◌, ℕ, ◌+◌, ◌-◌, ◌<◌, ◌^◌, List, [], ◌∷◌, ◌++◌, Some, ap, sym, ◌∙◌, arith, length, rules, subst}
use Rattle.std.specs.Prelude.{slice_get}
use Rattle.std.proofs.lemmas.List.{length_push}
use Rattle.std.proofs.lemmas.Option.{same_Some}
use Rattle.grow_list.proofs.Own.{slice_get-push}
use Rattle.inode_events.specs.Callers.{caller_of}
use Rattle.inode_events.specs.Legal.{EachFollows, Follows, May}
use Rattle.inode_events.specs.Says.{placed_in, says}
use Rattle.inode_events.specs.NewestFirst.{newest_first}
use Rattle.inode_events.specs.declared.told.Event.{Event}
use Rattle.inode_state.specs.Facts.{AreFacts}
use Rattle.inode_state.specs.State.{IsState}
use Rattle.journal_laws.specs.Own.{IsBy}
use Rattle.inode_state.proofs.Keeping.{birth_same, follows_by, kept_on, length_past, small}
use Rattle.inode_state.specs.Fields.{inode_in}
use Rattle.inode_state.specs.Value.{JournalValue, birth_in}
use Rattle.inode_state.proofs.journal.InodeJournal.enter.Goals as goal

-- the length of the list with the event appended fits in 64 bits
fits : (list new : List Event) (e : Event) (n : ℕ) → new ≡ list ++ e ∷ [] → n ≡ length new
    → n < 2 ^ 64 → length list + 1 < 2 ^ 64
fits list new e n l is small = omega (arith, ap length l, length_push list e)

-- the last element of the list is the event that was appended
there : (list new : List Event) (e x : Event) (n : ℕ) → new ≡ list ++ e ∷ [] → n ≡ length new
    → Some x ≡ slice_get new (n - 1) → x ≡ e
there list new e x n l is at =
    let end : n - 1 ≡ length list = omega (arith, ap length l, length_push list e) in
    same_Some x e (at ∙ ap (slice_get new) end
    ∙ ap (λ (xs : List Event). slice_get xs (length list)) l ∙ slice_get-push list e)

pub advance-requires : goal.advance-requires
advance-requires c =
    let i = c.self.inside in
    let n = fits i.journal.list c.push-place.new.self.list c.args.event c.len-place.result
    c.push-place.ensures.list c.len-place.ensures c.len-place.type_inv in
    let s = small (inode_in i) i.journal.list i.state c.self.invariant.state in
    record {
      writers = omega (arith, n, s.writers);
      readers = omega (arith, n, s.readers);
      execs = omega (arith, n, s.execs);
      pieces = omega (arith, n, s.pieces);
      room = search rules;
    }

-- the birth, the path and the settings stay
birth : (c : goal.After-advance) → birth_in c.push-place.new.self.list
    ≡ birth_in c.self.inside.journal.list
birth c = ap birth_in c.push-place.ensures.list
    ∙ birth_same c.self.inside.journal.list c.args.event c.self.invariant.legal.0

pub invariant_of-self : goal.invariant_of-self
invariant_of-self c =
    let list = c.self.inside.journal.list in
    let i = inode_in c.self.inside in
    let e = c.args.event in
    let k = c.self.invariant in
    let may : May i (newest_first list) e.deed =
    subst (λ (v : JournalValue). May v.inode (newest_first v.list)
    e.deed) (sym c.self.view_is) c.requires.may in
    let told : says i (newest_first list) (placed_in e.told) e.deed ≡ Some e.told = subst (λ (v :
    JournalValue). says v.inode (newest_first v.list) (placed_in e.told) e.deed ≡ Some e.told) (sym
    c.self.view_is) c.requires.told in
    let f : Follows i (newest_first list) e.who e.deed e.told =
    follows_by i (newest_first list) e.who e.deed e.told k.legal.0 may told in
    let by : IsBy (caller_of e) e.deed (newest_first list) =
    subst (λ (v : JournalValue). IsBy (caller_of e)
    e.deed (newest_first v.list)) (sym c.self.view_is) c.requires.by in
    let facts : AreFacts i (newest_first list) e c.args.facts.now =
    subst (λ (v : JournalValue). AreFacts
    v.inode (newest_first v.list) e c.args.facts.now) (sym c.self.view_is) c.requires.facts in
    let x = c.in-Some.event.now in
    let same : x ≡ e = there list c.push-place.new.self.list e x c.len-place.result
    c.push-place.ensures.list c.len-place.ensures c.in-Some.ensures.entry in
    let place : c.len-place.result - 1 ≡ length (newest_first list) = omega (
      arith,
      c.len-place.ensures,
      ap length c.push-place.ensures.list,
      length_push list e,
      length_past list,
    ) in
    let state : IsState i (e ∷ newest_first list) c.advance.new.self =
    subst (λ (v : Event). IsState i (v ∷ newest_first list) c.advance.new.self) same
    (c.advance.ensures i (newest_first list) place
    (subst (λ (v : Event). EachFollows i (v ∷ newest_first list)) (sym same) (f, k.legal.1))
    (subst (λ (v : Event). AreFacts i (newest_first list) v c.args.facts.now) (sym same) facts)
    k.state) in
    rw (birth c) (kept_on i c.self.inside.journal c.push-place.new.self c.self.inside.own
    c.self.inside.state c.advance.new.self e c.args.pass.now.number k f by c.requires.number
    c.push-place.ensures.kept.0 c.push-place.ensures.kept.1 (subst
    (λ (n : ℕ). n < c.push-place.new.self.callers)
    c.push-place.ensures.same_pass.1 c.push-place.ensures.number) c.push-place.ensures.list
    c.push-place.ensures.numbers state)

pub returns-clause-inode : goal.returns-clause-inode
returns-clause-inode c = rw (birth c) (ap (λ (v : JournalValue). v.inode) c.self.view_is)
