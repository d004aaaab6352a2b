-- The number of rules never falls along the checks of a journal.
use Rattle.std.proofs.Common.{◌≡◌, ℕ, ◌+◌, ◌≤◌, List, [], ◌∷◌, length, Some, None, refl, sym, ap, subst, arith}
use Rattle.std.proofs.lemmas.List.{append-nil}
use Rattle.std.proofs.lemmas.List.Elements.{All-nil, All-cons}
use Rattle.grow_list.proofs.Prefixes.{prefix_length}
use Rattle.inode_events.specs.NewestFirst.{newest_first, past_more}
use Rattle.inode_events.specs.declared.deed.Deed.{Deed}
use Rattle.inode_events.specs.declared.deed.Deed.TheVariants as deed
use Rattle.inode_events.specs.declared.told.Event.{Event}
use Rattle.run_model.specs.Served.{RulesRise, counted_by, last_counted}
use Rattle.run_laws.specs.ScriptFiles.{CountsAll, CountsFrom, RiseAtFirst, RiseByEvent, RiseByLook, RiseByOutcome, RiseForAll, ScriptFileRules}

past_one : (e : Event) → newest_first (e ∷ []) ≡ e ∷ []
unfolding newest_first
past_one e = refl

pub law_rise_at_first : RiseAtFirst
law_rise_at_first base e seen h =
    let c : counted_by e.deed base ≡ base = ap (λ (d : Deed). counted_by d base) h in
    record {
      rise = subst (RulesRise base) (sym (past_one e)) (omega arith, tt);
      last = subst (λ (l : List Event). last_counted base l ≤ base + length seen)
          (sym (past_one e)) (omega arith);
    }

pub law_rise_by_look : RiseByLook
law_rise_by_look base journal seen seen2 a r =
    let more : length seen ≤ length seen2 = prefix_length seen seen2 a in
    let last : last_counted base (newest_first journal) ≤ base + length seen = r.last in
    record { rise = r.rise; last = omega arith }

counts_between : (least most : ℕ) (d : Deed) → least ≤ most → CountsFrom least most d
    → (least ≤ counted_by d least) × (counted_by d least ≤ most)
counts_between least most (deed.Check file func action rules) le h = h
counts_between least most d le h = (omega arith, le)

pub law_rise_by_event : RiseByEvent
law_rise_by_event base journal seen e r h =
    let x = counts_between (last_counted base (newest_first journal))
    (base + length seen) e.deed r.last h in
    record {
      rise = subst (RulesRise base) (sym (past_more journal e)) (x.0, r.rise);
      last = subst (λ (l : List Event). last_counted base l ≤ base + length seen)
          (sym (past_more journal e)) x.1;
    }

all_between : (least most : ℕ) (d : Deed) → least ≤ most → CountsAll most d
    → CountsFrom least most d
all_between least most (deed.Check file func action rules) le h = let e : rules ≡ most =
    h in (omega arith, omega arith)
all_between least most d le h = tt

pub law_rise_by_outcome : RiseByOutcome
law_rise_by_outcome base journal seen seen2 who d None a r h =
    subst (λ (l : List Event). ScriptFileRules base l seen2) (sym (append-nil journal))
    (law_rise_by_look base journal seen seen2 a r)
law_rise_by_outcome base journal seen seen2 who d (Some t) a r h =
    let q : ScriptFileRules base journal seen2 = law_rise_by_look base journal seen seen2 a r in
    law_rise_by_event base journal seen2 (record { who = who; deed = d; told = t }) q
    (all_between (last_counted base (newest_first journal)) (base + length seen2) d q.last h)

pub law_rise_for_all : RiseForAll
law_rise_for_all base [] passes z =
    All-nil (λ (journal : List Event). RulesRise base (newest_first journal))
law_rise_for_all base (j ∷ js) [] z = absurd z
law_rise_for_all base (j ∷ js) (q ∷ qs) z =
    let here : ScriptFileRules base j q.seen = z.0 in
    All-cons (λ (journal : List Event). RulesRise base (newest_first journal)) j js here.rise
    (law_rise_for_all base js qs z.1)
