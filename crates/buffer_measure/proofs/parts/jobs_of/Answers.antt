-- One more entry is in the last part, and the parts are few and have all entries.
use Rattle.std.proofs.Common.{◌≡◌, ℕ, ◌+◌, ◌*◌, ◌≤◌, ◌⊎◌, inl, inr, List, [], ◌∷◌, ◌++◌, length, sym, ap, ◌∙◌, arith, rules}
use Rattle.std.specs.Global.{Vec}
use Rattle.std.specs.List.{flat_map}
use Rattle.std.proofs.Math.Nat.{mul-le-mul_right}
use Rattle.std.proofs.lemmas.Iterator.Adapters.{YieldsList-from_vec}
use Rattle.std.proofs.lemmas.Iterator.Consumers.{YieldsList-end}
use Rattle.std.proofs.lemmas.List.{flat_map_more, length_push, map-id}
use Rattle.script_text.specs.steps.templates.declared.entry.Entry.{Entry}
use Rattle.buffer_measure.specs.Parts.{entries_in}
use Rattle.buffer_measure.proofs.parts.jobs_of.Goals as goal

-- k full parts, and one of j entries, are at most n if all entries have room in n parts
few_parts : (k size j count n : ℕ) → k * size + j ≡ count → count ≤ n * size
    → (k ≡ 0) ⊎ (1 ≤ j) → 1 ≤ n → k + 1 ≤ n
few_parts k size j count n sum room (inl none) some = omega (arith, none, some)
few_parts k size j count n sum room (inr more) some =
    let fewer : n ≤ k → ⊥ = λ most.
    let full : n * size ≤ k * size = mul-le-mul_right size most in
    omega (arith, full, sum, room, more) in
    omega (arith, fewer)

pub loop-entry-preserved : goal.loop-entry-preserved
loop-entry-preserved c = record {
  entries = c.in_ok-put.ensures.entries
      ∙ ap (λ (l : List Entry). l ++ c.in-Some.entry ∷ []) c.loop-entry.invariant.entries;
  sum = omega (
    arith,
    c.in_ok-put.ensures.sum,
    c.loop-entry.invariant.sum,
    length_push c.loop-entry.yielded c.in-Some.entry,
  );
  most = c.in_ok-put.ensures.most;
  some = inr c.in_ok-put.ensures.some;
}

-- the loop has taken all entries
all_taken : (c : goal.In_ok-push) → c.loop-entry.yielded ≡ c.args.list.items
all_taken c =
    let t = YieldsList-end (YieldsList-from_vec c.args.list.items (cc) (cc)) c.loop-entry.yielded
    c.loop-entry.entry-iterator c.loop-entry.yielded_by c.next.result c.next.new.self c.in-None.is
    c.next.ensures.steps in
    sym (map-id c.loop-entry.yielded) ∙ t.0

pub returns-clause-few : goal.returns-clause-few
returns-clause-few c =
    let all : c.loop-entry.yielded ≡ c.args.list.items = all_taken c in
    let count : length c.push.new.self.items ≡ length c.loop-entry.jobs.items + 1 =
    ap (λ (l : List (Vec Entry)). length l) c.in_ok-push.ensures.items
    ∙ length_push c.loop-entry.jobs.items c.loop-entry.job in
    let size : c.len.result ≡ length c.args.list.items = search rules in
    let few : length c.loop-entry.jobs.items + 1 ≤ c.max.result =
    few_parts (length c.loop-entry.jobs.items) c.part_size-size.result
    (length c.loop-entry.job.items) (length c.args.list.items) c.max.result
    (c.loop-entry.invariant.sum ∙ ap (λ (l : List Entry). length l) all)
    (rw size at c.part_size-size.ensures.few) c.loop-entry.invariant.some
    (omega (arith, c.max.ensures)) in
    omega (arith, few, count, c.max.ensures)

pub returns-clause-entries : goal.returns-clause-entries
returns-clause-entries c =
    let all : c.loop-entry.yielded ≡ c.args.list.items = all_taken c in
    ap (λ (l : List (Vec Entry)). flat_map entries_in l) c.in_ok-push.ensures.items
    ∙ sym (flat_map_more entries_in [] c.loop-entry.jobs.items c.loop-entry.job)
    ∙ c.loop-entry.invariant.entries ∙ all
