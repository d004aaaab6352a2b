use Rattle.std.proofs.Common.{◌≡◌, ℕ, ◌==◌, ◌<◌, false, List, length, get_or, Option, Some, None, refl, sym, ap, ◌∙◌}
use Rattle.std.specs.Prelude.{option_map, slice_get}
use Rattle.std.specs.Option.{option_and_then}
use Rattle.std.proofs.lemmas.Bool.{ltb-false}
use Rattle.std.proofs.lemmas.Option.{slice_get-get_or, slice_get-map, slice_get_past, some_pair_parts}
use Rattle.script_text.specs.declared.blocks.TaskBlock.{TaskBlock}
use Rattle.script_text.specs.steps.declared.call.Call.{Call}
use Rattle.script_text.specs.steps.policy.declared.rule.Func.{Func}
use Rattle.run_laws.specs.kernel_reads.Reads.{read_by}
use Rattle.kernel_read.specs.Places.{calls_in, is_some_of, read_at, reads}
use Rattle.kernel_read.specs.Table.{func_raised}
use Rattle.kernel_read.proofs.calls.is_read.Goals as goal

-- what is read by a call, if the task is this one
read_of_task : (tasks : List TaskBlock) (n k : ℕ) (task : Option TaskBlock)
    → slice_get tasks n ≡ task → read_at (calls_in tasks) n k
    ≡ option_and_then read_by (option_and_then (λ (t : TaskBlock). slice_get t.calls k) task)
read_of_task tasks n k task is =
    ap (λ (cs : Option (List Call)). option_and_then read_by
    (option_and_then (λ (cs : List Call). slice_get cs k) cs))
    (slice_get-map (λ (t : TaskBlock). t.calls) tasks n
    ∙ ap (λ (t : Option TaskBlock). option_map (λ (t : TaskBlock). t.calls) t) is)
    ∙ in_task task where
      in_task : (task : Option TaskBlock) → option_and_then read_by
          (option_and_then (λ (cs : List Call). slice_get cs k)
          (option_map (λ (t : TaskBlock). t.calls) task))
          ≡ option_and_then read_by (option_and_then (λ (t : TaskBlock). slice_get t.calls k) task)
      in_task None = refl
      in_task (Some t) = refl

-- a call of a task that there is reads what it names
reads_of_call : (tasks : List TaskBlock) (n k i : ℕ) (task : TaskBlock) (call : Option Call)
    → slice_get tasks n ≡ Some task → slice_get task.calls k ≡ call
    → reads (calls_in tasks) n k i ≡ is_some_of i (option_and_then read_by call)
reads_of_call tasks n k i task call at is =
    ap (λ (j : Option ℕ). is_some_of i j) (read_of_task tasks n k (Some task) at
    ∙ ap (λ (c : Option Call). option_and_then read_by c) is)

-- the hook and the inode of a call that reads one
same_read : (call : Call) (read : Option ℕ) (i j : ℕ) (func : Func)
    → ◌≡◌ {A = Option (Func × ℕ)} (option_map (λ (i : ℕ). (func_raised call, i)) read)
    (Some (func, j)) → (j == i) ≡ is_some_of i read
same_read call None i j func h = absurd (cc)
same_read call (Some x) i j func h =
    ap (λ (y : ℕ). y == i) (some_pair_parts func (func_raised call) j x (sym h)).1

no_read : (call : Call) (read : Option ℕ) (i : ℕ)
    → ◌≡◌ {A = Option (Func × ℕ)} (option_map (λ (i : ℕ). (func_raised call, i)) read) None
    → false ≡ is_some_of i read
no_read call None i h = refl
no_read call (Some x) i h = absurd (cc)

-- an element that was got
got : {X : Type 0} (xs : List X) (i : ℕ) (x : X) → i < length xs → x ≡ get_or xs i x
    → slice_get xs i ≡ Some x
got {X} xs i x lt is = slice_get-get_or xs i x lt ∙ ap (λ (y : X). Some y) (sym is)

pub returns-in_default : goal.returns-in_default
returns-in_default c =
    sym (ap (λ (j : Option ℕ). is_some_of c.args.inode j)
    (read_of_task c.args.tasks.now c.args.task c.args.call None
    (slice_get_past c.args.tasks.now c.args.task
    (ltb-false _ _ (sym c.in_default.ensures.lookup.0)))))

pub returns-in_default-get : goal.returns-in_default-get
returns-in_default-get c =
    let task = c.in-Some.ensures.lookup in
    sym (reads_of_call c.args.tasks.now c.args.task c.args.call c.args.inode c.in-Some.block.now None
    (got c.args.tasks.now c.args.task c.in-Some.block.now task.3.0 task.1)
    (ap (λ (cs : List Call). slice_get cs c.args.call) (sym c.as_slice.ensures)
    ∙ slice_get_past c.as_slice.result.now c.args.call
    (ltb-false _ _ (sym c.in_default-get.ensures.lookup.0))))

pub returns-in-Some-read_of : goal.returns-in-Some-read_of
returns-in-Some-read_of c =
    let task = c.in-Some.ensures.lookup in
    let call = c.in-Some-get.ensures.lookup in
    same_read c.in-Some-get.call.now (read_by c.in-Some-get.call.now) c.args.inode
    c.in-Some-read_of.read c.in-Some-read_of.field-0-0
    (sym c.read_of.ensures ∙ c.in-Some-read_of.is)
    ∙ sym (reads_of_call c.args.tasks.now c.args.task c.args.call c.args.inode c.in-Some.block.now
    (Some c.in-Some-get.call.now)
    (got c.args.tasks.now c.args.task c.in-Some.block.now task.3.0 task.1)
    (ap (λ (cs : List Call). slice_get cs c.args.call) (sym c.as_slice.ensures)
    ∙ got c.as_slice.result.now c.args.call c.in-Some-get.call.now call.3.0 call.1))

pub returns-in-None : goal.returns-in-None
returns-in-None c =
    let task = c.in-Some.ensures.lookup in
    let call = c.in-Some-get.ensures.lookup in
    no_read c.in-Some-get.call.now (read_by c.in-Some-get.call.now) c.args.inode
    (sym c.read_of.ensures ∙ c.in-None.is)
    ∙ sym (reads_of_call c.args.tasks.now c.args.task c.args.call c.args.inode c.in-Some.block.now
    (Some c.in-Some-get.call.now)
    (got c.args.tasks.now c.args.task c.in-Some.block.now task.3.0 task.1)
    (ap (λ (cs : List Call). slice_get cs c.args.call) (sym c.as_slice.ensures)
    ∙ got c.as_slice.result.now c.args.call c.in-Some-get.call.now call.3.0 call.1))
