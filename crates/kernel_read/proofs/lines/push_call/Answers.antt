use Rattle.std.proofs.Common.{List, ℕ, ◌≡◌, ◌∷◌, [], ◌++◌, Option, Some, None, length, refl, sym, ◌∙◌, ap, arith}
use Rattle.std.specs.Prelude.{option_map, slice_get}
use Rattle.std.proofs.lemmas.Bool.{ltb-false}
use Rattle.std.proofs.lemmas.List.{append-nil}
use Rattle.std.proofs.lemmas.Option.{slice_get-get_or, slice_get_past, slice_get_within, some_pair_parts}
use Rattle.std.proofs.lemmas.Result.{err_from_is_err_and}
use Rattle.script_text.specs.events.EndedInode.{EndedInodeValue}
use Rattle.script_text.specs.events.forms.Words.{text_of}
use Rattle.script_text.specs.steps.declared.call.Call.{Call}
use Rattle.script_text.specs.steps.declared.reply.Reply.{Reply}
use Rattle.script_text.specs.steps.policy.declared.rule.Func.{Func}
use Rattle.report_text.specs.Texts.{line_text}
use Rattle.report_text.specs.Words.{Line}
use Rattle.run_laws.specs.kernel_reads.Reads.{read_by}
use Rattle.kernel_read.specs.Places.{placed_in}
use Rattle.kernel_read.specs.Table.{call_line, func_raised, inode_line, load_line}
use Rattle.kernel_read.proofs.Printing.{call_pushed, line_grows}
use Rattle.kernel_read.proofs.lines.push_call.Goals as goal

pub at-requires : goal.at-requires
at-requires c = slice_get_within c.args.row.now c.args.call
    (placed_in c.args.inodes.now c.args.task c.args.call (read_by c.args.what.now)) c.requires

-- the line of the call
line : (c : goal.In_ok-push_load) → call_line c.args.inodes.now c.args.task c.args.call
    c.args.what.now c.args.reply.now (read_by c.args.what.now)
    ≡ load_line c.args.task c.args.call c.in-Some.func c.in-Some-get.inode.now.path c.at.result
    c.args.reply.now ∷ []
line c =
    let found = c.in-Some-get.ensures.lookup in
    call_pushed c.args.inodes.now c.args.task c.args.call c.args.what.now c.args.reply.now
    c.in-Some.func c.in-Some.number c.in-Some-get.inode.now c.args.row.now c.at.result
    (sym c.in-Some.is ∙ c.read_of.ensures)
    (slice_get-get_or c.args.inodes.now c.in-Some.number c.in-Some-get.inode.now found.3.0
    ∙ ap (λ (i : EndedInodeValue). Some i) (sym found.1)) c.requires c.at.ensures

pub returns-clause-text : goal.returns-clause-text
returns-clause-text c =
    c.in_ok-push_load.ensures
    ∙ ap (λ (p : List ℕ). c.args.out.now.items ++ line_text (load_line c.args.task c.args.call
    c.in-Some.func p c.at.result c.args.reply.now))
    (c.as_slice-path.ensures.bytes ∙ ap (λ (i : EndedInodeValue). i.path) c.inode.view_is)
    ∙ sym (ap (λ (l : List Line). c.args.out.now.items ++ text_of l) (line c)
    ∙ ap (λ (l : List ℕ). c.args.out.now.items ++ l)
    (append-nil (line_text (load_line c.args.task c.args.call c.in-Some.func
    c.in-Some-get.inode.now.path c.at.result c.args.reply.now))))

pub returns-clause-count : goal.returns-clause-count
returns-clause-count c = sym (ap (λ (l : List Line). length l) (line c))

pub returns-clause-grows : goal.returns-clause-grows
returns-clause-grows c =
    let more = line_grows c.args.out.now.items c.push_load.new.out.items
    (load_line c.args.task c.args.call c.in-Some.func c.as_slice-path.result.now c.at.result
    c.args.reply.now) c.in_ok-push_load.ensures in
    omega (arith, c.args.out.now.ok.0, c.push_load.new.out.ok.0)

-- a call that reads no inode has no line
unread : (inodes : List EndedInodeValue) (n k : ℕ) (c : Call) (r : Reply) (read : Option ℕ)
    → ◌≡◌ {A = Option (Func × ℕ)} (option_map (λ (i : ℕ). (func_raised c, i)) read) None
    → call_line inodes n k c r read ≡ []
unread inodes n k c r None h = refl
unread inodes n k c r (Some i) h = absurd (cc)

-- nor has one that reads an inode that isn't there
unknown : (inodes : List EndedInodeValue) (n k : ℕ) (c : Call) (r : Reply) (read : Option ℕ)
    (func : Func) (number : ℕ)
    → ◌≡◌ {A = Option (Func × ℕ)} (option_map (λ (i : ℕ). (func_raised c, i)) read)
    (Some (func, number))
    → slice_get inodes number ≡ None → call_line inodes n k c r read ≡ []
unknown inodes n k c r None func number h gone = absurd (cc)
unknown inodes n k c r (Some i) func number h gone =
    ap (inode_line n k c r) (ap (slice_get inodes)
    (sym (some_pair_parts func (func_raised c) number i (sym h)).1) ∙ gone)

no_text : (out : List ℕ) (lines : List Line) → lines ≡ [] → out ≡ out ++ text_of lines
no_text out lines h =
    sym (ap (λ (l : List Line). out ++ text_of l) h ∙ append-nil out)

unread_line : (c : goal.In_default) → call_line c.args.inodes.now c.args.task c.args.call
    c.args.what.now c.args.reply.now (read_by c.args.what.now) ≡ []
unread_line c =
    unread c.args.inodes.now c.args.task c.args.call c.args.what.now c.args.reply.now
    (read_by c.args.what.now) (sym c.read_of.ensures ∙ c.in_default.is)

pub returns-in_default-clause-text : goal.returns-in_default-clause-text
returns-in_default-clause-text c = no_text c.args.out.now.items _ (unread_line c)

pub returns-in_default-clause-count : goal.returns-in_default-clause-count
returns-in_default-clause-count c = sym (ap (λ (l : List Line). length l) (unread_line c))

pub returns-in_default-clause-grows : goal.returns-in_default-clause-grows
returns-in_default-clause-grows c = omega arith

unknown_line : (c : goal.In_default-get) → call_line c.args.inodes.now c.args.task c.args.call
    c.args.what.now c.args.reply.now (read_by c.args.what.now) ≡ []
unknown_line c =
    unknown c.args.inodes.now c.args.task c.args.call c.args.what.now c.args.reply.now
    (read_by c.args.what.now) c.in-Some.func c.in-Some.number
    (sym c.read_of.ensures ∙ c.in-Some.is)
    (slice_get_past c.args.inodes.now c.in-Some.number
    (ltb-false _ _ (sym c.in_default-get.ensures.lookup.0)))

pub returns-in_default-get-clause-text : goal.returns-in_default-get-clause-text
returns-in_default-get-clause-text c = no_text c.args.out.now.items _ (unknown_line c)

pub returns-in_default-get-clause-count : goal.returns-in_default-get-clause-count
returns-in_default-get-clause-count c = sym (ap (λ (l : List Line). length l) (unknown_line c))

pub returns-in_default-get-clause-grows : goal.returns-in_default-get-clause-grows
returns-in_default-get-clause-grows c = omega arith

-- without an answer nothing is said of the line
pub returns-in_err-push_load-clause-text : goal.returns-in_err-push_load-clause-text
returns-in_err-push_load-clause-text c =
    let p = err_from_is_err_and c.from_residual.result c.from_residual.ensures.1 in
    rw (p.1) tt

pub returns-in_err-push_load-clause-count : goal.returns-in_err-push_load-clause-count
returns-in_err-push_load-clause-count c =
    let p = err_from_is_err_and c.from_residual.result c.from_residual.ensures.1 in
    rw (p.1) tt

pub returns-in_err-push_load-clause-grows : goal.returns-in_err-push_load-clause-grows
returns-in_err-push_load-clause-grows c =
    let p = err_from_is_err_and c.from_residual.result c.from_residual.ensures.1 in
    rw (p.1) tt
