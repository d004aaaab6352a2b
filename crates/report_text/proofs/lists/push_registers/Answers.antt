use Rattle.std.proofs.Common.{ℕ, ◌≡◌, ◌++◌, ap, ◌∙◌, arith}
use Rattle.text_forms.specs.Words.{text_of}
use Rattle.report_text.specs.Report.{pcr_lines_to}
use Rattle.report_text.proofs.Pushed.{registers_on}
use Rattle.report_text.proofs.lists.push_registers.Goals as goal

pub loop-pcr-preserved : goal.loop-pcr-preserved
loop-pcr-preserved c =
    registers_on _ _ _ c.args.list.now c.args.banks.now c.loop-pcr.pcr _ c.is_named.ensures
    c.loop-pcr.invariant c.in_ok-push_register.ensures

pub returns : goal.returns
returns c =
    let all : c.loop-pcr.pcr ≡ 24 = omega arith in
    c.loop-pcr.invariant
    ∙ ap (λ (n : ℕ). c.args.out.now.items
    ++ text_of (pcr_lines_to c.args.list.now c.args.banks.now n)) all
