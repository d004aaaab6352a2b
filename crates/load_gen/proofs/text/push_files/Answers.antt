use Rattle.std.proofs.Common.{◌≡◌, suc, ◌-◌, ◌+◌, sym, ◌∙◌, arith}
use Rattle.load_gen.specs.Draws.{drawn, next}
use Rattle.load_gen.specs.Script.{file_text}
use Rattle.load_gen.proofs.Loops.{ended, files_state, files_text, no_files_state, no_files_text, piece_on}
use Rattle.load_gen.proofs.text.push_files.Goals as goal

pub loop-i-preserved : goal.loop-i-preserved
loop-i-preserved c =
    let i = c.loop-i.i in
    let x = c.loop-i.draws.state in
    let n = 64 - (i + 1) in
    let less : 64 - i ≡ suc n = omega (arith, c.loop-i-test.true) in
    rw c.draw-length.ensures.state (record {
      text = piece_on _ _ _ (file_text i (drawn 20000 (next x))) _ _
          (files_text (64 - i) n i x less)
          c.loop-i.invariant.text (rw c.draw-length.ensures.number at c.in_ok-push_file.ensures);
      state = sym (files_state (64 - i) n i x less) ∙ c.loop-i.invariant.state;
    })

pub returns : goal.returns
returns c =
    let i = c.loop-i.i in
    let x = c.loop-i.draws.state in
    let none : 64 - i ≡ 0 = omega arith in
    record {
      text = ended _ _ _ (no_files_text (64 - i) i x none) c.loop-i.invariant.text;
      state = sym (no_files_state (64 - i) i x none) ∙ c.loop-i.invariant.state;
    }
