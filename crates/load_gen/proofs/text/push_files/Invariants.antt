-- the text of the files that are left is still to come
use Rattle.std.proofs.Common.{◌≡◌, ◌-◌, ◌++◌}
use Rattle.load_gen.specs.Script.{files}
use Rattle.load_gen.proofs.text.push_files.Given as goal

abbrev pub invariant-loop-i : goal.invariant-loop-i
invariant-loop-i l = record {
  text : l.out.items ++ (files (64 - l.i) l.i l.draws.state).text
      ≡ l.fn.out.items ++ (files 64 0 l.fn.draws.state).text;
  state : (files (64 - l.i) l.i l.draws.state).state ≡ (files 64 0 l.fn.draws.state).state;
}
