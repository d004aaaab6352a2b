use Rattle.std.proofs.Common.{◌≡◌, Ok, rules}
use Rattle.script_text.specs.ListGrammar.{list_of}
use Rattle.ima_top.proofs.Listed.{listed_path}
use Rattle.ima_top.proofs.commands.list.answer.Goals as goal

pub measured-requires : goal.measured-requires
measured-requires c =
    let read : list_of c.args.input.now ≡ Ok c.deref.result.now = search rules in
    listed_path c.args.input.now c.deref.result.now read
