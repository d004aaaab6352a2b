use Rattle.std.proofs.Common.{arith}
use Rattle.view_page.proofs.about_journals.Firsts.{first_so_many}
use Rattle.view_sentences.proofs.named.first_of.Goals as goal

pub returns : goal.returns
returns c = first_so_many c.args.files.now 4 c.min.result (omega (arith, c.min.ensures))
