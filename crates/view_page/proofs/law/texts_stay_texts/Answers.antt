use Rattle.view_page.proofs.Safe.{texts_stay_texts}
use Rattle.view_page.proofs.law.texts_stay_texts.Goals as goal

pub returns : goal.returns
returns c = texts_stay_texts
