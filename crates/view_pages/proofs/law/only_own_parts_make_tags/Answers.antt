use Rattle.view_pages.proofs.Tags.{tags_are_own}
use Rattle.view_pages.proofs.law.only_own_parts_make_tags.Goals as goal

pub returns : goal.returns
returns c = tags_are_own
