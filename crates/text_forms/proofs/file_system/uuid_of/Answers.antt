use Rattle.text_forms.proofs.FileSystems.{uuid_none}
use Rattle.text_forms.proofs.file_system.uuid_of.Goals as goal

pub returns-in-Err : goal.returns-in-Err
returns-in-Err c = uuid_none c.in-Err.field-0 c.args.text.now c.if-text-ne36.false
    c.in-Err.ensures.ok
