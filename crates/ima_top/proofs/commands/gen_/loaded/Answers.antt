use Rattle.std.proofs.Common.{◌≡◌, ◌∙◌, Ok, ap, length, sym}
use Rattle.script_text.specs.Grammar.{script_of}
use Rattle.ima_top.proofs.Loading.{is_loaded}
use Rattle.ima_top.proofs.commands.gen_.loaded.Goals as goal

pub returns-in-Ok : goal.returns-in-Ok
returns-in-Ok c =
    let read : script_of c.in_ok-text.text.items ≡ Ok c.in-Ok.script =
    ap script_of (sym c.deref.ensures.value) ∙ c.in-Ok.ensures.text in
    let size : c.len.result ≡ length c.in_ok-text.text.items =
    c.len.ensures ∙ sym c.deref.ensures.len ∙ ap length c.deref.ensures.value in
    is_loaded c.args.number c.in_ok-text.text.items c.in-Ok.script c.len.result
    c.in_ok-text.ensures.text c.in_ok-text.ensures.accepted read size
