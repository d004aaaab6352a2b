use Rattle.std.proofs.Common.{rules, ◌≡◌, ◌++◌, true}
use Rattle.std.proofs.lemmas.Result.{on_ok_weaker}
use Rattle.std.specs.Option.{option_copied}
use Rattle.xattr_store.specs.Attrs.{value}
use Rattle.xattr_store.specs.Names.{evm_name, ima_name}
use Rattle.script_text.specs.Files.{sealed, setup_of}
use Rattle.label_text.specs.Labels.{line_under}
use Rattle.label_text.proofs.Lines.{lines_are}
use Rattle.label_text.proofs.text.push_file.Goals as goal

pub returns : goal.returns
returns c =
    let set : c.args.evm.now ≡ setup_of c.args.script.now = search rules in
    let present : c.args.file.now.image.present ≡ true = search rules in
    let are : c.in_ok-attrs.attrs
    ≡ (sealed c.args.evm.now c.args.script.now.hash c.args.file.now).image.attrs = search rules in
    let on : c.as_slice-path.result.now ≡ c.args.file.now.path = search rules in
    let is_label : option_copied c.label.result ≡ value ima_name c.in_ok-attrs.attrs =
    search rules in
    let is_hmac : option_copied c.hmac.result ≡ value evm_name c.in_ok-attrs.attrs =
    search rules in
    let first : c.push_under.new.text.items ≡ c.args.text.now.items
    ++ line_under c.as_slice-path.result.now ima_name (option_copied c.label.result) =
    search rules in
    on_ok_weaker c.push_hmac.result
    (λ last. lines_are c.args.script.now c.args.file.now c.args.evm.now c.in_ok-attrs.attrs
    c.as_slice-path.result.now (option_copied c.label.result) (option_copied c.hmac.result)
    c.args.text.now.items c.push_under.new.text.items c.push_hmac.new.text.items set present are on
    is_label is_hmac first last) c.push_hmac.ensures
