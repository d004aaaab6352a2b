use Rattle.std.proofs.Common.{◌≡◌, ℕ, List, ◌++◌, length, take, [], ap, sym, ◌∙◌}
use Rattle.std.proofs.lemmas.List.{append-nil}
use Rattle.inode_meta.specs.declared.identity.Meta.{Meta}
use Rattle.xattr_store.specs.Attrs.{Pair}
use Rattle.evm_verify.specs.Input.{evm_value, five_names, meta_bytes, old_input, place_bytes, values_under}
use Rattle.evm_verify.proofs.evm.Evm.value_old.Goals as goal

-- format 1 adds nothing to the metadata
old_form : (key : List ℕ) (names : List (List ℕ)) (after attrs : List Pair) (meta : Meta)
    → names ≡ five_names → after ≡ attrs
    → evm_value key (values_under names after ++ meta_bytes meta ++ place_bytes 1 meta)
    ≡ evm_value key (old_input attrs meta)
old_form key names after attrs meta five none =
    ap (λ (ns : List (List ℕ)). evm_value key (values_under ns after ++ meta_bytes meta ++ [])) five
    ∙ ap (λ (l : List Pair). evm_value key (values_under five_names l ++ meta_bytes meta ++ [])) none
    ∙ ap (evm_value key) (append-nil (values_under five_names attrs ++ meta_bytes meta))

pub slice_bounds-value_of-end : goal.slice_bounds-value_of-end
slice_bounds-value_of-end c =
    sym (ap length (ap (take 5) c.deref.ensures.value ∙ c.self.invariant))

pub returns : goal.returns
returns c = c.value_of.ensures
    ∙ old_form c.args.key.now (take 5 c.deref.result.now) c.none.result c.args.attrs.now
    c.args.meta.now (ap (take 5) c.deref.ensures.value ∙ c.self.invariant) c.none.ensures
