-- The result of a change of attributes.
use Rattle.std.specs.Prelude.{List, Option, Some, None}
use Rattle.std.specs.Option.{option_copied}
use Rattle.xattr_store.specs.Attrs.{Pair, changed}
use Rattle.xattr_store.specs.declared.changes.NewValue.{NewValue}

-- the attributes after the change, or as they are if there is none
abbrev pub after : Option NewValue → List Pair → List Pair
after None attrs = attrs
after (Some change) attrs = changed change.name.now (option_copied change.value) attrs
