-- The names of the attributes of IMA and EVM.
use Rattle.std.specs.Prelude.{ℕ, List, codes}

-- the name of the attribute that holds the label
abbrev pub ima_name : List ℕ
ima_name = codes "security.ima"

-- the name of the attribute that holds the HMAC
abbrev pub evm_name : List ℕ
evm_name = codes "security.evm"
