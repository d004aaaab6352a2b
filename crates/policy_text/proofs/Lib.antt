pub mod AlgosAgain
pub mod Commas
pub mod FirstBad
pub mod Joined
pub mod KeysAgain
pub mod PolicyAgain
pub mod RulesAgain
pub mod ValuesAgain
