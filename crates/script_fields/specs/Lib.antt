pub mod Limits
pub mod SettingFields
pub mod SuperFields
pub mod FileFields
pub mod FrontView
pub mod TaskFields
