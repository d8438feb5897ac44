-- What public contracts say.
pub mod Asking
pub mod Flags
pub mod LogWords
pub mod MakeTableWords
pub mod MaskWords
pub mod NumberTexts
pub mod PartsWords
pub mod ProveWords
