-- What public contracts say.
pub mod FoldedLogs
pub mod KeptLogs
pub mod Solutions
pub mod TableFiles
