mod CountLemmas
mod FaultLemmas
pub mod FileLemmas
mod GreatestLemmas
mod HeaderLemmas
mod TableLemmas
