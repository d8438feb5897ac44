pub mod KeptLemmas
pub mod LetterLemmas
mod LogLemmas
mod MakerLemmas
mod ThresholdLemmas
