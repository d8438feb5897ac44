mod ArgumentLemmas
pub mod CommandLemmas
mod MaskLemmas
mod NumberLemmas
pub mod TextLemmas
