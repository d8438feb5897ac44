mod CheckLemmas
mod EntriesLemmas
mod HeldLemmas
mod KindLemmas
mod ListedLemmas
mod LoopLemmas
pub mod MaskLemmas
mod MaskRunLemmas
mod PairLemmas
mod PartLemmas
mod RowLemmas
pub mod RunAtLemmas
pub mod RunLemmas
pub mod RunRanks
mod SetRowLemmas
mod StepLemmas
mod TableLemmas
mod TableRowLemmas
mod TakenLemmas
mod TileLemmas
