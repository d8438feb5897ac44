mod ViewLemmas
mod ReachLemmas
mod WordLemmas
mod StepMoves
mod SeatMoves
pub mod CallerLemmas
