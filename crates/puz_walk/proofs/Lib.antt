mod BlankLemmas
mod ExchangeLemmas
mod HeldLemmas
mod JudgeLemmas
mod MarginLemmas
mod MoveLemmas
mod OpenLemmas
mod OwnerLemmas
mod ShiftLemmas
pub mod StartLemmas
mod SumWalkLemmas
mod TallyLemmas
mod TurnLemmas
mod WordWalkLemmas
