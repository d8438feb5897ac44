mod AnswerLemmas
mod BundleLemmas
mod ClaimLemmas
mod TableLemmas
mod WordLemmas
