mod FlagLemmas
mod FloodLemmas
mod FloodingLemmas
mod LesserLemmas
mod RuleLemmas
