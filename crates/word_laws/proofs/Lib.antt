mod FlagLemmas
mod LogLemmas
mod MaskWordLemmas
mod PartsLemmas
mod ProveLemmas
mod TextLemmas
mod WalkLemmas
