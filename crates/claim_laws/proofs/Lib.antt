mod CountLemmas
mod ExactLemmas
mod FileLemmas
mod FoldLemmas
mod SolutionLemmas
mod TakenLemmas
