mod WorkLemmas
mod RunLemmas
mod LawLemmas
