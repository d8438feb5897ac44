mod LayerLemmas
mod TableLemmas
