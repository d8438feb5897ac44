-- How a bundle with edge words is stored.
use Rattle.puz_walk.specs.WordBundles.{HaveWords}
use Rattle.set_sum.specs.Bundles.{IsBundle}
use Rattle.puz_walk.specs.declared.word_bundles.WordBundle.TheInside.{Inside}

-- these are the fields of a bundle with words
pub record IsStoredWordBundle (w : Inside) : Type 0 where
  pub bundle : IsBundle w.outline.now
  pub words : HaveWords w.outline.now w.words.now
