-- How a guide is stored.
use Rattle.set_sum.specs.Bundles.{ShownBundle}
use Rattle.puz_search.specs.declared.guides.Sets.{Sets}
use Rattle.puz_search.specs.declared.guides.Sets.TheVariants.{Sums, Words}

-- the bundle of the sets
abbrev pub bundle_of : Sets → ShownBundle
bundle_of (Sums bundle) = bundle.now
bundle_of (Words words) = words.now
