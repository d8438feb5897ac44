-- What the lines of `prove` on parts of bounds mean, as the headline says it.
pub use Rattle.pdb_program.specs.Headline.{ArePartLinesTrue, HoldsOfPart, SaysPart}
