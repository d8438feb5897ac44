use Rattle.std.proofs.Common.{◌≡◌, ◌++◌, ◌<◌, ◌≤◌, ℕ, false, drop, length}
use Rattle.std.specs.Prelude.{vec_capacity}
use Rattle.std.specs.Vec.Iter.{into_iter_items}
use Rattle.byte_io.specs.Shelf.{Bytes}
use Rattle.set_sum.specs.Bundles.{ShownBundle}
use Rattle.puz_walk.specs.WordBundles.{HasWords}
use Rattle.pdb_run.specs.Answers.{all_bytes}
use Rattle.pdb_verdict.specs.FileBundles.{IsBundleOfFiles}
use Rattle.pdb_prove.proofs.words.TableWords.fill.Given as goal

-- the words are those of the files so far, and the memory for the others is left
abbrev pub invariant-loop-file : goal.invariant-loop-file
invariant-loop-file g l = record {
  can_next : (goal.iterator-loop-file g).can_next l.file-iterator;
  is_finite : (goal.iterator-loop-file g).is_finite l.file-iterator;
  whole : l.yielded ++ into_iter_items l.file-iterator ≡ l.fn.files.items;
  count : length l.words.items ≡ length l.yielded;
  room : length l.fn.files.items ≤ vec_capacity l.words;
  rooms : l.rooms.items ≡ drop (length l.yielded) l.fn.self.rooms.items;
  each : (sets : Bytes) (v : ShownBundle) → IsBundleOfFiles false (all_bytes l.fn.files.items) sets v → (t : ℕ) → t < length l.yielded
      → HasWords v l.words.items t;
}
