-- How the memory for words is stored: the pattern, room for the words, and what tells where regions stand.
use Rattle.std.specs.Prelude.{◌≡◌, ◌≤◌, vec_capacity}
use Rattle.tab_runs.specs.RowTables.{rows_for}
use Rattle.edge_words.specs.Indexes.{index_count, most_words}
use Rattle.edge_words.specs.declared.rooms.WordRoom.TheInside.{Inside}

-- the capacity is the count of the words, and rows are kept for the pattern's side and number of tiles
pub record IsStoredRoom (r : Inside) : Type 0 where
  pub few : index_count r.pattern ≤ most_words
  pub room : vec_capacity r.words ≡ index_count r.pattern
  pub rows : r.rows ≡ rows_for r.pattern
