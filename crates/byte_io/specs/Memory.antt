-- What a shelf over memory holds.
use Rattle.std.specs.Prelude.{option_map}
use Rattle.std.specs.BTreeMap.{get_by_text}
use Rattle.byte_io.specs.Shelf.{Files}
use Rattle.byte_io.specs.declared.memory.MemShelf.{MemShelf}

-- the bytes under each name of its map
abbrev pub files_in : MemShelf → Files
files_in shelf name = option_map (λ bytes. bytes.items) (get_by_text shelf.files name)
