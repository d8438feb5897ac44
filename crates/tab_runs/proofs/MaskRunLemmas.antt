-- The run of a mask's cells.
use Rattle.std.proofs.Common.{◌≡◌, ℕ, ◌+◌, ◌*◌, ◌^◌, ◌<◌, ◌≤◌, true, length, arith}
use Rattle.std.specs.Prelude.{count_ones}
use Rattle.puz_board.specs.Masks.{IsMaskOf, numbers_of}
use Rattle.puz_board.proofs.BitLemmas.{in_below}
use Rattle.puz_board.proofs.GrownLemmas.{free_fits}
use Rattle.puz_board.proofs.HasLemmas.{all_from_has}
use Rattle.pat_place.specs.Patterns.{IsPattern, ShownPattern, has}
use Rattle.pat_place.proofs.ListLemmas.{apart_from_ascending}
use Rattle.pat_place.proofs.MaskLemmas.{ascending-numbers_below, has-numbers_below, in_numbers_below, length-numbers_below}
use Rattle.pat_place.proofs.PatternLemmas.{few_tiles}
use Rattle.tab_runs.specs.RunPlaces.{IsRun}

module _ (p : ShownPattern) (pat : IsPattern p) (set : ℕ) (bits : set < 2 ^ (p.side * p.side)) (size : count_ones set + 1 ≡ length p.tiles) where
  fits : set < 2 ^ 32
  fits = free_fits p.side set pat.low pat.high bits

  counted : length (numbers_of set) ≡ count_ones set
  counted = length-numbers_below 32 set fits

  -- a set with one cell fewer than there are tiles has at most 8 numbers
  pub few_numbers : length (numbers_of set) ≤ 8
  few_numbers = let c = counted in let few = few_tiles p pat in omega arith

  -- the numbers of a set with one cell fewer than there are tiles are a run of the pattern
  pub run_of_mask : IsRun p (numbers_of set)
  run_of_mask = record {
    size = (let c = counted in omega arith);
    inside = all_from_has (λ c. c < p.side * p.side) (numbers_of set) (λ x h. in_below set (p.side * p.side) x bits (in_numbers_below 32 set x h).1);
    apart = apart_from_ascending (numbers_of set) (ascending-numbers_below 32 set);
  }

  -- a set is the mask of the list of its numbers
  pub mask_of_numbers : IsMaskOf set (λ c. has (numbers_of set) c ≡ true)
  mask_of_numbers x = (λ h. has-numbers_below 32 set x (in_below set 32 x fits h) h, λ h. (in_numbers_below 32 set x h).1)
