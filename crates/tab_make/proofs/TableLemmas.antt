-- Files of tables, part by part.
use Rattle.std.proofs.Common.{◌≡◌, ◌+◌, ◌≤◌, ℕ, List, ◌++◌, arith, drop, length, take}
use Rattle.std.proofs.lemmas.Grind.{common_steps}

-- two parts of a list that were written again are all of it, where they have its length
pub parts_written : (front behind items : List ℕ) (n : ℕ) → n ≡ length items → length behind + length front ≡ length items
    → take n (front ++ behind ++ drop (length (front ++ behind)) items) ≡ front ++ behind
parts_written front behind items n whole same = grind (arith, common_steps)

-- what stands in front stays there where more is put behind it
pub front_stays : (front rest items : List ℕ) (n : ℕ) → length front ≤ n → items ≡ take n front ++ rest
    → take (length front) items ≡ front
front_stays front rest items n fits is = grind (arith, common_steps)
