use Rattle.std.proofs.Common.{◌≡◌, ℕ, ◌-◌, ◌*◌, ◌/◌, ◌%◌, ◌^◌, sym, subst, arith}
use Rattle.std.specs.Prelude.{bit_and}
use Rattle.puz_board.proofs.BitLemmas.{IsIn, both_in}
use Rattle.edge_words.proofs.LedLemmas.{led_down, led_left, led_right, led_up}
use Rattle.edge_words.proofs.edges.led_to.Goals as goal

-- a cell to which a move up leads is in the mask that is shifted by a row to lower cells
pub returns-in-0-clause-led : goal.returns-in-0-clause-led
returns-in-0-clause-led c from to there here leads =
    subst (λ n. IsIn (bit_and c.args.free (c.args.free / 2 ^ n)) to) (sym c.get-n.ensures.value)
    (led_up c.args.side c.get-n.ensures.low c.get-n.ensures.high c.args.free c.requires.within (c.args.number % 4) from to there here leads c.in-0.is)

-- the common part of the mask and the shifted one is of the mask
pub returns-in-0-clause-free : goal.returns-in-0-clause-free
returns-in-0-clause-free c x one = (both_in c.args.free (c.args.free / 2 ^ c.get-n.result) x one).0

-- a cell to which a move down leads is in the mask that is shifted by a row to higher cells
pub returns-in-1-clause-led : goal.returns-in-1-clause-led
returns-in-1-clause-led c from to there here leads =
    subst (λ n. IsIn (bit_and c.args.free (c.args.free * 2 ^ n % 2 ^ 32)) to) (sym c.get-n.ensures.value)
    (led_down c.args.side c.get-n.ensures.low c.get-n.ensures.high c.args.free c.requires.within (c.args.number % 4) from to there here leads c.in-1.is)

-- the common part of the mask and the shifted one is of the mask
pub returns-in-1-clause-free : goal.returns-in-1-clause-free
returns-in-1-clause-free c x one = (both_in c.args.free (c.args.free * 2 ^ c.get-n.result % 2 ^ 32) x one).0

-- a cell to which a move to the left leads is in the mask that is shifted by one to lower cells, and isn't the last of its row
pub returns-in-2-clause-led : goal.returns-in-2-clause-led
returns-in-2-clause-led c from to there here leads =
    led_left c.args.side c.get-n.ensures.low c.get-n.ensures.high c.args.free c.requires.within (c.args.number % 4) from to there here leads
    c.last_column.result c.last_column.type_inv c.in-2.is c.last_column.ensures

-- what is left of the common part without a column is of the mask
pub returns-in-2-clause-free : goal.returns-in-2-clause-free
returns-in-2-clause-free c x one =
    let free = c.args.free in
    (both_in free (free / 2 ^ 1) x (both_in (bit_and free (free / 2 ^ 1)) (2 ^ 32 - 1 - c.last_column.result) x one).0).0

-- a cell to which a move to the right leads is in the mask that is shifted by one to higher cells, and isn't the first of its row
pub returns-in_default-clause-led : goal.returns-in_default-clause-led
returns-in_default-clause-led c from to there here leads =
    let three : c.args.number % 4 ≡ 3 = omega arith in
    led_right c.args.side c.get-n.ensures.low c.get-n.ensures.high c.args.free c.requires.within (c.args.number % 4) from to there here leads
    c.first_column.result c.first_column.type_inv three c.first_column.ensures

-- what is left of the common part without a column is of the mask
pub returns-in_default-clause-free : goal.returns-in_default-clause-free
returns-in_default-clause-free c x one =
    let free = c.args.free in
    let shifted : ℕ = free * 2 ^ 1 % 2 ^ 32 in
    (both_in free shifted x (both_in (bit_and free shifted) (2 ^ 32 - 1 - c.first_column.result) x one).0).0
