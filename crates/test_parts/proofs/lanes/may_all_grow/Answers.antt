use Rattle.std.proofs.Common.{◌≡◌, ℕ, ◌*◌, ◌/◌, ◌^◌, ◌<◌, bit_and, get_or, inl, inr, ◌∙◌, subst, arith}
use Rattle.std.proofs.Common.{div-lt_iff_lt-mul}
use Rattle.std.proofs.lemmas.Bool.{cases_lt}
use Rattle.std.proofs.lemmas.Nat.{pow_pos}
use Rattle.puz_board.proofs.BitLemmas.{IsIn, both_in}
use Rattle.tab_lanes.specs.Floods.{MayGrow}
use Rattle.test_parts.proofs.lanes.may_all_grow.Goals as goal

-- a number with no bit from this one on
below : (m k : ℕ) → m / 2 ^ k ≡ 0 → m < 2 ^ k
below m k none = let few = (div-lt_iff_lt-mul {k = 2 ^ k} {x = m} {y = 1} (pow_pos k)).0 (omega arith) in omega arith

-- where the masks before a place may grow, and the one there passes the tests, it may grow too
pub loop-place-preserved : goal.loop-place-preserved
loop-place-preserved c i l = elim (cases_lt i c.loop-place.place) [
  | inl before ↦ c.loop-place.invariant i before
  | inr here ↦ subst (λ k. MayGrow c.args.side (get_or c.args.free.now k 0) (get_or c.args.masks.now k 0))
      (let e : c.loop-place.place ≡ i = omega arith in e) last
]
  where
    free : ℕ
    free = get_or c.args.free.now c.loop-place.place 0

    mask : ℕ
    mask = get_or c.args.masks.now c.loop-place.place 0

    cells : c.from-cells.result ≡ c.args.side * c.args.side
    cells = c.from-cells.ensures ∙ c.cells.ensures.value

    last : MayGrow c.args.side (get_or c.args.free.now c.loop-place.place 0) (get_or c.args.masks.now c.loop-place.place 0)
    last = record {
      on_board = subst (λ k. free < 2 ^ k) cells (below free c.from-cells.result (let z = c.if-free-place-ne0.false in omega arith));
      inside = (λ x h. (both_in mask free x (subst (λ m. IsIn m x) (let e : mask ≡ bit_and mask free = let z = c.if-masks-place.false in
          omega arith in e) h)).1);
    }
