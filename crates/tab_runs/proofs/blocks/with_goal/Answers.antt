use Rattle.std.proofs.Common.{◌≡◌, get_or, length, set, inl, inr, sym, ◌∙◌, ap, arith, get_or-set_same, get_or-set_other, length-set}
use Rattle.std.proofs.lemmas.Bool.{cases_eq}
use Rattle.tab_runs.proofs.blocks.with_goal.Goals as goal

-- with one byte more copied, the kinds are those that were given up to that place
pub loop-place-preserved : goal.loop-place-preserved
loop-place-preserved c =
    let kinds = c.loop-place.kinds in
    let told = c.args.told.now in
    let at = c.loop-place.place in
    let size : length kinds ≡ 256 = c.loop-place.invariant.size in
    record {
      size = length-set kinds at (get_or told at 0) ∙ size;
      same = λ i l. elim (cases_eq i at) [
        | inl e ↦ ap (λ k. get_or (set kinds at (get_or told at 0)) k 0) e
            ∙ get_or-set_same kinds at (get_or told at 0) 0 (let f = c.requires.few in let m = c.loop-place-test.true in omega arith)
            ∙ ap (λ k. get_or told k 0) (sym e)
        | inr ne ↦ get_or-set_other kinds at i (get_or told at 0) 0 ne ∙ c.loop-place.invariant.same i (omega arith)
      ];
    }

-- the kinds have the goal's at its place, and what was given at all others
pub returns : goal.returns
returns c =
    let kinds = c.loop-place.kinds in
    let told = c.args.told.now in
    let size : length kinds ≡ 256 = c.loop-place.invariant.size in
    record {
      goal = get_or-set_same kinds c.args.goal 1 0 (let f = c.requires.few in let g = c.requires.goal in omega arith);
      others = λ place low ne. get_or-set_other kinds c.args.goal place 1 0 ne
          ∙ c.loop-place.invariant.same place (let l = c.loop-place-test.false in omega arith);
    }
