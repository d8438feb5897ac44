use Rattle.std.proofs.Common.{◌≡◌, ◌+◌, ◌*◌, ◌<◌, arith, inl, inr, length, refl, subst}
use Rattle.std.proofs.lemmas.Bool.{cases_lt}
use Rattle.puz_board.specs.declared.moves.Move.TheVariants.{Up}
use Rattle.puz_search.specs.Guides.{LeavesOutReturn}
use Rattle.pdb_prove.proofs.help.leaves_out_reversals.Goals as goal

-- from one state more too
pub loop-state-preserved : goal.loop-state-preserved
loop-state-preserved c = λ before mv low. elim (cases_lt before c.loop-state.state) [
  | inl less ↦ c.loop-state.invariant before mv less
  | inr more ↦
      let same : c.loop-state.state ≡ before = omega (arith, low, more) in
      subst (λ n. LeavesOutReturn c.args.automaton.now.steps n mv) same (c.if-not-leaves_out_returns.ensures refl mv)
]

-- a state has its steps among all, so it is one of those before
pub returns : goal.returns
returns c = λ _ state mv is.
    let all = c.requires.all in
    let some : 4 * state + 0 < length c.args.automaton.now.steps = is Up in
    c.loop-state.invariant state mv (omega arith)
