-- Claims with their starts, and the automaton of reversals.
use Rattle.std.proofs.Common.{◌≡◌, ◌+◌, ◌*◌, ◌<◌, ℕ, zero, suc, Bool, Err, List, [], ◌∷◌, ◌++◌, Result, arith, get_or, inl, inr, length, map, refl, subst, sym}
use Rattle.std.specs.List.{All, AllByRecursion}
use Rattle.std.proofs.lemmas.Bool.{cases_lt}
use Rattle.std.proofs.lemmas.List.{get_or_append_left, get_or_push, get_or_read}
use Rattle.puz_board.specs.Boards.{side_of}
use Rattle.puz_board.specs.declared.moves.Move.{Move}
use Rattle.puz_board.specs.declared.moves.Move.TheVariants.{Up, Down, Left, Right}
use Rattle.move_strings.specs.Automata.{IsState, reversal_steps}
use Rattle.puz_goal.specs.declared.goals.Goal.{Goal}
use Rattle.set_sum.specs.Bundles.{ShownBundle}
use Rattle.puz_walk.specs.declared.starts.Start.{Start}
use Rattle.puz_search.specs.Guides.{LeavesOutReturn}
use Rattle.claim_text.specs.Claims.{ShownClaim}
use Rattle.claim_text.specs.Shown.{claim_shown}
use Rattle.claim_text.specs.Texts.{AreClaims, IsFirstNoClaim}
use Rattle.claim_text.specs.declared.claims.Claim.{Claim}
use Rattle.claim_text.specs.declared.faults.ClaimsFault.{ClaimsFault}
use Rattle.claim_text.specs.declared.faults.ClaimsFault.TheVariants.{Memory, Q1}
use Rattle.pdb_prove.specs.Prove.{ClaimsFiles}
use Rattle.pdb_prove.specs.Steps.{IsCauseForClaims, IsPosed, PrunesFor, of_claims}

-- why a text gives no claims is why nothing is searched
pub claims_cause : (A : Type 0) (fold : Bool) (files : ClaimsFiles) (cause : ClaimsFault)
    → ((line : ℕ) → ◌≡◌ {A = Result A ClaimsFault} (Err cause) (Err (Q1 line)) → IsFirstNoClaim files.claims line)
    → (◌≡◌ {A = Result A ClaimsFault} (Err cause) (Err Memory) → (claims : List ShownClaim) × AreClaims files.claims claims)
    → IsCauseForClaims fold files (of_claims cause)
claims_cause A fold files (Q1 line) first memory = inl (line, first line refl, refl)
claims_cause A fold files Memory first memory = memory refl

-- where boards have a side, each by its place has it
pub each_side : (side : ℕ) (claims : List Claim) → AllByRecursion (λ claim. side_of claim.board ≡ side) (map claim_shown claims)
    → All (λ claim. side_of claim.board ≡ side) claims
each_side side [] all k d low = absurd (omega (arith, low))
each_side side (claim ∷ claims) all zero d low = all.0
each_side side (claim ∷ claims) all (suc k) d low = each_side side claims all.1 k d (omega (arith, low))

-- with the start from one board more, the claims so far and this one have their starts
pub posed_more : (goal : Goal) (v : ShownBundle) (claims : List Claim) (starts : List Start) (claim : Claim) (start : Start) (i : ℕ) → i < length claims
    → claim ≡ get_or claims i claim → length starts ≡ i
    → ((k : ℕ) (c : Claim) (d : Start) → k < i → IsPosed goal v (get_or claims k c) (get_or starts k d)) → IsPosed goal v claim start
    → (k : ℕ) (c : Claim) (d : Start) → k < i + 1 → IsPosed goal v (get_or claims k c) (get_or (starts ++ start ∷ []) k d)
posed_more goal v claims starts claim start i low is size each here k c d next = elim (cases_lt k i) [
  | inl below ↦
      let there : k < length starts = omega (arith, below, size) in
      subst (IsPosed goal v (get_or claims k c)) (sym (get_or_append_left starts (start ∷ []) d k there)) (each k c d below)
  | inr above ↦
      let same : k ≡ i = omega (arith, above, next) in
      rw (same, get_or_push starts start d i size) (subst (λ (x : Claim). IsPosed goal v x start) (get_or_read claims i claim low is c) here)
]

-- what holds of four moves holds of each
of_each : (P : Move → Type 0) → P Up → P Down → P Left → P Right → (move : Move) → P move
of_each P up down left right Up = up
of_each P up down left right Down = down
of_each P up down left right Left = left
of_each P up down left right Right = right

after_reversals : (state : ℕ) → IsState reversal_steps state → (move : Move) → LeavesOutReturn reversal_steps state move
after_reversals zero is = of_each (LeavesOutReturn reversal_steps 0) (λ on. refl) (λ on. refl) (λ on. refl) (λ on. refl)
after_reversals (suc zero) is = of_each (LeavesOutReturn reversal_steps 1) (λ on. refl) (λ on. absurd (on refl)) (λ on. refl) (λ on. refl)
after_reversals (suc (suc zero)) is = of_each (LeavesOutReturn reversal_steps 2) (λ on. absurd (on refl)) (λ on. refl) (λ on. refl) (λ on. refl)
after_reversals (suc (suc (suc zero))) is = of_each (LeavesOutReturn reversal_steps 3) (λ on. refl) (λ on. refl) (λ on. refl) (λ on. absurd (on refl))
after_reversals (suc (suc (suc (suc zero)))) is =
    of_each (LeavesOutReturn reversal_steps 4) (λ on. refl) (λ on. refl) (λ on. absurd (on refl)) (λ on. refl)
after_reversals (suc (suc (suc (suc (suc n))))) is = let low : 4 * suc (suc (suc (suc (suc n)))) + 0 < 20 = is Up in absurd (omega (arith, low))

-- the automaton of reversals leaves out each move that takes the one before it back
pub reversals_prune : (side : ℕ) → PrunesFor side (record { side = side; steps = reversal_steps })
reversals_prune side = (refl, λ state move is. after_reversals state is move)
