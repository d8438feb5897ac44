-- What is found within few boards is found within more.
use Rattle.std.proofs.Common.{◌≡◌, ◌≤◌, ℕ, List, min, true, false, inl, inr, arith}
use Rattle.set_sum.specs.Bundles.{ShownBundle}
use Rattle.move_strings.specs.BoundParts.{ShownPart}
use Rattle.puz_search.specs.Guides.{ShownGuide}
use Rattle.claim_text.specs.Claims as claims
use Rattle.claim_text.specs.Claims.{ShownAsks, ShownClaim}
use Rattle.pdb_verdict.specs.declared.verdicts.Fault.TheVariants.{K1, K2}
use Rattle.pdb_prove.specs.Answers.{IsFoundFor, IsFoundOf, IsRefuted, IsRefutedPart}
use Rattle.pdb_prove.specs.Steps.{is_spent}
use Rattle.pdb_prove.specs.declared.answers.Finding.{Finding}
use Rattle.pdb_prove.specs.declared.answers.Finding.TheVariants.{Bound, Optimum, Part, Refused, Shorter, Shortest}

spent_not : true ≡ false → ⊥
spent_not e = cc

module _ (guide : ShownGuide) (few budget : ℕ) (less : few ≤ budget) where
  refuted_within : (b : List ℕ) (r : ℕ) → IsRefuted guide few b r → IsRefuted guide budget b r
  refuted_within b r is = (is.0, (is.1.0, is.1.1, omega (arith, is.1.2, less)))

  part_within : (b : List ℕ) (r : ℕ) (p : ShownPart) → IsRefutedPart guide few b r p → IsRefutedPart guide budget b r p
  part_within b r p is = (is.0, (is.1.0, is.1.1, omega (arith, is.1.2, less)))

  -- what is found for a claim within few boards, and isn't that these are spent, is found within more
  pub soon_enough : (b : List ℕ) (asks : ShownAsks) (found : Finding) → is_spent found ≡ false → IsFoundOf guide few b asks found
      → IsFoundOf guide budget b asks found
  soon_enough b claims.shortest (Shortest n letters) settled is = is
  soon_enough b claims.shortest (Refused K2) settled is = elim is [ inl odd ↦ inl odd | inr beyond ↦ inr beyond ]
  soon_enough b claims.shortest (Refused (K1 bound)) settled is = absurd (spent_not settled)
  soon_enough b (claims.moves text) (Optimum n) settled is = (is.0, is.1, refuted_within b n is.2)
  soon_enough b (claims.moves text) (Shorter letters) settled is = is
  soon_enough b (claims.moves text) (Refused K2) settled is = (is.0, is.1, is.2, refuted_within b (min is.0 255) is.3)
  soon_enough b (claims.moves text) (Refused (K1 bound)) settled is = absurd (spent_not settled)
  soon_enough b (claims.moves text) (Refused _) settled is = is
  soon_enough b (claims.bound r) Bound settled is = refuted_within b r is
  soon_enough b (claims.bound r) (Shorter letters) settled is = is
  soon_enough b (claims.bound r) (Refused K2) settled is = is
  soon_enough b (claims.bound r) (Refused (K1 bound)) settled is = absurd (spent_not settled)
  soon_enough b (claims.part r p) Part settled is = part_within b r p is
  soon_enough b (claims.part r p) (Shorter letters) settled is = is
  soon_enough b (claims.part r p) (Refused K2) settled is = is
  soon_enough b (claims.part r p) (Refused (K1 bound)) settled is = absurd (spent_not settled)
  soon_enough b asks _ settled is = is

-- the same by a guide of the bundle
pub found_enough : (v : ShownBundle) (few budget : ℕ) → few ≤ budget → (claim : ShownClaim) (found : Finding) → is_spent found ≡ false
    → IsFoundFor v few claim found → IsFoundFor v budget claim found
found_enough v few budget less claim found settled is = record {
  guide = is.guide;
  is_guide = is.is_guide;
  leads = is.leads;
  leaves_out = is.leaves_out;
  is_found = soon_enough is.guide few budget less claim.board claim.asks found settled is.is_found;
}
