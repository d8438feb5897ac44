-- Masks that grow until they have all that is reached, each in its own free cells.
use Rattle.std.proofs.Common.{◌≡◌, ℕ, zero, suc, ◌-◌, ◌<◌, ◌≤◌, ◌⊎◌, inl, inr, List, [], ◌∷◌, length, get_or, refl, sym, ◌∙◌, subst, arith}
use Rattle.std.proofs.lemmas.Bool.{cases_eq}
use lib.Lanes.{zip2, sum_l}
use Rattle.puz_board.specs.Masks.{IsMaskOf}
use Rattle.puz_board.specs.Paths.{here}
use Rattle.puz_board.proofs.BitLemmas.{IsIn, sub_le}
use Rattle.puz_board.proofs.RegionLemmas.{reaches_further, stays_inside}
use Rattle.tab_lanes.specs.Floods.{AllMayGrow, AreGrown, IsAStepAway, IsReached, MayGrow}

-- ---- one mask

-- the cells that are found so far
pub record IsFlooding (n free mask region : ℕ) : Type 0 where
  pub start : (c : ℕ) → IsIn mask c → IsIn region c
  pub inside : (c : ℕ) → IsIn region c → IsIn free c
  pub reached : (d : ℕ) → IsIn region d → IsReached n free mask d

module _ (n free mask : ℕ) where
  begins : MayGrow n free mask → IsFlooding n free mask mask
  begins may = record { start = (λ c h. h); inside = may.inside; reached = (λ d h. (d, h, here)) }

  module _ (region more : ℕ) (so_far : IsFlooding n free mask region) (is : IsMaskOf more (IsAStepAway n free region)) where
    goes_on : IsFlooding n free mask more
    goes_on = record {
      start = (λ c h. (is c).1 (inl (so_far.start c h)));
      inside = (λ c h. elim ((is c).0 h) [ inl a ↦ so_far.inside c a | inr b ↦ b.0 ]);
      reached = (λ d h. elim ((is d).0 h) [
        | inl a ↦ so_far.reached d a
        | inr b ↦ (let from = so_far.reached b.1 b.2 in (from.0, from.1, reaches_further n free mask from.2 b.3 b.0))
      ]);
    }

    ends : more ≡ region → IsMaskOf more (IsReached n free mask)
    ends same =
        let whole = subst (λ m. IsMaskOf m (IsAStepAway n free region)) same is in
        subst (λ m. IsMaskOf m (IsReached n free mask)) (sym same)
        (λ d. (so_far.reached d, λ r. stays_inside n free mask region whole r.2 (so_far.start r.0 r.1)))

    no_smaller : region ≤ more
    no_smaller = sub_le region more (λ x h. (is x).1 (inl h))

    bounded : more ≤ free
    bounded = sub_le more free goes_on.inside

-- ---- a column of masks

pub record AreFlooding (n : ℕ) (masks free regions : List ℕ) : Type 0 where
  pub len : length regions ≡ length masks
  pub each : (i : ℕ) → i < length masks → IsFlooding n (get_or free i 0) (get_or masks i 0) (get_or regions i 0)

-- how much the masks may still gain, as numbers
abbrev pub room_of : List ℕ → List ℕ → ℕ
room_of free regions = sum_l (zip2 (λ f r. f - r) free regions)

less_room : (fs os ns : List ℕ) → length os ≡ length fs → length ns ≡ length fs
    → ((i : ℕ) → i < length fs → (get_or os i 0 ≤ get_or ns i 0) × (get_or ns i 0 ≤ get_or fs i 0))
    → (room_of fs ns < room_of fs os) ⊎ ((room_of fs ns ≡ room_of fs os) × ((i : ℕ) → i < length fs → get_or ns i 0 ≡ get_or os i 0))
less_room [] os ns p q h = inr (refl, λ i l. absurd (omega arith))
less_room (f ∷ fs) [] ns p q h = absurd (omega arith)
less_room (f ∷ fs) (o ∷ os) [] p q h = absurd (omega arith)
less_room (f ∷ fs) (o ∷ os) (n ∷ ns) p q h =
    let up = (h 0 (omega arith)).0 in
    let most = (h 0 (omega arith)).1 in
    elim (less_room fs os ns (omega arith) (omega arith) (λ i l. h (suc i) (omega arith))) [
      | inl less ↦ inl (omega arith)
      | inr rest ↦ elim (cases_eq n o) [
        | inl same ↦ inr ((let e = rest.0 in omega arith), λ i l. at i same rest.1 l)
        | inr differs ↦ inl (let e = rest.0 in omega arith)
      ]
    ]
  where
    at : (i : ℕ) → n ≡ o → ((j : ℕ) → j < length fs → get_or ns j 0 ≡ get_or os j 0) → i < length (f ∷ fs) → get_or (n ∷ ns) i 0 ≡ get_or (o ∷ os) i 0
    at zero same rest l = same
    at (suc i) same rest l = rest i (omega arith)

module _ (n : ℕ) (masks free : List ℕ) (grow : AllMayGrow n masks free) where
  -- at first, the cells that are found are those of the masks themselves
  pub flooding_begins : AreFlooding n masks free masks
  flooding_begins = record { len = refl; each = (λ i l. begins n (get_or free i 0) (get_or masks i 0) (grow.each i (omega arith) l)) }

  module _ (regions : List ℕ) (so_far : AreFlooding n masks free regions) where
    -- what is found so far may grow on over the free cells
    pub regions_may_grow : AllMayGrow n regions free
    regions_may_grow = record {
      lengths = so_far.len ∙ grow.lengths;
      each = (λ i low l.
          let inside : i < length masks = let e = so_far.len in omega arith in
          record { on_board = (grow.each i low inside).on_board; inside = (so_far.each i inside).inside });
    }

    module _ (more : List ℕ) (step : AreGrown (IsAStepAway n) regions free more) where
      stepped : (i : ℕ) → i < length masks → IsMaskOf (get_or more i 0) (IsAStepAway n (get_or free i 0) (get_or regions i 0))
      stepped i l = step.each i (let e = so_far.len in omega arith)

      -- after one step more, all that is found is still free and reached
      pub flooding_goes_on : AreFlooding n masks free more
      flooding_goes_on = record {
        len = step.len ∙ so_far.len;
        each = (λ i l. goes_on n (get_or free i 0) (get_or masks i 0) (get_or regions i 0) (get_or more i 0) (so_far.each i l) (stepped i l));
      }

      -- where a step gains no cell in any place, all that is reached is found
      pub flooding_ends : ((i : ℕ) → i < length masks → get_or more i 0 ≡ get_or regions i 0) → AreGrown (IsReached n) masks free more
      flooding_ends same = record {
        len = step.len ∙ so_far.len;
        each = (λ i l. ends n (get_or free i 0) (get_or masks i 0) (get_or regions i 0) (get_or more i 0) (so_far.each i l) (stepped i l) (same i l));
      }

      -- less room is left, or nothing was gained
      pub flooding_falls : (room_of free more < room_of free regions) ⊎ ((i : ℕ) → i < length masks → get_or more i 0 ≡ get_or regions i 0)
      flooding_falls =
          elim (less_room free regions more (so_far.len ∙ grow.lengths) (step.len ∙ so_far.len ∙ grow.lengths) (λ i l.
          let inside : i < length masks = let e = grow.lengths in omega arith in (
            no_smaller n (get_or free i 0) (get_or masks i 0) (get_or regions i 0) (get_or more i 0) (so_far.each i inside) (stepped i inside),
            bounded n (get_or free i 0) (get_or masks i 0) (get_or regions i 0) (get_or more i 0) (so_far.each i inside) (stepped i inside),
          ))) [
            | inl less ↦ inl less
            | inr same ↦ inr (λ i l. same.1 i (let e = grow.lengths in omega arith))
          ]
