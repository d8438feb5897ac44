-- Boards that are open or cut off, by their sums and a margin.
use Rattle.std.proofs.Common.{◌≡◌, ℕ, ◌+◌, ◌<◌, ◌≤◌, true, List, length, slice_index, inl, inr, refl, subst, arith}
use Rattle.std.proofs.lemmas.Bool.{cases_order}
use Rattle.puz_board.specs.Boards.{IsBoardOf}
use Rattle.puz_board.specs.Parity.{blank_parity}
use Rattle.tab_rule.specs.declared.tables.Count.{Count}
use Rattle.tab_rule.specs.declared.tables.Count.TheVariants.{Finite, Never}
use Rattle.set_sum.specs.Bounds.{CountReaches}
use Rattle.set_sum.specs.Bundles.{ShownBundle, BundleSays, IsBundle, set_of}
use Rattle.set_sum.specs.Raised.{raised, told_of}
use Rattle.set_sum.proofs.SumLemmas.{set_once}
use Rattle.puz_walk.specs.Cuts.{GoesBeyond, margin_of}
use Rattle.puz_walk.specs.Walks.{IsCutOff, IsOpen}
use Rattle.puz_walk.proofs.MarginLemmas.{margin_some, parity_bit, raised_below, raised_reaches}

module _ (v : ShownBundle) (b : List ℕ) (bound margin : ℕ) (is : margin ≡ margin_of bound (blank_parity b)) where
  -- a count that is within the margin reaches the bound
  pub reaches : (count : Count) → ((d : ℕ) → count ≡ Finite d → bound < d + margin) → CountReaches (told_of true b count) bound
  reaches (Finite d) near = raised_reaches bound (blank_parity b) d (parity_bit b) (let l : bound < d + margin = near d refl in omega arith)
  reaches Never near = tt

  beyond : (limit : ℕ) → limit + margin ≡ bound + 1 → (count : Count) → CountReaches count limit → (d : ℕ) → count ≡ Finite d → bound < d + margin
  beyond limit sum (Finite e) high d same = let k : e ≡ d = (let f : Finite e ≡ Finite d = same in cc) in let l : limit ≤ e = high in omega arith
  beyond limit sum Never high d same = absurd (let f : Never ≡ Finite d = same in cc)

  -- a board some set of which goes beyond is cut off
  pub cut_from : (limit : ℕ) → limit + margin ≡ bound + 1 → GoesBeyond v b limit → IsCutOff v b bound
  cut_from limit sum goes = (goes.0, record { count = goes.1; says = goes.2; enough = reaches goes.1 (beyond limit sum goes.1 goes.3) })

  -- and each board is below a bound that is less than the margin
  pub cut_below : IsBundle v → IsBoardOf v.side b → bound < margin → IsCutOff v b bound
  cut_below bundle good low =
      let told = bundle.told 0 bundle.some_sets b good in
      (0, record { count = told.0; says = told.1; enough = reaches told.0 (λ d same. omega arith) })

  -- a sum of a board that isn't cut off is below by the margin
  pub below_from : (IsCutOff v b bound → ⊥) → (set d : ℕ) → BundleSays v set b (Finite d) → d + margin ≤ bound
  below_from not_cut set d says = elim (cases_order bound (d + margin)) [
    | inl same ↦ omega arith
    | inr rest ↦ elim rest [
      | inl low ↦ absurd (not_cut (
        set,
        record {
          count = Finite d;
          says = says;
          enough = reaches (Finite d) (λ e same. let k : d ≡ e = (let f : Finite d ≡ Finite e = same in cc) in omega arith);
        },
      ))
      | inr high ↦ omega arith
    ]
  ]

  -- where all sums are, it is open
  pub open_from : IsBundle v → IsBoardOf v.side b → (sums : List ℕ) → ((set : ℕ) → set < length v.sets → BundleSays v set b (Finite (slice_index sums set)))
      → ((set : ℕ) → set < length v.sets → slice_index sums set + margin ≤ bound) → IsOpen (record { bundle = v; board = b; bound = bound })
  open_from bundle good sums says below = record {
    board = good;
    some = (let low = below 0 bundle.some_sets in let some = margin_some bound (blank_parity b) in omega arith);
    not_cut = λ cut.
        let set : ℕ = cut.0 in
        let there = cut.1.says.there in
        let same : cut.1.count ≡ Finite (slice_index sums set) =
        set_once v.tables (set_of v set) b cut.1.count (Finite (slice_index sums set)) cut.1.says.says (says set there).says in
        let high : bound ≤ raised (blank_parity b) (slice_index sums set) = subst (λ k. CountReaches (told_of true b k) bound) same cut.1.enough in
        let low : raised (blank_parity b) (slice_index sums set) < bound =
        raised_below bound (blank_parity b) (slice_index sums set) (parity_bit b) (let l = below set there in omega arith) in
        omega arith;
  }
