-- The sums of a board, by what is kept of them and by what the sets say.
use Rattle.std.proofs.Common.{◌≡◌, ℕ, zero, suc, ◌<◌, ◌≤◌, ◌⊎◌, inl, inr, List, length, slice_index, Option, Some, None, IfNone, IfSome, refl, sym}
use Rattle.std.proofs.Common.{◌∙◌, subst, arith}
use Rattle.std.proofs.lemmas.Bool.{cases_eq, cases_order}
use Rattle.puz_board.specs.Boards.{IsBoardOf}
use Rattle.puz_board.specs.Parity.{blank_parity}
use Rattle.tab_rule.specs.declared.tables.Count.{Count}
use Rattle.tab_rule.specs.declared.tables.Count.TheVariants.{Finite, Never}
use Rattle.set_sum.specs.Bounds.{CountReaches}
use Rattle.set_sum.specs.Bundles.{BundleSays, IsBundle, ShownBundle, set_of}
use Rattle.set_sum.proofs.SumLemmas.{set_once}
use Rattle.puz_walk.specs.Cuts.{GoesBeyond, margin_of}
use Rattle.puz_walk.specs.Starts.{AreSumsOn, HasSmallSums, IsStart}
use Rattle.puz_walk.specs.Walks.{IsCutOff}
use Rattle.puz_walk.specs.declared.starts.Start.{Start}
use Rattle.puz_walk.proofs.JudgeLemmas.{sum_once}
use Rattle.puz_walk.proofs.OpenLemmas.{reaches}

module _ (v : ShownBundle) (b sums : List ℕ) where
  said_from : AreSumsOn v b sums → (set : ℕ) → (count : Count) → BundleSays v set b count → BundleSays v set b (Finite (slice_index sums set))
  said_from are set (Finite d) says = subst (λ x. BundleSays v set b (Finite x)) (are.each set d says) says
  said_from are set Never says = absurd (are.some set says)

  -- each set says the sum that is kept for it
  pub sum_said : IsBundle v → IsBoardOf v.side b → AreSumsOn v b sums → (set : ℕ) → set < length v.sets → BundleSays v set b (Finite (slice_index sums set))
  sum_said bundle good are set low = let told = bundle.told set low b good in said_from are set told.0 told.1

  -- where each set says the sum that is kept for it, these are the sums
  pub sums_from : length sums ≡ 16 → ((set : ℕ) → set < length v.sets → BundleSays v set b (Finite (slice_index sums set))) → AreSumsOn v b sums
  sums_from room says = record {
    room = room;
    each = λ set d other. sum_once v set b d (slice_index sums set) other (says set other.there);
    some = λ set never.
        let same : Finite (slice_index sums set) ≡ Never =
        set_once v.tables (set_of v set) b (Finite (slice_index sums set)) Never (says set never.there).says never.says in
        cc;
  }

-- ---- sums of more than 255

far : (count : Count) → CountReaches count 256 → (d : ℕ) → count ≡ Finite d → 256 ≤ d
far (Finite e) high d same = let k : e ≡ d = (let f : Finite e ≡ Finite d = same in cc) in let l : 256 ≤ e = high in omega arith
far Never high d same = absurd (let f : Never ≡ Finite d = same in cc)

cut_beyond : (v : ShownBundle) (b : List ℕ) (r : ℕ) → r ≤ 255 → GoesBeyond v b 256 → IsCutOff v b r
cut_beyond v b r small goes = (
  goes.0,
  record {
    count = goes.1;
    says = goes.2;
    enough = reaches v b r (margin_of r (blank_parity b)) refl goes.1 (λ d same. let high = far goes.1 goes.3 d same in omega arith);
  },
)

module _ (v : ShownBundle) (b : List ℕ) where
  abbrev IsSmall : ℕ → Type 0
  IsSmall set = (d : ℕ) × BundleSays v set b (Finite d) × (d ≤ 255)

  one_set : (set : ℕ) (count : Count) → BundleSays v set b count → IsSmall set ⊎ GoesBeyond v b 256
  one_set set (Finite d) says = elim (cases_order d 255) [
    | inl same ↦ inl (d, says, (omega arith))
    | inr rest ↦ elim rest [
      | inl low ↦ inl (d, says, (omega arith))
      | inr high ↦ inr (set, Finite d, says, (let l : 256 ≤ d = omega arith in l))
    ]
  ]
  one_set set Never says = inr (set, Never, says, tt)

  some_sets : IsBundle v → IsBoardOf v.side b → (n : ℕ) → n ≤ length v.sets → ((set : ℕ) → set < n → IsSmall set) ⊎ GoesBeyond v b 256
  some_sets bundle good zero few = inl (λ set low. absurd (omega arith))
  some_sets bundle good (suc n) few = elim (some_sets bundle good n (omega arith)) [
    | inr goes ↦ inr goes
    | inl small ↦
        let told = bundle.told n (omega arith) b good in
        elim (one_set n told.0 told.1) [
          | inr goes ↦ inr goes
          | inl here ↦ inl (λ set low. elim (cases_eq set n) [
            | inl same ↦ subst IsSmall (sym same) here
            | inr other ↦ small set (omega arith)
          ])
        ]
  ]

  -- a board of which not each set says a sum of at most 255 is cut off below each bound up to 255
  pub cut_without_sums : IsBundle v → IsBoardOf v.side b → ¬ HasSmallSums v b → (r : ℕ) → r ≤ 255 → IsCutOff v b r
  cut_without_sums bundle good none r small = elim (some_sets bundle good (length v.sets) (omega arith)) [
    | inl all ↦ absurd (none all)
    | inr goes ↦ cut_beyond v b r small goes
  ]

  -- where some set goes beyond 255, not each says a sum of at most 255
  pub none_small : GoesBeyond v b 256 → ¬ HasSmallSums v b
  none_small goes all =
      let here = all goes.0 goes.2.there in
      let same = set_once v.tables (set_of v goes.0) b goes.1 (Finite here.0) goes.2.says here.1.says in
      let high = far goes.1 goes.3 here.0 same in
      let low = here.2 in
      omega arith

  -- what the sets say of a board, up to 255, is what a search begins with
  pub start_from : IsBoardOf v.side b → (sums : Option (List ℕ)) → IfSome sums (λ sums. length sums ≡ 16)
      → IfSome sums (λ sums. (set : ℕ) → set < length v.sets → BundleSays v set b (Finite (slice_index sums set)) × (slice_index sums set ≤ 255))
      → IfNone sums (GoesBeyond v b 256) → (start : Start) → start.board ≡ b → start.sums ≡ sums → IsStart v start
  start_from good (Some sums) room says none start board is = record {
    board = subst (IsBoardOf v.side) (sym board) good;
    some = λ other same.
        let one : sums ≡ other = (let s : Some sums ≡ Some other = sym is ∙ same in cc) in
        subst (λ x. AreSumsOn v x other) (sym board) (subst (AreSumsOn v b) one (sums_from v b sums room (λ set low. (says set low).0)));
    none = λ same. absurd (let s : Some sums ≡ None = sym is ∙ same in cc);
  }
  start_from good None room says none start board is = record {
    board = subst (IsBoardOf v.side) (sym board) good;
    some = λ other same. absurd (let s : None ≡ Some other = sym is ∙ same in cc);
    none = λ same. subst (λ x. ¬ HasSmallSums v x) (sym board) (none_small none);
  }
