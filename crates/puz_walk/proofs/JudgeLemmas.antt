-- Sums that a move changes, set by set.
use Rattle.std.proofs.Common.{◌≡◌, ◌≢◌, ℕ, ◌+◌, ◌-◌, ◌<◌, ◌≤◌, ◌&&◌, Bool, true, false}
use Rattle.std.proofs.Common.{List, length, Some, inl, inr}
use Rattle.std.proofs.Common.{refl, sym, ◌∙◌, ap₂, subst, arith}
use Rattle.std.specs.Int.{from_bool}
use Rattle.std.specs.Prelude.{bit_and}
use Rattle.std.proofs.lemmas.Bool.{cases_eq, true≢false}
use Rattle.tab_rule.specs.declared.tables.Count.TheVariants.{Finite}
use Rattle.set_sum.specs.Bundles.{ShownBundle, BundleSays, set_of}
use Rattle.set_sum.proofs.SumLemmas.{set_once}
use Rattle.puz_walk.specs.WordSpots.{AreKeptOf, Shifts}
use Rattle.puz_walk.specs.declared.word_spots.Kept.{Kept}

-- a set has one sum
pub sum_once : (v : ShownBundle) (set : ℕ) (b : List ℕ) (d e : ℕ) → BundleSays v set b (Finite d) → BundleSays v set b (Finite e) → d ≡ e
sum_once v set b d e one other = let same : Finite d ≡ Finite e = set_once v.tables (set_of v set) b (Finite d) (Finite e) one.says other.says in cc

-- where two facts hold together, each does
pub both_are : (a b : Bool) → (a && b) ≡ true → (a ≡ true) × (b ≡ true)
both_are true b is = (refl, is)
both_are false b is = absurd (true≢false (sym is))

-- ---- the sum after a move

-- the rise of a sum, as the bit of its owner's word tells it, where there are so many owners of the tile, one or none
abbrev pub rise_of : ℕ → ℕ → ℕ
rise_of bit owners = bit_and bit owners

module _ (bit owners : ℕ) (rises : Bool) (is : bit ≡ from_bool rises) where
  -- where the tile has an owner the sum rises by what its bit tells
  pub rise_owned : owners ≡ 1 → rise_of bit owners ≡ from_bool rises
  rise_owned one = ap₂ bit_and is one ∙ with_one rises
    where
      with_one : (b : Bool) → bit_and (from_bool b) 1 ≡ from_bool b
      with_one true = refl
      with_one false = refl

  -- and else it doesn't rise
  pub rise_free : owners ≡ 0 → rise_of bit owners ≡ 0
  rise_free none = ap₂ bit_and is none ∙ with_none rises
    where
      with_none : (b : Bool) → bit_and (from_bool b) 0 ≡ 0
      with_none true = refl
      with_none false = refl

-- the sum with its rise is no less than its fall, and without it the sum after the move
pub sum_shifted : (rises : Bool) (rise owners sum after : ℕ) → rise ≡ from_bool rises → owners ≡ 1 → Shifts (Some rises) sum after
    → (owners - rise ≤ sum + rise) × (sum + rise - (owners - rise) ≡ after)
sum_shifted true rise owners sum after is one shifts =
    let e : rise ≡ 1 = is in let f : after ≡ sum + 1 = shifts in (omega arith, omega arith)
sum_shifted false rise owners sum after is one shifts =
    let e : rise ≡ 0 = is in let f : sum ≡ after + 1 = shifts in (omega arith, omega arith)

-- ---- sets that follow

module _ (v : ShownBundle) (b next : List ℕ) where
  -- the first sets have followed the move, and the others not yet
  pub record IsHalf (count : ℕ) (kept : Kept) : Type 0 where
    pub done : (set : ℕ) → set < count → set < length v.sets → AreKeptOf v next kept set
    pub left : (set : ℕ) → count ≤ set → set < length v.sets → AreKeptOf v b kept set

  -- where the members of one more set follow, one more set has followed the move
  pub half_more : (count : ℕ) (kept new : Kept) → IsHalf count kept → AreKeptOf v next new count
      → ((other : ℕ) (x : List ℕ) → other < length v.sets → other ≢ count → AreKeptOf v x kept other → AreKeptOf v x new other)
      → IsHalf (count + 1) new
  half_more count kept new half follows others = record {
    done = λ set l there. elim (cases_eq set count) [
      | inl e ↦ subst (AreKeptOf v next new) (sym e) follows
      | inr ne ↦ others set next there ne (half.done set (omega arith) there)
    ];
    left = λ set l there. others set b there (λ e. omega arith) (half.left set (omega arith) there);
  }
