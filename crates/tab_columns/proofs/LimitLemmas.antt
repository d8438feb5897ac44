-- Whether a count is passed, block by block.
use Rattle.std.proofs.Common.{◌≡◌, ℕ, ◌+◌, ◌<◌, ◌≤◌, ◌⊎◌, Bool, true, false, ◌||◌, inl, inr, refl, subst, arith}
use Rattle.std.specs.Prelude.{◌↔◌, IsTrue}
use Rattle.std.proofs.lemmas.Bool.{cases_lt}
use Rattle.tab_file.specs.Tables.{Table}
use Rattle.tab_rule.specs.Blocks.{block_count}
use Rattle.tab_rule.specs.Limits.{IsPassed}
use Rattle.tab_rule.proofs.TableLemmas.{block_of}
use Rattle.tab_columns.specs.Limits.{BlockIsPast, BlockKeepsUpTo}

or_cases : (a b : Bool) → IsTrue (a || b) → IsTrue a ⊎ IsTrue b
or_cases true b is = inl refl
or_cases false b is = inr is

or_left : (a b : Bool) → IsTrue a → IsTrue (a || b)
or_left true b is = refl
or_left false b is = absurd (let wrong : false ≡ true = is in cc)

or_right : (a b : Bool) → IsTrue b → IsTrue (a || b)
or_right true b is = refl
or_right false b is = is

module _ (most : ℕ) (t : Table) where
  -- the blocks below this one keep the rule up to the count, and it is told whether an entry of theirs is past it
  pub record AreBelow (to : ℕ) (passed : Bool) : Type 0 where
    pub kept : (block : ℕ) → block < to → BlockKeepsUpTo most t block
    pub some : IsTrue passed → (block : ℕ) × (block < to) × BlockIsPast most t block
    pub none : (block : ℕ) → block < to → BlockIsPast most t block → IsTrue passed

  -- what is known of the blocks below one, with what is found of it, is known of one block more
  pub below_more : (to : ℕ) (passed past : Bool) → AreBelow to passed → BlockKeepsUpTo most t to × (IsTrue past ↔ BlockIsPast most t to)
      → AreBelow (to + 1) (passed || past)
  below_more to passed past are next = record {
    kept = λ block l. elim (cases_lt block to) [
      | inl low ↦ are.kept block low
      | inr high ↦ subst (BlockKeepsUpTo most t) (let e : to ≡ block = omega arith in e) next.0
    ];
    some = λ is. elim (or_cases passed past is) [
      | inl before ↦ let at = are.some before in let low : at.0 < to = at.1 in (at.0, omega arith, at.2)
      | inr here ↦ (to, omega arith, next.1.0 here)
    ];
    none = λ block l is. elim (cases_lt block to) [
      | inl low ↦ or_left passed past (are.none block low is)
      | inr high ↦ or_right passed past (next.1.1 (subst (BlockIsPast most t) (let e : block ≡ to = omega arith in e) is))
    ];
  }

  -- all blocks together
  pub passed_below : (to : ℕ) (passed : Bool) → AreBelow to passed → block_count t.pattern ≤ to → IsTrue passed ↔ IsPassed most t
  passed_below to passed are all = (
    λ is. let at = are.some is in record {
      keeps = λ number cells j number_is. let b = block_of t cells j number number_is in let low : b.0 < block_count t.pattern = b.1 in
          are.kept b.0 (omega arith) number b.2 cells j number_is;
      number = at.2.number;
      past = at.2.past;
    },
    λ is.
        let b = block_of t is.past.cells is.past.slot is.number is.past.is_number in
        let low : b.0 < block_count t.pattern = b.1 in
        are.none b.0 (omega arith) (record { number = is.number; in_block = b.2; past = is.past }),
  )
