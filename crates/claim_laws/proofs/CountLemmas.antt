-- What a full table, a set of full tables and a parity leaf say of a board is no less than what folded ones say.
use Rattle.std.proofs.Common.{◌≡◌, ◌∙◌, ◌+◌, ◌%◌, ◌≤◌, ◌<◌, inl, inr, ap, ℕ, suc, zero, Bool, true, false, List, [], ◌∷◌, arith, cond, eqb, get_or}
use Rattle.std.proofs.Common.{length, refl, subst, sym}
use Rattle.std.specs.Prelude.{⊤, Any}
use Rattle.std.proofs.lemmas.Bool.{cases_lt, eqb-false, eqb-true}
use Rattle.puz_board.specs.Boards.{IsBoard, IsBoardOf}
use Rattle.puz_board.specs.Parity.{blank_parity}
use Rattle.puz_board.proofs.BoardLemmas.{side_of-board}
use Rattle.tab_rule.specs.declared.tables.Count.{Count}
use Rattle.tab_rule.specs.declared.tables.Count.TheVariants.{Finite, Never}
use Rattle.set_sum.specs.Bounds.{CountReaches}
use Rattle.set_sum.specs.Members.{MemberSays, board_for, table_of}
use Rattle.set_sum.specs.Raised.{raised, told_of}
use Rattle.set_sum.specs.Parts.{PartSays, ShownPart}
use Rattle.set_sum.specs.Sums.{AddUpTo, SetSays}
use Rattle.set_sum.specs.declared.members.Member.{Member}
use Rattle.set_sum.proofs.MemberLemmas.{board_for-good}
use Rattle.set_sum.proofs.PartLemmas.{part_none, part_within}

-- the one count is no more than the other
abbrev pub IsAtMost : Count → Count → Type 0
IsAtMost c Never = ⊤
IsAtMost (Finite d) (Finite e) = d ≤ e
IsAtMost Never (Finite e) = ⊥

-- the other table is full, and has the same tiles
pub record IsFullOf (p q : ShownPart) : Type 0 where
  pub tiles : q.tiles ≡ p.tiles
  pub full : q.is_folded ≡ false

full_of : (p : ShownPart) (q : ShownPart) → IsFullOf p q → q ≡ record { tiles = p.tiles; is_folded = false }
full_of p q is = λ i. record { tiles = is.tiles i; is_folded = is.full i }

part_most : (p q : ShownPart) → IsFullOf p q → (b : List ℕ) → IsBoard b → (c e : Count) → PartSays p b c → PartSays q b e → IsAtMost c e
part_most p q is b board c Never says also = tt
part_most p q is b board (Finite d) (Finite e) says also =
    let least = subst (λ r. PartSays r b (Finite e)) (full_of p q is) also in
    let within = part_within p b board d says least.path least.leads in
    let costs = least.costs in
    omega (arith, within, costs)
part_most p q is b board Never (Finite e) says also =
    let least = subst (λ r. PartSays r b (Finite e)) (full_of p q is) also in part_none p b board says least.path least.leads

-- ---- sets

module _ (n : ℕ) (folded full : List ShownPart) (are : (m : Member) → IsFullOf (table_of folded m) (table_of full m)) (b : List ℕ) (board : IsBoardOf n b) where
  member_most : (m : Member) (c e : Count) → MemberSays folded m b c → MemberSays full m b e → IsAtMost c e
  member_most m c e says also =
      let good = board_for-good n m b board in
      let own = subst (λ k. IsBoardOf k (board_for m b)) (sym (side_of-board n (board_for m b) good)) good in
      part_most (table_of folded m) (table_of full m) (are m) (board_for m b) own c e says also

  sum_most : (set : List Member) (d e : ℕ) → AddUpTo folded set b d → AddUpTo full set b e → d ≤ e
  sum_most [] d e says also = omega (arith, says, also)
  sum_most (m ∷ set) d e says also =
      let first = member_most m (Finite says.0) (Finite also.0) says.2 also.2 in
      let rest = sum_most set says.1 also.1 says.3 also.3 in
      let all = says.4 in
      let whole = also.4 in
      omega (arith, first, rest, all, whole)

  -- each of those that add up says a number
  adds_at : (set : List Member) (e : ℕ) → AddUpTo full set b e → (k : ℕ) (m : Member) → k < length set → (d : ℕ) × MemberSays full (get_or set k m) b (Finite d)
  adds_at [] e also k m low = absurd (omega (arith, low))
  adds_at (x ∷ set) e also zero m low = (also.0, also.2)
  adds_at (x ∷ set) e also (suc k) m low = adds_at set also.1 also.3 k m (omega (arith, low))

  -- so none of them never leads home
  none_adds : (set : List Member) (e : ℕ) → Any (λ m. MemberSays folded m b Never) set → ¬ AddUpTo full set b e
  none_adds set e never also =
      let m = never.1 in
      let found = adds_at set e also never.0 m never.2 in
      let says = subst (λ x. MemberSays full x b (Finite found.0)) never.3 found.1 in
      member_most m Never (Finite found.0) never.4 says

  -- what a set says of a board by folded tables is no more than it says by the full ones
  pub set_most : (set : List Member) (c e : Count) → SetSays folded set b c → SetSays full set b e → IsAtMost c e
  set_most set c Never says also = tt
  set_most set (Finite d) (Finite e) says also = sum_most set d e says also
  set_most set Never (Finite e) says also = absurd (none_adds set e says also)

-- ---- parity

raised_most : (parity d e : ℕ) → d ≤ e → raised parity d ≤ raised parity e
raised_most parity d e less = go (eqb (d % 2) parity) (eqb (e % 2) parity) refl refl
  where
    go : (x y : Bool) → eqb (d % 2) parity ≡ x → eqb (e % 2) parity ≡ y → cond x d (d + 1) ≤ cond y e (e + 1)
    go true true p q = less
    go true false p q = omega (arith, less)
    go false false p q = omega (arith, less)
    go false true p q =
        let here = eqb-true (e % 2) parity q in
        let apart = eqb-false (d % 2) parity p in
        elim (cases_lt d e) [
          | inl below ↦ omega (arith, below)
          | inr above ↦ let same : d ≡ e = omega (arith, less, above) in absurd (apart (ap (λ k. k % 2) same ∙ here))
        ]

-- a count that is no less reaches what the other reaches, taken by parity or not
pub told_most : (by_parity : Bool) (b : List ℕ) (c e : Count) (r : ℕ) → IsAtMost c e → CountReaches (told_of by_parity b c) r
    → CountReaches (told_of by_parity b e) r
told_most true b c Never r most reaches = tt
told_most false b c Never r most reaches = tt
told_most true b (Finite d) (Finite e) r most reaches = let more = raised_most (blank_parity b) d e most in omega (arith, more, reaches)
told_most false b (Finite d) (Finite e) r most reaches = omega (arith, most, reaches)
told_most by_parity b Never (Finite e) r most reaches = absurd most
