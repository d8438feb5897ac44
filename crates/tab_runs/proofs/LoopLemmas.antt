-- The loops over moves, step by step.
use Rattle.std.proofs.Common.{◌≡◌, ◌≢◌, ℕ, zero, suc, ◌+◌, ◌*◌, ◌^◌, ◌<◌, ◌⊎◌, List, length, get_or, set, replicate, inl, inr, refl, sym, ◌∙◌, ap, subst, arith}
use Rattle.std.specs.Prelude.{bit_and}
use Rattle.std.specs.Int.{bit_at}
use Rattle.std.proofs.lemmas.Bool.{cases_eq}
use Rattle.std.proofs.lemmas.Nat.Bits.{bit_at-zero}
use Rattle.puz_board.specs.Cells.{Adjacent}
use Rattle.puz_board.specs.Masks.{IsMaskOf}
use Rattle.pat_place.specs.Patterns.{IsPattern}
use Rattle.pat_place.specs.Placements.{IsFree}
use Rattle.puz_board.proofs.BitLemmas.{both_in, in_below, in_both, in_or_out}
use Rattle.pat_place.proofs.ListLemmas.{all_at}
use Rattle.puz_board.proofs.CellLemmas.{few_cells}
use Rattle.tab_file.specs.Tables.{Table, slot_count}
use Rattle.tab_runs.specs.Rows.{IsOpen, IsRow, listed_below, place_in_run}
use Rattle.tab_runs.specs.RunPlaces.{AreRunEntries, IsRun}
use Rattle.tab_runs.specs.Steps.{AreLeastNear, IsBesideStep, IsDonePairStep, IsIndexStep, IsSingleStep, IsPairStep, IsRunStep, IsSomeLastStep}
use Rattle.tab_runs.specs.Steps.{IsStepAmong, IsTakenIn, IsTargetStep, IsTileStep}
use Rattle.tab_runs.proofs.MaskLemmas.{adjacent_back}
use Rattle.tab_runs.proofs.RowLemmas.{few_entries, open_low, place_low}
use Rattle.tab_runs.proofs.StepLemmas.{last_from_one, least_near_of_run, one_from_last}
use Rattle.tab_runs.proofs.TakenLemmas.{least_of_taken, taken_none, taken_same, taken_then}

-- a number is taken out of a mask
pub record IsTakenOut (mask number rest : ℕ) : Type 0 where
  pub was : bit_at mask number ≡ 1
  pub bits : rest < 2 ^ 32
  pub here : bit_at rest number ≡ 0
  pub others : (x : ℕ) → x < 32 → x ≢ number → bit_at rest x ≡ bit_at mask x

stays_out : (mask number rest x : ℕ) → IsTakenOut mask number rest → x < 32 → bit_at mask x ≡ 0 → bit_at rest x ≡ 0
stays_out mask number rest x is low out = elim (cases_eq x number) [ inl e ↦ ap (bit_at rest) e ∙ is.here | inr ne ↦ is.others x low ne ∙ out ]

-- a number that is left after another was taken out was in the mask before
pub was_in : (mask number rest x : ℕ) → IsTakenOut mask number rest → x < 32 → bit_at rest x ≡ 1 → bit_at mask x ≡ 1
was_in mask number rest x is low set = elim (cases_eq x number) [
  | inl e ↦ absurd (let z : bit_at rest x ≡ 0 = ap (bit_at rest) e ∙ is.here in omega arith)
  | inr ne ↦ sym (is.others x low ne) ∙ set
]

module _ (t : Table) (pat : IsPattern t.pattern) where
  cell_low : (c : ℕ) → c < t.pattern.side * t.pattern.side → c < 32
  cell_low c l = let few = few_cells t.pattern.side pat.low pat.high in omega arith

  -- where a cell of the board is beside another one, that one is beside it too
  pub back : (c d : ℕ) → c < t.pattern.side * t.pattern.side → Adjacent t.pattern.side c d → Adjacent t.pattern.side d c
  back c d l a = adjacent_back t.pattern.side pat.low pat.high c d l a

-- ---- the targets of one tile

-- those that are left, and what was met at the others
pub record AreTargets (t : Table) (p : List ℕ) (index : ℕ) (old new : List ℕ) (left : ℕ) : Type 0 where
  pub some : (f : ℕ) → bit_at left f ≡ 1 → IsFree t.pattern.side p f × Adjacent t.pattern.side (get_or p index 0) f
  pub taken : IsTakenIn old new (IsTargetStep t p index left)

module _ (t : Table) (pat : IsPattern t.pattern) (p : List ℕ) (run : IsRun t.pattern p) (index : ℕ) (low : index < length p) (old : List ℕ) where
  inside : get_or p index 0 < t.pattern.side * t.pattern.side
  inside = all_at p index run.inside low

  -- with all free cells beside a tile's as targets, nothing is taken in yet
  pub targets_start : (left : ℕ) → IsMaskOf left (λ f. IsFree t.pattern.side p f × Adjacent t.pattern.side (get_or p index 0) f)
      → AreTargets t p index old old left
  targets_start left is = record {
    some = λ f h. (is f).0 h;
    taken = taken_none old (IsTargetStep t p index left) (λ place e some s.
        let one = (is s.to).1 (s.free, back t pat s.to (get_or p index 0) s.free.0 s.adjacent) in let z = s.done in omega arith);
  }

  -- a target is done and out of those left when the tile's move to it is taken in
  pub targets_more : (mid new : List ℕ) (left f rest : ℕ) → AreTargets t p index old mid left → IsTakenOut left f rest
      → IsTakenIn mid new (IsTileStep t p index f) → AreTargets t p index old new rest
  targets_more mid new left f rest are out step = record {
    some = λ x h. are.some x (was_in left f rest x out (rest_low x h) h);
    taken = taken_then old mid new (IsTargetStep t p index left) (IsTileStep t p index f) (IsTargetStep t p index rest)
        (λ place e some s. record {
          to = s.to;
          free = s.free;
          adjacent = s.adjacent;
          done = stays_out left f rest s.to out (cell_low t pat s.to s.free.0) s.done;
          step = s.step;
        })
        (λ place e some s. (let w = are.some f out.was in
        record { to = f; free = w.0; adjacent = back t pat (get_or p index 0) f inside w.1; done = out.here; step = s }))
        (λ place e some s. elim (cases_eq s.to f) [
          | inl same ↦ inr (subst (λ x. IsTileStep t p index x place e) same s.step)
          | inr ne ↦ inl (record {
            to = s.to;
            free = s.free;
            adjacent = s.adjacent;
            done = sym (out.others s.to (cell_low t pat s.to s.free.0) ne) ∙ s.done;
            step = s.step;
          })
        ])
        are.taken step;
  }
    where
      rest_low : (x : ℕ) → bit_at rest x ≡ 1 → x < 32
      rest_low x h = in_below rest 32 x out.bits h

  -- with no target left, all moves of the tile to free cells beside it are taken in
  pub targets_all : (new : List ℕ) (left : ℕ) → AreTargets t p index old new left → left ≡ 0 → IsTakenIn old new (IsIndexStep t p index)
  targets_all new left are none = taken_same old new (IsTargetStep t p index left) (IsIndexStep t p index)
      (λ place e some s. record { to = s.to; free = s.free; adjacent = s.adjacent; step = s.step })
      (λ place e some s. record { to = s.to; free = s.free; adjacent = s.adjacent; done = ap (λ m. bit_at m s.to) none ∙ bit_at-zero s.to; step = s.step })
      are.taken

-- ---- the tiles

module _ (t : Table) (p old : List ℕ) where
  -- the moves of the first tiles and, behind them, those of the next one taken in are those of one tile more
  pub among_more : (mid new : List ℕ) (index : ℕ) → IsTakenIn old mid (IsStepAmong t p index) → IsTakenIn mid new (IsIndexStep t p index)
      → IsTakenIn old new (IsStepAmong t p (index + 1))
  among_more mid new index a b = taken_then old mid new (IsStepAmong t p index) (IsIndexStep t p index) (IsStepAmong t p (index + 1))
      (λ place e some s. record { index = s.index; low = (let l : s.index < index = s.low in omega arith); step = s.step })
      (λ place e some s. record { index = index; low = omega arith; step = s })
      (λ place e some s. elim (cases_eq s.index index) [
        | inl same ↦ inr (subst (λ i. IsIndexStep t p i place e) same s.step)
        | inr ne ↦ inl (record { index = s.index; low = (let l : s.index < index + 1 = s.low in omega arith); step = s.step })
      ])
      a b

-- ---- the last tile between two cells

module _ (t : Table) (pat : IsPattern t.pattern) (p : List ℕ) (run : IsRun t.pattern p) (own : List ℕ) (entries : AreRunEntries t p own) where
  -- the place that a row gives for an open cell is one of the run's own bytes
  pub own_low : (x c : ℕ) (row : List ℕ) → IsRow t.pattern.side (length t.pattern.tiles) p x row → IsOpen t.pattern.side p x c
      → get_or row (listed_below p x c) 0 < length own
  own_low x c row is o = let low = open_low t.pattern pat p run x row is c o in let e = entries.size in omega arith

  -- two entries taken in, each at the other's place, are the last tile's moves between two free cells
  pub pair_taken : (a b : ℕ) → IsFree t.pattern.side p a → IsFree t.pattern.side p b → b ≢ a → (row_a row_b : List ℕ)
      → IsRow t.pattern.side (length t.pattern.tiles) p a row_a → IsRow t.pattern.side (length t.pattern.tiles) p b row_b
      → (old mid new : List ℕ) → IsTakenIn old mid (IsSingleStep (get_or row_b (listed_below p b a) 0)
      (get_or own (get_or row_a (listed_below p a b) 0) 0))
      → IsTakenIn mid new (IsSingleStep (get_or row_a (listed_below p a b) 0) (get_or own (get_or row_b (listed_below p b a) 0) 0))
      → IsTakenIn old new (IsPairStep t p a b)
  pair_taken a b free_a free_b apart row_a row_b is_a is_b old mid new first second = taken_then old mid new
      (IsSingleStep (get_or row_b (listed_below p b a) 0) (get_or own (get_or row_a (listed_below p a b) 0) 0))
      (IsSingleStep (get_or row_a (listed_below p a b) 0) (get_or own (get_or row_b (listed_below p b a) 0) 0)) (IsPairStep t p a b)
      (λ place e some s. inl (last_from_one t pat p run own entries a b free_a free_b apart row_a row_b is_a is_b place e s))
      (λ place e some s. inr (last_from_one t pat p run own entries b a free_b free_a (λ q. apart (sym q)) row_b row_a is_b is_a place e s))
      (λ place e some s. elim s [
        | inl x ↦ inl (one_from_last t pat p run own entries a b free_a free_b apart row_a row_b is_a is_b place e x)
        | inr x ↦ inr (one_from_last t pat p run own entries b a free_b free_a (λ q. apart (sym q)) row_b row_a is_b is_a place e x)
      ])
      first second

-- ---- between one cell and those beside it

pub record AreBeside (t : Table) (p : List ℕ) (a mask : ℕ) (old new : List ℕ) (left : ℕ) : Type 0 where
  pub some : (x : ℕ) → bit_at left x ≡ 1 → (bit_at mask x ≡ 1) × Adjacent t.pattern.side a x
  pub taken : IsTakenIn old new (IsBesideStep t p a mask left)

module _ (t : Table) (pat : IsPattern t.pattern) (p : List ℕ) (a mask : ℕ) (old : List ℕ) where
  -- with all cells of the mask that are beside a left, nothing of their moves is taken in
  pub beside_start : (near : ℕ) → IsMaskOf near (Adjacent t.pattern.side a) → AreBeside t p a mask old old (bit_and near mask)
  beside_start near is = record {
    some = λ x h. (let parts = both_in near mask x h in (parts.1, (is x).0 parts.0));
    taken = taken_none old (IsBesideStep t p a mask (bit_and near mask)) (λ place e some s.
        let one = in_both near mask s.other ((is s.other).1 s.adjacent) s.listed in let z = s.done in omega arith);
  }

  -- a cell beside a is done when the last tile's moves between the two are taken in
  pub beside_more : (mid new : List ℕ) (left b rest : ℕ) → AreBeside t p a mask old mid left → IsTakenOut left b rest
      → IsTakenIn mid new (IsPairStep t p a b) → AreBeside t p a mask old new rest
  beside_more mid new left b rest are out step = record {
    some = λ x h. are.some x (was_in left b rest x out (rest_below x h) h);
    taken = taken_then old mid new (IsBesideStep t p a mask left) (IsPairStep t p a b) (IsBesideStep t p a mask rest)
        (λ place e some s. record {
          other = s.other;
          listed = s.listed;
          adjacent = s.adjacent;
          done = stays_out left b rest s.other out (cell_low t pat s.other s.adjacent.0) s.done;
          step = s.step;
        })
        (λ place e some s. (let w = are.some b out.was in record { other = b; listed = w.0; adjacent = w.1; done = out.here; step = s }))
        (λ place e some s. elim (cases_eq s.other b) [
          | inl same ↦ inr (subst (λ x. IsPairStep t p a x place e) same s.step)
          | inr ne ↦ inl (record {
            other = s.other;
            listed = s.listed;
            adjacent = s.adjacent;
            done = sym (out.others s.other (cell_low t pat s.other s.adjacent.0) ne) ∙ s.done;
            step = s.step;
          })
        ])
        are.taken step;
  }
    where
      rest_below : (x : ℕ) → bit_at rest x ≡ 1 → x < 32
      rest_below x h = in_below rest 32 x out.bits h

  -- with no cell beside a left, the moves between a and all cells of the mask beside it are taken in
  pub beside_all : (new : List ℕ) (left : ℕ) → AreBeside t p a mask old new left → left ≡ 0 → IsTakenIn old new (IsBesideStep t p a mask 0)
  beside_all new left are none = subst (λ m. IsTakenIn old new (IsBesideStep t p a mask m)) none are.taken

-- ---- all cells

pub record AreLeft (t : Table) (p old new : List ℕ) (left : ℕ) : Type 0 where
  pub some : (x : ℕ) → bit_at left x ≡ 1 → IsFree t.pattern.side p x
  pub taken : IsTakenIn old new (IsDonePairStep t p left)

pair_free : (t : Table) (p : List ℕ) (a b place e : ℕ) → IsPairStep t p a b place e → IsFree t.pattern.side p a × IsFree t.pattern.side p b × (b ≢ a)
pair_free t p a b place e s = elim s [ inl x ↦ (x.opens.last, x.opens.cell, x.opens.other) | inr x ↦ (x.opens.cell, x.opens.last, λ q. x.opens.other (sym q)) ]

turned : (t : Table) (p : List ℕ) (a b place e : ℕ) → IsPairStep t p a b place e → IsPairStep t p b a place e
turned t p a b place e s = elim s [ inl x ↦ inr x | inr x ↦ inl x ]

module _ (t : Table) (pat : IsPattern t.pattern) (p old : List ℕ) where
  -- with all free cells left, no move of the last tile is taken in yet
  pub left_start : (left : ℕ) → IsMaskOf left (IsFree t.pattern.side p) → AreLeft t p old old left
  left_start left is = record {
    some = λ x h. (is x).0 h;
    taken = taken_none old (IsDonePairStep t p left) (λ place e some s.
        let one = (is s.one).1 (pair_free t p s.one s.other place e s.step).0 in let z = s.done in omega arith);
  }

  -- a cell is done when its moves to the cells beside it that are still left are taken in
  pub left_more : (mid new : List ℕ) (left a rest : ℕ) → AreLeft t p old mid left → IsTakenOut left a rest
      → IsTakenIn mid new (IsBesideStep t p a rest 0) → AreLeft t p old new rest
  left_more mid new left a rest are out step = record {
    some = λ x h. are.some x (was_in left a rest x out (left_below x h) h);
    taken = taken_then old mid new (IsDonePairStep t p left) (IsBesideStep t p a rest 0) (IsDonePairStep t p rest)
        (λ place e some s. record {
          one = s.one;
          other = s.other;
          adjacent = s.adjacent;
          done = stays_out left a rest s.one out (cell_low t pat s.one (pair_free t p s.one s.other place e s.step).0.0) s.done;
          step = s.step;
        })
        (λ place e some s. record { one = a; other = s.other; adjacent = s.adjacent; done = out.here; step = s.step })
        either
        are.taken step;
  }
    where
      left_below : (x : ℕ) → bit_at rest x ≡ 1 → x < 32
      left_below x h = in_below rest 32 x out.bits h

      either : (place e : ℕ) → 0 < place → IsDonePairStep t p rest place e → IsDonePairStep t p left place e ⊎ IsBesideStep t p a rest 0 place e
      either place e some s =
          let w = pair_free t p s.one s.other place e s.step in
          elim (cases_eq s.one a) [
            | inr ne ↦ inl (record {
              one = s.one;
              other = s.other;
              adjacent = s.adjacent;
              done = sym (out.others s.one (cell_low t pat s.one w.0.0) ne) ∙ s.done;
              step = s.step;
            })
            | inl same ↦ elim (in_or_out rest s.other) [
              | inl listed ↦ inr (record {
                other = s.other;
                listed = listed;
                adjacent = subst (λ x. Adjacent t.pattern.side x s.other) same s.adjacent;
                done = bit_at-zero s.other;
                step = subst (λ x. IsPairStep t p x s.other place e) same s.step;
              })
              | inr gone ↦ inl (record {
                one = s.other;
                other = s.one;
                adjacent = back t pat s.one s.other w.0.0 s.adjacent;
                done = sym (out.others s.other (cell_low t pat s.other w.1.0) (λ q. w.2 (q ∙ sym same))) ∙ gone;
                step = turned t p s.one s.other place e s.step;
              })
            ]
          ]

  -- with no free cell left, all moves of the last tile are taken in
  pub left_all : (new : List ℕ) (left : ℕ) → AreLeft t p old new left → left ≡ 0 → IsTakenIn old new (IsSomeLastStep t p)
  left_all new left are none = taken_same old new (IsDonePairStep t p left) (IsSomeLastStep t p)
      (λ place e some s.
      let w = pair_free t p s.one s.other place e s.step in
      elim s.step [
        | inl x ↦ record { from = s.one; to = s.other; adjacent = back t pat s.one s.other w.0.0 s.adjacent; step = x }
        | inr x ↦ record { from = s.other; to = s.one; adjacent = s.adjacent; step = x }
      ])
      (λ place e some s. record {
        one = s.to;
        other = s.from;
        adjacent = s.adjacent;
        done = ap (λ m. bit_at m s.to) none ∙ bit_at-zero s.to;
        step = inr s.step;
      })
      are.taken

-- ---- all moves of a run

get_replicate : (m i x : ℕ) → i < m → get_or (replicate m x) i 0 ≡ x
get_replicate zero i x l = absurd (omega arith)
get_replicate (suc m) zero x l = refl
get_replicate (suc m) (suc i) x l = get_replicate m i x (omega arith)

-- all tiles' moves taken into a column of 255 give the least entry one move away, at each slot's place
pub all_near : (t : Table) → IsPattern t.pattern → (p : List ℕ) → IsRun t.pattern p → (mid new : List ℕ)
    → IsTakenIn (replicate 256 255) mid (IsStepAmong t p (length p)) → IsTakenIn mid new (IsSomeLastStep t p) → AreLeastNear t p new
all_near t pat p run mid new first second c j free low =
    let place = place_low t.pattern.side (slot_count t.pattern) p c j run.inside run.apart free low in
    let few = few_entries t.pattern pat p run in
    let at : ℕ = place_in_run (slot_count t.pattern) p c j in
    let all : IsTakenIn (replicate 256 255) new (IsRunStep t p) =
    taken_then (replicate 256 255) mid new (IsStepAmong t p (length p)) (IsSomeLastStep t p) (IsRunStep t p)
    (λ place e some s. inl s) (λ place e some s. inr s) (λ place e some s. s) first second in
    least_near_of_run t pat p run c j free low (get_or new at 0)
    (least_of_taken (replicate 256 255) new (IsRunStep t p) all at (omega arith) (get_replicate 256 at 255 (omega arith)))

-- one entry taken in at one place is so too where place and entry have other names
pub one_as : (old new : List ℕ) (at other value same : ℕ) → at ≡ other → value ≡ same → IsTakenIn old new (IsSingleStep at value)
    → IsTakenIn old new (IsSingleStep other same)
one_as old new at other value same e f is = subst (λ v. IsTakenIn old new (IsSingleStep other v)) f (subst (λ x. IsTakenIn old new (IsSingleStep x value)) e is)
