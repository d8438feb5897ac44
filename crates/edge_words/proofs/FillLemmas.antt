-- Words filled in run by run.
use Rattle.std.proofs.Common.{◌≡◌, ◌≢◌, ℕ, zero, suc, ◌+◌, ◌-◌, ◌*◌, ◌/◌, ◌^◌, ◌<◌, ◌≤◌, ◌⊎◌, List, [], ◌∷◌, ◌++◌, length, drop}
use Rattle.std.proofs.Common.{take, get_or, set, inl, inr, refl, sym, ◌∙◌, ap, ap₂, subst, arith, get_or-set_same, get_or-set_other, length-set}
use Rattle.std.specs.List.{AllByRecursion}
use Rattle.std.specs.Prelude.{slice_index, slice_set}
use Rattle.std.proofs.lemmas.Bool.{cases_eq, cases_lt}
use Rattle.std.proofs.lemmas.List.{get_or-append-add, get_or-take, get_or_append_left, length-append, length-take-le}
use Rattle.std.proofs.lemmas.Nat.{div-add-mod', div-mul-add, mul-add-lt, mul-le, same_from_place}
use Rattle.std.proofs.Math.Nat.{pow-suc}
use Rattle.pat_place.specs.Patterns.{IsPattern, ShownPattern}
use Rattle.pat_place.specs.Placements.{IsApart, IsFree, IsPlacement}
use Rattle.tab_runs.specs.RunPlaces.{IsRun}
use Rattle.tab_runs.specs.Runs.{with_last}
use Rattle.tab_runs.proofs.RunAtLemmas.{apart_front, inside_front, same_last}
use Rattle.edge_words.specs.Edges.{AreBefore}
use Rattle.edge_words.specs.Fills.{AreAllTold, AreToldBelow, AreToldUpTo, IsFillable, IsSpan, place_in, run_count}
use Rattle.edge_words.specs.Indexes.{index_count, index_in}
use Rattle.edge_words.specs.Words.{AreEdgeWords, IsEdgeWord}
use Rattle.edge_words.specs.declared.fills.Span.{Span}
use Rattle.edge_words.proofs.IndexLemmas.{index_of-append, index_of-below, index_of-one}

-- the first part of a span
pub part_low : (low high threads half : ℕ) → low ≤ high → half ≤ threads → low + (high - low) / threads * half ≤ high
part_low low high threads half order part =
    let split = div-add-mod' (high - low) threads in
    let less : (high - low) / threads * half ≤ (high - low) / threads * threads =
    mul-le ((high - low) / threads) half ((high - low) / threads) threads (omega arith) part in
    omega arith

-- a cell put in front of those from there on
pub drop_set : (i : ℕ) (xs : List ℕ) (x : ℕ) → i < length xs → drop i (set xs i x) ≡ x ∷ drop (suc i) xs
drop_set i [] x low = absurd (omega arith)
drop_set zero (y ∷ ys) x low = refl
drop_set (suc i) (y ∷ ys) x low = drop_set i ys x (omega arith)

module _ (p : ShownPattern) where
  -- the count of a board's cells, to which base runs are indexed
  abbrev pub base : ℕ
  base = p.side * p.side

  run_size : (cells : List ℕ) → IsRun p cells → length cells ≡ length p.tiles - 1
  run_size cells run = let e = run.size in omega arith

  -- the index of a run
  pub index_low : (cells : List ℕ) → IsRun p cells → index_in p cells < run_count p
  index_low cells run = subst (λ k. index_in p cells < base ^ k) (run_size cells run) (index_of-below base cells run.inside)

  -- two runs of a pattern with one index have the same cells
  pub index_once : (cells others : List ℕ) → IsRun p cells → IsRun p others → index_in p cells ≡ index_in p others → cells ≡ others
  index_once cells others run also = index_of-one base cells others (run_size cells run ∙ sym (run_size others also)) run.inside also.inside

  -- there are as many indexes of placements as indexes of runs times cells
  pub count_is : IsPattern p → index_count p ≡ run_count p * base
  count_is pat =
      let some = pat.some in
      let next : length p.tiles ≡ suc (length p.tiles - 1) = omega arith in
      ap (λ k. base ^ k) next ∙ pow-suc base (length p.tiles - 1)

  -- how many runs there are, from the count of all
  pub runs_are : IsPattern p → (count cells : ℕ) → count ≡ index_count p → cells ≡ base → count / cells ≡ run_count p
  runs_are pat count cells all cells_are =
      let low = pat.low in
      let square : 2 * 2 ≤ base = mul-le 2 2 p.side p.side low low in
      let turned : run_count p * base ≡ run_count p * base + 0 = omega arith in
      ap₂ (λ a b. a / b) (all ∙ count_is pat ∙ turned) cells_are ∙ div-mul-add (run_count p) base 0 (omega arith)

  -- as many words as a part of the runs has are no more than the most
  pub part_fits : IsPattern p → index_count p ≤ 2 ^ 28 → (part : ℕ) → part ≤ run_count p → part * base ≤ 2 ^ 28
  part_fits pat few part within =
      let all : part * base ≤ run_count p * base = mul-le part base (run_count p) base within (omega arith) in
      let count = count_is pat in
      omega arith

  module _ (s : Span) where
    -- the place of a word, of a span's run and a last cell, is below the count of the span's words
    pub place_low : (index last : ℕ) → s.low ≤ index → index < s.high → last < base → (index - s.low) * base + last < (s.high - s.low) * base
    place_low index last from to low =
        let h : (index - s.low) * base + last < base * (s.high - s.low) = mul-add-lt (index - s.low) base last (s.high - s.low) (omega arith) low in
        omega arith

    -- where there are at most 2^28 indexes, the place of a word in its span is below 2^28
    pub place_fits : IsPattern p → index_count p ≤ 2 ^ 28 → IsSpan p s → (index last : ℕ) → s.low ≤ index → index < s.high → last < base
        → (index - s.low) * base + last < 2 ^ 28
    place_fits pat few span index last from to low =
        let h = place_low index last from to low in
        let within = span.within in
        let all = part_fits pat few (s.high - s.low) (omega arith) in
        omega arith

    -- at first there are none
    pub told_none : (words : List ℕ) → length words ≡ (s.high - s.low) * base → AreToldBelow p s s.low words
    told_none words size = record { size = size; each = λ cells last run free from to done. absurd (omega arith) }

    -- and none of the next run
    pub told_start : (index : ℕ) (words : List ℕ) → AreToldBelow p s index words → AreToldUpTo p s index 0 words
    told_start index words told = record {
      size = told.size;
      each = λ cells last run free from to done. elim done [
        | inl below ↦ told.each cells last run free from to below
        | inr here ↦ absurd (let l = here.1 in omega arith)
      ];
    }

    -- one word more, which tells where the last tile can be in the cell
    pub told_more : (run_cells : List ℕ) → IsRun p run_cells → (index end : ℕ) → index_in p run_cells ≡ index → s.low ≤ index → index < s.high
        → end < base → (words : List ℕ) → AreToldUpTo p s index end words
        → (word : ℕ) → (IsFree p.side run_cells end → IsEdgeWord p (with_last run_cells end) word) → (at : ℕ) → at ≡ (index - s.low) * base + end
        → AreToldUpTo p s index (end + 1) (slice_set words at word)
    told_more run_cells is index end at_index from_low to_high small words told word tells at at_is = record {
      size = length-set words at word ∙ told.size;
      each = each;
    }
      where
        low : at < length words
        low = let l = place_low index end from_low to_high small in let size = told.size in omega arith

        same_place : (cells : List ℕ) (last : ℕ) → IsRun p cells → last < base → s.low ≤ index_in p cells → at ≡ place_in p s cells last
            → (last ≡ end) × (cells ≡ run_cells)
        same_place cells last run inside from e =
            let parts = same_from_place (index_in p cells - s.low) last (index - s.low) end base inside small (sym e ∙ at_is) in
            (parts.1, index_once cells run_cells run is (let h = parts.0 in omega arith))

        each : (cells : List ℕ) (last : ℕ) → IsRun p cells → IsFree p.side cells last → s.low ≤ index_in p cells → index_in p cells < s.high
            → ((index_in p cells < index) ⊎ ((index_in p cells ≡ index) × (last < end + 1)))
            → IsEdgeWord p (with_last cells last) (slice_index (slice_set words at word) (place_in p s cells last))
        each cells last run free from to done = elim (cases_eq at (place_in p s cells last)) [
          | inl e ↦
              let same = same_place cells last run free.0 from e in
              subst (λ k. IsEdgeWord p (with_last cells last) (slice_index (slice_set words at word) k)) e
              (subst (IsEdgeWord p (with_last cells last)) (sym (get_or-set_same words at word 0 low))
              (subst (λ c. IsEdgeWord p (with_last cells c) word) (sym same.0) (subst (λ xs. IsEdgeWord p (with_last xs end) word) (sym same.1)
              (tells (subst (λ xs. IsFree p.side xs end) same.1 (subst (IsFree p.side cells) same.0 free))))))
          | inr ne ↦
              subst (IsEdgeWord p (with_last cells last)) (sym (get_or-set_other words at (place_in p s cells last) word 0 (λ e. ne (sym e))))
              (told.each cells last run free from to (before cells last done (λ e both. ne (at_is ∙ sym (place_same cells last e both)))))
        ]
          where
            place_same : (cells : List ℕ) (last : ℕ) → last ≡ end → index_in p cells ≡ index → place_in p s cells last ≡ (index - s.low) * base + end
            place_same cells last e both = ap₂ (λ k c. (k - s.low) * base + c) both e

            before : (cells : List ℕ) (last : ℕ) → ((index_in p cells < index) ⊎ ((index_in p cells ≡ index) × (last < end + 1)))
                → (last ≡ end → index_in p cells ≡ index → ⊥)
                → (index_in p cells < index) ⊎ ((index_in p cells ≡ index) × (last < end))
            before cells last done apart = elim done [
              | inl below ↦ inl below
              | inr here ↦ elim (cases_eq last end) [
                | inl e ↦ absurd (apart e here.0)
                | inr other ↦ inr (here.0, (let l = here.1 in omega arith))
              ]
            ]

    -- the words of a run begin where those of the span's runs with lower indexes end
    pub told_before : (cells : List ℕ) → (index : ℕ) → index_in p cells ≡ index → s.low ≤ index → index < s.high → (words : List ℕ)
        → AreToldBelow p s index words → (start : ℕ) → start ≡ (index - s.low) * base → AreBefore p cells (take start words)
    told_before cells index at from to words told start start_is = record {
      each = λ others gap last run free some before fits.
          let long : length (take start words) ≡ start = length-take-le start words (omega (arith, start_low)) in
          let few : gap ≤ index - s.low = within gap last (omega arith) free.0 in
          let there : s.low ≤ index_in p others = omega arith in
          let parts : index_in p others - s.low + gap ≡ index - s.low = omega arith in
          let spread : (index_in p others - s.low + gap) * base ≡ (index_in p others - s.low) * base + gap * base = omega arith in
          let whole : (index_in p others - s.low + gap) * base ≡ (index - s.low) * base = ap (λ k. k * base) parts in
          let least : 1 * base ≤ gap * base = mul-le 1 base gap base some (omega arith) in
          let inside = free.0 in
          let place : length (take start words) - gap * base + last ≡ place_in p s others last = omega arith in
          let read : slice_index (take start words) (length (take start words) - gap * base + last) ≡ slice_index words (place_in p s others last) =
          get_or-take start words (length (take start words) - gap * base + last) 0 (omega arith) ∙ ap (slice_index words) place in
          subst (IsEdgeWord p (with_last others last)) (sym read)
          (told.each others last run free there (omega arith) (omega arith));
    }
      where
        start_low : start ≤ length words
        start_low =
            let all : (index - s.low) * base ≤ (s.high - s.low) * base = mul-le (index - s.low) base (s.high - s.low) base (omega arith) (omega arith) in
            let size = told.size in
            omega arith

        within : (gap last : ℕ) → gap * base ≤ start → last < base → gap ≤ index - s.low
        within gap last fits inside = elim (cases_lt (index - s.low) gap) [
          | inl more ↦ absurd (
              let next : suc (index - s.low) * base ≤ gap * base = mul-le (suc (index - s.low)) base gap base more (omega arith) in
              let spread : suc (index - s.low) * base ≡ (index - s.low) * base + base = omega arith in
              omega arith)
          | inr le ↦ le
        ]

    -- all of a run
    pub told_next : (index end : ℕ) (words : List ℕ) → base ≤ end → AreToldUpTo p s index end words → AreToldBelow p s (index + 1) words
    told_next index end words all told = record {
      size = told.size;
      each = λ cells last run free from to below. told.each cells last run free from to (split (index_in p cells) last below free.0);
    }
      where
        split : (k last : ℕ) → k < index + 1 → last < base → (k < index) ⊎ ((k ≡ index) × (last < end))
        split k last below inside = elim (cases_eq k index) [ inl e ↦ inr (e, omega arith) | inr ne ↦ inl (omega arith) ]

    -- no run has the index
    pub told_past : (index : ℕ) (words : List ℕ) → ((cells : List ℕ) → IsRun p cells → index_in p cells ≢ index) → AreToldBelow p s index words
        → AreToldBelow p s (index + 1) words
    told_past index words none told = record {
      size = told.size;
      each = λ cells last run free from to below. told.each cells last run free from to (let ne = none cells run in less (index_in p cells) below ne);
    }
      where
        less : (k : ℕ) → k < index + 1 → k ≢ index → k < index
        less k below ne = omega arith

    -- all runs
    pub told_all : (end : ℕ) (words : List ℕ) → s.high ≤ end → AreToldBelow p s end words → AreAllTold p s words
    told_all end words all told = record { size = told.size; each = λ cells last run free from to done. told.each cells last run free from to (omega arith) }

  -- two spans, one behind the other
  module _ (s : Span) (middle : ℕ) (from : s.low ≤ middle) (to : middle ≤ s.high) where
    -- the runs of a span before its middle
    abbrev pub lower : Span
    lower = record { low = s.low; high = middle }

    -- the runs of a span from its middle on
    abbrev pub upper : Span
    upper = record { low = middle; high = s.high }

    sizes : (middle - s.low) * base + (s.high - middle) * base ≡ (s.high - s.low) * base
    sizes =
        let e : middle - s.low + (s.high - middle) ≡ s.high - s.low = omega arith in
        let spread : (middle - s.low + (s.high - middle)) * base ≡ (middle - s.low) * base + (s.high - middle) * base = omega arith in
        sym spread ∙ ap (λ k. k * base) e

    -- the words of the runs before a span's middle are no more than those of the span
    pub lower_within : (words : List ℕ) → IsFillable p s words → (middle - s.low) * base ≤ length words
    lower_within words is = let both = sizes in let size = is.size in omega arith

    -- the front of a span's words, up to the middle, has the room that the lower half's words need
    pub lower_fillable : (words front : List ℕ) → IsFillable p s words → length front ≡ (middle - s.low) * base → IsFillable p lower front
    lower_fillable words front is long = record { span = record { order = from; within = (let w = is.span.within in omega arith) }; few = is.few; size = long }

    -- the back of a span's words, behind the front, has the room that the upper half's words need
    pub upper_fillable : (words front back : List ℕ) → IsFillable p s words → words ≡ front ++ back → length front ≡ (middle - s.low) * base
        → IsFillable p upper back
    upper_fillable words front back is whole long = record {
      span = record { order = to; within = is.span.within };
      few = is.few;
      size = (let e = ap length whole ∙ length-append front back in let size = is.size in let both = sizes in omega arith);
    }

    -- where both halves are told, the whole span is
    pub told_join : (front back : List ℕ) → AreAllTold p lower front → AreAllTold p upper back → AreAllTold p s (front ++ back)
    told_join front back one other = record {
      size = length-append front back ∙ (let a = one.size in let b = other.size in let both = sizes in omega arith);
      each = λ cells last run free begin end done. elim (cases_lt (index_in p cells) middle) [
        | inl below ↦
            let low : place_in p s cells last < length front = (let l = place_low lower (index_in p cells) last begin below free.0 in
            let size = one.size in omega arith) in
            subst (IsEdgeWord p (with_last cells last)) (sym (get_or_append_left front back 0 (place_in p s cells last) low))
            (one.each cells last run free begin below tt)
        | inr above ↦
            let split : index_in p cells - s.low ≡ middle - s.low + (index_in p cells - middle) = omega arith in
            let spread : (middle - s.low + (index_in p cells - middle)) * base ≡ (middle - s.low) * base + (index_in p cells - middle) * base = omega arith in
            let here : (index_in p cells - s.low) * base ≡ (middle - s.low) * base + (index_in p cells - middle) * base = ap (λ k. k * base) split ∙ spread in
            let size = one.size in
            let at : place_in p s cells last ≡ length front + place_in p upper cells last = omega arith in
            subst (IsEdgeWord p (with_last cells last))
            (sym (ap (slice_index (front ++ back)) at ∙ get_or-append-add front back (place_in p upper cells last) 0))
            (other.each cells last run free above end tt)
      ];
    }

  -- the words of all placements
  pub words_told : IsPattern p → (s : Span) → s.low ≡ 0 → s.high ≡ run_count p → (words : List ℕ) → AreAllTold p s words → AreEdgeWords p words
  words_told pat s low high words told = record {
    size = told.size ∙ size ∙ sym (count_is pat);
    each = each;
  }
    where
      size : (s.high - s.low) * base ≡ run_count p * base
      size = ap (λ k. k * base) (let e : s.high - s.low ≡ run_count p = omega arith in e)

      each : (cells : List ℕ) → IsPlacement (record { pattern = p; cells = cells }) → IsEdgeWord p cells (slice_index words (index_in p cells))
      each cells place =
          let some = pat.some in
          let index : ℕ = length p.tiles - 1 in
          let long : length cells ≡ index + 1 = (let e = place.size in omega arith) in
          let q = take index cells in
          let c = get_or cells index 0 in
          let whole : with_last q c ≡ cells = same_last cells index long in
          let inside = inside_front base q c (subst (AllByRecursion (λ x. x < base)) (sym whole) place.inside) in
          let apart = apart_front q c (subst IsApart (sym whole) place.apart) in
          let run : IsRun p q = record { size = (let l = length-take-le index cells (omega arith) in omega arith); inside = inside.0; apart = apart.0 } in
          let at : place_in p s q c ≡ index_in p cells =
          ap (λ k. (index_in p q - k) * base + c) low ∙ ap (λ k. k * base + c) (let e : index_in p q - 0 ≡ index_in p q = omega arith in e)
          ∙ sym (index_of-append base q c) ∙ ap (index_in p) whole in
          subst (λ xs. IsEdgeWord p xs (slice_index words (index_in p cells))) whole
          (subst (λ k. IsEdgeWord p (with_last q c) (slice_index words k))
          at (told.each q c run (inside.1, apart.1) (omega arith) (let l = index_low q run in omega arith) tt))
