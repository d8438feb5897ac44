-- What the rows lead to are the near entries of the run's placements, and nothing else.
use Rattle.std.proofs.Common.{◌≡◌, ◌≢◌, ℕ, ◌+◌, ◌*◌, ◌<◌, List, [], ◌∷◌, length, get_or, set, inl, inr, refl, sym, ◌∙◌, ap, subst, arith}
use Rattle.std.proofs.lemmas.Bool.{cases_lt}
use Rattle.std.proofs.lemmas.List.{length_push, get_or_append_left, get_or_at, set-append_left}
use Rattle.std.proofs.Math.Seq.{set-append_seam}
use Rattle.puz_board.specs.Cells.{Adjacent}
use Rattle.pat_place.specs.Patterns.{IsPattern}
use Rattle.pat_place.specs.Placements.{IsFree}
use Rattle.pat_place.specs.Regions.{IsSlot}
use Rattle.tab_file.specs.Tables.{Table, slot_count}
use Rattle.tab_rule.specs.Entries.{IsEntryAt}
use Rattle.tab_rule.specs.LocalRule.{IsLeastNear, IsLeastOf, IsNearEntry}
use Rattle.tab_rule.proofs.EntryLemmas.{entry_one}
use Rattle.tab_rule.proofs.EntryNumberLemmas.{entry_number}
use Rattle.tab_rule.proofs.MoveLemmas.{IsLeastOf-same}
use Rattle.tab_runs.specs.Rows.{IsOpen, IsRow, listed_below, place_in_run}
use Rattle.tab_runs.specs.RunPlaces.{AreRunEntries, IsRun}
use Rattle.tab_runs.specs.Runs.{free_below, with_last}
use Rattle.tab_runs.specs.Steps.{IsLastStep, IsSingleStep, IsRowStep, IsRunStep, IsSomeLastStep, IsStepAmong, IsTileStep}
use Rattle.tab_runs.proofs.RowLemmas.{free_below-same, listed_at, listed_low, place_one, slot_low, slot_of_open}
use Rattle.tab_runs.proofs.RunLemmas.{open_moved, placed_last, run_moved, same_moved, with_last-free}

module _ (t : Table) (pat : IsPattern t.pattern) (p : List ℕ) (run : IsRun t.pattern p) where
  -- ---- the byte that a row leads to is an entry

  -- the byte that a row leads to for an open cell is the entry of the row's cell with the last tile there
  pub row_entry : (near : List ℕ) → AreRunEntries t p near → (x : ℕ) (row : List ℕ) → IsRow t.pattern.side (length t.pattern.tiles) p x row
      → (c : ℕ) → IsOpen t.pattern.side p x c → IsEntryAt t (with_last p c) x (get_or near (get_or row (listed_below p x c) 0) 0)
  row_entry near entries x row is c o =
      let j = slot_of_open t.pattern pat p run x c o in
      let low = slot_low t.pattern pat p run c x j.0 o.last j.1 in
      record {
        slot = j.0;
        is_slot = j.1;
        number = (entries.first + free_below p c) * slot_count t.pattern + j.0;
        is_number =
            let size = (placed_last t.pattern p c run o.last).size in
            entry_number (entries.first + free_below p c) size (entries.is_first.each c o.last) low refl;
        holds = sym (ap (λ i. get_or near i 0) (is.place c j.0 o j.1) ∙ entries.each c j.0 o.last low);
      }

  entry_same : (x c e f : ℕ) → IsOpen t.pattern.side p x c → IsEntryAt t (with_last p c) x e → IsEntryAt t (with_last p c) x f → e ≡ f
  entry_same x c e f o is also = entry_one t.pattern pat t.entries (with_last p c) x e f is also

  -- ---- the last tile moves

  module _ (own : List ℕ) (entries : AreRunEntries t p own) (a b : ℕ) (free_a : IsFree t.pattern.side p a) (free_b : IsFree t.pattern.side p b) (apart : b ≢ a)
      (row_a row_b : List ℕ) (is_a : IsRow t.pattern.side (length t.pattern.tiles) p a row_a)
      (is_b : IsRow t.pattern.side (length t.pattern.tiles) p b row_b) where
    open_b : IsOpen t.pattern.side p b a
    open_b = record { last = free_a; cell = free_b; other = apart }

    open_a : IsOpen t.pattern.side p a b
    open_a = record { last = free_b; cell = free_a; other = λ e. apart (sym e) }

    -- the one place and entry that the rows of two free cells lead to are a move of the last tile between them
    pub last_from_one : (place e : ℕ) → IsSingleStep (get_or row_b (listed_below p b a) 0)
        (get_or own (get_or row_a (listed_below p a b) 0) 0) place e → IsLastStep t p a b place e
    last_from_one place e s =
        let j = slot_of_open t.pattern pat p run b a open_b in
        record {
          opens = open_b;
          slot = j.0;
          in_slot = j.1;
          is_place = s.is_place ∙ is_b.place a j.0 open_b j.1;
          entry = subst (IsEntryAt t (with_last p b) a) (sym s.is_entry) (row_entry own entries a row_a is_a b open_a);
        }

    -- a move of the last tile between two free cells has the place and the entry that their rows lead to
    pub one_from_last : (place e : ℕ) → IsLastStep t p a b place e
        → IsSingleStep (get_or row_b (listed_below p b a) 0) (get_or own (get_or row_a (listed_below p a b) 0) 0) place e
    one_from_last place e s = record {
      is_place = s.is_place ∙ sym (is_b.place a s.slot s.opens s.in_slot);
      is_entry = entry_same a b e (get_or own (get_or row_a (listed_below p a b) 0) 0) open_a s.entry (row_entry own entries a row_a is_a b open_a);
    }

-- ---- another tile moves

module _ (t : Table) (pat : IsPattern t.pattern) (p : List ℕ) (run : IsRun t.pattern p) (i f : ℕ) (low : i < length p)
    (free : IsFree t.pattern.side p f) (near : List ℕ) (entries : AreRunEntries t (set p i f) near)
    (to from : List ℕ) (is_to : IsRow t.pattern.side (length t.pattern.tiles) p f to)
    (is_from : IsRow t.pattern.side (length t.pattern.tiles) (set p i f) (get_or p i 0) from) where
  moved : IsRun t.pattern (set p i f)
  moved = run_moved t.pattern p i f run free

  -- both rows list the same cells
  same_listed : (c : ℕ) → listed_below p f c ≡ listed_below (set p i f) (get_or p i 0) c
  same_listed = free_below-same (with_last p f) (with_last (set p i f) (get_or p i 0)) (same_moved p i f low)

  from_entry : (c : ℕ) → IsOpen t.pattern.side p f c → IsEntryAt t (with_last (set p i f) c) (get_or p i 0) (get_or near (get_or from (listed_below p f c) 0) 0)
  from_entry c o = subst (λ k. IsEntryAt t (with_last (set p i f) c) (get_or p i 0) (get_or near (get_or from k 0) 0)) (sym (same_listed c))
      (row_entry t pat (set p i f) moved near entries (get_or p i 0) from is_from c (open_moved t.pattern.side p run.inside run.apart i f low free c o))

  -- what the two rows of a tile's move lead to, cell by cell, is that move in some placement of the run
  pub tile_from_row : (place e : ℕ) → IsRowStep to near from (length to) place e → IsTileStep t p i f place e
  tile_from_row place e s =
      let at = listed_at t.pattern pat p run f s.cell free (let l : s.cell < length to = s.low in let z = is_to.size in omega arith) in
      let c : ℕ = at.0 in
      let j = slot_of_open t.pattern pat p run f c at.1 in
      record {
        last = c;
        opens = at.1;
        slot = j.0;
        in_slot = j.1;
        is_place = sym s.is_place ∙ ap (λ k. get_or to k 0) (sym at.2) ∙ is_to.place c j.0 at.1 j.1;
        entry = subst (IsEntryAt t (with_last (set p i f) c) (get_or p i 0)) (ap (λ k. get_or near (get_or from k 0) 0) at.2 ∙ s.is_entry) (from_entry c at.1);
      }

  -- a tile's move in a placement of the run is among what the two rows of the move lead to
  pub row_from_tile : (place e : ℕ) → IsTileStep t p i f place e → IsRowStep to near from (length to) place e
  row_from_tile place e s = record {
    cell = listed_below p f s.last;
    low = (let l = listed_low t.pattern pat p run f s.last s.opens in let z = is_to.size in omega arith);
    is_place = is_to.place s.last s.slot s.opens s.in_slot ∙ sym s.is_place;
    is_entry = entry_same t pat (set p i f) moved (get_or p i 0) s.last (get_or near (get_or from (listed_below p f s.last) 0) 0) e
        (open_moved t.pattern.side p run.inside run.apart i f low free s.last s.opens) (from_entry s.last s.opens) s.entry;
  }

-- ---- all moves of a run are the near entries of its placements

module _ (t : Table) (pat : IsPattern t.pattern) (p : List ℕ) (run : IsRun t.pattern p) (c j : ℕ) (free : IsFree t.pattern.side p c)
    (j_low : j < slot_count t.pattern) where
  n : ℕ
  n = t.pattern.side

  here : (d k e : ℕ) → IsFree t.pattern.side p d → (x : ℕ) → IsSlot t.pattern.side (with_last p d) x k
      → place_in_run (slot_count t.pattern) p c j ≡ place_in_run (slot_count t.pattern) p d k → (c ≡ d) × (j ≡ k)
  here d k e was x is same = place_one t.pattern.side (slot_count t.pattern) p c d j k j_low (slot_low t.pattern pat p run d x k was is) free was same

  near_from_among : (e : ℕ) → IsStepAmong t p (length p) (place_in_run (slot_count t.pattern) p c j) e → IsNearEntry t (with_last p c) j e
  near_from_among e s =
      let step = s.step.step in
      let i : ℕ = s.index in
      let f : ℕ = s.step.to in
      let low : i < length p = s.low in
      let one = here step.last step.slot e step.opens.last f step.in_slot step.is_place in
      let same_get : get_or p i 0 ≡ get_or (with_last p c) i 0 = sym (get_or_append_left p (c ∷ []) 0 i low) in
      let same_set : with_last (set p i f) c ≡ set (with_last p c) i f = sym (set-append_left p (c ∷ []) i f low) in
      record {
        index = i;
        to = f;
        moves = record {
          in_slot = subst (λ k. IsSlot t.pattern.side (with_last p c) f k) (sym one.1)
              (subst (λ d. IsSlot t.pattern.side (with_last p d) f step.slot) (sym one.0) step.in_slot);
          is_index = (let l = length_push p c in omega arith);
          adjacent = subst (λ x. Adjacent t.pattern.side f x) same_get s.step.adjacent;
        };
        entry = subst (λ q. IsEntryAt t q (get_or (with_last p c) i 0) e) same_set (subst (λ x. IsEntryAt t (with_last (set p i f) c) x e) same_get
            (subst (λ d. IsEntryAt t (with_last (set p i f) d) (get_or p i 0) e) (sym one.0) step.entry));
      }

  near_from_last : (e : ℕ) → IsSomeLastStep t p (place_in_run (slot_count t.pattern) p c j) e → IsNearEntry t (with_last p c) j e
  near_from_last e s =
      let step = s.step in
      let b : ℕ = s.to in
      let one = here s.from step.slot e step.opens.last b step.in_slot step.is_place in
      let same_get : c ≡ get_or (with_last p c) (length p) 0 = sym (get_or_at p c [] 0 (length p) refl) in
      let same_set : with_last p b ≡ set (with_last p c) (length p) b = sym (set-append_seam p c [] b) in
      record {
        index = length p;
        to = b;
        moves = record {
          in_slot = subst (λ k. IsSlot t.pattern.side (with_last p c) b k) (sym one.1)
              (subst (λ d. IsSlot t.pattern.side (with_last p d) b step.slot) (sym one.0) step.in_slot);
          is_index = (let l = length_push p c in omega arith);
          adjacent = subst (λ x. Adjacent t.pattern.side b x) (sym one.0 ∙ same_get) s.adjacent;
        };
        entry = subst (λ q. IsEntryAt t q (get_or (with_last p c) (length p) 0) e) same_set
            (subst (λ x. IsEntryAt t (with_last p b) x e) (sym one.0 ∙ same_get) step.entry);
      }

  -- a move in the run for a slot's place leads to a near entry of that slot
  pub near_from_step : (e : ℕ) → IsRunStep t p (place_in_run (slot_count t.pattern) p c j) e → IsNearEntry t (with_last p c) j e
  near_from_step e s = elim s [ inl among ↦ near_from_among e among | inr last ↦ near_from_last e last ]

  -- a near entry of a slot is that of some move in the run for the slot's place
  pub step_from_near : (e : ℕ) → IsNearEntry t (with_last p c) j e → IsRunStep t p (place_in_run (slot_count t.pattern) p c j) e
  step_from_near e near = elim (cases_lt near.index (length p)) [
    | inl low ↦ inl (inner low)
    | inr high ↦ inr (outer (let l : near.index < length (with_last p c) = near.moves.is_index in let k = length_push p c in omega arith))
  ]
    where
      f : ℕ
      f = near.to

      opens : IsOpen t.pattern.side p near.to c
      opens = let w = with_last-free t.pattern.side p c near.to near.moves.in_slot.free in record { last = free; cell = w.0; other = w.1 }

      inner : near.index < length p → IsStepAmong t p (length p) (place_in_run (slot_count t.pattern) p c j) e
      inner low =
          let i : ℕ = near.index in
          let same_get : get_or (with_last p c) i 0 ≡ get_or p i 0 = get_or_append_left p (c ∷ []) 0 i low in
          let same_set : set (with_last p c) i near.to ≡ with_last (set p i near.to) c = set-append_left p (c ∷ []) i near.to low in
          record {
            index = i;
            low = low;
            step = record {
              to = near.to;
              free = opens.cell;
              adjacent = subst (λ x. Adjacent t.pattern.side near.to x) same_get near.moves.adjacent;
              step = record {
                last = c;
                opens = opens;
                slot = j;
                in_slot = near.moves.in_slot;
                is_place = refl;
                entry = subst (λ x. IsEntryAt t (with_last (set p i near.to) c) x e) same_get
                    (subst (λ q. IsEntryAt t q (get_or (with_last p c) i 0) e) same_set near.entry);
              };
            };
          }

      outer : near.index ≡ length p → IsSomeLastStep t p (place_in_run (slot_count t.pattern) p c j) e
      outer last =
          let same_get : get_or (with_last p c) near.index 0 ≡ c = get_or_at p c [] 0 near.index (sym last) in
          let same_set : set (with_last p c) near.index near.to ≡ with_last p near.to = ap (λ i. set (with_last p c) i near.to) last
          ∙ set-append_seam p c [] near.to in
          record {
            from = c;
            to = near.to;
            adjacent = subst (λ x. Adjacent t.pattern.side near.to x) same_get near.moves.adjacent;
            step = record {
              opens = opens;
              slot = j;
              in_slot = near.moves.in_slot;
              is_place = refl;
              entry = subst (λ x. IsEntryAt t (with_last p near.to) x e) same_get
                  (subst (λ q. IsEntryAt t q (get_or (with_last p c) near.index 0) e) same_set near.entry);
            };
          }

  -- the least entry of all moves in the run for a slot's place is the slot's least near entry
  pub least_near_of_run : (m : ℕ) → IsLeastOf (IsRunStep t p (place_in_run (slot_count t.pattern) p c j)) m → IsLeastNear t (with_last p c) j m
  least_near_of_run m is = IsLeastOf-same (IsRunStep t p (place_in_run (slot_count t.pattern) p c j))
      (IsNearEntry t (with_last p c) j) near_from_step step_from_near m is
