use Rattle.std.proofs.Common.{◌≡◌, ◌*◌, true, ◌++◌, ◌∷◌, [], length, sym, ◌∙◌, ap, subst}
use Rattle.puz_board.specs.Masks.{IsMaskOf}
use Rattle.pat_place.specs.Patterns.{has}
use Rattle.tab_file.specs.Tables.{slot_count}
use Rattle.tab_runs.specs.Rows.{row_length}
use Rattle.tab_runs.specs.RunPlaces.{IsRun}
use Rattle.tab_runs.specs.Kinds.{TellRegionsOf}
use Rattle.tab_runs.specs.StoredRows.{AreAllKinds, AreAllRows}
use Rattle.tab_runs.specs.RowTables.{AreRowsOf, entries_of_run}
use Rattle.tab_runs.proofs.KindLemmas.{kinds_all, kinds_of_set}
use Rattle.tab_runs.proofs.MaskRunLemmas.{few_numbers, mask_of_numbers, run_of_mask}
use Rattle.tab_runs.proofs.TableLemmas.{rows_of_set}
use Rattle.tab_runs.proofs.TableRowLemmas.{all_push}
use Rattle.tab_runs.proofs.set_rows.push_set.Goals as goal

-- the set of a run has few enough numbers for a list of tiles' cells
pub put_numbers-requires-clause-few : goal.put_numbers-requires-clause-few
put_numbers-requires-clause-few c = few_numbers c.args.pattern.now c.side-pattern.ensures.pattern c.args.set c.requires.bits c.requires.size

-- the numbers of the set are a run of the pattern
pub rows_of-requires-clause-run : goal.rows_of-requires-clause-run
rows_of-requires-clause-run c = subst (IsRun c.args.pattern.now) (sym (c.as_slice.ensures.value ∙ c.put_numbers.ensures))
    (run_of_mask c.args.pattern.now c.side-pattern.ensures.pattern c.args.set c.requires.bits c.requires.size)

-- the set is the mask of its own numbers, as the rows need it
pub rows_of-requires-clause-set : goal.rows_of-requires-clause-set
rows_of-requires-clause-set c =
    subst (λ q. IsMaskOf c.args.set (λ x. has q x ≡ true)) (sym (c.as_slice.ensures.value ∙ c.put_numbers.ensures))
    (mask_of_numbers c.args.pattern.now c.side-pattern.ensures.pattern c.args.set c.requires.bits c.requires.size)

-- with the rows and kinds of one set put behind those that are kept, what is kept still says what it is to say
pub returns : goal.returns
returns c =
    let p = c.args.pattern.now in
    let masks = c.args.kept.now.masks.items in
    let rows = c.args.kept.now.rows.items in
    let kinds = c.args.kept.now.kinds.items in
    let cells = c.as_slice.result.now in
    let made = c.in_ok-made.made in
    let is : IsMaskOf c.args.set (λ x. has cells x ≡ true) =
    subst (λ q. IsMaskOf c.args.set (λ x. has q x ≡ true)) (sym (c.as_slice.ensures.value ∙ c.put_numbers.ensures))
    (mask_of_numbers p c.side-pattern.ensures.pattern c.args.set c.requires.bits c.requires.size) in
    let run : IsRun p cells = subst (IsRun p) (sym (c.as_slice.ensures.value ∙ c.put_numbers.ensures))
    (run_of_mask p c.side-pattern.ensures.pattern c.args.set c.requires.bits c.requires.size) in
    let rows_put : c.extend_from_slice.new.self.items ≡ rows ++ made.rows.items = c.in_ok-extend_from_slice.ensures.items
    ∙ ap (λ b. rows ++ b) c.as_slice-2.ensures.value in
    let kinds_put : c.extend_from_slice-2.new.self.items ≡ kinds ++ made.kinds.items = c.in_ok-extend_from_slice-2.ensures.items
    ∙ ap (λ b. kinds ++ b) c.as_slice-3.ensures.value in
    record {
      rows =
          subst (λ m. AreAllRows p.side (length p.tiles) m c.extend_from_slice.new.self.items) (sym c.in_ok-push.ensures.items)
          (subst (AreAllRows p.side (length p.tiles) (masks ++ c.args.set ∷ [])) (sym rows_put)
          (all_push (AreRowsOf p.side (length p.tiles)) (p.side * p.side * row_length p.side (length p.tiles)) masks rows made.rows.items c.args.set
          c.requires.kept.rows (rows_of_set p c.side-pattern.ensures.pattern cells run made.rows.items c.in_ok-made.ensures.rows c.args.set is)
          (c.in_ok-made.ensures.rows).size));
      kinds =
          subst (λ m. AreAllKinds p.side (slot_count p) (entries_of_run p.side (length p.tiles)) m c.extend_from_slice-2.new.self.items)
          (sym c.in_ok-push.ensures.items)
          (subst (AreAllKinds p.side (slot_count p) (entries_of_run p.side (length p.tiles)) (masks ++ c.args.set ∷ [])) (sym kinds_put)
          (all_push (TellRegionsOf p.side (slot_count p)) (entries_of_run p.side (length p.tiles)) masks kinds made.kinds.items c.args.set c.requires.kept.kinds
          (kinds_of_set p.side (slot_count p) cells made.kinds.items c.args.set is
          (kinds_all p.side (slot_count p) cells made.kinds.items c.in_ok-made.ensures.kinds)) c.in_ok-made.ensures.size));
    }
