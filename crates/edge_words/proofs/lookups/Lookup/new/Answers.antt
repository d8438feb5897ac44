use Rattle.std.proofs.Common.{◌-◌, ◌*◌, sym, ◌∙◌, ap, ap₂, subst}
use Rattle.tab_rule.specs.ExactTables.{IsExactTable}
use Rattle.tab_runs.specs.RowTables.{rows_for}
use Rattle.edge_words.specs.Lookups.{AreOrigins}
use Rattle.edge_words.proofs.lookups.Lookup.new.Goals as goal

-- the lookup of a checked table is well stored: its width, rows and origins are those of the pattern
pub invariant_of-result : goal.invariant_of-result
invariant_of-result c =
    let same = c.pattern-pattern.ensures.pattern in
    record {
      exact = subst (λ q. IsExactTable (record { pattern = q; entries = c.entries.result.now })) (sym same)
          (subst (λ xs. IsExactTable (record { pattern = c.args.table.now.pattern; entries = xs })) (sym c.entries.ensures.entries) c.entries.ensures.exact);
      width = c.from.ensures ∙ c.width.ensures;
      listed = ap₂ (λ a b. a - b) (c.from-2.ensures ∙ c.cells.ensures.value ∙ ap₂ (λ m n. m * n) c.side.ensures.side c.side.ensures.side)
          (c.from-3.ensures ∙ c.size.ensures.size);
      rows = c.requires.rows ∙ ap rows_for (sym same);
      origins = subst (λ n. AreOrigins n c.all_origins.result) c.side-2.ensures.side c.all_origins.ensures;
      strides = c.strides_of.ensures;
    }
