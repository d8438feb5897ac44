use Rattle.std.proofs.Common.{◌∙◌, ap₂}
use Rattle.clap.specs.Words.{with_rule}
use Rattle.pdb_words.proofs.ArgumentLemmas.{one_row_more}
use Rattle.pdb_words.proofs.rows.command_of.Goals as goal

-- with one row more the command takes one rule more
pub loop-row-preserved : goal.loop-row-preserved
loop-row-preserved c = c.in_ok-command.ensures.shape c.arg_of.ensures.local
    ∙ ap₂ with_rule c.loop-row.invariant c.arg_of.ensures.rule
    ∙ one_row_more _ c.args.rows.now c.loop-row.row-index _ c.loop-row-test.true
