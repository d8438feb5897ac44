use Rattle.tab_check.proofs.TableLemmas.{block_places}
use Rattle.tab_check.proofs.jobs.TableBlocksJob.run.Goals as goal

-- the job of a block gives the block's least bad entry, or none where it has none
pub returns : goal.returns
returns c = block_places c.args.self.now.view c.args.block c.bad_entry_in.result c.bad_entry_in.ensures
