use Rattle.pdb_keep.proofs.other_boards.OtherBoardsSparing.most_bytes.Goals as goal

-- where no board is searched, no file is spared
pub returns-in-None-clause-none : goal.returns-in-None-clause-none
returns-in-None-clause-none c = λ file is. c.in-None.ensures.none is.0 is.1
