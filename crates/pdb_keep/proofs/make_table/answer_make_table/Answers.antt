use Rattle.pdb_keep.proofs.make_table.answer_make_table.Goals as goal

-- the answer is that on what is built
pub returns : goal.returns
returns g c =
    let built = c.build_table-build.ensures in
    c.answer_of.ensures c.args.side c.args.mask built.built built.wrong built.unbuilt
