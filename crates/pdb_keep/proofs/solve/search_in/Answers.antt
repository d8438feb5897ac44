use Rattle.std.proofs.Common.{◌≡◌, ◌≢◌, ◌∙◌, Err, rules, sym}
use Rattle.puz_board.specs.Boards.{side_of}
use Rattle.puz_goal.specs.Turning.{board_for}
use Rattle.pdb_keep.specs.Solve.{AreForBoard}
use Rattle.pdb_keep.proofs.MakerLemmas.{no_bundle, search_came, side_for}
use Rattle.pdb_keep.proofs.solve.search_in.Goals as goal

-- where the tables and the sets make no bundle, their refusal is what the search comes to
pub returns-in_err-bundle : goal.returns-in_err-bundle
returns-in_err-bundle g c = λ fold text sets tables spelt read.
    let why = c.in_err-bundle.field-0.0 in
    let refused : c.from_residual.result ≡ Err why = search (rules, c.from_residual.ensures) in
    rw refused (no_bundle c.args.goal fold c.args.budget text sets tables c.args.board.now spelt why (rw c.in_err-bundle.was at read))

-- where the bundle has another side than the board, L4 is what the search comes to
pub returns-then-ne : goal.returns-then-ne
returns-then-ne g c = λ fold text sets tables spelt read.
    let apart : side_of c.args.board.now ≢ c.in_ok-bundle.bundle.side = search rules in
    record {
      board = c.args.board.now;
      spelt = spelt;
      unmade = record { bundle = c.in_ok-bundle.bundle; is_bundle = rw c.in_ok-bundle.was at read; another_side = λ same. apart (sym (side_for c.args.goal c.args.board.now spelt.board) ∙ same) };
    }

-- over a bundle of the board's side, a search comes to what it finds or why it gave up
pub returns : goal.returns
returns g c = λ fold text sets tables spelt read.
    let is_bundle = rw c.in_ok-bundle.was at read in
    let same : side_of c.args.board.now ≡ c.in_ok-bundle.bundle.side = search rules in
    let are_for : AreForBoard fold (board_for c.args.goal c.args.board.now) sets tables =
    record { bundle = c.in_ok-bundle.bundle; is_bundle = is_bundle; one_side = side_for c.args.goal c.args.board.now spelt.board ∙ same } in
    search_came c.args.goal fold c.args.budget text sets tables c.args.board.now spelt are_for c.search_over.result
    c.search_over.ensures.given_up (c.search_over.ensures.made fold text sets tables spelt is_bundle)
