use Rattle.std.proofs.Common.{◌≡◌, [], ◌∷◌, rules}
use Rattle.std.proofs.lemmas.Result.{MatchResult-from_err}
use Rattle.byte_io.proofs.Appending.{front_of_more}
use Rattle.pdb_run.proofs.pages.Page.add_byte.Goals as goal

-- where a full page can't be written, a front of what was to be written was
pub returns-in_err-write-clause-added : goal.returns-in_err-write-clause-added
returns-in_err-write-clause-added g c =
    let same : c.try_push.new.self ≡ c.args.self.now.text = search rules in record {
      gathers = λ start text page. MatchResult-from_err _ _ _ c.from_residual.ensures.0
          (λ _. front_of_more start _ text (c.args.byte ∷ []) (c.in_err-write.ensures.finished start text (rw same page)));
    }
