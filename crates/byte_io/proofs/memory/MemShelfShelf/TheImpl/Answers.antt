use Rattle.std.proofs.Common.{ap, arith, option_map, refl, rules}
use Rattle.std.proofs.lemmas.Result.{on_err_weaker}
use Rattle.byte_io.proofs.memory.MemShelfShelf.TheImpl.Goals as goal

-- a shelf in memory says of keeping a file what it does, and no other file changes
pub keep-tells : goal.keep-tells
keep-tells c = record {
  kept = c.ensures.kept;
  others = on_err_weaker c.result (λ same other _. ap (option_map (λ told. told other)) same) c.ensures.unchanged;
  failed = search (rules, arith);
  calm = search (rules, arith);
  told = refl;
}
