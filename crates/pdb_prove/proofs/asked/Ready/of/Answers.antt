use Rattle.pdb_prove.proofs.ReadyLemmas.{each_side}
use Rattle.pdb_prove.proofs.asked.Ready.of.Goals as goal

-- where no board has another side, the claims and the bundle are ready to be answered
pub returns-in-None-clause-ready : goal.returns-in-None-clause-ready
returns-in-None-clause-ready c = λ fold files are makes. record {
  are_claims = rw (are, c.in_ok-asked-in-None.ensures.claims) c.requires;
  is_bundle = rw c.in_ok-bundle.was at makes;
  one_side = rw (c.in_ok-asked-in-None.ensures.claims, ← c.as_slice.ensures.value, ← c.side.ensures.side) c.in-None.ensures.none;
}

-- the boards of the claims have the side of the bundle, as their starts need it
pub over-requires : goal.over-requires
over-requires c = each_side _ _ (rw (c.as_slice.ensures.value, c.side.ensures.side) at c.in-None.ensures.none)
