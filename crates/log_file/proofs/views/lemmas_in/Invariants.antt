use Rattle.std.proofs.Common.{◌≡◌, ◌≤◌, map, vec_capacity, vec_len}
use Rattle.log_file.specs.FormFaults.{behind_first}
use Rattle.log_file.specs.FirstLemmas.{first_lemmas}
use Rattle.log_file.specs.StoredLogs.{lemma_viewed}
use Rattle.log_file.proofs.views.lemmas_in.Given as goal

-- the lemmas so far are listed, with room for the rest, and the bytes behind them are left
abbrev pub invariant-loop : goal.invariant-loop
invariant-loop l = record {
  room : l.fn.header.count ≤ vec_capacity l.lemmas;
  filled : vec_len l.lemmas ≡ l.counter;
  listed : map lemma_viewed l.lemmas.items ≡ first_lemmas l.fn.header.side l.counter l.bytes;
  rest : l.rest ≡ behind_first l.fn.header.side l.counter l.bytes;
}
