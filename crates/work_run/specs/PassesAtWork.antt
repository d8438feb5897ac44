-- The passes of all workers, before their work and after it.
use Rattle.std.specs.Prelude.{◌≡◌, ℕ, List, slice_get, Some}
use Rattle.std.specs.List.{AllZip}
use Rattle.book_core.specs.Passes.{fresh}
use Rattle.book_live.specs.Callers.{BookId, PassState}
use Rattle.work_run.specs.Work.{IsDone}

-- the passes are of this book, and have done nothing
abbrev pub AreNew : BookId → List PassState → Type 0
AreNew book passes = (k : ℕ) (p : PassState) → slice_get passes k ≡ Some p → (p.book ≡ book) × (p.deeds ≡ fresh)

-- as many passes as before, in their order, each done
abbrev pub AreDone : (ℕ → Type 0) → (ℕ → ℕ) → ℕ → List PassState → List PassState → Type 0
AreDone bad begins jobs before after = AllZip (IsDone bad begins jobs) before after
