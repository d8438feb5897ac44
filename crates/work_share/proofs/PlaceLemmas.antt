-- Places that are filled one after the other.
use Rattle.std.proofs.Common.{◌≡◌, ℕ, ◌<◌, List, length, get_or, Option, Some, sym, subst, inl, inr, arith, length-set, get_or-set_other}
use Rattle.std.proofs.Common.{get_or-set_same, IfSome}
use Rattle.std.proofs.Math.ListN.{set}
use Rattle.std.proofs.lemmas.Bool.{cases_eq}
use Rattle.work_share.specs.Shares.{AreDone, ArePlaced}
use Rattle.work_share.specs.declared.draws.Done.{Done}

-- what is said of all that were done holds of the one at a place
pub done_turn : {O : Type 0} (gives : ℕ → O → Type 0) (jobs : ℕ) (all : List (Done O)) (n : ℕ) (d : Done O) → AreDone gives jobs all
    → (n < length all) × (d ≡ get_or all n d)
    → (d.job < jobs) × gives d.job d.outcome
done_turn {O} gives jobs all n d are at =
    let Given : Done O → Type 0 = λ e. (e.job < jobs) × gives e.job e.outcome in
    subst Given (sym at.1) (are n d at.0)

-- one place more is filled
pub placed_more : {O : Type 0} (gives : ℕ → O → Type 0) (places : List (Option O)) (n : ℕ) (outcome : O) → n < length places → gives n outcome
    → ArePlaced gives places → ArePlaced gives (set places n (Some outcome))
placed_more {O} gives places n outcome low given placed job other below =
    let long : length (set places n (Some outcome)) ≡ length places = length-set places n (Some outcome) in
    let inside : job < length places = omega arith in
    elim (cases_eq job n) [
      | inl same ↦ subst (λ k. IfSome (get_or (set places n (Some outcome)) k other) (gives k)) (sym same)
          (subst (λ o. IfSome o (gives n)) (sym (get_or-set_same places n (Some outcome) other low)) given)
      | inr differ ↦ subst (λ o. IfSome o (gives job)) (sym (get_or-set_other places n job (Some outcome) other differ)) (placed job other inside)
    ]
