-- What a log refutes over folded tables it refutes over the full ones.
use Rattle.std.proofs.Common.{◌≡◌, ◌∙◌, ◌-◌, ◌<◌, inl, inr, ap, ℕ, suc, zero, Bool, true, false, List, [], ◌∷◌, Option, Some, None, ◌≤◌, cond, get_or}
use Rattle.std.proofs.Common.{length, map, refl, subst, sym}
use Rattle.std.specs.Prelude.{Any, slice_get}
use Rattle.std.specs.List.{AllByRecursion}
use Rattle.puz_board.specs.Boards.{IsBoardOf, moved}
use Rattle.puz_board.specs.Transposing.{transposed_tiles}
use Rattle.puz_board.specs.declared.moves.Move.{Move}
use Rattle.puz_board.specs.declared.moves.Move.TheVariants.{Up, Down, Left, Right}
use Rattle.puz_board.proofs.MovedLemmas.{IsBoardOf-moved}
use Rattle.tab_file.specs.Tables.{Table}
use Rattle.pat_place.proofs.ListLemmas.{Some-one}
use Rattle.set_sum.specs.Bundles.{SaysAtLeast, ShownBundle, most_tables, set_of}
use Rattle.set_sum.specs.Members.{AreOnePattern, pattern_of, patterns_of_set}
use Rattle.set_sum.specs.Parts.{IsExactPart, no_part, part_pattern, parts_shown}
use Rattle.set_sum.specs.Reading.{AreAlike, IsBundleOf, NamesOverlap, NamesTwice, first_side}
use Rattle.set_sum.specs.Sums.{HaveOverlap, HaveTwo, SetSays}
use Rattle.set_sum.specs.declared.members.Member.{Member}
use Rattle.set_sum.specs.declared.parts.Part.{Part}
use Rattle.set_sum.proofs.BundleLemmas.{is_bundle}
use Rattle.set_sum.proofs.ListLemmas.{all_weaker}
use Rattle.log_file.specs.Logs.{Log}
use Rattle.log_check.specs.GoodLogs.{IsGoodFile}
use Rattle.log_check.specs.Refutations.{IsChild, Refutes, takes_back}
use Rattle.log_check.specs.Trees.{Tree, absent, branch, citation, leaf}
use Rattle.byte_io.specs.Shelf.{Bytes}
use Rattle.pdb_verdict.specs.FileBundles.{parts_for}
use Rattle.pdb_verdict.proofs.BundleLemmas.{all_exact}
use Rattle.claim_laws.specs.FoldedLogs.{FoldedLogsAreGoodUnfolded}
use Rattle.claim_laws.proofs.CountLemmas.{IsFullOf, set_most, told_most}

-- ---- refutations

-- where the one bundle says of boards at least what the other says
module _ (v w : ShownBundle) (log : Log) (n i : ℕ)
    (more : (by_parity : Bool) (number : ℕ) (b : List ℕ) (r : ℕ) → IsBoardOf n b → SaysAtLeast v by_parity number b r
    → SaysAtLeast w by_parity number b r) where
  child_more : (b : List ℕ) (m : Move) (o : Option (List ℕ)) (back : Bool) (child : Tree) (H K : List ℕ → Type 0) → moved b m ≡ o
      → ((c : List ℕ) → moved b m ≡ Some c → H c → K c) → IsChild o back child H → IsChild o back child K
  child_more b m None back child H K is on holds = holds
  child_more b m (Some c) true child H K is on holds = holds
  child_more b m (Some c) false child H K is on holds = on c is holds

  refutes_more : (tree : Tree) (b : List ℕ) (arriving : Option Move) (r : ℕ) → IsBoardOf n b → Refutes v log i tree b arriving r
      → Refutes w log i tree b arriving r
  refutes_more absent b arriving r good refutes = refutes
  refutes_more (leaf by_parity set) b arriving r good refutes = (refutes.0, more by_parity set b r good refutes.1)
  refutes_more (citation j) b arriving r good refutes = refutes
  refutes_more (branch up down left right) b arriving r good refutes = (
    refutes.0,
    refutes.1,
    child_more b Up (moved b Up) (takes_back arriving Up) up _ _ refl
        (λ c leads holds. refutes_more up c (Some Up) (r - 1) (IsBoardOf-moved n b good Up c leads) holds) refutes.2,
    child_more b Down (moved b Down) (takes_back arriving Down) down _ _ refl
        (λ c leads holds. refutes_more down c (Some Down) (r - 1) (IsBoardOf-moved n b good Down c leads) holds) refutes.3,
    child_more b Left (moved b Left) (takes_back arriving Left) left _ _ refl
        (λ c leads holds. refutes_more left c (Some Left) (r - 1) (IsBoardOf-moved n b good Left c leads) holds) refutes.4,
    child_more b Right (moved b Right) (takes_back arriving Right) right _ _ refl
        (λ c leads holds. refutes_more right c (Some Right) (r - 1) (IsBoardOf-moved n b good Right c leads) holds) refutes.5,
  )

-- ---- bundles

-- the full table in the place of a folded one
full_at : (tables : List Table) (k : ℕ) → IsFullOf (get_or (parts_shown (parts_for true tables)) k no_part)
    (get_or (parts_shown (parts_for false tables)) k no_part)
full_at [] k = record { tiles = refl; full = refl }
full_at (t ∷ tables) zero = record { tiles = refl; full = refl }
full_at (t ∷ tables) (suc k) = full_at tables k

any_weaker : {X : Type 0} (P Q : X → Type 0) → ((x : X) → P x → Q x) → (xs : List X) → Any P xs → Any Q xs
any_weaker P Q f xs some = (some.0, some.1, some.2, some.3, f some.1 some.4)

two_weaker : {X : Type 0} (R S : X → X → Type 0) → ((x y : X) → R x y → S x y) → (xs : List X) → HaveTwo R xs → HaveTwo S xs
two_weaker R S f [] two = two
two_weaker R S f (x ∷ xs) (inl some) = inl (any_weaker (R x) (S x) (f x) xs some)
two_weaker R S f (x ∷ xs) (inr two) = inr (two_weaker R S f xs two)

all_get : {X : Type 0} (P : X → Type 0) (xs : List X) (i : ℕ) (x : X) → AllByRecursion P xs → slice_get xs i ≡ Some x → P x
all_get P [] i x all there = cc
all_get P (y ∷ xs) zero x all there = subst P (Some-one y x there) all.0
all_get P (y ∷ xs) (suc i) x all there = all_get P xs i x all.1 there

sides_same : (tables : List Table) → first_side (parts_for true tables) ≡ first_side (parts_for false tables)
sides_same [] = refl
sides_same (t ∷ tables) = refl

lengths_same : (tables : List Table) → length (parts_for true tables) ≡ length (parts_for false tables)
lengths_same [] = refl
lengths_same (t ∷ tables) = ap suc (lengths_same tables)

of_side : (side : ℕ) (tables : List Table) → AllByRecursion (λ t. (part_pattern t).side ≡ side) (parts_for true tables)
    → AllByRecursion (λ t. (part_pattern t).side ≡ side) (parts_for false tables)
of_side side [] all = tt
of_side side (t ∷ tables) all = (all.0, of_side side tables all.1)

-- the full tables and the same sets
module _ (tables : List Table) (text : Bytes) (v : ShownBundle) (is : IsBundleOf (parts_for true tables) text v) where
  abbrev folded : List Part
  folded = parts_for true tables

  abbrev full : List Part
  full = parts_for false tables

  abbrev w : ShownBundle
  w = record { side = v.side; tables = parts_shown full; sets = v.sets }

  pattern_same : (m : Member) → pattern_of (first_side folded) (parts_shown folded) m ≡ pattern_of (first_side full) (parts_shown full) m
  pattern_same m =
      ap (λ n. pattern_of n (parts_shown folded) m) (sides_same tables) ∙
      ap (λ tiles. cond m.is_transposed (transposed_tiles (first_side full) tiles) tiles) (sym (full_at tables m.table).tiles)

  full_alike : AreAlike full
  full_alike =
      let count = is.alike.count in
      let sides = of_side (first_side folded) tables is.alike.one_side in
      record {
        count = record {
          some = subst (λ k. 0 < k) (lengths_same tables) count.some;
          few = subst (λ k. k ≤ most_tables) (lengths_same tables) count.few;
        };
        one_side = subst (λ s. AllByRecursion (λ t. (part_pattern t).side ≡ s) full) (sides_same tables) sides;
      }

  not_twice : (set : List Member) → ¬ NamesTwice folded set → ¬ NamesTwice full set
  not_twice set none two =
      none (two_weaker (AreOnePattern (first_side full) (parts_shown full)) (AreOnePattern (first_side folded) (parts_shown folded))
      (λ m o one. record { transposed = one.transposed; same = pattern_same m ∙ one.same ∙ sym (pattern_same o) }) set two)

  not_over : (set : List Member) → ¬ NamesOverlap folded set → ¬ NamesOverlap full set
  not_over set none two =
      let same : patterns_of_set (first_side folded) (parts_shown folded) set ≡ patterns_of_set (first_side full) (parts_shown full) set =
      λ i. map (λ m. pattern_same m i) set in
      none (subst HaveOverlap (sym same) two)

  full_bundle : IsBundleOf full text w
  full_bundle = record {
    alike = full_alike;
    side = is.side ∙ sides_same tables;
    shown = refl;
    are_sets = is.are_sets;
    there = subst (λ k. AllByRecursion (λ set. ¬ Any (λ (m : Member). k ≤ m.table) set) v.sets) (lengths_same tables) is.there;
    apart = all_weaker (λ set. ¬ NamesTwice folded set) (λ set. ¬ NamesTwice full set) not_twice v.sets is.apart;
    disjoint = all_weaker (λ set. ¬ NamesOverlap folded set) (λ set. ¬ NamesOverlap full set) not_over v.sets is.disjoint;
  }

  -- its sets say of boards at least what the folded ones say
  full_more : AllByRecursion IsExactPart full → (by_parity : Bool) (number : ℕ) (b : List ℕ) (r : ℕ) → IsBoardOf v.side b
      → SaysAtLeast v by_parity number b r → SaysAtLeast w by_parity number b r
  full_more exact by_parity number b r board says =
      let set = set_of v number in
      let own = subst (λ ps. SetSays ps set b says.count) is.shown says.says.says in
      let told = (is_bundle full text w exact full_bundle).told number says.says.there b board in
      let most = set_most v.side (parts_shown folded) (parts_shown full) (λ m. full_at tables m.table) b board set says.count told.0 own told.1.says in
      record { count = told.0; says = told.1; enough = told_most by_parity b says.count told.0 r most says.enough }

-- so a good log is good over them
good_more : (v w : ShownBundle) (b file : List ℕ) (bound : ℕ) → w.side ≡ v.side
    → ((by_parity : Bool) (number : ℕ) (b : List ℕ) (r : ℕ) → IsBoardOf v.side b → SaysAtLeast v by_parity number b r → SaysAtLeast w by_parity number b r)
    → IsGoodFile v b file bound → IsGoodFile w b file bound
good_more v w b file bound side more good =
    let log = good.log in
    let is = good.good in
    record {
      log = log;
      is_file = good.is_file;
      good = record {
        last = is.last;
        is_for = record { side = is.is_for.side ∙ sym side; is_last = is.is_for.is_last; board = is.is_for.board };
        bound_is = is.bound_is;
        good = λ i low.
            let one = is.good i low in
            let own = all_get (λ lemma. IsBoardOf log.side lemma.board) log.lemmas i one.lemma good.is_file.is_log.boards one.there in
            let board = subst (λ n. IsBoardOf n one.lemma.board) is.is_for.side own in
            record {
              lemma = one.lemma;
              there = one.there;
              tree = one.tree;
              spelt = one.spelt;
              refutes = refutes_more v w log v.side i more one.tree one.lemma.board None one.lemma.bound board one.refutes;
            };
      };
    }

-- so the log proves the bound over the full tables
pub folded_is_good : FoldedLogsAreGoodUnfolded
folded_is_good board sets log files bound proved =
    let v = proved.bundle in
    let of = proved.is_bundle in
    let more = full_more of.tables sets v of.makes (all_exact false of.tables files of.exact) in
    record {
      bundle = w of.tables sets v of.makes;
      is_bundle = record { tables = of.tables; exact = of.exact; makes = full_bundle of.tables sets v of.makes };
      good = good_more v (w of.tables sets v of.makes) board log bound refl more proved.good;
    }
