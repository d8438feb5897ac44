use Rattle.std.proofs.Common.{◌≡◌, ◌∙◌, ℕ, ◌+◌, ◌<◌, List, ◌∷◌, ◌++◌, ap, drop, get_or, length, rules, take, take-append-drop}
use Rattle.std.proofs.lemmas.List.{drop_more, take_more}
use Rattle.pdb_verdict.proofs.FoldingLemmas.{next_parts}
use Rattle.pdb_verdict.proofs.bundles.parts_of.Goals as goal

-- a list, of which one element is seen
parted : {A : Type 0} (xs : List A) (i : ℕ) (x : A) → i < length xs → x ≡ get_or xs i x → take i xs ++ x ∷ drop (i + 1) xs ≡ xs
parted xs i x low is =
    ap (λ y. take i xs ++ y ∷ drop (i + 1) xs) is ∙ rw (← drop_more xs i x low) (take-append-drop i xs)

-- what keeps away the part for one file more keeps away those for all
pub returns-in_err-parts : goal.returns-in_err-parts
returns-in_err-parts g c =
    let whole = parted c.args.files.now c.loop-file.file-index _ c.loop-file-test.true c.file-item.is in
    let next = c.with_part.ensures c.args.fold c.as_slice.result.now c.part_of.ensures in
    let after = next_parts _ _ _ _ _ _ c.as_slice.ensures.value whole _ c.loop-file.invariant c.with_part.result next in
    search (rules, after)

-- the parts for the files so far and for one file more are those for them all
pub loop-file-preserved : goal.loop-file-preserved
loop-file-preserved g c =
    let files = c.args.files.now in
    let i = c.loop-file.file-index in
    let file = c.file-item.result in
    let whole = parted files i file c.loop-file-test.true c.file-item.is in
    let next = c.with_part.ensures c.args.fold c.as_slice.result.now c.part_of.ensures in
    let after = next_parts _ _ _ _ _ _ c.as_slice.ensures.value whole _ c.loop-file.invariant c.with_part.result next in
    rw (take_more files i file c.loop-file-test.true, ← c.file-item.is) (search (rules, after))
