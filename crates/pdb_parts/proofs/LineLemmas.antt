-- The whole lines of a text.
use Rattle.std.proofs.Common.{◌≡◌, ℕ, suc, ◌+◌, ◌-◌, ◌<◌, ◌≤◌, false, List, [], ◌∷◌, ◌++◌, Some, None, length, take, drop, get_or, get_or-take}
use Rattle.std.proofs.Common.{add-one, eqb, map, refl, sym, ◌∙◌, ap, arith, codes}
use Rattle.std.proofs.Math.Seq.{drop-cons}
use Rattle.std.proofs.lemmas.Bool.{eqb-true}
use Rattle.std.proofs.lemmas.Grind.{get_or_default_zero}
use Rattle.std.proofs.lemmas.List.{length-take-le, take-append-drop, take_more}
use Rattle.std.proofs.lemmas.List.Splits.{length-slice_split, slice_split_at, slice_split_none}
use Rattle.std.specs.List.{All, slice_split}
use Rattle.std.specs.Prelude.{position}
use Rattle.puz_board.proofs.FirstLemmas.{fails_each, first-position}
use Rattle.pdb_parts.specs.Joining.{whole_lines}

-- a text without an LF has no whole line
pub no_line : (text : List ℕ) → None ≡ position (λ byte. eqb byte 10) text → whole_lines text ≡ []
no_line text e =
    let each : All (λ byte. eqb byte 10 ≡ false) text = λ k d l. ap (λ byte. eqb byte 10) (get_or_default_zero text k d l)
    ∙ fails_each (λ byte. eqb byte 10) text (sym e) k l in
    ap (λ pieces. map (λ piece. piece ++ codes "\n") (take (length pieces - 1) pieces)) (slice_split_none (λ byte. eqb byte 10) text each)

but_last : (word : List ℕ) (pieces : List (List ℕ)) → 1 ≤ length pieces
    → map (λ piece. piece ++ codes "\n") (take (length (word ∷ pieces) - 1) (word ∷ pieces)) ≡ (word ++ codes "\n") ∷ map
    (λ piece. piece ++ codes "\n") (take (length pieces - 1) pieces)
but_last word [] some = absurd (omega arith)
but_last word (piece ∷ pieces) some =
    let more : length (word ∷ piece ∷ pieces) - 1 ≡ suc (length pieces) = omega arith in
    let fewer : length (piece ∷ pieces) - 1 ≡ length pieces = omega arith in
    ap (λ k. map (λ piece. piece ++ codes "\n") (take k (word ∷ piece ∷ pieces))) more ∙
    sym (ap (λ k. (word ++ codes "\n") ∷ map (λ piece. piece ++ codes "\n") (take k (piece ∷ pieces))) fewer)

-- a text with one has what stands before it, with it, as its first, and then those of what follows
pub next_whole_line : (text : List ℕ) (end : ℕ) → Some end ≡ position (λ byte. eqb byte 10) text
    → whole_lines text ≡ take (end + 1) text ∷ whole_lines (drop (end + 1) text)
next_whole_line text end e =
    let first = first-position (λ byte. eqb byte 10) text end (sym e) in
    let within : end < length text = first.within in
    let word = take end text in
    let behind = drop (suc end) text in
    let here : get_or text end 0 ≡ 10 = eqb-true (get_or text end 0) 10 first.here in
    let few : length word ≡ end = length-take-le end text (omega arith) in
    let each : All (λ byte. eqb byte 10 ≡ false) word = λ k d l.
    let below : k < end = omega arith in
    ap (λ byte. eqb byte 10) (get_or_default_zero word k d l ∙ get_or-take end text k 0 below) ∙ first.before k below in
    let whole : text ≡ word ++ 10 ∷ behind =
    sym (take-append-drop end text) ∙ ap (λ rest. word ++ rest) (drop-cons text end 0 within ∙ ap (λ byte. byte ∷ behind) here) in
    let pieces = slice_split (λ byte. eqb byte 10) behind in
    let some : 1 ≤ length pieces = omega (arith, length-slice_split (λ byte. eqb byte 10) behind) in
    ap whole_lines whole ∙
    ap (λ all. map (λ piece. piece ++ codes "\n") (take (length all - 1) all)) (slice_split_at (λ byte. eqb byte 10) word 10 behind each refl) ∙
    but_last word pieces some ∙
    (λ i. (ap (λ byte. word ++ byte ∷ []) (sym here) ∙ sym (take_more text end 0 within)) i ∷ whole_lines (drop (sym (add-one end) i) text))
