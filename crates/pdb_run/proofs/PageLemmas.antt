-- Text that is gathered on a page, and pieces of text.
use Rattle.std.proofs.Common.{◌≡◌, ◌∙◌, ◌+◌, ◌<◌, ◌≤◌, ℕ, List, [], ◌∷◌, ◌++◌, Result, Ok, Err, IsErr, ap, append_assoc, get_or, length, refl, sym, take}
use Rattle.std.proofs.lemmas.Grind.{common_steps, flat_map-append}
use Rattle.std.proofs.lemmas.List.{drop_more, get_or-map, length-map, take-append-drop, take-map, take_more}
use Rattle.std.proofs.lemmas.List.Folds.{length-flat_map-take}
use Rattle.std.proofs.lemmas.Result.{MatchResult-from_err}
use Rattle.std.specs.Borrow.{Bor}
use Rattle.std.specs.Prelude.{Vec}
use Rattle.byte_io.specs.Shelf.{Bytes}
use Rattle.byte_io.specs.Streams.{Output, Writes}
use Rattle.byte_io.specs.declared.streams.WriteFault.{WriteFault}
use Rattle.byte_io.proofs.Appending.{front_of_more}
use Rattle.pdb_run.specs.Pages.{Adds, Gathered}
use Rattle.pdb_run.specs.Writing.{all_bytes, digest_line, digests_of, joined}
use Rattle.pdb_run.specs.declared.pages.Page.{Page}

abbrev Done : Type 0
Done = Result (Unit {0}) WriteFault

module _ {W : Type 0} {output_of : W → Output} where
  -- bytes are added, and then others
  pub adds_then : {a b c : Page W} {xs ys all : Bytes} {v : Unit {0}} {r : Done} → Adds output_of a b xs (Ok v)
      → Adds output_of b c ys r → xs ++ ys ≡ all → Adds output_of a c all r
  adds_then {xs} p q whole = rw (← whole) (record {
    gathers = λ start text page. rw (← append_assoc) (q.gathers start (text ++ xs) (p.gathers start text page));
  })

  -- a write that fails before the end of some bytes does so before the end of more
  pub adds_more : {a b : Page W} {xs : Bytes} {e : WriteFault} (ys : Bytes) → Adds output_of a b xs (Err e)
      → Adds output_of a b (xs ++ ys) (Err e)
  adds_more {xs} ys p = record {
    gathers = λ start text page.
        rw (← append_assoc) (front_of_more start _ (text ++ xs) ys (p.gathers start text page));
  }

  -- whatever the error
  pub adds_failed : {a b : Page W} {xs : Bytes} {e : WriteFault} (r : Done) (ys : Bytes) → IsErr r
      → Adds output_of a b xs (Err e) → Adds output_of a b (xs ++ ys) r
  adds_failed r ys is p = record {
    gathers = λ start text page. MatchResult-from_err r _ _ is (λ _. (adds_more ys p).gathers start text page);
  }

  module _ {start : Output} {a : Page W} (page : Gathered output_of start a []) where
    -- any error says that a write failed
    pub writes_failed : {b : Page W} {xs : Bytes} {e : WriteFault} (r : Done) → IsErr r
        → Adds output_of a b xs (Err e) → Writes start (output_of b.out.now) xs r
    writes_failed r is p = MatchResult-from_err r _ _ is (λ _. p.gathers start [] page)

    -- three times bytes are added
    pub gathers_three : {b c d : Page W} {xs ys zs : Bytes} {u v w : Unit {0}} → Adds output_of a b xs (Ok u)
        → Adds output_of b c ys (Ok v) → Adds output_of c d zs (Ok w) → Gathered output_of start d (xs ++ (ys ++ zs))
    gathers_three p q s = (adds_then p (adds_then q s refl) refl).gathers start [] page

-- ---- in a loop

module _ {W : Type 0} {output_of : W → Output} {a b c : Page W} {v : Unit {0}} where
  -- the next byte is added
  pub byte_next : {y : ℕ} {r : Done} (bytes : Bytes) (i : ℕ) → Adds output_of a b (take i bytes) (Ok v)
      → Adds output_of b c (y ∷ []) r → i < length bytes → y ≡ get_or bytes i 0
      → Adds output_of a c (take (i + 1) bytes) r
  byte_next bytes i p q within at = adds_then p q (rw at (sym (take_more bytes i 0 within)))

  module _ {e : WriteFault} {r : Done} (is : IsErr r) where
    -- a write fails before the end of the next byte
    pub byte_failed : {y : ℕ} (bytes : Bytes) (i : ℕ) → Adds output_of a b (take i bytes) (Ok v)
        → Adds output_of b c (y ∷ []) (Err e) → i < length bytes → y ≡ get_or bytes i 0
        → Adds output_of a c bytes r
    byte_failed bytes i p q within at =
        rw (← take-append-drop (i + 1) bytes) (adds_failed r _ is (byte_next bytes i p q within at))

    -- or of the next file's line
    pub file_failed : {line : Bytes} {A : Type 0} (files : List (Vec ℕ A)) (i : ℕ)
        → Adds output_of a b (digests_of (all_bytes (take i files))) (Ok v) → Adds output_of b c line (Err e)
        → i < length files → line ≡ digest_line (get_or (all_bytes files) i [])
        → Adds output_of a c (digests_of (all_bytes files)) r
    file_failed files i p q within at =
        let fs = all_bytes files in
        let next = sym (drop_more fs i [] (rw length-map within)) in
        let split = ap (λ t. take i fs ++ t) next ∙ take-append-drop i fs in
        let front = rw (← take-map (λ v. v.items) i files) at p in
        rw (← split, flat_map-append) (adds_then front (adds_failed r _ is (rw at at q)) refl)

-- what a step over bytes leaves
pub ruleset byte_steps = (byte_next, byte_failed, get_or-map, length-map)

-- what a step over files leaves
pub ruleset file_steps = (common_steps, adds_then, adds_failed, file_failed)

-- ---- pieces of text

-- there is room for the next piece
pub joined_fits : (pieces : List (Bor Bytes)) (i : ℕ) (d : Bor Bytes) → i < length pieces
    → length (joined (take i pieces)) + length (get_or pieces i d).now ≤ length (joined pieces)
joined_fits = length-flat_map-take (λ piece. piece.now)
