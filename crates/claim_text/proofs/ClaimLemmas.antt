-- A line is one claim at most, and when it is none.
use Rattle.std.proofs.Common.{◌≡◌, ℕ, List, Option, Some, None, refl, sym, ◌∙◌, ap, subst}
use Rattle.std.specs.Prelude.{IfNone, is_some, true, false}
use Rattle.puz_board.specs.BoardTexts.{Spells}
use Rattle.claim_text.specs.Claims.{HasNo, IsClaim, IsClaimOf, IsColonClaim, IsCutAt, IsMovesText, IsNoClaim, ShownAsks, ShownClaim, SpellsAsks}
use Rattle.claim_text.specs.Claims.{bound, moves, part, shortest}
use Rattle.claim_text.proofs.BoundLemmas.{one_spelt}
use Rattle.claim_text.proofs.CutLemmas.{no_cut, one_cut}

-- what is not there is what it is said to be
pub IfNone-weaker : {A P Q : Type 0} (r : Option A) → (P → Q) → IfNone r P → IfNone r Q
IfNone-weaker None f p = f p
IfNone-weaker (Some x) f p = tt

-- a fact holds also where nothing is there
pub IfNone-always : {A P : Type 0} (r : Option A) → P → IfNone r P
IfNone-always None p = p
IfNone-always (Some x) p = tt

-- what holds where nothing is there, where nothing is
pub IfNone-there : {A P : Type 0} (r : Option A) → is_some r ≡ false → IfNone r P → P
IfNone-there None e p = p
IfNone-there (Some x) e p = absurd (let no : true ≡ false = e in cc)

-- a text spells one board
pub one_board : (text b c : List ℕ) → Spells text b → Spells text c → b ≡ c
one_board text b c p q = sym p.numbers ∙ q.numbers

one_colon_claim : (line b c : List ℕ) (p q : ShownAsks) → IsColonClaim line b p → IsColonClaim line c q → (b ≡ c) × (p ≡ q)
one_colon_claim line b c p q s t =
    let cut = one_cut 58 line s.before s.behind t.before t.behind s.whole t.whole in (
      one_board t.before b c (subst (λ text. Spells text b) cut.0 s.board) t.board,
      one_spelt t.behind p q (subst (λ text. SpellsAsks text p) cut.1 s.spelt) t.spelt,
    )

one_claim_of : (line b c : List ℕ) (p q : ShownAsks) → IsClaimOf line b p → IsClaimOf line c q → (b ≡ c) × (p ≡ q)
one_claim_of line b c shortest shortest s t = (one_board line b c s.board t.board, refl)
one_claim_of line b c shortest (moves u) s t = absurd (no_cut 59 line t.before u s.no_semicolon t.whole)
one_claim_of line b c shortest (bound n) s t = absurd (no_cut 58 line t.before t.behind s.no_colon t.whole)
one_claim_of line b c shortest (part n p) s t = absurd (no_cut 58 line t.before t.behind s.no_colon t.whole)
one_claim_of line b c (moves u) shortest s t = absurd (no_cut 59 line s.before u t.no_semicolon s.whole)
one_claim_of line b c (moves u) (moves v) s t =
    let cut = one_cut 59 line s.before u t.before v s.whole t.whole in
    (one_board t.before b c (subst (λ text. Spells text b) cut.0 s.board) t.board, ap moves cut.1)
one_claim_of line b c (moves u) (bound n) s t = absurd (no_cut 59 line s.before u t.no_semicolon s.whole)
one_claim_of line b c (moves u) (part n p) s t = absurd (no_cut 59 line s.before u t.no_semicolon s.whole)
one_claim_of line b c (bound m) shortest s t = absurd (no_cut 58 line s.before s.behind t.no_colon s.whole)
one_claim_of line b c (bound m) (moves v) s t = absurd (no_cut 59 line t.before v s.no_semicolon t.whole)
one_claim_of line b c (bound m) (bound n) s t = one_colon_claim line b c (bound m) (bound n) s t
one_claim_of line b c (bound m) (part n q) s t = one_colon_claim line b c (bound m) (part n q) s t
one_claim_of line b c (part m p) shortest s t = absurd (no_cut 58 line s.before s.behind t.no_colon s.whole)
one_claim_of line b c (part m p) (moves v) s t = absurd (no_cut 59 line t.before v s.no_semicolon t.whole)
one_claim_of line b c (part m p) (bound n) s t = one_colon_claim line b c (part m p) (bound n) s t
one_claim_of line b c (part m p) (part n q) s t = one_colon_claim line b c (part m p) (part n q) s t

-- a line is one claim at most
pub one_claim : (line : List ℕ) (a b : ShownClaim) → IsClaim line a → IsClaim line b → a ≡ b
one_claim line a b p q =
    let same = one_claim_of line a.board b.board a.asks b.asks p q in
    λ i. record { board = same.0 i; asks = same.1 i }

-- ---- lines that are none

no_moves : (line before behind : List ℕ) → IsCutAt 59 line before behind → ((b : List ℕ) → Spells before b → ¬ IsMovesText behind)
    → (b : List ℕ) (asks : ShownAsks) → ¬ IsClaimOf line b asks
no_moves line before behind cut none b shortest s = no_cut 59 line before behind s.no_semicolon cut
no_moves line before behind cut none b (moves u) s =
    let same = one_cut 59 line s.before u before behind s.whole cut in
    none b (subst (λ text. Spells text b) same.0 s.board) (subst IsMovesText same.1 s.moves)
no_moves line before behind cut none b (bound n) s = no_cut 59 line before behind s.no_semicolon cut
no_moves line before behind cut none b (part n p) s = no_cut 59 line before behind s.no_semicolon cut

-- a line with a `;` is none where what comes before it is no board, or what comes behind it no moves text
pub no_moves_claim : (line before behind : List ℕ) → IsCutAt 59 line before behind → ((b : List ℕ) → Spells before b → ¬ IsMovesText behind) → IsNoClaim line
no_moves_claim line before behind cut none claim = no_moves line before behind cut none claim.board claim.asks

no_spelt : (line before behind : List ℕ) → IsCutAt 58 line before behind → ((b : List ℕ) (asks : ShownAsks) → Spells before b → ¬ SpellsAsks behind asks)
    → (b : List ℕ) (asks : ShownAsks) → ¬ IsColonClaim line b asks
no_spelt line before behind cut none b asks s =
    let same = one_cut 58 line s.before s.behind before behind s.whole cut in
    none b asks (subst (λ text. Spells text b) same.0 s.board) (subst (λ text. SpellsAsks text asks) same.1 s.spelt)

no_colon : (line before behind : List ℕ) → HasNo 59 line → IsCutAt 58 line before behind
    → ((b : List ℕ) (asks : ShownAsks) → Spells before b → ¬ SpellsAsks behind asks)
    → (b : List ℕ) (asks : ShownAsks) → ¬ IsClaimOf line b asks
no_colon line before behind first cut none b shortest s = no_cut 58 line before behind s.no_colon cut
no_colon line before behind first cut none b (moves u) s = no_cut 59 line s.before u first s.whole
no_colon line before behind first cut none b (bound n) s = no_spelt line before behind cut none b (bound n) s
no_colon line before behind first cut none b (part n p) s = no_spelt line before behind cut none b (part n p) s

-- a line with a `:` and no `;` is none where what comes before it is no board, or what comes behind it no bound and no part of one
pub no_colon_claim : (line before behind : List ℕ) → HasNo 59 line → IsCutAt 58 line before behind
    → ((b : List ℕ) (asks : ShownAsks) → Spells before b → ¬ SpellsAsks behind asks)
    → IsNoClaim line
no_colon_claim line before behind first cut none claim = no_colon line before behind first cut none claim.board claim.asks

no_shortest : (line : List ℕ) → HasNo 59 line → HasNo 58 line → ((b : List ℕ) → ¬ Spells line b) → (b : List ℕ) (asks : ShownAsks) → ¬ IsClaimOf line b asks
no_shortest line first second none b shortest s = none b s.board
no_shortest line first second none b (moves u) s = no_cut 59 line s.before u first s.whole
no_shortest line first second none b (bound n) s = no_cut 58 line s.before s.behind second s.whole
no_shortest line first second none b (part n p) s = no_cut 58 line s.before s.behind second s.whole

-- a line with neither is none where it is no board
pub no_shortest_claim : (line : List ℕ) → HasNo 59 line → HasNo 58 line → ((b : List ℕ) → ¬ Spells line b) → IsNoClaim line
no_shortest_claim line first second none claim = no_shortest line first second none claim.board claim.asks
