-- Each string spells a number, whose digits to the base 4 are 1 to 4. A string that comes before another spells a smaller one.
use Rattle.std.proofs.Common.{◌≡◌, ℕ, suc, ◌+◌, ◌*◌, ◌<◌, ◌≤◌, List, [], ◌∷◌, ◌++◌, length, inl, inr, refl, sym, ◌∙◌, ap, subst, arith, length-append}
use Rattle.puz_board.specs.declared.moves.Move.{Move}
use Rattle.puz_board.specs.declared.moves.Move.TheVariants.{Up, Down, Left, Right}
use Rattle.move_strings.specs.Strings.{ComesBefore, IsEarlier, rank_of}

-- the number that letters spell after a number
pub spelled : ℕ → List Move → ℕ
spelled a [] = a
spelled a (m ∷ ms) = spelled (4 * a + rank_of m + 1) ms

-- the rank of a move is one below 4
pub rank_of-few : (m : Move) → rank_of m < 4
rank_of-few Up = omega arith
rank_of-few Down = omega arith
rank_of-few Left = omega arith
rank_of-few Right = omega arith

spelled-append : (a : ℕ) (ls ms : List Move) → spelled a (ls ++ ms) ≡ spelled (spelled a ls) ms
unfolding spelled
spelled-append a [] ms = refl
spelled-append a (l ∷ ls) ms = spelled-append (4 * a + rank_of l + 1) ls ms

spelled-grows : (a : ℕ) (ms : List Move) → a ≤ spelled a ms
unfolding spelled
spelled-grows a [] = omega arith
spelled-grows a (m ∷ ms) = let more = spelled-grows (4 * a + rank_of m + 1) ms in omega arith

-- after a smaller number, with no more letters
spelled-less : (ls ms : List Move) → length ls ≤ length ms → (a b : ℕ) → a < b → spelled a ls < spelled b ms
unfolding spelled
spelled-less [] ms few a b less = let more = spelled-grows b ms in omega arith
spelled-less (l ∷ ls) [] few a b less = absurd (omega arith)
spelled-less (l ∷ ls) (m ∷ ms) few a b less =
    let digit = rank_of-few l in
    spelled-less ls ms (omega arith) (4 * a + rank_of l + 1) (4 * b + rank_of m + 1) (omega arith)

spelled-shorter : (ls ms : List Move) → length ls < length ms → (a : ℕ) → spelled a ls < spelled a ms
unfolding spelled
spelled-shorter ls [] few a = absurd (omega arith)
spelled-shorter ls (m ∷ ms) few a = spelled-less ls ms (omega arith) a (4 * a + rank_of m + 1) (omega arith)

spelled-earlier : (ls ms : List Move) → IsEarlier ls ms → (a : ℕ) → spelled a ls < spelled a ms
unfolding spelled
spelled-earlier [] ms is a = absurd is
spelled-earlier (l ∷ ls) [] is a = absurd is
spelled-earlier (l ∷ ls) (m ∷ ms) (inl first) a =
    let long : length ls ≡ length ms = first.1 in
    let low : rank_of l < rank_of m = first.0 in
    spelled-less ls ms (omega arith) (4 * a + rank_of l + 1) (4 * a + rank_of m + 1) (omega arith)
spelled-earlier (l ∷ ls) (m ∷ ms) (inr later) a =
    subst (λ k. spelled (4 * a + rank_of l + 1) ls < spelled (4 * a + rank_of k + 1) ms) later.0 (spelled-earlier ls ms later.1 (4 * a + rank_of l + 1))

IsEarlier-long : (ls ms : List Move) → IsEarlier ls ms → length ls ≡ length ms
IsEarlier-long [] ms is = absurd is
IsEarlier-long (l ∷ ls) [] is = absurd is
IsEarlier-long (l ∷ ls) (m ∷ ms) (inl first) = ap suc first.1
IsEarlier-long (l ∷ ls) (m ∷ ms) (inr later) = ap suc (IsEarlier-long ls ms later.1)

-- a string that comes before another is no longer
pub ComesBefore-few : (witness string : List Move) → ComesBefore witness string → length witness ≤ length string
ComesBefore-few witness string (inl few) = omega arith
ComesBefore-few witness string (inr is) = let long = IsEarlier-long witness string is in omega arith

-- a string that comes before another spells a smaller number behind any number
pub ComesBefore-spelled : (witness string : List Move) → ComesBefore witness string → (a : ℕ) → spelled a witness < spelled a string
ComesBefore-spelled witness string (inl few) a = spelled-shorter witness string few a
ComesBefore-spelled witness string (inr is) a = spelled-earlier witness string is a

-- moves in which such a string stands in the place of another spell a smaller number, and are no more
pub spelled-replaced : (front witness string rest : List Move) → ComesBefore witness string
    → spelled 0 (front ++ (witness ++ rest)) < spelled 0 (front ++ (string ++ rest))
spelled-replaced front witness string rest before =
    let left = spelled-append 0 front (witness ++ rest) ∙ spelled-append (spelled 0 front) witness rest in
    let right = spelled-append 0 front (string ++ rest) ∙ spelled-append (spelled 0 front) string rest in
    let less = spelled-less rest rest (omega arith) (spelled (spelled 0 front) witness) (spelled (spelled 0 front) string)
    (ComesBefore-spelled witness string before (spelled 0 front)) in
    omega arith

-- with a string in the place of one that it comes before, moves are no more than they were
pub length-replaced : (front witness string rest : List Move) → ComesBefore witness string
    → length (front ++ (witness ++ rest)) ≤ length (front ++ (string ++ rest))
length-replaced front witness string rest before =
    let few = ComesBefore-few witness string before in
    let left = length-append front (witness ++ rest) in
    let left_two = length-append witness rest in
    let right = length-append front (string ++ rest) in
    let right_two = length-append string rest in
    omega arith

-- ---- the order, with the same letters around both

IsEarlier-rest : (ls ms rest : List Move) → IsEarlier ls ms → IsEarlier (ls ++ rest) (ms ++ rest)
IsEarlier-rest [] ms rest is = absurd is
IsEarlier-rest (l ∷ ls) [] rest is = absurd is
IsEarlier-rest (l ∷ ls) (m ∷ ms) rest (inl first) = inl (first.0, length-append ls rest ∙ ap (λ k. k + length rest) first.1 ∙ sym (length-append ms rest))
IsEarlier-rest (l ∷ ls) (m ∷ ms) rest (inr later) = inr (later.0, IsEarlier-rest ls ms rest later.1)

IsEarlier-front : (front ls ms : List Move) → IsEarlier ls ms → IsEarlier (front ++ ls) (front ++ ms)
IsEarlier-front [] ls ms is = is
IsEarlier-front (m ∷ front) ls ms is = inr (refl, IsEarlier-front front ls ms is)

-- between the same moves, a string that comes before another makes moves that come before
pub ComesBefore-around : (front witness string rest : List Move) → ComesBefore witness string
    → ComesBefore (front ++ (witness ++ rest)) (front ++ (string ++ rest))
ComesBefore-around front witness string rest (inl few) =
    let a = length-append front (witness ++ rest) in
    let b = length-append witness rest in
    let c = length-append front (string ++ rest) in
    let d = length-append string rest in
    inl (omega arith)
ComesBefore-around front witness string rest (inr is) = inr (IsEarlier-front front (witness ++ rest) (string ++ rest) (IsEarlier-rest witness string rest is))
