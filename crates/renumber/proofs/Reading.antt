-- What a full read puts in front of a buffer: the bytes that the input has lost, which are the input's front, as far as the buffer has room.
-- Assumes nothing.
use Rattle.std.proofs.Common.{◌≡◌, ℕ, ◌+◌, ◌≤◌, List, ◌++◌, None, Some, IfSome, length, take, drop, sym, ap, ◌∙◌, subst, arith, append-nil}
use Rattle.std.proofs.Math.Seq.{take-add, length-take-le}
use Rattle.std.proofs.lemmas.List.{take_all, take_at}
use Rattle.std.specs.declared.option.Option.{Option}
use Rattle.std.specs.Io.KnownBytes.{Consumes, IsAtEnd}
use Rattle.std.proofs.KnownBytes.{Consumes-trans}

-- a read of m bytes behind the first n
pub read_on : (a b c : Option (List ℕ)) (n m : ℕ) (old new : List ℕ) → Consumes a b (take n old) → take n new ≡ take n old
    → Consumes b c (take m (drop n new)) → Consumes a c (take (n + m) new)
read_on a b c n m old new lost front next =
    let e : take n old ++ take m (drop n new) ≡ take (n + m) new = ap (λ (l : List ℕ). l ++ take m (drop n new)) (sym front) ∙ sym (take-add n m new) in
    subst (Consumes a c) e (Consumes-trans a b c (take n old) (take m (drop n new)) lost next)

-- no room is left
pub full : (a b : Option (List ℕ)) (n : ℕ) (bs : List ℕ) → n ≡ length bs → Consumes a b (take n bs) → IfSome a (λ xs. take n bs ≡ take (length bs) xs)
full None b n bs e lost = tt
full (Some xs) None n bs e lost = absurd lost
full (Some xs) (Some ys) n bs e lost =
    let front : length (take n bs) ≡ length bs = length-take-le n bs (omega arith) ∙ e in
    sym (ap (take (length bs)) lost ∙ take_at (take n bs) ys (length bs) front)

-- the input has ended
pub ended : (a b : Option (List ℕ)) (n : ℕ) (bs : List ℕ) → n ≤ length bs → Consumes a b (take n bs) → IsAtEnd b → IfSome a (λ xs. take n bs ≡ take (length bs) xs)
ended None b n bs within lost end = tt
ended (Some xs) None n bs within lost end = absurd lost
ended (Some xs) (Some ys) n bs within lost end =
    let all : xs ≡ take n bs = lost ∙ ap (λ (l : List ℕ). take n bs ++ l) end ∙ append-nil (take n bs) in
    let few : length (take n bs) ≤ length bs = omega (arith, length-take-le n bs within) in
    sym (ap (take (length bs)) all ∙ take_all (length bs) (take n bs) few)
