-- What a full write adds to what an output holds: a front of the bytes. Assumes nothing.
use Rattle.std.proofs.Common.{◌≡◌, ℕ, ◌+◌, ◌-◌, List, ◌++◌, length, take, drop, sym, ap, ◌∙◌, subst, arith, length-drop}
use Rattle.std.proofs.Math.Seq.{take-add}
use Rattle.std.proofs.lemmas.List.{take_all}
use Rattle.std.specs.declared.option.Option.{Option}
use Rattle.std.specs.Io.KnownBytes.{Appends}
use Rattle.std.proofs.KnownBytes.{Appends-trans}

-- what stands behind the first n bytes, as a slice
abbrev pub rest : ℕ → List ℕ → List ℕ
rest n bytes = take (length bytes - n) (drop n bytes)

rest_is : (n : ℕ) (bytes : List ℕ) → rest n bytes ≡ drop n bytes
rest_is n bytes = take_all (length bytes - n) (drop n bytes) (omega (arith, length-drop n bytes))

-- a write of m bytes behind the first n
pub wrote_on : (a b c : Option (List ℕ)) (n m : ℕ) (bytes : List ℕ) → Appends a b (take n bytes) → Appends b c (take m (rest n bytes)) → Appends a c (take (n + m) bytes)
wrote_on a b c n m bytes before next =
    let joined : take n bytes ++ take m (rest n bytes) ≡ take (n + m) bytes =
    ap (λ (l : List ℕ). take n bytes ++ take m l) (rest_is n bytes) ∙ sym (take-add n m bytes) in
    subst (Appends a c) joined (Appends-trans a b c (take n bytes) (take m (rest n bytes)) before next)
