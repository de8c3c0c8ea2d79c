-- Two words for contracts: what stands behind a reference when a function is called, and when it returns. Assumes nothing.
use Rattle.std.specs.Borrow.{Bor}
use denote.Triple.Both.{Both}

-- at entry
abbrev pub was {ℓ} : {X : Type 0} {Y : Type ℓ} → Both (Bor X) Y → X
was x = x.entry.now

-- at exit
abbrev pub left {ℓ} : {X : Type 0} {E : Type ℓ} → Both E (Bor X) → X
left x = x.exit.now
