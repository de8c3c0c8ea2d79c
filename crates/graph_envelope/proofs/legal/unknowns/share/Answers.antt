-- `graph_envelope::legal::unknowns::share` meets its contract. Assumes nothing.
use mathlib.Core.Path.{sym, ap}
use Prim.Native.Nat.{ℕ, ◌+◌, ◌-◌, ◌*◌, ◌≤◌}
use native.Mathlib.Nat.{mul-le-mul}
use native.Mathlib.Omega.{arith}
use Rattle.laws.proofs.UnknownMeasures.{triangle_is}
use Rattle.graph_envelope.proofs.legal.unknowns.share.Goals as goal

-- the products are small
squares : (c : ℕ) → c ≤ 6 → c * (c - 1) ≤ 30
squares c h = let l : c - 1 ≤ 5 = omega arith in mul-le-mul h l

rows : (c w : ℕ) → c ≤ 6 → w ≤ 24576 → c * w ≤ 147456
rows c w h l = mul-le-mul h l

pub returns : goal.returns
returns c = ap (λ (t : ℕ). c.args.c * c.args.width + t) (sym (triangle_is c.args.c c.requires.1))
