-- `levels_search::legal::visit_two` meets its contract. Assumes nothing.
use mathlib.Core.Path.{◌≡◌, refl, ap, ◌∙◌}
use mathlib.Core.Bool.{Bool, true, false, cond}
use mathlib.Core.List.{List, [], ◌∷◌}
use Prim.Native.Nat.{ℕ, ◌+◌, ◌-◌, ◌<◌}
use native.Mathlib.Omega.{arith}
use lib.ListN.{get_or, set}
use lib.Seq.{set_comm}
use lib.Dec.{eqb}
use Rattle.std.specs.Int.{from_bool}
use Rattle.basis.specs.Lists.{bit}
use Rattle.levels_search.specs.Marks.{within}
use Rattle.levels_search.specs.Queue.{Lent, Moved}
use Rattle.levels_search.proofs.OneOrTwo.{two}
use Rattle.levels_search.proofs.legal.visit_two.Goals as goal

-- std's number of a Bool is the definitions' one
as-bit : (b : Bool) → from_bool b ≡ bit b
as-bit true = refl
as-bit false = refl

-- what the code has of the two words
record Words (W : List ℕ) (j at new level : ℕ) : Type 0 where
  is-new : new ≡ bit (eqb (get_or W (at - 1) 0) 0)
  is-level : level ≡ cond (eqb (get_or W (at - 1) 0) 0) j (get_or W (at - 1) 0)

both : {n : ℕ} {W : List ℕ} {tail j u v a b p q x y : ℕ} → Lent n W tail j → within n (u ∷ v ∷ []) → u < v → tail + 1 < n
    → a ≡ u → b ≡ v → Words W j a p x → Words W j b q y
    → Moved n (u ∷ v ∷ []) j W tail (set (set (set (set W (n + tail) u) (n + (tail + p)) v) (a - 1) x) (b - 1) y) (tail + p + q)
both {n} {W} {tail} {j} {u} {v} {a} {b} {p} {q} {x} {y} R w lt h ea eb A B =
    rw order (rw (A.is-new, A.is-level, B.is-new, B.is-level, ea, eb) (two R w.0 lt w.2.1 h))
  where
    -- the stores in the order of `two`
    order : set (set (set (set W (n + tail) u) (n + (tail + p)) v) (a - 1) x) (b - 1) y ≡ set (set (set (set W (a - 1) x) (n + tail) u) (b - 1) y) (n + (tail + p)) v
    order =
        ap (λ (l : List ℕ). set l (b - 1) y)
        (set_comm (set W (n + tail) u) (n + (tail + p)) (a - 1) v x (λ e. omega (arith, ea, w.0, w.1))
        ∙ ap (λ (l : List ℕ). set l (n + (tail + p)) v) (set_comm W (n + tail) (a - 1) u x (λ e. omega (arith, ea, w.0, w.1))))
        ∙ set_comm (set (set W (a - 1) x) (n + tail) u) (n + (tail + p)) (b - 1) v y (λ e. omega (arith, eb, w.2.0, w.2.1))

pub returns : goal.returns
returns c =
    both c.requires.lent c.requires.within c.requires.u_lt_v c.requires.tail_bound c.from-a.ensures c.from-b.ensures
    (record { is-new = c.from.ensures ∙ as-bit _; is-level = c.level.ensures })
    (record { is-new = c.from-2.ensures ∙ as-bit _; is-level = c.level-2.ensures })
