-- The unknowns ahead of each node of an order, made in place of the nodes by a running sum. Assumes nothing.
use mathlib.Core.Path.{◌≡◌, refl, sym, ap, ◌∙◌}
use mathlib.Core.Logic.{◌⊎◌, inl, inr}
use mathlib.Core.Bool.{false}
use mathlib.Core.List.{List, map}
use Prim.Native.Nat.{ℕ, zero, suc, ◌+◌, ◌*◌, ◌≤◌, ◌<◌}
use native.Mathlib.Omega.{arith}
use lib.ListN.{length, get_or, set, length-map, length-set}
use lib.Seq.{ext_get_or, get_or-set_same, get_or-set_other}
use Rattle.basis.specs.Lists.{up_from}
use Rattle.basis.proofs.Index.{get_or-map-up_from}
use Rattle.basis.proofs.Lists.{length-up_from}
use Rattle.basis.proofs.Logic.{eq_or_ne}
use Rattle.spec.specs.Graph.{of_node}
use Rattle.spec.specs.Unknowns.{bad_counts}
use Rattle.laws.specs.Unknowns.{ahead}
use Rattle.laws.proofs.UnknownBounds.{count_between}
use Rattle.laws.proofs.UnknownOrder.{ahead_step}
use Rattle.graph_envelope.specs.Numbers.{Words}
use Rattle.graph_envelope.specs.Aheads.{aheads, Made}

-- ---- words made anew in place, from the first to the last

module _ (rule : ℕ → ℕ) (old : List ℕ) where
  pub made_none : Made rule old 0 old
  made_none = record { size = refl; front = λ j h l. absurd (omega arith); rest = λ j h. refl }

  -- one more
  pub made_more : (i v : ℕ) (new : List ℕ) → Made rule old i new → i < length old → v ≡ rule i → Made rule old (i + 1) (set new i v)
  made_more i v new m inside e = record {
    size = length-set new i v ∙ m.size;
    front = λ j h l. made j h l (eq_or_ne j i);
    rest = λ j h. get_or-set_other new i j v 0 (λ (z : j ≡ i). omega arith) ∙ m.rest j (omega arith);
  }
    where
      made : (j : ℕ) → j < i + 1 → j < length old → (j ≡ i) ⊎ (j ≡ i → ⊥) → get_or (set new i v) j 0 ≡ rule j
      made j h l (inl z) = ap (λ (k : ℕ). get_or (set new i v) k 0) z ∙ get_or-set_same new i v 0 (omega (arith, m.size)) ∙ e ∙ ap rule (sym z)
      made j h l (inr ne) = get_or-set_other new i j v 0 ne ∙ m.front j (omega arith) l

  -- all
  pub made_all : (i : ℕ) (new : List ℕ) → Made rule old i new → i ≡ length old → new ≡ map rule (up_from 0 (length old))
  made_all i new m e =
      ext_get_or 0 new (map rule (up_from 0 (length old))) (m.size ∙ sym (length-map (up_from 0 (length old)) rule ∙ length-up_from 0 (length old)))
      (λ j h. m.front j (omega (arith, m.size)) (omega (arith, m.size)) ∙ sym (get_or-map-up_from rule 0 (length old) j 0 (omega (arith, m.size)) ∙ ap rule (plus j)))
    where
      plus : (j : ℕ) → 0 + j ≡ j
      plus j = omega arith

-- ---- the running sum

module _ (K o : List ℕ) (fit : bad_counts (length K) K ≡ false) (W : Words (length K) o) where
  -- a listed node has at most 6
  pub listed_most : (i : ℕ) → i < length o → of_node K (get_or o i 0) ≤ 6
  listed_most i h = (count_between (length K) K fit (get_or o i 0) (W.low i h) (W.high i h)).1

  -- so i nodes have at most 6 i
  pub ahead_most : (i : ℕ) → i ≤ length o → ahead K o i ≤ 6 * i
  unfolding ahead
  ahead_most zero h = omega arith
  ahead_most (suc i) h = omega (arith, ahead_step K o i h, listed_most i h, ahead_most i (omega arith))

pub ahead_none : (K o : List ℕ) → 0 ≡ ahead K o 0
unfolding ahead
ahead_none K o = refl

-- one more
pub ahead_more : (K o : List ℕ) (i : ℕ) {s c : ℕ} → i < length o → s ≡ ahead K o i → c ≡ of_node K (get_or o i 0) → s + c ≡ ahead K o (i + 1)
ahead_more K o i h es ec =
    let e : i + 1 ≡ suc i = omega arith in
    omega (arith, ahead_step K o i h, ap (ahead K o) e)

pub length-aheads : (K o : List ℕ) → length (aheads K o) ≡ length o
unfolding aheads
length-aheads K o = length-map (up_from 0 (length o)) (ahead K o) ∙ length-up_from 0 (length o)

pub aheads-at : (K o : List ℕ) (i : ℕ) → i < length o → get_or (aheads K o) i 0 ≡ ahead K o i
unfolding aheads
aheads-at K o i h = let e : 0 + i ≡ i = omega arith in get_or-map-up_from (ahead K o) 0 (length o) i 0 h ∙ ap (ahead K o) e

pub aheads_made : (K o new : List ℕ) (i : ℕ) → Made (ahead K o) o i new → i ≡ length o → new ≡ aheads K o
unfolding aheads
aheads_made K o new i m e = made_all (ahead K o) o i new m e
