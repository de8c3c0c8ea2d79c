-- For callers of `forward`: what it asks, and the levels that it speaks of, from a level structure of the part.
-- Assumes nothing.
use mathlib.Core.Path.{◌≡◌, sym, ap, ◌∙◌}
use mathlib.Core.Bool.{true, ◌&&◌}
use mathlib.Core.List.{List}
use Prim.Native.Nat.{ℕ, ◌+◌, ◌-◌, ◌≤◌, ◌*◌}
use native.Mathlib.Omega.{arith}
use lib.ListN.{length, drop}
use lib.Dec.{ltb, leb}
use Rattle.basis.specs.Lists.{bit, memb, up_from}
use Rattle.basis.specs.Perm.{times}
use Rattle.basis.proofs.Count.{bit_none, memb-times, bit_most, count_every, count_length, count_range, count_sum}
use Rattle.basis.proofs.Index.{memb-get_or}
use Rattle.basis.proofs.Lists.{length-up_from, up_from_in, sum_mono}
use Rattle.basis.proofs.Logic.{by_test}
use Rattle.basis.proofs.Perm.{perm_length}
use Rattle.spec.specs.Graph.{Graph, of_node}
use Rattle.spec.specs.Numbering.{forward_order}
use Rattle.spec.specs.Levels.{part}
use Rattle.laws.specs.Legal.{LegalGraph, Node}
use Rattle.laws.specs.Structure.{LevelStructure}
use Rattle.laws.proofs.Legal.{of_node-at}
use Rattle.laws.proofs.PartOrder.{forward_perm}
use Rattle.laws.proofs.Levels.{part_node}
use Rattle.laws.proofs.Parts.{part_again, part_closed}
use Rattle.numbering_stacks.specs.Part.{members_in, Behind}
use Rattle.numbering_order.specs.Model.{own_levels, Starting}
use Rattle.numbering_order.proofs.OwnLevels.{own_is}

-- there are no more levels than nodes: each is occupied
levels_few : {g : Graph} → LegalGraph g → {z : ℕ} → Node g z → {k v u : ℕ} {ls : List ℕ} → LevelStructure g z k v u ls → k ≤ g.size
levels_few {g} G {z} Z {k} {ls = ls} S =
    omega (
      arith,
      count_every (λ i. memb i ls) (up_from 1 k) occupied,
      length-up_from 1 k,
      count_sum (λ i. memb i ls) (up_from 1 k),
      sum_mono (λ i. bit (memb i ls)) (λ i. times i ls) (up_from 1 k)
          (λ i. by_test (memb i ls) (λ e. omega (arith, bit_most (memb i ls), memb-times i ls e)) (λ e. omega (arith, bit_none (memb i ls) e))),
      count_range 1 k ls,
      count_length (λ x. leb 1 x && ltb x (1 + k)) ls,
      S.size,
    )
  where
    occupied : (i : ℕ) → memb i (up_from 1 k) ≡ true → memb i ls ≡ true
    occupied i m =
        let w = up_from_in 1 k i m in
        let o = S.occupied i w.0 (omega (arith, w.1)) in
        let X = part_node G Z o.0 o.1 in
        ap (λ (x : ℕ). memb x ls) (sym o.2 ∙ of_node-at ls o.0 X.low) ∙ memb-get_or ls (o.0 - 1) (omega (arith, S.size, X.low, X.high))

-- the part's nodes stand in W from `from` on, and L has their levels
module _ {g : Graph} (G : LegalGraph g) {z : ℕ} (Z : Node g z) {k v u : ℕ} {ls : List ℕ} (S : LevelStructure g z k v u ls) (from m : ℕ) (W L : List ℕ)
    (stands : members_in from m W ≡ part g z) (same : (q : ℕ) → memb q (part g z) ≡ true → of_node L q ≡ of_node ls q) where
  -- the levels that `forward` speaks of are those of the structure
  pub levels_are : own_levels g (members_in from m W) L ≡ ls
  levels_are = rw stands (own_is g (part g z) L ls S.size same S.outside)

  pub starting_make : memb v (part g z) ≡ true → Starting (own_levels g (members_in from m W) L) (members_in from m W) k v
  starting_make i = rw (levels_are, stands) (record { some = omega (arith, S.some v i, S.most v i); few = omega (arith, levels_few G Z S, S.size); member = i; first = S.v-first })

  -- what `forward` asks, where L is what stands from `at` on
  pub behind_make : {n at : ℕ} → n ≡ g.size → L ≡ drop at W → 4 * n ≤ at → at + n ≤ length W → 4 * n ≤ from → from + m ≤ length W → Behind g n at from m W
  behind_make {n} {at} s e a b c d = record {
    placed = record {
      behind = a;
      wide = b;
      start = c;
      held = d;
      nodes = rw stands (λ q i. let X = part_node G Z q i in (X.low, rw s X.high));
      levels = rw (stands, ← e) (λ q i. (omega (arith, same q i, S.some q i), omega (arith, same q i, S.most q i, levels_few G Z S, s)));
    };
    rising = rw stands (part_again g z);
    closed = rw stands (part_closed G Z);
  }

-- the order takes as many words as the part has nodes
pub order-length : {g : Graph} → LegalGraph g → {z : ℕ} → Node g z → {k v u : ℕ} {ls : List ℕ} → LevelStructure g z k v u ls → memb v (part g z) ≡ true
    → length (forward_order g ls k v) ≡ length (part g z)
order-length G Z S i = perm_length (forward_perm G Z S i)
