-- A part whose nodes stand in the working words, and its areas: what holds of them before and after a store of its levels. Assumes nothing.
use mathlib.Core.Path.{◌≡◌, sym, ap, ◌∙◌, subst}
use mathlib.Core.Logic.{inl, inr, ⊎_elim}
use mathlib.Core.Bool.{true}
use mathlib.Core.List.{List}
use Prim.Native.Nat.{ℕ, ◌+◌, ◌*◌, ◌≤◌, ◌<◌}
use native.Mathlib.Omega.{arith}
use lib.ListN.{length, take, drop, get_or, replicate, length-drop, length-replicate, get_or-replicate}
use lib.Seq.{sets, length-sets, ext_get_or, length-take-le, get_or-take, get_or-drop, take-take}
use Rattle.basis.specs.Lists.{memb}
use Rattle.basis.proofs.Index.{memb-get_or}
use Rattle.spec.specs.Graph.{Graph}
use Rattle.spec.specs.Levels.{part}
use Rattle.laws.specs.Legal.{Node}
use Rattle.laws.proofs.Parts.{part_inside}
use Rattle.numbering_stacks.specs.Part.{members_in}
use Rattle.numbering_sequence.specs.Answer.{Areas, PartAt}
use Rattle.numbering_sequence.proofs.Stored.{stored_other}

member_at : (from m : ℕ) (W : List ℕ) (i : ℕ) → i < m → get_or (members_in from m W) i 0 ≡ get_or W (from + i) 0
member_at from m W i h = get_or-take m (drop from W) i 0 h ∙ get_or-drop from W i 0

members-length : (from m : ℕ) (W : List ℕ) → from + m ≤ length W → length (members_in from m W) ≡ m
members-length from m W h = length-take-le m (drop from W) (omega (arith, length-drop from W))

module _ {g : Graph} {from m : ℕ} {W : List ℕ} (P : PartAt g from m W) (fit : from + m ≤ length W) where
  -- the first of the m nodes is a node
  pub lowest_node : Node g (get_or W from 0)
  lowest_node =
      let e : from + 0 ≡ from = omega arith in
      let s : get_or (members_in from m W) 0 0 ≡ get_or W from 0 = member_at from m W 0 P.some ∙ ap (λ (x : ℕ). get_or W x 0) e in
      let i : memb (get_or W from 0) (members_in from m W) ≡ true =
      subst (λ (x : ℕ). memb x (members_in from m W) ≡ true) s (memb-get_or (members_in from m W) 0 (omega (arith, members-length from m W fit, P.some)))
      in
      part_inside g (get_or W from 0) (get_or W from 0) (ap (memb (get_or W from 0)) (sym P.members) ∙ i)

  -- the part has m nodes
  pub part_size : length (part g (get_or W from 0)) ≡ m
  part_size = ap length (sym P.members) ∙ members-length from m W fit

-- the first n words are 0
pub front-zeros : {n at from m : ℕ} {W : List ℕ} → Areas n at from m W → take n W ≡ replicate n 0
front-zeros {n} {at} {from} {m} {W} A =
    sym (take-take n (4 * n) W (omega arith)) ∙ ap (take n) A.zeros
    ∙ ext_get_or 0 (take n (replicate (4 * n) 0)) (replicate n 0) (long ∙ sym (length-replicate n 0))
    (λ i h.
    let b : i < n = omega (arith, long) in
    get_or-take n (replicate (4 * n) 0) i 0 b ∙ get_or-replicate (4 * n) i 0 0 (omega arith) ∙ sym (get_or-replicate n i 0 0 b))
  where
    long : length (take n (replicate {A = ℕ} (4 * n) 0)) ≡ n
    long = length-take-le n (replicate (4 * n) 0) (omega (arith, length-replicate {A = ℕ} (4 * n) 0))

-- n words stored by old number leave the rest as it was
module _ {n at from m : ℕ} {W : List ℕ} (A : Areas n at from m W) (vs : List ℕ) (few : length vs ≡ n) where
  word_same : (i : ℕ) → i < m → get_or (sets W at vs) (from + i) 0 ≡ get_or W (from + i) 0
  word_same i h =
      stored_other W at vs (from + i)
      (⊎_elim (λ (l : at + n ≤ from). inr (omega arith)) (λ (l : from + m ≤ at). inl (omega arith)) A.apart)

  pub lowest_same : 1 ≤ m → get_or (sets W at vs) from 0 ≡ get_or W from 0
  lowest_same h =
      let e : from + 0 ≡ from = omega arith in
      subst (λ (x : ℕ). get_or (sets W at vs) x 0 ≡ get_or W x 0) e (word_same 0 h)

  pub members_same : members_in from m (sets W at vs) ≡ members_in from m W
  members_same =
      let s = members-length from m (sets W at vs) (omega (arith, length-sets W at vs, A.from_held)) in
      let t = members-length from m W A.from_held in
      ext_get_or 0 (members_in from m (sets W at vs)) (members_in from m W) (s ∙ sym t)
      (λ i h.
      let b : i < m = omega arith in
      member_at from m (sets W at vs) i b ∙ word_same i b ∙ sym (member_at from m W i b))

  pub part_stays : {g : Graph} → PartAt g from m W → PartAt g from m (sets W at vs)
  part_stays {g} P = record { some = P.some; members = members_same ∙ P.members ∙ ap (part g) (sym (lowest_same P.some)) }

  pub areas_stay : Areas n at from m (sets W at vs)
  areas_stay = record {
    zeros = zeros_stay ∙ A.zeros;
    at_low = A.at_low;
    from_low = A.from_low;
    at_held = omega (arith, length-sets W at vs, A.at_held);
    from_held = omega (arith, length-sets W at vs, A.from_held);
    apart = A.apart;
  }
    where
      zeros_stay : take (4 * n) (sets W at vs) ≡ take (4 * n) W
      zeros_stay =
          let s = length-take-le (4 * n) (sets W at vs) (omega (arith, length-sets W at vs, A.at_low, A.at_held)) in
          let t = length-take-le (4 * n) W (omega (arith, A.at_low, A.at_held)) in
          ext_get_or 0 (take (4 * n) (sets W at vs)) (take (4 * n) W) (s ∙ sym t)
          (λ i h.
          let b : i < 4 * n = omega arith in
          get_or-take (4 * n) (sets W at vs) i 0 b ∙ stored_other W at vs i (inl (omega (arith, A.at_low))) ∙ sym (get_or-take (4 * n) W i 0 b))
