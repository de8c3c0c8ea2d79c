-- The levels of a part's nodes counted from the other end, in place. Assumes nothing.
use mathlib.Core.Path.{◌≡◌, refl, sym, ap, ◌∙◌, subst}
use mathlib.Core.Logic.{◌⊎◌, inl, inr, ⊎_elim}
use mathlib.Core.Bool.{true}
use mathlib.Core.List.{List, map}
use Prim.Native.Nat.{ℕ, suc, ◌+◌, ◌-◌, ◌≤◌, ◌<◌}
use native.Mathlib.Omega.{arith}
use lib.ListN.{length, drop, get_or, set, length-drop, length-map}
use lib.Seq.{sets, slice, length-slice, length-take-le, get_or-take, get_or-drop}
use Rattle.basis.specs.Lists.{memb}
use Rattle.basis.proofs.Index.{get_d_map, memb-get_or, position_hit}
use Rattle.basis.proofs.Logic.{by_test}
use Rattle.basis.proofs.Puts.{puts_none, puts-step, length-puts, puts-other}
use Rattle.spec.specs.Combined.{mirrored}
use Rattle.spec.specs.Graph.{of_node}
use Rattle.laws.proofs.Combined.{mirror_sum}
use Rattle.laws.proofs.Legal.{of_node-at}
use Rattle.numbering_stacks.specs.Part.{members_in}
use Rattle.basis.proofs.ByNumber.{word_of, number_puts, number_next, number-all}
use Rattle.numbering_sequence.specs.Answer.{Mirrorable}
use Rattle.numbering_sequence.proofs.Stored.{slice_at, stored_by}

mirror_none : (k : ℕ) → mirrored k 0 ≡ 0
unfolding mirrored
mirror_none k = refl

-- the level of the part's node number h, counted from 0, counted from the other end
abbrev turned_level : ℕ → ℕ → ℕ → ℕ → List ℕ → ℕ → ℕ
turned_level at from m k W h = mirrored k (get_or W (word_of at (members_in from m W) h) 0)

-- at the loop's head: the levels of the first j of the part's nodes are counted from the other end
pub record Mirroring (n at from m k : ℕ) (W₀ W : List ℕ) (j : ℕ) : Type 0 where
  pub given : Mirrorable n at from m k W₀
  pub most : j ≤ m
  pub on : W ≡ number_puts at (members_in from m W₀) (turned_level at from m k W₀) W₀ j

pub mirror_begin : {n at from m k : ℕ} {W : List ℕ} → Mirrorable n at from m k W → Mirroring n at from m k W W 0
mirror_begin {n} {at} {from} {m} {k} {W} M = record { given = M; most = omega arith; on = puts_none (word_of at (members_in from m W)) (turned_level at from m k W) W }

module _ {n at from m k : ℕ} {W₀ : List ℕ} (M : Mirrorable n at from m k W₀) where
  abbrev P : List ℕ
  P = members_in from m W₀

  count : length P ≡ m
  count = length-take-le m (drop from W₀) (omega (arith, M.areas.from_held, length-drop from W₀))

  member : (h : ℕ) → h < m → memb (get_or P h 0) P ≡ true
  member h b = memb-get_or P h (omega (arith, count))

  range : (h : ℕ) → h < m → (1 ≤ get_or P h 0) × (get_or P h 0 ≤ n)
  range h b = M.nodes (get_or P h 0) (member h b)

  low : (z : ℕ) → memb z P ≡ true → 1 ≤ z
  low z b = (M.nodes z b).0

  -- a node's level
  level_of_lem : (q : ℕ) → 1 ≤ q → q ≤ n → of_node (slice at (at + n) W₀) q ≡ get_or W₀ (at + q - 1) 0
  level_of_lem q a b =
      let e : at + (q - 1) ≡ at + q - 1 = omega arith in
      of_node-at (slice at (at + n) W₀) q a ∙ slice_at at (at + n) W₀ (q - 1) (omega arith) ∙ ap (λ (x : ℕ). get_or W₀ x 0) e

  -- words outside of the levels are as they were
  outside : (j i : ℕ) → j ≤ m → (i < at) ⊎ (at + n ≤ i) → get_or (number_puts at P (turned_level at from m k W₀) W₀ j) i 0 ≡ get_or W₀ i 0
  outside j i b h = puts-other (word_of at P) (turned_level at from m k W₀) W₀ j i (λ x c e.
      let r = range x (omega arith) in
      ⊎_elim (λ (l : i < at). omega (arith, r.0)) (λ (l : at + n ≤ i). omega (arith, r.0, r.1)) h)

module _ {n at from m k : ℕ} {W₀ W : List ℕ} {j : ℕ} (I : Mirroring n at from m k W₀ W j) where
  abbrev Q : List ℕ
  Q = members_in from m W₀

  abbrev old : ℕ
  old = get_or W₀ (word_of at Q j) 0

  mirror_size : length W ≡ length W₀
  mirror_size = ap length I.on ∙ length-puts (word_of at Q) (turned_level at from m k W₀) W₀ j

  module _ (h : j < m) where
    module _ {a : ℕ} (e : a ≡ get_or W (from + j) 0) where
      a_is : a ≡ get_or Q j 0
      a_is =
          let apart : (from + j < at) ⊎ (at + n ≤ from + j) = ⊎_elim (λ (l : at + n ≤ from). inr (omega arith)) (λ (l : from + m ≤ at). inl (omega arith)) I.given.areas.apart in
          e ∙ ap (λ (l : List ℕ). get_or l (from + j) 0) I.on ∙ outside I.given j (from + j) I.most apart
          ∙ sym (get_or-take m (drop from W₀) j 0 h ∙ get_or-drop from W₀ j 0)

      its_place : at + (a - 1) ≡ word_of at Q j
      its_place = omega (arith, a_is, range I.given j h)

      pub mirror_range : (1 ≤ a) × (at + (a - 1) < length W)
      mirror_range =
          let x = range I.given j h in
          (omega (arith, a_is, x.0), omega (arith, a_is, x.0, x.1, I.given.areas.at_held, mirror_size))

      -- its level is still as it was
      old-level : get_or W (at + (a - 1)) 0 ≡ old
      old-level =
          (λ t. get_or (I.on t) (its_place t) 0)
          ∙ number_next at Q (low I.given) (turned_level at from m k W₀) W₀ I.given.once j (omega (arith, count I.given))

      pub mirror_level : (1 ≤ get_or W (at + (a - 1)) 0) × (get_or W (at + (a - 1)) 0 ≤ k)
      mirror_level =
          let q : ℕ = get_or Q j 0 in
          let x = range I.given j h in
          let l = level_of_lem I.given q x.0 x.1 in
          let i = member I.given j h in
          (omega (arith, l, old-level, I.given.some q i), omega (arith, l, old-level, I.given.most q i))

      its_mirror : k + 1 - get_or W (at + (a - 1)) 0 ≡ mirrored k old
      its_mirror =
          let o = old-level in
          let r = mirror_level in
          let s = mirror_sum k old (omega (arith, r.0)) (omega (arith, r.1)) in
          omega (arith, r.1)

      pub mirror_step : Mirroring n at from m k W₀ (set W (at + (a - 1)) (k + 1 - get_or W (at + (a - 1)) 0)) (j + 1)
      mirror_step = record {
        given = I.given;
        most = omega arith;
        on = puts-step (word_of at Q) (turned_level at from m k W₀) W₀ I.on its_place its_mirror;
      }

  pub mirror_done : m ≤ j → W ≡ sets W₀ at (map (mirrored k) (slice at (at + n) W₀))
  mirror_done h =
      stored_by W₀ at (map (mirrored k) (slice at (at + n) W₀)) W (omega (arith, size, I.given.areas.at_held)) mirror_size
      (λ t b. level t (omega (arith, size)) ∙ sym (get_d_map (mirrored k) (slice at (at + n) W₀) t 0 0 (omega (arith, slice_size, size)) ∙ ap (mirrored k) (slice_at at (at + n) W₀ t (omega (arith, size)))))
      (λ t b. ap (λ (l : List ℕ). get_or l t 0) I.on ∙ outside I.given j t I.most (subst (λ (x : ℕ). (t < at) ⊎ (at + x ≤ t)) size b))
    where
      slice_size : length (slice at (at + n) W₀) ≡ n
      slice_size = length-slice at (at + n) W₀ I.given.areas.at_held ∙ omega arith

      size : length (map (mirrored k) (slice at (at + n) W₀)) ≡ n
      size = length-map (slice at (at + n) W₀) (mirrored k) ∙ slice_size

      passed : j ≡ length Q
      passed = omega (arith, I.most, count I.given)

      -- the level of node t + 1: one of the part's nodes, or another, which has none
      level : (t : ℕ) → t < n → get_or W (at + t) 0 ≡ mirrored k (get_or W₀ (at + t) 0)
      level t b =
          let e : at + t ≡ at + suc t - 1 = omega arith in
          (λ x. get_or ((I.on ∙ ap (number_puts at Q (turned_level at from m k W₀) W₀) passed) x) (e x) 0)
          ∙ number-all at Q (low I.given) (turned_level at from m k W₀) W₀ I.given.once (suc t) (omega arith) (omega (arith, I.given.areas.at_held))
          ∙ by_test (memb (suc t) Q)
          (λ i. rw i (ap (λ (x : ℕ). mirrored k (get_or W₀ (at + x - 1) 0)) (position_hit (suc t) Q i).1))
          (λ o. let z = sym (level_of_lem I.given (suc t) (omega arith) b) ∙ I.given.outside (suc t) (omega arith) b o in rw o (z ∙ sym (mirror_none k) ∙ ap (mirrored k) (sym z)))
          ∙ ap (λ (x : ℕ). mirrored k (get_or W₀ x 0)) (sym e)
