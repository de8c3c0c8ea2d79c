-- A numbering inverted node by node: each node is put at its number, until a number is none of 1..n or is taken. Assumes nothing.
use mathlib.Core.Path.{◌≡◌, refl, sym, ap, ◌∙◌, subst}
use mathlib.Core.Logic.{◌⊎◌, inl, inr, ⊎_elim}
use mathlib.Core.Bool.{true, false, not}
use mathlib.Core.List.{List, map}
use Prim.Native.Nat.{ℕ, suc, ◌+◌, ◌-◌, ◌≤◌, ◌<◌}
use native.Mathlib.Omega.{arith}
use lib.ListN.{length, get_or, set, replicate, length-map, get_or-replicate}
use lib.Seq.{ext_get_or, get_or-set_same, get_or-set_other}
use lib.Dec.{eqb}
use borrow.Author.Tests.{ne_eqb}
use Rattle.basis.specs.Lists.{memb, up_from, position}
use Rattle.basis.specs.Perm.{times, Once, Perm}
use Rattle.basis.proofs.Count.{count_sub, count_every, count_less, count_length, memb-times}
use Rattle.basis.proofs.Index.{get_or-map-up_from, position_hit, once_index, index_once}
use Rattle.basis.proofs.Lists.{up_from_make, length-up_from}
use Rattle.basis.proofs.Logic.{fails, passes, clash, eq_or_ne, eqb_self}
use Rattle.basis.proofs.Perm.{range_perm}
use Rattle.spec.specs.Measures.{is_numbering, order_of}
use Rattle.laws.proofs.Numberings.{order_once, order-memb, order_range, numbering_perm, perm_numbering}
use Rattle.graph_envelope.specs.Numbers.{Settled}

-- ---- k different numbers of a range of k are all of them

pub once_full : (a k : ℕ) (x : List ℕ) → length x ≡ k → Once x → ((q : ℕ) → memb q x ≡ true → (a ≤ q) × (q < a + k)) → Perm x (up_from a k)
once_full a k x len once range = range_perm a k x len each
  where
    all : (i : ℕ) → a ≤ i → i < a + k → memb i x ≡ true
    all i low high = passes (memb i x) missing
      where
        missing : memb i x ≡ false → ⊥
        missing m =
            omega (
              arith,
              count_sub (λ y. not (eqb i y)) x a k once range,
              count_every (λ y. not (eqb i y)) x (λ y h. ap not (ne_eqb i y (λ e. clash (subst (λ (z : ℕ). memb z x ≡ true) (sym e) h) m))),
              count_less (λ y. not (eqb i y)) (λ y. true) (up_from a k) i (up_from_make a k i low high) (λ y h. refl) (ap not (eqb_self i)) refl,
              count_length (λ (y : ℕ). true) (up_from a k),
              length-up_from a k,
            )

    each : (i : ℕ) → a ≤ i → i < a + k → times i x ≡ 1
    each i low high = omega (arith, once i, memb-times i x (all i low high))

-- ---- the walk

module _ (x : List ℕ) where
  pub settle_none : (o : List ℕ) → o ≡ replicate (length x) 0 → Settled x o 0
  settle_none o e = record {
    low = λ j h. absurd (omega arith);
    high = λ j h. absurd (omega arith);
    there = λ j h. absurd (omega arith);
    free = λ k h. inl (ap (λ (l : List ℕ). get_or l k 0) e ∙ get_or-replicate (length x) k 0 0 h);
  }

  -- one node more, at its number v, that is free
  pub settle_more : (o : List ℕ) (i v : ℕ) → Settled x o i → i < length x → length o ≡ length x → v ≡ get_or x i 0 → 1 ≤ v → v ≤ length x
      → get_or o (v - 1) 0 ≡ 0 → Settled x (set o (v - 1) (i + 1)) (i + 1)
  settle_more o i v s inside len its low high empty = record {
    low = λ j h. each j h (λ l. s.low j l) (λ e. omega (arith, ap (λ (m : ℕ). get_or x m 0) e));
    high = λ j h. each j h (λ l. s.high j l) (λ e. omega (arith, ap (λ (m : ℕ). get_or x m 0) e));
    there = λ j h. each j h (older j) (newest j);
    free = λ k h. held k h (eq_or_ne k (v - 1));
  }
    where
      each : {P : Type 0} (j : ℕ) → j < i + 1 → (j < i → P) → (j ≡ i → P) → P
      each j h f g = ⊎_elim (λ (e : j ≡ i). g e) (λ (ne : j ≡ i → ⊥). f (omega arith)) (eq_or_ne j i)

      older : (j : ℕ) → j < i → get_or (set o (v - 1) (i + 1)) (get_or x j 0 - 1) 0 ≡ suc j
      older j l =
          get_or-set_other o (v - 1) (get_or x j 0 - 1) (i + 1) 0
          (λ (e : get_or x j 0 - 1 ≡ v - 1). omega (arith, s.there j l, ap (λ (m : ℕ). get_or o m 0) e))
          ∙ s.there j l

      newest : (j : ℕ) → j ≡ i → get_or (set o (v - 1) (i + 1)) (get_or x j 0 - 1) 0 ≡ suc j
      newest j e =
          let q : get_or x j 0 - 1 ≡ v - 1 = omega (arith, ap (λ (m : ℕ). get_or x m 0) e) in
          ap (λ (m : ℕ). get_or (set o (v - 1) (i + 1)) m 0) q ∙ get_or-set_same o (v - 1) (i + 1) 0 (omega arith) ∙ omega arith

      held : (k : ℕ) → k < length x → (k ≡ v - 1) ⊎ (k ≡ v - 1 → ⊥)
          → (get_or (set o (v - 1) (i + 1)) k 0 ≡ 0) ⊎ ((j : ℕ) × (j < i + 1) × (get_or x j 0 ≡ suc k))
      held k h (inl e) = inr (i, omega arith, omega arith)
      held k h (inr ne) =
          ⊎_elim
          (λ z. inl (get_or-set_other o (v - 1) k (i + 1) 0 ne ∙ z))
          (λ w. inr (w.0, omega (arith, w.1), w.2))
          (s.free k h)

  -- a number v that is none of 1..n, or is taken
  pub settle_zero : (i v : ℕ) → i < length x → v ≡ get_or x i 0 → v ≡ 0 → false ≡ is_numbering (length x) x
  settle_zero i v h its e = sym (fails _ (λ ok. omega (arith, (order_range (length x) (numbering_perm (length x) x ok) i h).0)))

  pub settle_high : (i v : ℕ) → i < length x → v ≡ get_or x i 0 → length x < v → false ≡ is_numbering (length x) x
  settle_high i v h its e = sym (fails _ (λ ok. omega (arith, (order_range (length x) (numbering_perm (length x) x ok) i h).1)))

  pub settle_taken : (o : List ℕ) (i v : ℕ) → Settled x o i → i < length x → v ≡ get_or x i 0 → 1 ≤ v → v ≤ length x
      → (get_or o (v - 1) 0 ≡ 0 → ⊥) → false ≡ is_numbering (length x) x
  settle_taken o i v s h its low high taken = sym (fails _ (λ ok. twice ok (s.free (v - 1) (omega arith))))
    where
      twice : is_numbering (length x) x ≡ true → (get_or o (v - 1) 0 ≡ 0) ⊎ ((j : ℕ) × (j < i) × (get_or x j 0 ≡ suc (v - 1))) → ⊥
      twice ok (inl z) = taken z
      twice ok (inr w) =
          omega (arith, w.1, once_index x (order_once (length x) (numbering_perm (length x) x ok)) w.0 i (omega (arith, w.1)) h (omega (arith, w.2)))

  -- the walk to the end
  module _ (o : List ℕ) (s : Settled x o (length x)) where
    settle_perm : Perm x (up_from 1 (length x))
    settle_perm = once_full 1 (length x) x refl (index_once x same) range
      where
        same : (i j : ℕ) → i < length x → j < length x → get_or x i 0 ≡ get_or x j 0 → i ≡ j
        same i j h k e = omega (arith, s.there i h, s.there j k, ap (λ (v : ℕ). get_or o (v - 1) 0) e)

        range : (q : ℕ) → memb q x ≡ true → (1 ≤ q) × (q < 1 + length x)
        range q m =
            let w = position_hit q x m in
            (omega (arith, w.1, s.low (position q x) w.0), omega (arith, w.1, s.high (position q x) w.0))

    pub settle_passes : is_numbering (length x) x ≡ true
    settle_passes = perm_numbering (length x) settle_perm

    pub settle_order : length o ≡ length x → o ≡ order_of x
    unfolding order_of
    settle_order len =
        ext_get_or 0 o (map (λ i. suc (position i x)) (up_from 1 (length x)))
        (len ∙ sym (length-map (up_from 1 (length x)) (λ i. suc (position i x)) ∙ length-up_from 1 (length x)))
        (λ k h. each k (omega arith))
      where
        each : (k : ℕ) → k < length x → get_or o k 0 ≡ get_or (map (λ i. suc (position i x)) (up_from 1 (length x))) k 0
        each k h =
            let w = position_hit (suc k) x (order-memb (length x) settle_perm (suc k) (omega arith) (omega arith)) in
            let e : 1 + k ≡ suc k = omega arith in
            let b : k ≡ get_or x (position (suc k) x) 0 - 1 = omega (arith, w.1) in
            ap (λ (v : ℕ). get_or o v 0) b
            ∙ s.there (position (suc k) x) w.0
            ∙ sym (get_or-map-up_from (λ i. suc (position i x)) 1 (length x) k 0 h ∙ ap (λ (v : ℕ). suc (position v x)) e)
