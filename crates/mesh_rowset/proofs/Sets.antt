-- Sets of nodes in words, filled and emptied. Assumes nothing.
use mathlib.Core.Path.{◌≡◌, sym, ap, ap₂, subst, ◌∙◌}
use mathlib.Core.Logic.{⊎_elim}
use mathlib.Core.Bool.{Bool, true, false, not, ◌&&◌, ◌||◌, and-true, or_assoc, or-false}
use mathlib.Core.List.{List}
use Prim.Native.Nat.{ℕ, zero, suc, ◌+◌, ◌*◌, ◌-◌, ◌/◌, ◌%◌, ◌^◌, ◌≤◌, ◌<◌}
use native.Mathlib.Nat.{add-zero}
use native.Mathlib.Omega.{arith}
use lib.Bits.{bit_or}
use lib.Count.{count_trailing_zeros}
use lib.ListN.{length, get_or, set, drop, length-set}
use lib.Pow.{shr-shr}
use lib.Seq.{sets, get_or-set_same, get_or-set_other}
use lib.Dec.{eqb}
use borrow.Author.Tests.{eq-eqb, ne_eqb, eqb-true, eqb-false}
use Rattle.basis.specs.Filling.{Filling}
use Rattle.basis.specs.Lists.{memb, up_from}
use Rattle.basis.proofs.Count.{length-filter}
use Rattle.basis.proofs.Logic.{by_test, or_none, lt_or_le, and_none}
use Rattle.basis.proofs.Filling.{filling_yes, filling_no}
use Rattle.mesh_elements.proofs.Remains.{drop_next}
use Rattle.mesh_rowset.specs.Set.{bit_at, has, in_row, members, Empty, Covered, Wrote}
use Rattle.mesh_rowset.proofs.Bits.{bit_zero, bit-or, bit_down, Lowest, lowest_in_lem, lowest_left}

and-all : (a : Bool) {b : Bool} → b ≡ true → a && b ≡ a
and-all a e = ap (λ b. a && b) e ∙ and-true a

-- ---- nodes are added

-- the set with the nodes before place j, completed by those from j on
pub record Adding (before nodes : List ℕ) (j : ℕ) (bits : List ℕ) (mask : ℕ) : Type 0 where
  pub size : length bits ≡ 64
  pub covered : Covered mask bits
  pub at : (x : ℕ) → x < 4096 → has bits x || memb (suc x) (drop j nodes) ≡ has before x || memb (suc x) nodes

module _ (before nodes : List ℕ) where
  module _ (j : ℕ) (bits : List ℕ) (mask : ℕ) (A : Adding before nodes j bits mask) where
    -- node x₀ + 1 at j
    module _ (h : j < length nodes) (x₀ : ℕ) (e : suc x₀ ≡ get_or nodes j 0) (l : x₀ < 4096) (bit cover : ℕ)
        (b : (k : ℕ) → bit_at k bit ≡ eqb k (x₀ % 64)) (g : (k : ℕ) → bit_at k cover ≡ eqb k (x₀ / 64)) where
      abbrev pub new : List ℕ
      new = set bits (x₀ / 64) (bit_or (get_or bits (x₀ / 64) 0) bit)

      -- its word
      word : get_or new (x₀ / 64) 0 ≡ bit_or (get_or bits (x₀ / 64) 0) bit
      word = get_or-set_same bits (x₀ / 64) _ 0 (omega (arith, A.size))

      -- the set holds it besides
      grown : (x : ℕ) → has new x ≡ has bits x || eqb (suc x) (get_or nodes j 0)
      unfolding has
      grown x = by_test (eqb (x / 64) (x₀ / 64)) (λ y. here (eqb-true (x / 64) (x₀ / 64) y)) (λ y. there (eqb-false (x / 64) (x₀ / 64) y))
        where
          same : x / 64 ≡ x₀ / 64 → eqb (x % 64) (x₀ % 64) ≡ eqb (suc x) (get_or nodes j 0)
          same s =
              by_test (eqb (x % 64) (x₀ % 64)) (λ y. y ∙ sym (eq-eqb (suc x) (get_or nodes j 0) (omega (arith, s, e, eqb-true (x % 64) (x₀ % 64) y))))
              (λ y. y ∙ sym (ne_eqb (suc x) (get_or nodes j 0) (λ z. eqb-false (x % 64) (x₀ % 64) y (omega (arith, s, e, z)))))

          here : x / 64 ≡ x₀ / 64 → bit_at (x % 64) (get_or new (x / 64) 0) ≡ bit_at (x % 64) (get_or bits (x / 64) 0) || eqb (suc x) (get_or nodes j 0)
          here s =
              ap (λ (i : ℕ). bit_at (x % 64) (get_or new i 0)) s ∙ ap (bit_at (x % 64)) word ∙ bit-or (x % 64) (get_or bits (x₀ / 64) 0) bit
              ∙ ap₂ (λ (i : ℕ) (c : Bool). bit_at (x % 64) (get_or bits i 0) || c) (sym s) (b (x % 64) ∙ same s)

          there : (x / 64 ≡ x₀ / 64 → ⊥) → bit_at (x % 64) (get_or new (x / 64) 0) ≡ bit_at (x % 64) (get_or bits (x / 64) 0) || eqb (suc x) (get_or nodes j 0)
          there d =
              ap (bit_at (x % 64)) (get_or-set_other bits (x₀ / 64) (x / 64) _ 0 d) ∙ sym (or-false _)
              ∙ ap (λ c. bit_at (x % 64) (get_or bits (x / 64) 0) || c)
              (sym (ne_eqb (suc x) (get_or nodes j 0) (λ z. let s : x ≡ x₀ = omega (arith, e, z) in d (ap (λ (i : ℕ). i / 64) s))))

      pub adding_step : Adding before nodes (j + 1) new (bit_or mask cover)
      adding_step = record {
        size = length-set bits (x₀ / 64) _ ∙ A.size;
        covered = record {
          at = λ i m z.
              let w = or_none (bit_at i mask) (bit_at i cover) (sym (bit-or i mask cover) ∙ z) in
              get_or-set_other bits (x₀ / 64) i _ 0 (eqb-false i (x₀ / 64) (sym (g i) ∙ w.1)) ∙ A.covered.at i m w.0;
        };
        at = λ x m.
            ap (λ c. c || memb (suc x) (drop (j + 1) nodes)) (grown x)
            ∙ or_assoc (has bits x) (eqb (suc x) (get_or nodes j 0)) (memb (suc x) (drop (j + 1) nodes))
            ∙ ap (λ (r : List ℕ). has bits x || memb (suc x) r) (sym (drop_next nodes j h))
            ∙ A.at x m;
      }

-- ---- numbers that fail are passed over

module _ (t : ℕ → Bool) (from : ℕ) (l : List ℕ) (after : List ℕ) (to : ℕ) where
  pub filling_skip : (k i : ℕ) → ((j : ℕ) → j < k → t (1 + (i + j)) ≡ false) → Filling t from l i after to → Filling t from l (i + k) after to
  filling_skip zero i z F = subst (λ (n : ℕ). Filling t from l n after to) (sym (add-zero i)) F
  filling_skip (suc k) i z F =
      let e : i + k + 1 ≡ i + suc k = omega arith in
      subst (λ (n : ℕ). Filling t from l n after to) e
      (filling_no t from l (i + k) after to (filling_skip k i (λ j h. z j (omega arith)) F) (z k (omega arith)))

-- ---- one word is written

-- the first k bits of the word are written, `rest` are those from k on
pub record Writing (word base p at : ℕ) (before : List ℕ) (k rest to : ℕ) (after : List ℕ) : Type 0 where
  pub within : k ≤ 64
  pub left : rest ≡ word / 2 ^ k
  pub most : to ≤ at + k
  pub goes : (t : ℕ → Bool) (from : ℕ) (l : List ℕ) → ((k : ℕ) → k < 64 → t (1 + (base + k)) ≡ not (eqb p (1 + (base + k))) && bit_at k word)
      → Filling t from l base before at → Filling t from l (base + k) after to

module _ (word base p at : ℕ) (before : List ℕ) where
  module _ (k rest to : ℕ) (after : List ℕ) (W : Writing word base p at before k rest to after) where
    -- bit j of what is left
    left-bit : (j : ℕ) → bit_at j rest ≡ bit_at (k + j) word
    left-bit j = ap (bit_at j) W.left ∙ bit_down k j word

    -- the test at node base + k + j + 1
    test_at : (t : ℕ → Bool) → ((k : ℕ) → k < 64 → t (1 + (base + k)) ≡ not (eqb p (1 + (base + k))) && bit_at k word)
        → (j : ℕ) → k + j < 64 → t (1 + (base + k + j)) ≡ not (eqb p (1 + (base + k + j))) && bit_at j rest
    test_at t e j h =
        let s : base + k + j ≡ base + (k + j) = omega arith in
        ap (λ (n : ℕ). t (1 + n)) s ∙ e (k + j) h ∙ ap₂ (λ (n : ℕ) (b : Bool). not (eqb p (1 + n)) && b) (sym s) (sym (left-bit j))

    pub writing_done : rest ≡ 0 → Wrote word base p at before to after
    writing_done z = record {
      most = omega (arith, W.most, W.within);
      goes = λ t from l e F.
          let s : base + k + (64 - k) ≡ base + 64 = omega (arith, W.within) in
          subst (λ (n : ℕ). Filling t from l n after to) s
          (filling_skip t from l after to (64 - k) (base + k)
          (λ j h. test_at t e j (omega arith) ∙ and_none (not (eqb p (1 + (base + k + j)))) (ap (bit_at j) z ∙ bit_zero j)) (W.goes t from l e F));
    }

    module _ (fits : word < 18446744073709551616) (z : ℕ) (L : Lowest rest z) where
      pub inside : k + z < 64
      inside = lowest_in_lem word (k + z) fits (sym (left-bit z) ∙ L.one)

      -- up to the bit
      to_bit : (t : ℕ → Bool) (from : ℕ) (l : List ℕ) → ((k : ℕ) → k < 64 → t (1 + (base + k)) ≡ not (eqb p (1 + (base + k))) && bit_at k word)
          → Filling t from l base before at → Filling t from l (base + k + z) after to
      to_bit t from l e F =
          filling_skip t from l after to z (base + k)
          (λ j h. test_at t e j (omega (arith, inside)) ∙ and_none (not (eqb p (1 + (base + k + j)))) (L.below j h)) (W.goes t from l e F)

      -- and the bit
      at-bit : (t : ℕ → Bool) → ((k : ℕ) → k < 64 → t (1 + (base + k)) ≡ not (eqb p (1 + (base + k))) && bit_at k word)
          → t (1 + (base + k + z)) ≡ not (eqb p (1 + (base + k + z)))
      at-bit t e = test_at t e z inside ∙ and-all (not (eqb p (1 + (base + k + z)))) L.one

      rest_next : rest / 2 ^ z / 2 ^ 1 ≡ word / 2 ^ (k + z + 1)
      rest_next =
          ap (λ (x : ℕ). x / 2 ^ z / 2 ^ 1) W.left ∙ ap (λ (x : ℕ). x / 2 ^ 1) (shr-shr word k z) ∙ shr-shr word (k + z) 1

      next : base + k + z + 1 ≡ base + (k + z + 1)
      next = omega arith

      -- p itself is left out
      pub writing_self : base + k + z + 1 ≡ p → Writing word base p at before (k + z + 1) (rest / 2 ^ z / 2 ^ 1) to after
      writing_self s = record {
        within = omega (arith, inside);
        left = rest_next;
        most = omega (arith, W.most);
        goes = λ t from l e F.
            subst (λ (n : ℕ). Filling t from l n after to) next
            (filling_no t from l (base + k + z) after to (to_bit t from l e F) (at-bit t e ∙ ap not (eq-eqb p (1 + (base + k + z)) (omega (arith, s)))));
      }

      pub writing_node : (base + k + z + 1 ≡ p → ⊥) → Writing word base p at before (k + z + 1) (rest / 2 ^ z / 2 ^ 1) (to + 1) (set after to (base + k + z + 1))
      writing_node d = record {
        within = omega (arith, inside);
        left = rest_next;
        most = omega (arith, W.most);
        goes = λ t from l e F.
            subst (λ (n : ℕ). Filling t from l n (set after to (base + k + z + 1)) (to + 1)) next
            (filling_yes t from l (base + k + z) after to (to_bit t from l e F) (at-bit t e ∙ ap not (ne_eqb p (1 + (base + k + z)) (λ s. d (omega (arith, s))))));
      }

    -- what is left has a lowest bit where it isn't 0
    module _ (fits : word < 18446744073709551616) (some : rest ≡ 0 → ⊥) where
      pub bit_left : Lowest rest (count_trailing_zeros 64 rest)
      bit_left = lowest_left word k rest fits W.left some

      pub bit_inside : k + count_trailing_zeros 64 rest < 64
      bit_inside = inside fits _ bit_left

-- ---- all words are written

-- the words before g are emptied, and their nodes written; `rest` are the bits of the mask from g on
pub record Emptying (bits₀ : List ℕ) (mask p at : ℕ) (before : List ℕ) (g rest to : ℕ) (bits after : List ℕ) : Type 0 where
  pub within : g ≤ 64
  pub left : rest ≡ mask / 2 ^ g
  pub size : length bits ≡ 64
  pub gone : (i : ℕ) → i < g → get_or bits i 0 ≡ 0
  pub kept : (i : ℕ) → g ≤ i → get_or bits i 0 ≡ get_or bits₀ i 0
  pub most : to ≤ at + 64 * g
  pub filled : Filling (in_row p bits₀) at before (64 * g) after to

module _ (bits₀ : List ℕ) (mask p at : ℕ) (before : List ℕ) (C : Covered mask bits₀) where
  -- a node by its word
  node : (i k : ℕ) → k < 64 → in_row p bits₀ (1 + (64 * i + k)) ≡ not (eqb p (1 + (64 * i + k))) && bit_at k (get_or bits₀ i 0)
  unfolding in_row has
  node i k h =
      let e : 1 + (64 * i + k) - 1 ≡ 64 * i + k = omega arith in
      let m : (64 * i + k) % 64 ≡ k = omega arith in
      let d : (64 * i + k) / 64 ≡ i = omega arith in
      ap (λ b. not (eqb p (1 + (64 * i + k))) && b)
      (ap (λ (x : ℕ). bit_at (x % 64) (get_or bits₀ (x / 64) 0)) e ∙ ap₂ (λ (a b : ℕ). bit_at a (get_or bits₀ b 0)) m d)

  -- the nodes of words that hold none
  none : (g n : ℕ) → ((i : ℕ) → g ≤ i → i < g + n → get_or bits₀ i 0 ≡ 0) → (j : ℕ) → j < 64 * n → in_row p bits₀ (1 + (64 * g + j)) ≡ false
  none g n z j h =
      let e : 64 * g + j ≡ 64 * (g + j / 64) + j % 64 = omega arith in
      ap (λ (x : ℕ). in_row p bits₀ (1 + x)) e ∙ node (g + j / 64) (j % 64) (omega arith)
      ∙ and_none (not (eqb p (1 + (64 * (g + j / 64) + j % 64)))) (ap (bit_at (j % 64)) (z (g + j / 64) (omega arith) (omega arith)) ∙ bit_zero (j % 64))

  module _ (g rest to : ℕ) (bits after : List ℕ) (E : Emptying bits₀ mask p at before g rest to bits after) where
    mask_bit : (j : ℕ) → bit_at j rest ≡ bit_at (g + j) mask
    mask_bit j = ap (bit_at j) E.left ∙ bit_down g j mask

    -- a word whose bit is 0
    dark : (j : ℕ) → g + j < 64 → bit_at j rest ≡ false → get_or bits₀ (g + j) 0 ≡ 0
    dark j h z = C.at (g + j) h (sym (mask_bit j) ∙ z)

    -- no word is left
    over : rest ≡ 0 → (i : ℕ) → g ≤ i → i < 64 → get_or bits₀ i 0 ≡ 0
    over z i l h =
        let s : g + (i - g) ≡ i = omega arith in
        ap (λ (i : ℕ). get_or bits₀ i 0) (sym s) ∙ dark (i - g) (omega arith) (ap (bit_at (i - g)) z ∙ bit_zero (i - g))

    emptied : rest ≡ 0 → Filling (in_row p bits₀) at before 4096 after to
    emptied z =
        let e : 64 * g + 64 * (64 - g) ≡ 4096 = omega (arith, E.within) in
        subst (λ (n : ℕ). Filling (in_row p bits₀) at before n after to) e
        (filling_skip (in_row p bits₀) at before after to (64 * (64 - g)) (64 * g) (none g (64 - g) (λ i a b. over z i a (omega (arith, E.within)))) E.filled)

    pub emptying_list : rest ≡ 0 → after ≡ sets before at (members p bits₀)
    unfolding members
    emptying_list z = (emptied z).list

    pub emptying_end : rest ≡ 0 → to ≡ at + length (members p bits₀)
    unfolding members
    emptying_end z = (emptied z).end ∙ ap (λ (n : ℕ). at + n) (sym (length-filter (in_row p bits₀) (up_from 1 4096)))

    pub emptying_bits : rest ≡ 0 → Empty bits
    emptying_bits z = record { at = λ i h. ⊎_elim (λ (l : i < g). E.gone i l) (λ (l : g ≤ i). E.kept i l ∙ over z i l h) (lt_or_le i g) }

    module _ (fits : mask < 18446744073709551616) (z : ℕ) (L : Lowest rest z) where
      pub in_words : g + z < 64
      in_words = lowest_in_lem mask (g + z) fits (sym (mask_bit z) ∙ L.one)

      -- the word as it was
      pub its_word : get_or bits (g + z) 0 ≡ get_or bits₀ (g + z) 0
      its_word = E.kept (g + z) (omega arith)

      pub emptying_step : (to' : ℕ) (after' : List ℕ) → Wrote (get_or bits (g + z) 0) (64 * (g + z)) p to after to' after'
          → Emptying bits₀ mask p at before (g + z + 1) (rest / 2 ^ z / 2 ^ 1) to' (set bits (g + z) 0) after'
      emptying_step to' after' W = record {
        within = omega (arith, in_words);
        left = ap (λ (x : ℕ). x / 2 ^ z / 2 ^ 1) E.left ∙ ap (λ (x : ℕ). x / 2 ^ 1) (shr-shr mask g z) ∙ shr-shr mask (g + z) 1;
        size = length-set bits (g + z) 0 ∙ E.size;
        gone = λ i h. by_test (eqb i (g + z)) (λ y. here i (eqb-true i (g + z) y)) (λ y. there i h (eqb-false i (g + z) y));
        kept = λ i h. get_or-set_other bits (g + z) i 0 0 (λ s. absurd (omega (arith, s))) ∙ E.kept i (omega arith);
        most = omega (arith, W.most, E.most);
        filled =
            let e : 64 * (g + z) + 64 ≡ 64 * (g + z + 1) = omega arith in
            subst (λ (n : ℕ). Filling (in_row p bits₀) at before n after' to') e
            (W.goes (in_row p bits₀) at before (λ k h. node (g + z) k h ∙ ap (λ (w : ℕ). not (eqb p (1 + (64 * (g + z) + k))) && bit_at k w) (sym its_word)) reached);
      }
        where
          reached : Filling (in_row p bits₀) at before (64 * (g + z)) after to
          reached =
              let e : 64 * g + 64 * z ≡ 64 * (g + z) = omega arith in
              subst (λ (n : ℕ). Filling (in_row p bits₀) at before n after to) e
              (filling_skip (in_row p bits₀) at before after to (64 * z) (64 * g) (none g z (λ i a b.
              let s : g + (i - g) ≡ i = omega arith in
              ap (λ (i : ℕ). get_or bits₀ i 0) (sym s) ∙ dark (i - g) (omega (arith, in_words)) (L.below (i - g) (omega arith)))) E.filled)

          here : (i : ℕ) → i ≡ g + z → get_or (set bits (g + z) 0) i 0 ≡ 0
          here i s = ap (λ (i : ℕ). get_or (set bits (g + z) 0) i 0) s ∙ get_or-set_same bits (g + z) 0 0 (omega (arith, in_words, E.size))

          there : (i : ℕ) → i < g + z + 1 → (i ≡ g + z → ⊥) → get_or (set bits (g + z) 0) i 0 ≡ 0
          there i h d =
              get_or-set_other bits (g + z) i 0 0 d
              ∙ ⊎_elim (λ (l : i < g). E.gone i l)
              (λ (l : g ≤ i).
              let s : g + (i - g) ≡ i = omega arith in
              E.kept i l ∙ ap (λ (i : ℕ). get_or bits₀ i 0) (sym s) ∙ dark (i - g) (omega (arith, in_words)) (L.below (i - g) (omega (arith, d)))) (lt_or_le i g)

    -- what is left of the mask has a lowest bit where it isn't 0
    module _ (fits : mask < 18446744073709551616) (some : rest ≡ 0 → ⊥) where
      pub word_left : Lowest rest (count_trailing_zeros 64 rest)
      word_left = lowest_left mask g rest fits E.left some

      pub word_inside : g + count_trailing_zeros 64 rest < 64
      word_inside = in_words fits _ word_left
