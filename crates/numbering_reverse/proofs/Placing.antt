-- The unknowns ahead of an order's nodes put at their old numbers. Assumes nothing.
use mathlib.Core.Path.{◌≡◌, sym, ap, ◌∙◌}
use mathlib.Core.Bool.{true, false}
use mathlib.Core.List.{List}
use Prim.Native.Nat.{ℕ, suc, ◌+◌, ◌-◌, ◌≤◌, ◌<◌}
use native.Mathlib.Omega.{arith}
use lib.ListN.{length, drop, get_or, set, length-drop}
use lib.Seq.{get_or-take, get_or-drop, length-take-le}
use Rattle.basis.specs.Lists.{memb}
use Rattle.basis.proofs.Index.{memb-get_or}
use Rattle.basis.proofs.Puts.{puts_none, puts-step, length-puts, puts_behind}
use Rattle.spec.specs.Graph.{of_node}
use Rattle.spec.specs.Unknowns.{bad_counts}
use Rattle.laws.specs.Unknowns.{ahead}
use Rattle.laws.proofs.UnknownBounds.{counts_size, count_between}
use Rattle.graph_envelope.specs.Numbers.{Words}
use Rattle.graph_envelope.proofs.Ahead.{ahead_most, ahead_none, ahead_more}
use Rattle.numbering_reverse.specs.Places.{segment, Listed, Placed, Put}
use Rattle.basis.proofs.ByNumber.{word_of, number_puts, number_out, number_passed}

module _ (n m : ℕ) (B : List ℕ) (fit : n + m ≤ length B) where
  pub segment-length : length (segment n m B) ≡ m
  segment-length = length-take-le m (drop n B) (omega (arith, length-drop n B))

  -- the node at place i + 1
  pub segment-at : (W : List ℕ) (i : ℕ) → drop n W ≡ drop n B → i < m → get_or W (n + i) 0 ≡ get_or (segment n m B) i 0
  segment-at W i e h = sym (get_or-drop n W i 0) ∙ ap (λ (l : List ℕ). get_or l i 0) e ∙ sym (get_or-take m (drop n B) i 0 h)

  -- all nodes have their words
  pub put_all : (K W : List ℕ) → Put K n m B W m → Placed K (segment n m B) W
  put_all K W p = record { there = λ j h. p.there j (omega (arith, segment-length)) }

-- at the loop's head: the first i nodes have their words, and sum is the unknowns of these
pub record Putting (K : List ℕ) (n m : ℕ) (B W : List ℕ) (sum i : ℕ) : Type 0 where
  pub small : (m ≤ n) × (n ≤ 4096) × (n + m ≤ length B)
  pub listed : Listed n (segment n m B)
  pub counted : bad_counts n K ≡ false
  pub most : i ≤ m
  pub adds : sum ≡ ahead K (segment n m B) i
  pub on : W ≡ number_puts 0 (segment n m B) (ahead K (segment n m B)) B i

pub putting_begin : {K : List ℕ} {n m : ℕ} {B : List ℕ} → (m ≤ n) × (n ≤ 4096) × (n + m ≤ length B) → Listed n (segment n m B) → bad_counts n K ≡ false
    → Putting K n m B B 0 0
putting_begin {K} {n} {m} {B} small L ok = record {
  small = small;
  listed = L;
  counted = ok;
  most = omega arith;
  adds = ahead_none K (segment n m B);
  on = puts_none (word_of 0 (segment n m B)) (ahead K (segment n m B)) B;
}

module _ {K : List ℕ} {n m : ℕ} {B W : List ℕ} {sum i : ℕ} (I : Putting K n m B W sum i) where
  abbrev o : List ℕ
  o = segment n m B

  abbrev value : ℕ → ℕ
  value = ahead K o

  size : length o ≡ m
  size = segment-length n m B I.small.2

  counts : length K ≡ n
  counts = counts_size n K I.counted

  -- a node is one of 1..n
  range : (j : ℕ) → j < m → (1 ≤ get_or o j 0) × (get_or o j 0 ≤ n)
  range j h = I.listed.inside (get_or o j 0) (memb-get_or o j (omega (arith, size)))

  low : (z : ℕ) → memb z o ≡ true → 1 ≤ z
  low z b = (I.listed.inside z b).0

  words : Words (length K) o
  words = record { low = λ j h. (range j (omega (arith, size))).0; high = λ j h. omega (arith, counts, (range j (omega (arith, size))).1) }

  pub putting_size : length W ≡ length B
  putting_size = ap length I.on ∙ length-puts (word_of 0 o) value B i

  -- the sum fits a word
  pub putting_few : sum ≤ 24576
  putting_few =
      omega (arith, I.adds, I.most, I.small, size, ahead_most K o (ap (λ (k : ℕ). bad_counts k K) counts ∙ I.counted) words i (omega (arith, size, I.most)))

  behind : drop n W ≡ drop n B
  behind = ap (drop n) I.on ∙ puts_behind (word_of 0 o) value B n i (λ j h. omega (arith, range j (omega (arith, I.most))))

  module _ (h : i < m) {z : ℕ} (e : z ≡ get_or W (n + i) 0) where
    z_is : z ≡ get_or o i 0
    z_is = e ∙ segment-at n m B I.small.2 W i behind h

    pub z_range : (1 ≤ z) × (z ≤ n)
    z_range = let r = range i h in (omega (arith, z_is, r.0), omega (arith, z_is, r.1))

    -- it has a count
    pub z-counted : (1 ≤ z) × (z ≤ length K)
    z-counted = let r = z_range in (r.0, omega (arith, r.1, counts))

    pub z_few : of_node K z ≤ 6
    z_few = let r = z_range in (count_between n K I.counted z r.0 r.1).1

    pub putting_step : {c : ℕ} → c ≡ of_node K z → Putting K n m B (set W (z - 1) sum) (sum + c) (i + 1)
    putting_step ec = record {
      small = I.small;
      listed = I.listed;
      counted = I.counted;
      most = omega arith;
      adds = ahead_more K o i (omega (arith, size)) I.adds (ec ∙ ap (of_node K) z_is);
      on = puts-step (word_of 0 o) value B I.on (omega (arith, z_is)) I.adds;
    }

  pub putting_done : m ≤ i → Put K n m B W m
  putting_done h =
      let on : W ≡ number_puts 0 o value B i = I.on in
      let most : i ≤ length o = omega (arith, size, I.most) in
      record {
        long = putting_size;
        behind = behind;
        there = λ j b.
            let r = range j b in
            let k : get_or o j 0 - 1 ≡ word_of 0 o j = omega arith in
            (λ t. get_or (on t) (k t) 0) ∙ number_passed 0 o low value B I.listed.once i j (omega arith) most (omega (arith, r, I.small.2));
        clean = λ c k b out.
            let q : k ≡ 0 + suc k - 1 = omega arith in
            (λ t. get_or (on t) (q t) 0) ∙ number_out 0 o low value B i most (suc k) (omega arith) out ∙ ap (λ (j : ℕ). get_or B j 0) (sym q) ∙ c k b out;
      }
