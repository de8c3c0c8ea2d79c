-- The next free numbers, given to the nodes of an order one after the other. Assumes nothing.
use mathlib.Core.Path.{◌≡◌, sym, ap, ◌∙◌}
use mathlib.Core.Bool.{cond}
use mathlib.Core.List.{List}
use Prim.Native.Nat.{ℕ, suc, ◌+◌, ◌-◌, ◌≤◌, ◌<◌}
use native.Mathlib.Omega.{arith}
use lib.ListN.{length, get_or, set, drop, replicate, length-map, length-replicate, length-drop}
use lib.Seq.{sets, length-take-le, get_or-take, get_or-drop, ext_get_or}
use Rattle.basis.specs.Lists.{memb, up_from}
use Rattle.basis.proofs.Index.{get_or-map-up_from, memb-get_or}
use Rattle.basis.proofs.Lists.{length-up_from}
use Rattle.basis.proofs.Next.{sets_behind}
use Rattle.basis.proofs.Puts.{puts_none, puts-step, length-puts}
use Rattle.spec.specs.Graph.{of_node}
use Rattle.levels_laws.proofs.Blank.{Blanking, blank_begin, blank_step, blank_size, blank_done}
use Rattle.basis.proofs.ByNumber.{word_of, number_puts, number-all}
use Rattle.numbering_part.specs.Part.{order_at, number_from, numbered, Numberable}

length-numbered : (a : ℕ) (o X : List ℕ) → length (numbered a o X) ≡ length X
unfolding numbered
length-numbered a o X = length-map (up_from 1 (length X)) (λ q. cond (memb q o) (number_from a o q) (of_node X q)) ∙ length-up_from 1 (length X)

-- the number that pass i gives
abbrev number_of : ℕ → ℕ → ℕ
number_of a i = a + suc i

-- all passes together number the order's nodes
numbered-all : {n m a : ℕ} {W X : List ℕ} → Numberable n m a W X → number_puts 0 (order_at n m W) (number_of a) X (length (order_at n m W)) ≡ numbered a (order_at n m W) X
unfolding numbered of_node
numbered-all {n} {m} {a} {W} {X} A =
    ext_get_or 0 Y (numbered a o X) (size ∙ sym (length-numbered a o X))
    (λ i b.
    let e : i ≡ 0 + (1 + i) - 1 = omega arith in
    let s : 1 + i ≡ suc i = omega arith in
    ap (λ (j : ℕ). get_or Y j 0) e
    ∙ number-all 0 o (λ z m. (A.inside z m).0) (number_of a) X A.once (1 + i) (omega arith) (omega (arith, size))
    ∙ ap (λ (x : ℕ). cond (memb (1 + i) o) (number_from a o (1 + i)) x) (ap (λ (j : ℕ). get_or X j 0) (sym e) ∙ ap (of_node X) (sym s))
    ∙ sym (get_or-map-up_from (λ q. cond (memb q o) (number_from a o q) (of_node X q)) 1 (length X) i 0 (omega (arith, size))))
  where
    o : List ℕ
    o = order_at n m W

    Y : List ℕ
    Y = number_puts 0 (order_at n m W) (number_of a) X (length (order_at n m W))

    size : length Y ≡ length X
    size = length-puts (word_of 0 o) (number_of a) X (length o)

-- at the loop's head: the first i nodes have their numbers, and their words are 0
pub record Giving (n m a : ℕ) (W X U Y : List ℕ) (i : ℕ) : Type 0 where
  pub ask : Numberable n m a W X
  pub blank : Blanking n m W U i
  pub numbers : Y ≡ number_puts 0 (order_at n m W) (number_of a) X i

pub giving_begin : {n m a : ℕ} {W X : List ℕ} → Numberable n m a W X → Giving n m a W X W X 0
giving_begin {n} {m} {a} {W} {X} A = record { ask = A; blank = blank_begin A.words; numbers = puts_none (word_of 0 (order_at n m W)) (number_of a) X }

module _ {n m a : ℕ} {W X U Y : List ℕ} {i : ℕ} (I : Giving n m a W X U Y i) where
  pub words_size : length U ≡ length W
  words_size = blank_size I.blank

  pub numbers_size : length Y ≡ n
  numbers_size = ap length I.numbers ∙ length-puts (word_of 0 (order_at n m W)) (number_of a) X i ∙ I.ask.room

  order_size : length (order_at n m W) ≡ m
  order_size = length-take-le m (drop n W) (omega (arith, length-drop n W, I.ask.words))

  module _ (h : i < m) {z : ℕ} (e : z ≡ get_or U (n + i) 0) where
    z_is : z ≡ get_or (order_at n m W) i 0
    z_is =
        e ∙ ap (λ (l : List ℕ). get_or l (n + i) 0) I.blank.on
        ∙ sets_behind W n (replicate i 0) (n + i) (omega (arith, length-replicate {A = ℕ} i 0))
        ∙ sym (get_or-drop n W i 0) ∙ sym (get_or-take m (drop n W) i 0 h)

    pub z_range : (1 ≤ z) × (z ≤ n)
    z_range = rw z_is (I.ask.inside (get_or (order_at n m W) i 0) (memb-get_or (order_at n m W) i (omega (arith, order_size))))

    pub giving_step : Giving n m a W X (set U (n + i) 0) (set Y (z - 1) (a + i + 1)) (i + 1)
    giving_step = record {
      ask = I.ask;
      blank = blank_step I.blank h;
      numbers = puts-step (word_of 0 (order_at n m W)) (number_of a) X I.numbers (omega (arith, z_is)) (omega arith);
    }

  pub giving_words : m ≤ i → U ≡ sets W n (replicate m 0)
  giving_words h = blank_done I.blank h

  pub giving_done : m ≤ i → Y ≡ numbered a (order_at n m W) X
  giving_done h =
      let e : i ≡ length (order_at n m W) = omega (arith, order_size, I.blank.most) in
      I.numbers ∙ ap (number_puts 0 (order_at n m W) (number_of a) X) e ∙ numbered-all I.ask
