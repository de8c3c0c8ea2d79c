-- Own numbers, and over them the new numbers of the listed nodes. Assumes nothing.
use mathlib.Core.Path.{◌≡◌, sym, ap, ◌∙◌}
use mathlib.Core.Bool.{false, cond}
use mathlib.Core.List.{List, map}
use Prim.Native.Nat.{ℕ, suc, ◌+◌, ◌-◌, ◌*◌, ◌≤◌, ◌<◌}
use native.Mathlib.Omega.{arith}
use lib.ListN.{length, get_or, length-map}
use lib.Seq.{ext_get_or}
use Rattle.basis.specs.Lists.{memb, position, up_from}
use Rattle.basis.proofs.ByNumber.{word_of, number_puts, number-all}
use Rattle.basis.proofs.Index.{get_or-up_from, get_or-map-up_from, memb-get_or}
use Rattle.basis.proofs.Lists.{length-up_from}
use Rattle.basis.proofs.Puts.{length-puts}
use Rattle.spec_import.specs.CallsImport.{old_numbers, supplied, refuses13}
use Rattle.numbering_import.proofs.ByPair.{new-at, supplied-length, supplied-at, Fine, pairs_fine}

-- the new number of pair i
abbrev pub new_at : List ℕ → ℕ → ℕ
new_at P i = get_or P (2 * i + 1) 0

-- the words W after the first k pairs
abbrev pub puts_of : List ℕ → List ℕ → ℕ → List ℕ
puts_of P W k = number_puts 0 (old_numbers P) (new_at P) W k

module _ (n : ℕ) (P : List ℕ) (ok : refuses13 n P ≡ false) where
  fine : Fine n P
  fine = pairs_fine n P ok

  -- the old number of a pair is a node
  pub old_range : (i : ℕ) → i < length (old_numbers P) → (1 ≤ get_or (old_numbers P) i 0) × (get_or (old_numbers P) i 0 ≤ n)
  old_range i h =
      let m = memb-get_or (old_numbers P) i h in
      (fine.low (get_or (old_numbers P) i 0) m, fine.high (get_or (old_numbers P) i 0) m)

  -- all pairs over the nodes' own numbers: the full numbering
  pub puts-all : puts_of P (up_from 1 n) (length (old_numbers P)) ≡ supplied n P
  puts-all =
      ext_get_or 0 (puts_of P (up_from 1 n) (length (old_numbers P))) (supplied n P) (size ∙ sym (supplied-length n P)) (λ k h. each k (omega (arith, size)))
    where
      o : List ℕ
      o = old_numbers P

      size : length (puts_of P (up_from 1 n) (length (old_numbers P))) ≡ n
      size = length-puts (word_of 0 (old_numbers P)) (new_at P) (up_from 1 n) (length (old_numbers P)) ∙ length-up_from 1 n

      each : (k : ℕ) → k < n → get_or (puts_of P (up_from 1 n) (length (old_numbers P))) k 0 ≡ get_or (supplied n P) k 0
      each k h =
          let e : 0 + suc k - 1 ≡ k = omega arith in
          let own : get_or (up_from 1 n) (0 + suc k - 1) 0 ≡ suc k = ap (λ (j : ℕ). get_or (up_from 1 n) j 0) e ∙ get_or-up_from 1 n k 0 h ∙ omega arith in
          let room : 0 + suc k ≤ length (up_from 1 n) = omega (arith, length-up_from 1 n) in
          ap (λ (j : ℕ). get_or (puts_of P (up_from 1 n) (length (old_numbers P))) j 0) (sym e)
          ∙ number-all 0 (old_numbers P) fine.low (new_at P) (up_from 1 n) fine.once (suc k) (omega arith) room
          ∙ ap (λ (w : ℕ). cond (memb (suc k) (old_numbers P)) (new_at P (position (suc k) (old_numbers P))) w) own
          ∙ sym (new-at P (suc k)) ∙ sym (supplied-at n P k h)

-- each word one more than its index: the nodes' own numbers
pub own_are : (n : ℕ) → map (λ i. i + 1) (up_from 0 n) ≡ up_from 1 n
own_are n =
    ext_get_or 0 (map (λ i. i + 1) (up_from 0 n)) (up_from 1 n) (size ∙ sym (length-up_from 1 n)) (λ k h. each k (omega (arith, size)))
  where
    size : length (map (λ (i : ℕ). i + 1) (up_from 0 n)) ≡ n
    size = length-map (up_from 0 n) (λ (i : ℕ). i + 1) ∙ length-up_from 0 n

    each : (k : ℕ) → k < n → get_or (map (λ i. i + 1) (up_from 0 n)) k 0 ≡ get_or (up_from 1 n) k 0
    each k h = get_or-map-up_from (λ i. i + 1) 0 n k 0 h ∙ omega arith ∙ sym (get_or-up_from 1 n k 0 h)
