-- A run of words copied to the front of a list, one by one. Assumes nothing.
use mathlib.Core.Path.{◌≡◌, refl, sym, ap, ap₂, ◌∙◌}
use mathlib.Core.List.{List, ◌++◌}
use Prim.Native.Nat.{ℕ, ◌+◌, ◌≤◌, ◌<◌}
use native.Mathlib.Nat.{zero-add}
use native.Mathlib.Numerals.{add-one}
use native.Mathlib.Omega.{arith}
use lib.ListN.{length, get_or, set, take, drop, length-set, length-drop}
use lib.Seq.{paste, paste-zero, paste-suc, length-take-le, get_or-drop}
use Rattle.basis.specs.Lists.{overwrite}

-- of `count` words of ws, from word `from` on, the first i stand in front of the list
pub record Copied (ws : List ℕ) (from count : ℕ) (old list : List ℕ) (i : ℕ) : Type 0 where
  pub inside : i ≤ count
  pub there : from + count ≤ length ws
  pub room : count ≤ length old
  pub same_length : length list ≡ length old
  pub copied : list ≡ paste old 0 (drop from ws) i

pub copied_begin : {ws : List ℕ} {from count : ℕ} {old : List ℕ} → from + count ≤ length ws → count ≤ length old → Copied ws from count old old 0
copied_begin {ws} {from} {count} {old} h r = record { inside = omega arith; there = h; room = r; same_length = refl; copied = paste-zero old 0 (drop from ws) }

module _ {ws : List ℕ} {from count : ℕ} {old list : List ℕ} {i : ℕ} (C : Copied ws from count old list i) where
  pub copied_step : i < count → {w : ℕ} → w ≡ get_or ws (from + i) 0 → Copied ws from count old (set list i w) (i + 1)
  copied_step l {w} e =
      let s : List ℕ = drop from ws in
      let h : i < length s = omega (arith, length-drop from ws, C.there) in
      let z : 0 + i ≡ i = zero-add i in
      record {
        inside = omega arith;
        there = C.there;
        room = C.room;
        same_length = length-set list i w ∙ C.same_length;
        copied = ap₂ (λ (d : List ℕ) (v : ℕ). set d i v) C.copied (e ∙ sym (get_or-drop from ws i 0))
            ∙ ap (λ (j : ℕ). set (paste old 0 s i) j (get_or s i 0)) (sym z)
            ∙ paste-suc old 0 s i 0 (omega (arith, C.room)) h
            ∙ ap (paste old 0 s) (sym (add-one i));
      }

  pub copied_done : count ≤ i → list ≡ overwrite (take count (drop from ws)) old
  copied_done h =
      let s : List ℕ = drop from ws in
      let e : i ≡ count = omega (arith, C.inside) in
      let l : length (take count s) ≡ 0 + count = length-take-le count s (omega (arith, length-drop from ws, C.there)) ∙ sym (zero-add count) in
      C.copied ∙ ap (paste old 0 s) e ∙ ap (λ (k : ℕ). take count s ++ drop k old) (sym l)
