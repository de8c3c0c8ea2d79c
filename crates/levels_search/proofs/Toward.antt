-- Stores that turn one list into another: the words in which they differ are among those still to come. Assumes nothing.
use mathlib.Core.Path.{◌≡◌, sym, ap, ◌∙◌}
use mathlib.Core.Logic.{◌≢◌, ⊎_elim}
use mathlib.Core.List.{List}
use Prim.Native.Nat.{ℕ, ◌<◌}
use native.Mathlib.Omega.{arith}
use lib.ListN.{length, get_or, set, length-set}
use lib.Seq.{ext_get_or, get_or-set_same, get_or-set_other}
use Rattle.basis.proofs.Logic.{eq_or_ne}

-- W on its way to X: it is there but for the words to come
pub record Toward (X : List ℕ) (to-come : ℕ → Type 0) (W : List ℕ) : Type 0 where
  pub size : length W ≡ length X
  pub there : (j : ℕ) → (to-come j → ⊥) → get_or W j 0 ≡ get_or X j 0

module _ {X W : List ℕ} {P : ℕ → Type 0} (T : Toward X P W) where
  -- X's word at a is stored, and the others to come are P'
  pub toward_store : {P' : ℕ → Type 0} {a x : ℕ} → a < length X → x ≡ get_or X a 0 → ((j : ℕ) → j ≢ a → P j → P' j) → Toward X P' (set W a x)
  toward_store {a = a} {x} l e later = record {
    size = length-set W a x ∙ T.size;
    there = λ j f.
        ⊎_elim
        (λ (q : j ≡ a).
        ap (λ (k : ℕ). get_or (set W a x) k 0) q ∙ get_or-set_same W a x 0 (omega (arith, T.size)) ∙ e ∙ ap (λ (k : ℕ). get_or X k 0) (sym q))
        (λ (ne : j ≢ a). get_or-set_other W a j x 0 ne ∙ T.there j (λ p. f (later j ne p)))
        (eq_or_ne j a);
  }

  pub toward_done : ((j : ℕ) → P j → ⊥) → W ≡ X
  toward_done none = ext_get_or 0 W X T.size (λ j l. T.there j (none j))
