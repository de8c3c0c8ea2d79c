-- The two lent buffers after the last test: the mark bytes are short, and the scratch is cleared of the order; or their front was lent and came
-- back. Assumes nothing.
use mathlib.Core.Path.{◌≡◌, ap, ◌∙◌}
use mathlib.Core.Bool.{false}
use mathlib.Core.List.{List, ◌++◌}
use Prim.Native.Nat.{ℕ, ◌≤◌, ◌<◌}
use native.Mathlib.Omega.{arith}
use lib.Dec.{ltb}
use lib.ListN.{length, drop, replicate}
use borrow.Author.Tests.{lt-ltb, le-ltb}
use Rattle.spec.specs.CallsStore.{EliminationFigures, elimination_figures}
use Rattle.spec.specs.Graph.{Graph, size_of}
use Rattle.spec.specs.Lent.{accepted, refused, outcome, filled, zeroed}
use Rattle.spec.specs.Measures.{order_of}
use Rattle.spec.specs.Store.{mark_byte_count, mark_bytes}
use Rattle.laws.proofs.Lent.{zeroed-all}
use Rattle.laws.proofs.Marks.{bytes_length}
use Rattle.graph_envelope.proofs.Lent.{length-order_of}
use Rattle.store_spread.specs.Rows.{Given}
use Rattle.store_unknowns.proofs.Stores.{numbers_size}
use Rattle.store_elimination.specs.Answer.{eliminated, bytes_after}

module _ (h : Graph) (B : List ℕ) where
  -- 8
  pub short_bytes : length B < mark_byte_count h → (refused 8 ≡ eliminated h B) × (B ≡ bytes_after h B)
  unfolding outcome filled
  short_bytes l = (rw (lt-ltb (length B) (mark_byte_count h) l), rw (lt-ltb (length B) (mark_byte_count h) l))

  -- accepted: the front is the mark bytes, the excess as it was
  pub long_bytes : {m : ℕ} → m ≡ mark_byte_count h → m ≤ length B → {f : EliminationFigures} {front : List ℕ} → f ≡ elimination_figures h → front ≡ mark_bytes h
      → (accepted f ≡ eliminated h B) × (front ++ drop m B ≡ bytes_after h B)
  unfolding outcome filled
  long_bytes em l ef eb =
      let n : ltb (length B) (mark_byte_count h) ≡ false = le-ltb (length B) (mark_byte_count h) (omega arith) in
      (rw (n, ef), rw (n, eb, em, bytes_length h))

-- ---- scratch d, which holds the order

module _ {S N x K o : List ℕ} (Γ : Given S N x K o) {d : List ℕ} (e : d ≡ order_of x) where
  pub order_room : length x ≤ length d
  order_room = omega (arith, ap length e, length-order_of x)

  pub order_cleared : {z : List ℕ} → z ≡ zeroed (length x) d → z ≡ replicate (size_of S) 0
  order_cleared ez = ez ∙ zeroed-all (length x) d (ap length e ∙ length-order_of x) ∙ ap (λ (n : ℕ). replicate n 0) (numbers_size Γ)
