-- The loop that gives the nodes of a piece their levels, in one slice. Assumes nothing.
use mathlib.Core.Path.{◌≡◌, refl, sym, ap, ◌∙◌, subst}
use mathlib.Core.List.{List, ◌∷◌}
use Prim.Native.Nat.{ℕ, ◌+◌, ◌-◌, ◌*◌, ◌≤◌, ◌<◌}
use native.Mathlib.Nat.{le_refl}
use native.Mathlib.Omega.{arith}
use lib.ListN.{length, get_or, set, length-set}
use Rattle.levels_laws.specs.Model.{node_at, queued, number_at, levels_by, written, Readable}
use Rattle.levels_laws.specs.Areas.{work_of, held_of}
use Rattle.levels_laws.proofs.Runs.{from_cons, from_none}
use Rattle.levels_laws.proofs.Areas.{held-set, view_room}
use Rattle.levels_laws.proofs.Slots.{Located, node_is, node_located, number_is}

-- at the loop's head: the nodes from p on are still to be given theirs
pub record Putting (n base s t : ℕ) (X Y : List ℕ) (p : ℕ) : Type 0 where
  pub read : Readable n base s t (work_of n X)
  pub low : s ≤ p
  pub most : p ≤ t
  pub room : 6 * n ≤ length Y
  pub size : length Y ≡ length X
  pub words : work_of n Y ≡ work_of n X
  pub goes : written (number_at base (work_of n X)) (held_of n Y) (queued n p t (work_of n X)) ≡ levels_by n base s t (work_of n X) (held_of n X)

pub put_begin : {n base s t : ℕ} (X : List ℕ) → Readable n base s t (work_of n X) → n ≤ length (held_of n X) → Putting n base s t X X s
put_begin {n} {base} {s} {t} X R l = record {
  read = R;
  low = le_refl s;
  most = R.order;
  room = view_room n X R.room l;
  size = refl;
  words = refl;
  goes = refl;
}

module _ {n base s t : ℕ} {X Y : List ℕ} {p : ℕ} (I : Putting n base s t X Y p) (h : p < t) {z : ℕ} (e : z ≡ get_or Y (n + p) 0) where
  put_read : Readable n base s t (work_of n Y)
  put_read = subst (Readable n base s t) (sym I.words) I.read

  pub put_at : Located n base (work_of n Y) z
  put_at = node_located Y I.room put_read I.low h e

  pub put_step : Putting n base s t X (set Y (3 * n + z - 1) (get_or Y (base + z - 1) 0)) (p + 1)
  unfolding written
  put_step =
      let f : ℕ → ℕ = number_at base (work_of n X) in
      let x : ℕ = get_or Y (base + z - 1) 0 in
      let w = held-set n Y I.room z put_at.low put_at.high x in
      let a : z ≡ node_at n (work_of n X) p = node_is Y I.room put_read I.low h e ∙ ap (λ (l : List ℕ). node_at n l p) I.words in
      let b : x ≡ f z = number_is Y I.room put_read I.low h e ∙ ap (λ (l : List ℕ). number_at base l z) I.words in
      record {
        read = I.read;
        low = omega (arith, I.low);
        most = omega arith;
        room = rw (length-set Y (3 * n + z - 1) x) I.room;
        size = length-set Y (3 * n + z - 1) x ∙ I.size;
        words = w.0 ∙ I.words;
        goes = ap (λ (M : List ℕ). written f M (queued n (p + 1) t (work_of n X))) (w.1 ∙ ap (set (held_of n Y) (z - 1)) b)
            ∙ sym (ap (written f (held_of n Y)) (from_cons (node_at n (work_of n X)) p t h ∙ ap (λ (y : ℕ). y ∷ queued n (p + 1) t (work_of n X)) (sym a))) ∙ I.goes;
      }

pub put_done : {n base s t : ℕ} {X Y : List ℕ} {p : ℕ} → Putting n base s t X Y p → t ≤ p
    → (work_of n Y ≡ work_of n X) × (held_of n Y ≡ levels_by n base s t (work_of n X) (held_of n X))
unfolding written
put_done {n} {base} {s} {t} {X} {Y} {p} I h = (I.words, sym (ap (written (number_at base (work_of n X)) (held_of n Y)) (from_none (node_at n (work_of n X)) p t h)) ∙ I.goes)
