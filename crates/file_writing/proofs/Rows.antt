-- The rows of a listing, one by one. Assumes nothing.
use mathlib.Core.Path.{◌≡◌, sym, ap, ◌∙◌}
use mathlib.Core.List.{List, ◌++◌}
use Prim.Native.Nat.{ℕ, suc, ◌+◌, ◌≤◌, ◌<◌}
use native.Mathlib.Numerals.{add-one}
use native.Mathlib.Omega.{arith}
use lib.ListN.{length, get_or, length-append}
use Rattle.basis.specs.Lists.{join_all, up_from}
use Rattle.basis.proofs.Next.{join_next, sum-upto, join_length}
use Rattle.spec.specs.Graph.{of_node}
use Rattle.file_writing.specs.Written.{Room, Put}
use Rattle.file_writing.specs.Listed.{row_items, rows}
use Rattle.file_writing.proofs.Puts.{put_none, put_then, put_length}

-- the row of node z
abbrev row : List ℕ → List ℕ → ℕ → List ℕ
row xs ls z = join_all (row_items z (of_node xs z) (of_node ls z))

-- one more
pub rows_suc : (xs ls : List ℕ) (i : ℕ) → rows xs ls (i + 1) ≡ rows xs ls i ++ join_all (row_items (i + 1) (get_or xs i 0) (get_or ls i 0))
unfolding rows of_node
rows_suc xs ls i =
    let e : 1 + i ≡ suc i = omega arith in
    join_next (row xs ls) 1 i
    ∙ ap (λ (l : List ℕ). rows xs ls i ++ l)
    (ap (row xs ls) e ∙ ap (λ (z : ℕ). join_all (row_items z (get_or xs i 0) (get_or ls i 0))) (sym (add-one i)))

-- fewer rows are no longer
rows_most : (xs ls : List ℕ) (i n : ℕ) → i ≤ n → length (rows xs ls i) ≤ length (rows xs ls n)
unfolding rows
rows_most xs ls i n h =
    omega (
      arith,
      sum-upto (λ z. length (row xs ls z)) 1 i n h,
      join_length (row xs ls) (up_from 1 i),
      join_length (row xs ls) (up_from 1 n),
    )

-- ---- the loop

-- the first i rows are put
pub record Listing (xs ls : List ℕ) (at : ℕ) (before : List ℕ) (i end : ℕ) (after : List ℕ) : Type 0 where
  pub few : i ≤ length xs
  pub put : Put (rows xs ls i) at end before after

pub listing_begin : (xs ls : List ℕ) (at : ℕ) (l : List ℕ) → Listing xs ls at l 0 at l
unfolding rows
listing_begin xs ls at l = record { few = omega arith; put = put_none at l }

module _ {xs ls : List ℕ} {at : ℕ} {l : List ℕ} {i end : ℕ} {k : List ℕ} (L : Listing xs ls at l i end k) where
  -- the next row has room
  pub listing_room : i < length xs → Room (rows xs ls (length xs)) at l → Room (join_all (row_items (i + 1) (get_or xs i 0) (get_or ls i 0))) end k
  listing_room h r =
      let m = rows_most xs ls (i + 1) (length xs) (omega arith) in
      let e = ap length (rows_suc xs ls i) ∙ length-append (rows xs ls i) (join_all (row_items (i + 1) (get_or xs i 0) (get_or ls i 0))) in
      record { fits = omega (arith, m, e, r.fits, L.put.end_is, put_length L.put) }

  pub listing_step : {z : ℕ} {h : List ℕ} → i < length xs → Put (join_all (row_items (i + 1) (get_or xs i 0) (get_or ls i 0))) end z k h → Listing xs ls at l (i + 1) z h
  listing_step h p = record { few = omega arith; put = rw (rows_suc xs ls i) (put_then L.put p) }

  pub listing_done : length xs ≤ i → Put (rows xs ls (length xs)) at end l k
  listing_done h = let e : length xs ≡ i = omega (arith, L.few) in rw e L.put
