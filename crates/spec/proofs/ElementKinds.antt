-- Document 01's table of kinds, row by row. Assumes nothing.
use mathlib.Core.Path.{◌≡◌, refl}
use Prim.Native.Nat.{ℕ, ◌≤◌}
use native.Mathlib.Omega.{arith}
use lib.ListN.{length, get_or-eq_default}
use Rattle.spec.specs.Mesh.{kind_table, node_count}
use Rattle.spec.proofs.Compute.{computes}

-- "Kinds and node counts: 1 bar 2, 2 triangle 3, 3 quadrilateral 4, 4 tetrahedron 4, 5 pyramid 5, 6 wedge 6, 7 brick 8, 8 triangle 6,
-- 9 quadrilateral 8, 10 tetrahedron 10"; no other word is a kind
pub record KindTable : Type 0 where
  pub bar : node_count 1 ≡ 2
  pub triangle : node_count 2 ≡ 3
  pub quadrilateral : node_count 3 ≡ 4
  pub tetrahedron : node_count 4 ≡ 4
  pub pyramid : node_count 5 ≡ 5
  pub wedge : node_count 6 ≡ 6
  pub brick : node_count 7 ≡ 8
  pub triangle_6 : node_count 8 ≡ 6
  pub quadrilateral_8 : node_count 9 ≡ 8
  pub tetrahedron_10 : node_count 10 ≡ 10
  pub none_below : node_count 0 ≡ 0
  pub none_above : (k : ℕ) → 11 ≤ k → node_count k ≡ 0

pub kind_table_lem : KindTable
unfolding computes
kind_table_lem = record {
  bar = refl;
  triangle = refl;
  quadrilateral = refl;
  tetrahedron = refl;
  pyramid = refl;
  wedge = refl;
  brick = refl;
  triangle_6 = refl;
  quadrilateral_8 = refl;
  tetrahedron_10 = refl;
  none_below = refl;
  none_above = λ k l. get_or-eq_default kind_table 0 {n = k} (let n : ◌≡◌ {A = ℕ} (length kind_table) 11 = refl in omega (arith, n, l));
}
