-- The unknowns of some nodes in a level: of the members of a part, which are all that the definition counts. Assumes nothing.
use mathlib.Core.Path.{◌≡◌, sym, ap, ◌∙◌}
use mathlib.Core.Bool.{true, ◌&&◌, cond}
use mathlib.Core.List.{List, [], ◌∷◌, ◌++◌, map}
use Prim.Native.Nat.{ℕ, suc, ◌+◌, ◌-◌, ◌*◌, ◌≤◌, ◌<◌}
use native.Mathlib.Nat.{add-zero}
use native.Mathlib.Omega.{arith}
use lib.ListN.{get_or, take, length-map}
use lib.Seq.{get_or-take, get_or-drop}
use lib.Dec.{eqb}
use borrow.Author.Tests.{ne_eqb}
use Rattle.basis.specs.Lists.{filterb, memb, up_from, sum}
use Rattle.basis.specs.Perm.{Perm}
use Rattle.basis.proofs.Count.{filter_once, up_from_once}
use Rattle.basis.proofs.Lists.{map-append, map-memb, memb-filter, sum-append, sum_cong, sum_none, length-up_from, up_from_in, up_from_make}
use Rattle.basis.proofs.Logic.{same, and_split, and_make, by_test}
use Rattle.basis.proofs.Perm.{once_perm, perm_sum}
use Rattle.basis.proofs.Sums.{sum-filter-all, sum_most}
use Rattle.spec.specs.Graph.{Graph, nodes, of_node}
use Rattle.spec.specs.Unknowns.{unknowns_at}
use Rattle.laws.proofs.Legal.{of_node-at}
use Rattle.laws.proofs.UnknownBounds.{count_between}
use Rattle.levels_laws.specs.Areas.{tally_of}
use Rattle.levels_laws.specs.Model.{number_at}
use Rattle.levels_laws.specs.Starts.{members_of}
use Rattle.levels_laws.proofs.Members.{member_range, member_in}
use Rattle.numbering_width.specs.Width.{Weighable}

-- ---- of any nodes, by counts and levels that run by old number

-- the unknowns of node z that are in level i
abbrev pub share : List ℕ → List ℕ → ℕ → ℕ → ℕ
share counts ls i z = cond (eqb (of_node ls z) i) (of_node counts z) 0

-- those of the nodes zs
abbrev pub weight : List ℕ → List ℕ → ℕ → List ℕ → ℕ
weight counts ls i zs = sum (map (share counts ls i) zs)

pub weight_next : (counts ls : List ℕ) (i : ℕ) (zs : List ℕ) (z : ℕ) → weight counts ls i (zs ++ (z ∷ [])) ≡ weight counts ls i zs + share counts ls i z
weight_next counts ls i zs z =
    ap sum (map-append (share counts ls i) zs (z ∷ [])) ∙ sum-append (map (share counts ls i) zs) (share counts ls i z ∷ [])
    ∙ ap (λ (x : ℕ). weight counts ls i zs + x) (add-zero (share counts ls i z))

share_most : (counts ls : List ℕ) (i z : ℕ) → share counts ls i z ≤ of_node counts z
share_most counts ls i z = by_test (eqb (of_node ls z) i) (λ e. rw e (omega arith)) (λ e. rw e (omega arith))

share_none : (counts ls : List ℕ) (i z : ℕ) → (of_node ls z ≡ i → ⊥) → share counts ls i z ≡ 0
share_none counts ls i z h = rw (ne_eqb (of_node ls z) i h)

-- ---- of the members of a part

module _ {n from to k : ℕ} {counts X : List ℕ} (A : Weighable n from to k counts X) where
  abbrev ls : List ℕ
  ls = tally_of n X

  abbrev members : List ℕ
  members = members_of n from to X

  -- the level of a node stands at its word of TALLY
  pub level_read : (z : ℕ) → 1 ≤ z → z ≤ n → number_at (5 * n) X z ≡ of_node ls z
  level_read z l h =
      let e : 5 * n + (z - 1) ≡ 5 * n + z - 1 = omega arith in
      sym (of_node-at ls z l ∙ get_or-drop (5 * n) (take (6 * n) X) (z - 1) 0 ∙ get_or-take (6 * n) X (5 * n + (z - 1)) 0 (omega arith) ∙ ap (λ (j : ℕ). get_or X j 0) e)

  -- the members before i are members
  before : (i : ℕ) → i ≤ to → (z : ℕ) → memb z (members_of n from i X) ≡ true → memb z members ≡ true
  before i h z m =
      let e = map-memb (λ j. get_or X (4 * n + j) 0) (up_from from (i - from)) z m in
      let b = up_from_in from (i - from) e.0 e.1 in
      rw e.2 (member_in n from to X e.0 b.0 (omega (arith, b.0, b.1)))

  -- none is in a level after k
  pub weight_deep : (i : ℕ) → i ≤ to → (j : ℕ) → k < j → weight counts ls j (members_of n from i X) ≡ 0
  weight_deep i h j l =
      sum_cong (share counts ls j) (λ z. 0) (members_of n from i X)
      (λ z m. share_none counts ls j z (λ e. omega (arith, e, A.most z (before i h z m))))
      ∙ sum_none (members_of n from i X)

  pub weight_most : (i : ℕ) → i ≤ to → (j : ℕ) → weight counts ls j (members_of n from i X) ≤ 6 * (i - from)
  weight_most i h j =
      let six = sum_most (share counts ls j) 6 (members_of n from i X)
      (λ z m.
      let r = member_range A.members i h z m in
      omega (arith, share_most counts ls j z, (count_between n counts A.counted z r.0 r.1).1)) in
      omega (arith, six, length-map (up_from from (i - from)) (λ j. get_or X (4 * n + j) 0), length-up_from from (i - from))

  -- the members are the nodes that are members, each once
  members_perm : Perm members (filterb (λ z. memb z members) (up_from 1 n))
  members_perm =
      once_perm members (filterb (λ z. memb z members) (up_from 1 n)) A.members.once
      (filter_once (λ z. memb z members) (up_from 1 n) (up_from_once 1 n))
      (λ z.
      same (memb z members) (memb z (up_from 1 n) && memb z members)
      (λ m. let r = member_range A.members to (omega arith) z m in and_make (up_from_make 1 n z r.0 (omega (arith, r.1))) m)
      (λ m. (and_split (memb z (up_from 1 n)) (memb z members) m).1)
      ∙ sym (memb-filter (λ y. memb y members) (up_from 1 n) z))

  -- so they have all unknowns of a level
  pub weight_is : (g : Graph) → g.size ≡ n → (j : ℕ) → weight counts ls (suc j) members ≡ unknowns_at g counts ls (suc j)
  unfolding unknowns_at nodes
  weight_is g s j =
      let f : ℕ → ℕ = share counts ls (suc j) in
      perm_sum f members_perm
      ∙ sum-filter-all f (λ z. memb z members) (up_from 1 n)
      (λ z m e.
      let u = up_from_in 1 n z m in
      share_none counts ls (suc j) z (λ q. omega (arith, q, A.outside z u.0 (omega (arith, u.1)) e)))
      ∙ ap (λ (m : ℕ). sum (map f (up_from 1 m))) (sym s)
