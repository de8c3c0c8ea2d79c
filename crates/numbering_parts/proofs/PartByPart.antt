-- For a caller that walks the members part by part: after j parts, the next stands from a on, where a is the count of their nodes.
-- Assumes nothing.
use mathlib.Core.Path.{◌≡◌, refl, sym, ap, ◌∙◌}
use mathlib.Core.Bool.{true, false≢true}
use mathlib.Core.List.{List, [], ◌∷◌, ◌++◌, append_assoc}
use Prim.Native.Nat.{ℕ, suc, ◌+◌, ◌≤◌, ◌<◌}
use native.Mathlib.Numerals.{add-one}
use native.Mathlib.Omega.{arith}
use lib.ListN.{length, get_or, take, drop, length-map, get_or-append}
use lib.Seq.{take_all, take_at, get_or-drop, get_or-append-add, drop-append-add, drop-append-le}
use Rattle.basis.specs.Lists.{join_all, head_or, memb}
use Rattle.basis.proofs.Index.{get_d_map, memb-get_or}
use Rattle.basis.proofs.Lists.{memb-length}
use Rattle.spec.specs.Graph.{Graph}
use Rattle.spec.specs.Levels.{part, leaders, parts}
use Rattle.laws.specs.Legal.{Node, LegalGraph}
use Rattle.laws.proofs.Levels.{part_self}
use Rattle.laws.proofs.Parts.{leaders_in}
use Rattle.numbering_parts.specs.Walked.{Walked, leader_at}
use Rattle.numbering_parts.proofs.Joins.{offset, join_at, offset_suc, offset_most}
use Rattle.numbering_parts.proofs.Seen.{parts-length}

pub walk_begin : (g : Graph) → Walked g 0 0
walk_begin g = record { some = omega arith; nodes = refl }

module _ {g : Graph} (G : LegalGraph g) {j a : ℕ} (P : Walked g j a) where
  count : length (parts g) ≡ length (leaders g)
  unfolding parts
  count = length-map (leaders g) (part g)

  pub walk_most : a ≤ g.size
  walk_most = omega (arith, P.nodes, offset_most (parts g) j, parts-length G)

  -- after the last part no node is left, and so a part is where a node is
  pub walk_end : length (parts g) ≤ j → a ≡ g.size
  walk_end e = P.nodes ∙ ap (λ (ls : List (List ℕ)). length (join_all ls)) (take_all j (parts g) e) ∙ parts-length G

  -- one part more
  module _ (h : j < length (parts g)) where
    listed : j < length (leaders g)
    listed = omega (arith, count)

    part_is : get_or (parts g) j [] ≡ part g (leader_at g j)
    unfolding parts
    part_is = get_d_map (part g) (leaders g) j 0 [] listed

    pub next_leads : memb (leader_at g j) (leaders g) ≡ true
    next_leads = memb-get_or (leaders g) j listed

    pub next_node : Node g (leader_at g j)
    next_node = (leaders_in g (leader_at g j) next_leads).0

    next_split : drop a (join_all (parts g)) ≡ part g (leader_at g j) ++ join_all (drop (suc j) (parts g))
    next_split =
        ap (λ (k : ℕ). drop k (join_all (parts g))) P.nodes
        ∙ join_at (parts g) j h
        ∙ ap (λ (l : List ℕ). l ++ join_all (drop (suc j) (parts g))) part_is

    -- the first of its members is its lowest node
    pub next_first : get_or (join_all (parts g)) a 0 ≡ leader_at g j
    next_first =
        let z : a + 0 ≡ a = omega arith in
        ap (λ (k : ℕ). get_or (join_all (parts g)) k 0) (sym z)
        ∙ sym (get_or-drop a (join_all (parts g)) 0 0)
        ∙ ap (λ (l : List ℕ). get_or l 0 0) next_split
        ∙ first (part g (leader_at g j)) (join_all (drop (suc j) (parts g))) (leader_at g j) (leaders_in g (leader_at g j) next_leads).1 (part_self G next_node)
      where
        first : (l r : List ℕ) (z : ℕ) → head_or 0 l ≡ z → memb z l ≡ true → get_or (l ++ r) 0 0 ≡ z
        first [] r z e m = absurd (false≢true m)
        first (x ∷ l) r z e m = e

    pub walk_next : Walked g (j + 1) (a + length (part g (leader_at g j)))
    walk_next = record {
      some = omega arith;
      nodes =
          ap (λ (x : ℕ). x + length (part g (leader_at g j))) P.nodes
          ∙ ap (λ (l : List ℕ). offset (parts g) j + length l) (sym part_is)
          ∙ sym (offset_suc (parts g) j h)
          ∙ ap (offset (parts g)) (sym (add-one j));
    }

    -- it has a node, and all of them are nodes
    pub next_some : 1 ≤ length (part g (leader_at g j))
    next_some = memb-length (leader_at g j) (part g (leader_at g j)) (part_self G next_node)

    pub next_fits : a + length (part g (leader_at g j)) ≤ g.size
    next_fits = omega (arith, walk_next.nodes, offset_most (parts g) (j + 1), parts-length G)

    -- the same in a scratch that has the members from k on
    module _ (front excess : List ℕ) (k : ℕ) (e : length front ≡ k) where
      pub scratch_first : get_or (front ++ (join_all (parts g) ++ excess)) (k + a) 0 ≡ leader_at g j
      scratch_first =
          ap (λ (i : ℕ). get_or (front ++ (join_all (parts g) ++ excess)) (i + a) 0) (sym e)
          ∙ get_or-append-add front (join_all (parts g) ++ excess) a 0
          ∙ get_or-append (join_all (parts g)) excess 0 a (omega (arith, next_some, next_fits, parts-length G))
          ∙ next_first

      pub scratch_part : take (length (part g (leader_at g j))) (drop (k + a) (front ++ (join_all (parts g) ++ excess))) ≡ part g (leader_at g j)
      scratch_part =
          let z : ℕ = leader_at g j in
          let r : List ℕ = join_all (drop (suc j) (parts g)) in
          ap (λ (i : ℕ). take (length (part g z)) (drop (i + a) (front ++ (join_all (parts g) ++ excess)))) (sym e)
          ∙ ap (take (length (part g z))) (drop-append-add front (join_all (parts g) ++ excess) a
          ∙ drop-append-le a (join_all (parts g)) excess (omega (arith, walk_most, parts-length G))
          ∙ ap (λ (l : List ℕ). l ++ excess) next_split
          ∙ append_assoc (part g z) r excess)
          ∙ take_at (part g z) (r ++ excess) (length (part g z)) refl
