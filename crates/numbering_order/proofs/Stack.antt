-- The stack of a level while the level is numbered: from where the code has gone down to, it has all the level's nodes that are left.
-- Assumes nothing.
use mathlib.Core.Path.{◌≡◌, refl, sym, ap, ◌∙◌}
use mathlib.Core.Bool.{true, not, ◌&&◌, and_comm}
use mathlib.Core.List.{List}
use Prim.Native.Nat.{ℕ, ◌+◌, ◌-◌, ◌≤◌}
use native.Mathlib.Omega.{arith}
use lib.ListN.{length, drop, get_or}
use lib.Dec.{eqb}
use Rattle.basis.specs.Lists.{filterb, memb, head_or}
use Rattle.basis.specs.Perm.{Once}
use Rattle.basis.proofs.Count.{filter_once}
use Rattle.basis.proofs.Lists.{filter_cong}
use Rattle.basis.proofs.Logic.{by_test}
use Rattle.basis.proofs.Rise.{rise_once}
use Rattle.spec.specs.Graph.{Graph, graph_of, sort_e, of_node, first_in_e}
use Rattle.spec.specs.Numbering.{level_nodes}
use Rattle.laws.proofs.Refused.{not_refused}
use Rattle.laws.proofs.Orders.{perm_sort_e}
use Rattle.numbering_stacks.specs.Stacks.{Chain, is_marked, Rest}
use Rattle.numbering_stacks.proofs.Sort.{once_most, filter-sort_e}
use Rattle.numbering_stacks.proofs.Deal.{rising_chain}
use Rattle.numbering_stacks.proofs.Stacks.{chain_same, chain_range, stacks_same}
use Rattle.numbering_order.specs.Model.{Far, free, own_levels, Standing}
use Rattle.numbering_order.proofs.Walk.{Walk, walk_levels, walk_kept, walk_mark}
use Rattle.numbering_order.proofs.Cursor.{left_first}
use Rattle.numbering_order.proofs.OwnLevels.{filter-filter, left_same}

pub standing_far : {g : Graph} {n at : ℕ} {P W : List ℕ} → Standing g n at P W → Far n at W
standing_far B = record { behind = omega (arith, B.behind); held = B.held }

-- ---- the stack of level i

-- from q down stand all its nodes that are not in the order o
pub record Stack (n at : ℕ) (g : Graph) (P W₀ : List ℕ) (i : ℕ) (o W : List ℕ) (q : ℕ) : Type 0 where
  pub rest : List ℕ
  pub chain : Chain n (n + n) W q rest
  pub few : length rest ≤ n
  pub all : filterb (λ x. not (memb x o)) rest ≡ filterb (λ x. not (memb x o)) (filterb (λ x. eqb (of_node (drop at W₀) x) i) (sort_e g P))

-- at its top
pub stack_begin : {S N : List ℕ} {n at : ℕ} {P W₀ o W : List ℕ} {e i q : ℕ} → Walk S N n at W₀ o W e → Standing (graph_of S N) n at P W₀ → (1 ≤ i) × (i ≤ n)
    → q ≡ get_or W (n + n + n + (i - 1)) 0 → Stack n at (graph_of S N) P W₀ i o W q
stack_begin {S} {N} {n} {at} {P} {W₀} {o} {W} {i = i} K B h f =
    let l : List ℕ = filterb (λ x. eqb (of_node (drop at W₀) x) i) (sort_e (graph_of S N) P) in
    let c : Chain n (n + n) W (get_or W₀ (n + n + n + (i - 1)) 0) l =
    chain_same n (n + n) W₀ W l (get_or W₀ (n + n + n + (i - 1)) 0) (λ x m lo hi. walk_kept K (n + n + (x - 1)) (omega arith)) (B.stacks i h.0 h.1) in record {
      rest = l;
      chain = rw (f ∙ walk_kept K (n + n + n + (i - 1)) (omega arith)) c;
      few = once_most n l (filter_once (λ x. eqb (of_node (drop at W₀) x) i) (sort_e (graph_of S N) P) once) (chain_range n (n + n) W l (get_or W₀ (n + n + n + (i - 1)) 0) c);
      all = refl;
    }
  where
    once : Once (sort_e (graph_of S N) P)
    once x = omega (arith, (perm_sort_e (graph_of S N) P).alike x, rise_once P (rising_chain (graph_of S N) P B.rising) x)

-- filters by what is not numbered, where more is numbered
left_more : (o o' l k : List ℕ) → ((x : ℕ) → memb x o ≡ true → memb x o' ≡ true) → filterb (λ x. not (memb x o)) l ≡ filterb (λ x. not (memb x o)) k
    → filterb (λ x. not (memb x o')) l ≡ filterb (λ x. not (memb x o')) k
left_more o o' l k h e = sym (both l) ∙ ap (filterb (λ x. not (memb x o'))) e ∙ both k
  where
    both : (l : List ℕ) → filterb (λ x. not (memb x o')) (filterb (λ x. not (memb x o)) l) ≡ filterb (λ x. not (memb x o')) l
    both l =
        filter-filter (λ x. not (memb x o')) (λ x. not (memb x o)) l
        ∙ filter_cong (λ x. not (memb x o) && not (memb x o')) (λ x. not (memb x o')) l
        (λ x m. by_test (memb x o) (λ t. rw (t, h x t)) (λ t. rw t))

module _ {S N : List ℕ} {n at : ℕ} {W₀ o W : List ℕ} {e : ℕ} (K : Walk S N n at W₀ o W e) {P : List ℕ} {i q : ℕ} (T : Stack n at (graph_of S N) P W₀ i o W q) where
  -- more is numbered
  pub stack_more : {o' W' : List ℕ} {e' : ℕ} → Walk S N n at W₀ o' W' e' → ((x : ℕ) → memb x o ≡ true → memb x o' ≡ true) → Stack n at (graph_of S N) P W₀ i o' W' q
  stack_more {o'} {W'} K' h = record {
    rest = T.rest;
    chain =
        chain_same n (n + n) W W' T.rest q
        (λ x m lo hi. walk_kept K' (n + n + (x - 1)) (omega arith) ∙ sym (walk_kept K (n + n + (x - 1)) (omega arith))) T.chain;
    few = T.few;
    all = left_more o o' T.rest (filterb (λ x. eqb (of_node (drop at W₀) x) i) (sort_e (graph_of S N) P)) h T.all;
  }

  -- marks are of what is numbered
  unmarked_is : (h : ℕ) (l : List ℕ) → Chain n (n + n) W h l → filterb (λ x. not (is_marked W x)) l ≡ filterb (λ x. not (memb x o)) l
  unmarked_is h l c =
      filter_cong (λ x. not (is_marked W x)) (λ x. not (memb x o)) l
      (λ x m. let r = chain_range n (n + n) W l h c x m in ap not (walk_mark K x r.0 r.1))

  module _ {z : ℕ} (f : (l : List ℕ) → Chain n (n + n) W q l → Rest n W l z) where
    abbrev R : Rest n W T.rest z
    R = f T.rest T.chain

    -- the walk down has gone to z
    pub stack_on : Stack n at (graph_of S N) P W₀ i o W z
    stack_on = record {
      rest = R.rest;
      chain = R.chain;
      few = omega (arith, R.fewer, T.few);
      all = sym (unmarked_is z R.rest R.chain) ∙ R.same ∙ unmarked_is q T.rest T.chain ∙ T.all;
    }

    -- and z is the first in E that is left
    pub stack_left : Standing (graph_of S N) n at P W₀ → 1 ≤ i → z ≡ left_first (graph_of S N) (level_nodes (graph_of S N) (own_levels (graph_of S N) P (drop at W₀)) i) o
    unfolding first_in_e stack_on
    stack_left B h =
        let g : Graph = graph_of S N in
        let L : List ℕ = drop at W₀ in
        R.first
        ∙ ap (head_or 0)
        (unmarked_is z R.rest R.chain ∙ stack_on.all
        ∙ filter-filter (λ x. not (memb x o)) (λ x. eqb (of_node L x) i) (sort_e g P)
        ∙ filter_cong (λ x. eqb (of_node L x) i && not (memb x o)) (free L i o) (sort_e g P) (λ x m. and_comm (eqb (of_node L x) i) (not (memb x o)))
        ∙ filter-sort_e g (free L i o) P
        ∙ ap (sort_e g) (left_same (not_refused S N K.ok) P L B.rising B.closed i h o))

-- ---- what stands behind goes on to stand there

module _ {S N : List ℕ} {n at : ℕ} {P W₀ o W : List ℕ} {e : ℕ} (K : Walk S N n at W₀ o W e) (B : Standing (graph_of S N) n at P W₀) where
  pub standing_on : Standing (graph_of S N) n at P W
  standing_on = record {
    behind = B.behind;
    held = omega (arith, B.held, K.size);
    rising = B.rising;
    closed = B.closed;
    stacks =
        rw (walk_levels K)
        (stacks_same n (n + n + n) (n + n) (of_node (drop at W₀)) (sort_e (graph_of S N) P) W₀ W
        (λ k lo hi. walk_kept K (n + n + n + (k - 1)) (omega arith)) (λ q m lo hi. walk_kept K (n + n + (q - 1)) (omega arith)) B.stacks);
  }

  pub levels_on : own_levels (graph_of S N) P (drop at W) ≡ own_levels (graph_of S N) P (drop at W₀)
  levels_on = ap (own_levels (graph_of S N) P) (walk_levels K)
