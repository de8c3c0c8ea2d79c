-- The tests of a numbering call in turn, and what one that refuses and one that accepts answers and leaves, in either order. Assumes nothing.
use mathlib.Core.Path.{◌≡◌, refl, sym, ap, ◌∙◌}
use mathlib.Core.Bool.{Bool, true, false, ◌||◌}
use mathlib.Core.List.{List, ◌++◌}
use Prim.Native.Nat.{ℕ, ◌*◌, ◌≤◌, ◌<◌}
use native.Mathlib.Omega.{arith}
use lib.ListN.{length, take, drop}
use lib.Seq.{take_at}
use lib.Dec.{ltb}
use borrow.Author.Tests.{lt-ltb, le-ltb, ltb-false}
use Rattle.basis.proofs.Logic.{or_none}
use Rattle.spec.specs.CallsNumbering.{run_refusal, run_scratch}
use Rattle.spec_claims.specs.ClaimCuthill.{CuthillNumbered}
use Rattle.spec.specs.Cuthill.{cuthill_results, cuthill_run}
use Rattle.spec.specs.Graph.{graph_of, size_of}
use Rattle.spec.specs.Lent.{Outcome, accepted, refused, zeroed, words_per_node}
use Rattle.spec.specs.Numbering.{Run, Figures}
use Rattle.spec.specs.Unknowns.{bad_counts}
use Rattle.laws.specs.Results.{AllSound}
use Rattle.laws.proofs.Claim.{sound_numbered}
use Rattle.laws.proofs.CuthillRun.{cuthill_numbered}
use Rattle.laws.proofs.Numberings.{numbering_length}
use Rattle.laws.proofs.Passes.{passes_length}
use Rattle.laws.proofs.ResultLevels.{all-length}
use Rattle.laws.proofs.Results.{all_numbering}
use Rattle.graph.specs.Facts.{LegalLists, RefusedLists}
use Rattle.graph.proofs.Ways.{last, Refuses, Accepts, Tests, by_lists, by_short, by_last, by_none, answer_stays, buffer_stays, scratch_stays, answer_new, buffer_new, scratch_new}
use Rattle.numbering_next.specs.Orders.{result_of, whole_in}
use Rattle.numbering_next.specs.declared.order.Order.{Order}
use Rattle.numbering_next.specs.declared.order.Order.TheVariants.{ReverseCuthillMcKee}
use Rattle.numbering_next.proofs.Orders.{sound_in}
use Rattle.numbering.specs.Calls.{answer_in, numbers_in, levels_in, passes_in, NumberedIn}

-- ---- a short buffer

module _ (n a b c d : ℕ) where
  pub first_short : a < n → true ≡ ltb a n || ltb b n || ltb c n || ltb d (words_per_node * n)
  first_short h = rw (lt-ltb a n h)

  pub second_short : n ≤ a → b < n → true ≡ ltb a n || ltb b n || ltb c n || ltb d (words_per_node * n)
  second_short l h = rw (le-ltb a n l, lt-ltb b n h)

  pub third_short : n ≤ a → n ≤ b → c < n → true ≡ ltb a n || ltb b n || ltb c n || ltb d (words_per_node * n)
  third_short l m h = rw (le-ltb a n l, le-ltb b n m, lt-ltb c n h)

  pub fourth_short : n ≤ a → n ≤ b → n ≤ c → ltb d (words_per_node * n) ≡ ltb a n || ltb b n || ltb c n || ltb d (words_per_node * n)
  fourth_short l m k = rw (le-ltb a n l, le-ltb b n m, le-ltb c n k)

  -- all four are long enough
  pub none_short : ltb a n || ltb b n || ltb c n || ltb d (words_per_node * n) ≡ false → (n ≤ a) × (n ≤ b) × (n ≤ c) × (words_per_node * n ≤ d)
  none_short e =
      let u = or_none (ltb a n || ltb b n || ltb c n) (ltb d (words_per_node * n)) e in
      let v = or_none (ltb a n || ltb b n) (ltb c n) u.0 in
      let w = or_none (ltb a n) (ltb b n) v.0 in
      (ltb-false a n w.0, ltb-false b n w.1, ltb-false c n v.1, ltb-false d (words_per_node * n) u.1)

module _ (order : Order) (S N K X L P W : List ℕ) where
  abbrev whole : Run
  whole = whole_in order (graph_of S N) K

  -- ---- refused: everything lent is untouched

  pub record RunRefused (c : ℕ) : Type 0 where
    pub answer : refused c ≡ answer_in order S N K X L P W
    pub numbers : X ≡ numbers_in order S N K X L P W
    pub levels : L ≡ levels_in order S N K X L P W
    pub passes : P ≡ passes_in order S N K X L P W
    pub scratch : W ≡ run_scratch S N K X L P W
    pub none : (F : Figures) → ◌≡◌ {A = Outcome Figures} (refused c) (accepted F) → NumberedIn order S N K F (take (size_of S) X) (take (size_of S) L)

  refusal : {c : ℕ} → Refuses (run_refusal S N K X L P W) c → RunRefused c
  unfolding run_scratch
  refusal R = record {
    answer = answer_stays R _;
    numbers = buffer_stays R _;
    levels = buffer_stays R _;
    passes = buffer_stays R _;
    scratch = scratch_stays R S;
    none = λ F p. let z : ◌≡◌ {A = ℕ} 0 1 = cc in absurd (omega arith);
  }

  -- its tests: a short buffer, then the counts
  abbrev any_short : Bool
  any_short = ltb (length X) (size_of S) || ltb (length L) (size_of S) || ltb (length P) (size_of S) || ltb (length W) (words_per_node * size_of S)

  tests : Tests S N any_short (last (bad_counts (size_of S) K) 15) (run_refusal S N K X L P W)
  unfolding run_refusal
  tests = record { is = refl }

  -- 1 to 4
  pub lists_refused : {c : ℕ} → RefusedLists S N c → RunRefused c
  lists_refused R = refusal (by_lists tests R)

  module _ (G : LegalLists S N) where
    -- 5
    pub short_refused : ltb (length X) (size_of S) || ltb (length L) (size_of S) || ltb (length P) (size_of S) || ltb (length W) (words_per_node * size_of S) ≡ true → RunRefused 5
    short_refused e = refusal (by_short tests G e)

    -- 15
    pub counts_refused : ltb (length X) (size_of S) || ltb (length L) (size_of S) || ltb (length P) (size_of S) || ltb (length W) (words_per_node * size_of S) ≡ false
        → bad_counts (size_of S) K ≡ true → RunRefused 15
    counts_refused e b = refusal (by_last tests G e b (omega arith))

    -- ---- accepted

    sound : AllSound (graph_of S N) K (result_of order (graph_of S N) K)
    sound = sound_in order G.graph K

    numbers_size : length (whole_in order (graph_of S N) K).numbers ≡ size_of S
    numbers_size = numbering_length (size_of S) whole.numbers (all_numbering G.graph (result_of order (graph_of S N) K) sound)

    levels_size : length (whole_in order (graph_of S N) K).levels ≡ size_of S
    levels_size = all-length G.graph (result_of order (graph_of S N) K) sound

    module _ (long : ltb (length X) (size_of S) || ltb (length L) (size_of S) || ltb (length P) (size_of S) || ltb (length W) (words_per_node * size_of S) ≡ false)
        (counted : bad_counts (size_of S) K ≡ false) where
      none : Accepts (run_refusal S N K X L P W)
      none = by_none tests G long counted

      pub answered : accepted (whole_in order (graph_of S N) K).figures ≡ answer_in order S N K X L P W
      answered = answer_new none refl

      pub numbers_back : {Y : List ℕ} → Y ≡ (whole_in order (graph_of S N) K).numbers → Y ++ drop (size_of S) X ≡ numbers_in order S N K X L P W
      numbers_back y = buffer_new none (size_of S) X y numbers_size

      pub levels-back : {Y : List ℕ} → Y ≡ (whole_in order (graph_of S N) K).levels → Y ++ drop (size_of S) L ≡ levels_in order S N K X L P W
      levels-back y = buffer_new none (size_of S) L y levels_size

      pub passes_back : {Y : List ℕ} → Y ≡ (whole_in order (graph_of S N) K).passes → Y ++ drop (size_of S) P ≡ passes_in order S N K X L P W
      passes_back y = buffer_new none (size_of S) P y (passes_length (graph_of S N) K (result_of order (graph_of S N) K))

      pub scratch_back : {Z : List ℕ} → Z ≡ zeroed (words_per_node * size_of S) W → Z ≡ run_scratch S N K X L P W
      unfolding run_scratch
      scratch_back z = scratch_new none S W z

    -- ---- what a library above rests on

    -- the first n words of the two lists that it leaves are as the numbering's own numbers and levels
    pub left-numbered : bad_counts (size_of S) K ≡ false → {Y M : List ℕ} → Y ≡ (whole_in order (graph_of S N) K).numbers → M ≡ (whole_in order (graph_of S N) K).levels
        → (F F' : Figures) → F' ≡ (whole_in order (graph_of S N) K).figures → ◌≡◌ {A = Outcome Figures} (accepted F') (accepted F)
        → NumberedIn order S N K F (take (size_of S) (Y ++ drop (size_of S) X)) (take (size_of S) (M ++ drop (size_of S) L))
    left-numbered counted {Y} {M} y l F F' f e =
        let f' : F ≡ whole.figures = sym (taken F' F e) ∙ f in
        let y' : take (size_of S) (Y ++ drop (size_of S) X) ≡ whole.numbers = take_at Y (drop (size_of S) X) (size_of S) (ap length y ∙ numbers_size) ∙ y in
        let l' : take (size_of S) (M ++ drop (size_of S) L) ≡ whole.levels = take_at M (drop (size_of S) L) (size_of S) (ap length l ∙ levels_size) ∙ l in
        rw (f', y', l') (sound_numbered S N K G.refusal counted (result_of order (graph_of S N) K) sound)
      where
        taken : (a b : Figures) → ◌≡◌ {A = Outcome Figures} (accepted a) (accepted b) → a ≡ b
        taken a b e = cc

-- ---- after A.3's call: the band of each part beside it

pub call_numbered : {S N K : List ℕ} {F : Figures} {X L : List ℕ} → NumberedIn ReverseCuthillMcKee S N K F X L → CuthillNumbered S N K F X L
unfolding cuthill_run cuthill_results
call_numbered {S} {N} {K} M = let C = cuthill_numbered S N K M.legal M.counted in record { numbered = M; least = C.least; most = C.most }
