-- All pieces placed in the words are all pieces placed by document 01. Assumes nothing.
use mathlib.Core.Path.{◌≡◌, refl, sym, ◌∙◌}
use mathlib.Core.Logic.{⊎_elim}
use mathlib.Core.Bool.{Bool, true, false}
use mathlib.Core.List.{List, [], ◌∷◌, foldl}
use Prim.Native.Nat.{ℕ, ◌+◌, ◌*◌, ◌≤◌, ◌<◌}
use native.Mathlib.Omega.{arith}
use lib.ListN.{length, get_or}
use lib.Dec.{ltb}
use Rattle.basis.specs.Lists.{countb, anyb, memb}
use Rattle.basis.proofs.Count.{bit-one}
use Rattle.basis.proofs.Logic.{by_test, clash, fails, or_split, or_none}
use Rattle.spec.specs.Combined.{LevelPairs, place_piece}
use Rattle.spec.specs.Ends.{Ends}
use Rattle.spec.specs.Graph.{Graph, of_node}
use Rattle.laws.specs.Legal.{Node}
use Rattle.laws.proofs.Pieces.{place_out}
use Rattle.levels_laws.specs.Seek.{at}
use Rattle.levels_laws.specs.Placed.{placed_words, placed_levels, words_after, levels_after, PlaceableAll}
use Rattle.levels_laws.proofs.OnePiece.{Piece, Stand, Laid, can_place, shallow, words-front, words_behind, words-length, levels-length, level_in, level_out, laid_next, piece_on}

-- what holds once the pieces ps, that start at os, are placed, at levels up to b
pub record After (g : Graph) (e : Ends) (pr : LevelPairs) (n b : ℕ) (narrow : Bool) (os : List ℕ) (ps : List (List ℕ)) (W L placed : List ℕ) : Type 0 where
  pub can : PlaceableAll n b narrow os W L
  pub laid : Laid g e pr n (words_after n narrow os W L) (levels_after n narrow os W L) (foldl (place_piece g e pr) placed ps) []
  pub words_size : length (words_after n narrow os W L) ≡ length W
  pub levels_size : length (levels_after n narrow os W L) ≡ length L
  pub front : (i : ℕ) → i + e.k < 4 * n → get_or (words_after n narrow os W L) i 0 ≡ get_or W i 0
  pub behind : (i : ℕ) → 4 * n ≤ i → get_or (words_after n narrow os W L) i 0 ≡ get_or W i 0
  pub placed_in : (q : ℕ) → Node g q → anyb (memb q) ps ≡ true → at (levels_after n narrow os W L) q ≡ of_node (foldl (place_piece g e pr) placed ps) q
  pub placed_out : (q : ℕ) → Node g q → anyb (memb q) ps ≡ false
      → (at (levels_after n narrow os W L) q ≡ at L q) × (of_node (foldl (place_piece g e pr) placed ps) q ≡ of_node placed q)

any_count : (q : ℕ) (ps : List (List ℕ)) → anyb (memb q) ps ≡ true → 1 ≤ countb (memb q) ps
any_count q [] h = clash h refl
any_count q (P ∷ ps) h =
    ⊎_elim (λ a. omega (arith, bit-one (memb q P) a)) (λ a. omega (arith, any_count q ps a)) (or_split (memb q P) (anyb (memb q) ps) h)

module _ (g : Graph) (e : Ends) (pr : LevelPairs) (n b : ℕ) (d : e.k ≤ b) (narrow : Bool) (w : narrow ≡ ltb e.u_width e.v_width) where
  -- the pieces behind the first stand as before
  stand_on : {W L placed P : List ℕ} {qs : List (List ℕ)} {o : ℕ} (I : Laid g e pr n W L placed (P ∷ qs)) (S : Piece g n e.k pr W L o P)
      (os : List ℕ) (ps : List (List ℕ)) → ((q : ℕ) → memb q P ≡ true → anyb (memb q) ps ≡ false)
      → Stand g n e.k pr W L os ps → Stand g n e.k pr (placed_words n narrow o W L) (placed_levels n narrow o W L) os ps
  unfolding Stand
  stand_on I S [] [] d T = tt
  stand_on I S [] (Q ∷ ps) d T = absurd T
  stand_on I S (o₂ ∷ os) [] d T = absurd T
  stand_on I S (o₂ ∷ os) (Q ∷ ps) d T = (
    piece_on w I S (λ q m k. clash k (or_none (memb q Q) (anyb (memb q) ps) (d q m)).0) T.0,
    stand_on I S os ps (λ q m. (or_none (memb q Q) (anyb (memb q) ps) (d q m)).1) T.1,
  )

  pub lay_all : (os : List ℕ) (ps : List (List ℕ)) (W L placed : List ℕ) → Laid g e pr n W L placed ps → Stand g n e.k pr W L os ps
      → After g e pr n b narrow os ps W L placed
  unfolding Stand words_after levels_after PlaceableAll
  lay_all [] [] W L placed I T = record {
    can = tt;
    laid = I;
    words_size = refl;
    levels_size = refl;
    front = λ i h. refl;
    behind = λ i h. refl;
    placed_in = λ q N m. clash m refl;
    placed_out = λ q N m. (refl, refl);
  }
  lay_all [] (P ∷ ps) W L placed I T = absurd T
  lay_all (o ∷ os) [] W L placed I T = absurd T
  lay_all (o ∷ os) (P ∷ ps) W L placed I T =
      let S = T.0 in
      let apart : (q : ℕ) → memb q P ≡ true → anyb (memb q) ps ≡ false =
      λ q m. fails (anyb (memb q) ps) (λ a. omega (arith, I.ready.once q, bit-one (memb q P) m, any_count q ps a)) in
      let R = lay_all os ps (placed_words n narrow o W L) (placed_levels n narrow o W L) (place_piece g e pr placed P) (laid_next w I S) (stand_on I S os ps apart T.1) in
      record {
        can = (S.stands, can_place w I S, shallow w I S b d, R.can);
        laid = R.laid;
        words_size = R.words_size ∙ words-length w I S;
        levels_size = R.levels_size ∙ levels-length w I S;
        front = λ i h. R.front i h ∙ words-front w I S i h;
        behind = λ i h. R.behind i h ∙ words_behind w I S i h;
        placed_in = λ q N m. by_test (memb q P)
            (λ a. let x = R.placed_out q N (apart q a) in x.0 ∙ level_in w I S q N a ∙ sym x.1)
            (λ a. R.placed_in q N (⊎_elim (λ b. clash b a) (λ b. b) (or_split (memb q P) (anyb (memb q) ps) m)));
        placed_out = λ q N m.
            let a = or_none (memb q P) (anyb (memb q) ps) m in
            let x = R.placed_out q N a.1 in
            (x.0 ∙ level_out w I S q N a.0, x.1 ∙ place_out g e pr placed P q N a.0);
      }
