-- One round of the loop that finds the pieces: the next member is passed, or its piece is taken in. Assumes nothing.
use mathlib.Core.Path.{◌≡◌, refl, sym, ap, ◌∙◌, subst}
use mathlib.Core.Logic.{⊎_elim}
use mathlib.Core.Bool.{Bool, true, false, not, ◌&&◌, ◌||◌, cond}
use mathlib.Core.List.{List, [], ◌∷◌, ◌++◌, map}
use Prim.Native.Nat.{ℕ, ◌+◌, ◌-◌, ◌*◌, ◌≤◌, ◌<◌}
use native.Mathlib.Omega.{arith}
use lib.ListN.{length, get_or, length-map}
use lib.Seq.{length-sets, ext_get_or}
use lib.Dec.{eqb, ltb}
use borrow.Author.Tests.{ne_eqb, eqb-true}
use Rattle.basis.specs.Lists.{filterb, anyb, chainb, head_or, memb, up_from}
use Rattle.basis.specs.Perm.{Perm}
use Rattle.basis.proofs.Index.{get_or-map-up_from}
use Rattle.basis.proofs.Lists.{memb_here, memb-one, memb-append, filter_in, map-append, map_cong, up_from_in, length-up_from}
use Rattle.basis.proofs.Logic.{by_test, clash, fails, and_split, or_split, or_right, eqb_self}
use Rattle.basis.proofs.Perm.{perm_memb, perm_length}
use Rattle.basis.proofs.Next.{sets_before, sets_behind, sets_at}
use Rattle.spec.specs.Graph.{Graph, restrict}
use Rattle.spec.specs.Levels.{part, leads}
use Rattle.laws.specs.Legal.{Node}
use Rattle.levels_laws.specs.Model.{node_at, queued}
use Rattle.levels_laws.specs.Seek.{at, loose_at, fresh_at, Grown}
use Rattle.levels_laws.specs.Starts.{size_at, members_of}
use Rattle.levels_laws.specs.Sizes.{line_of, line_end}
use Rattle.levels_laws.proofs.Runs.{from_cons, map_split, from_next, filter_yes, filter_no}
use Rattle.levels_laws.proofs.Orders.{rise_before}
use Rattle.levels_laws.proofs.Lines.{line_next, end_next, line_cong}
use Rattle.levels_laws.proofs.Leaders.{len, leadb, covered, one-leader, self_in, len-some, piece_loose, lead_iff}
use Rattle.levels_laws.proofs.Discover.{led, Whole, Finding, loose_same, graph_same, led_node, led-both, led-at, start_size, start_some}

-- ---- the next member

module _ {g : Graph} {n from to : ℕ} {W₀ L₀ W L : List ℕ} {tail m i : ℕ} (I : Finding g n from to W₀ L₀ W L tail m i) where
  abbrev t : ℕ → Bool
  t = loose_at n W₀

  abbrev ws : List ℕ
  ws = led g n from i W₀

  module _ (h : i < to) {z : ℕ} (e : z ≡ get_or W (4 * n + i) 0) where
    z_is : z ≡ get_or W₀ (4 * n + i) 0
    z_is = e ∙ I.beside.behind (4 * n + i) (omega (arith, I.count, I.seek.room))

    abbrev P : List ℕ
    P = members_of n from i W₀

    abbrev R : List ℕ
    R = members_of n (i + 1) to W₀

    members_are : members_of n from to W₀ ≡ P ++ (z ∷ R)
    members_are =
        map_split (λ j. get_or W₀ (4 * n + j) 0) from i to I.low (omega arith)
        ∙ ap (λ (l : List ℕ). P ++ l) (from_cons (λ j. get_or W₀ (4 * n + j) 0) i to h ∙ ap (λ (x : ℕ). x ∷ R) (sym z_is))

    next_members : members_of n from (i + 1) W₀ ≡ P ++ (z ∷ [])
    next_members = from_next (λ j. get_or W₀ (4 * n + j) 0) from i I.low ∙ ap (λ (x : ℕ). P ++ (x ∷ [])) (sym z_is)

    pub z_node : Node g z
    z_node = I.ask.nodes z (ap (memb z) members_are ∙ memb-append z P (z ∷ R) ∙ or_right (memb z P) (memb_here z R))

    -- it is fresh exactly if it leads a piece
    fresh_leads : fresh_at n W L z ≡ leadb g t z
    fresh_leads = ap (λ (b : Bool). b && eqb (at L z) 0) (loose_same I z z_node) ∙ by_test (t z)
        (λ l. ap (λ (b : Bool). t z && b) (I.marks z z_node l ∙ sym (lead_iff I.graph t P z R
        (ap (chainb ltb) (sym members_are) ∙ I.ask.rises)
        (λ q k. I.ask.nodes q (ap (memb q) members_are ∙ k))
        (λ q Q k. ap (memb q) (sym members_are) ∙ I.ask.all q Q k) l)))
        (λ l. rw l)

    pub finding_skip : fresh_at n W L z ≡ false → Finding g n from to W₀ L₀ W L tail m (i + 1)
    finding_skip f =
        let k : led g n from (i + 1) W₀ ≡ ws = ap (filterb (leadb g t)) next_members ∙ filter_no (leadb g t) P z (sym fresh_leads ∙ f) in
        record {
          graph = I.graph;
          ask = I.ask;
          low = omega (arith, I.low);
          most = omega arith;
          seek = I.seek;
          beside = I.beside;
          size = I.size;
          others = I.others;
          marks = λ q N l. I.marks q N l ∙ ap (λ (x : List ℕ). not (covered g t x q)) (sym k);
          sizes = λ w x. I.sizes w (sym (ap (memb w) k) ∙ x);
          line = I.line ∙ sym k;
          end = I.end;
          count = I.count;
          spare = I.spare;
          queue = I.queue;
          each = I.each;
        }

    -- ---- a piece is taken in

    module _ (f : fresh_at n W L z ≡ true) {W' L' : List ℕ} {end : ℕ} (T : Grown g n W L tail z W' L' end) where
      abbrev F : List ℕ
      F = T.piece

      z_lead : leadb g t z ≡ true
      z_lead = sym fresh_leads ∙ f

      z-loose : t z ≡ true
      z-loose = (and_split (t z) (leads (restrict g t) z) z_lead).0

      next_led_is : led g n from (i + 1) W₀ ≡ ws ++ (z ∷ [])
      next_led_is = ap (filterb (leadb g t)) next_members ∙ filter_yes (leadb g t) P z z_lead

      F-perm : Perm F (part (restrict g t) z)
      F-perm = subst (λ (x : Graph). Perm F (part x z)) (graph_same I) T.perm

      F-len : length F ≡ len g t z
      F-len = perm_length F-perm

      F-some : 1 ≤ length F
      F-some = omega (arith, F-len, len-some I.graph t z z_node)

      F-end : tail + length F ≤ n
      F-end = omega (arith, T.is, T.most)

      F-first : get_or F 0 0 ≡ z
      F-first = go F F-some ∙ T.first
        where
          go : (l : List ℕ) → 1 ≤ length l → get_or l 0 0 ≡ head_or 0 l
          go [] x = absurd (omega arith)
          go (y ∷ l) x = refl

      size_is : length W' ≡ length W
      size_is = ap length T.words ∙ length-sets W (n + tail) F

      before-end : (k : ℕ) → k < n + tail → get_or W' k 0 ≡ get_or W k 0
      before-end k l = ap (λ (x : List ℕ). get_or x k 0) T.words ∙ sets_before W (n + tail) F k l

      far_behind : (k : ℕ) → n + end ≤ k → get_or W' k 0 ≡ get_or W k 0
      far_behind k l = ap (λ (x : List ℕ). get_or x k 0) T.words ∙ sets_behind W (n + tail) F k (omega (arith, T.is))

      in_piece : (k : ℕ) → k < length F → node_at n W' (tail + k) ≡ get_or F k 0
      in_piece k l =
          let a : n + (tail + k) ≡ n + tail + k = omega arith in
          (λ x. get_or (T.words x) (a x) 0) ∙ sets_at W (n + tail) F k (omega (arith, F-end, I.seek.words)) l

      new_node : node_at n W' tail ≡ z
      new_node = let a : tail ≡ tail + 0 = omega arith in ap (node_at n W') a ∙ in_piece 0 F-some ∙ F-first

      -- an old start, and the node there
      old_node : (o : ℕ) → memb o (line_of n m W L) ≡ true → node_at n W' o ≡ node_at n W o
      old_node o l = before-end (n + o) (omega (arith, (I.each o l).fits, start_some I o l))

      -- ---- an earlier leader

      module _ (w : ℕ) (x : memb w ws ≡ true) where
        w_less : w < z
        w_less = rise_before P z R (ap (chainb ltb) (sym members_are) ∙ I.ask.rises) w (filter_in (leadb g t) P w x).0

        w_out : memb w F ≡ false
        w_out = fails (memb w F) (λ a.
            let b : memb w (part (restrict g t) z) ≡ true = sym (perm_memb F-perm w) ∙ a in
            let c = one-leader I.graph t w z w (led_node I w x) z_node (led-both I w x).1 (and_split (t z) (leads (restrict g t) z) z_lead).1 (self_in I.graph t w (led_node I w x)) b in
            omega (arith, w_less))

        w-mark : at L' w ≡ len g t w
        w-mark =
            let N = led_node I w x in
            T.marks w N.low (omega (arith, N.high, I.ask.is))
            ∙ rw (ne_eqb w z (λ q. omega (arith, w_less)), w_out) (I.sizes w x)

      new-mark : at L' z ≡ length F
      new-mark = T.marks z z_node.low (omega (arith, z_node.high, I.ask.is)) ∙ rw (eqb_self z)

      -- the starts
      old_size : (o : ℕ) → memb o (line_of n m W L) ≡ true → size_at n W L o ≡ size_at n W' L' o
      old_size o l = start_size I o l ∙ sym (ap (at L') (old_node o l) ∙ w-mark (node_at n W o) (led-at I o l))

      old_line : (line_of n m W L ≡ line_of n m W' L') × (line_end n m W L ≡ line_end n m W' L')
      old_line = line_cong (size_at n W L) (size_at n W' L') 0 m old_size

      old-end : line_end n m W' L' ≡ tail
      old-end = sym old_line.1 ∙ I.end

      new_line : line_of n (m + 1) W' L' ≡ line_of n m W L ++ (tail ∷ [])
      new_line = line_next (size_at n W' L') 0 m ∙ (λ x. sym old_line.0 x ++ (old-end x ∷ []))

      new-end : line_end n (m + 1) W' L' ≡ end
      new-end =
          end_next (size_at n W' L') 0 m ∙ (λ x. old-end x + size_at n W' L' (old-end x))
          ∙ ap (λ (x : ℕ). tail + x) (ap (at L') new_node ∙ new-mark) ∙ sym T.is

      line_is : map (node_at n W') (line_of n (m + 1) W' L') ≡ led g n from (i + 1) W₀
      line_is =
          ap (map (node_at n W')) new_line ∙ map-append (node_at n W') (line_of n m W L) (tail ∷ [])
          ∙ (λ x. (map_cong (node_at n W') (node_at n W) (line_of n m W L) old_node ∙ I.line) x ++ (new_node x ∷ [])) ∙ sym next_led_is

      -- the pieces stand whole
      whole-new : Whole g t n W' end tail
      whole-new =
          let a = new_node in
          let b : tail + len g t z - tail ≡ length F = omega (arith, F-len) in
          let q : queued n tail (tail + len g t z) W' ≡ F =
          ap (λ (k : ℕ). map (node_at n W') (up_from tail k)) b ∙ ext_get_or 0 (map (node_at n W') (up_from tail (length F))) F
          (length-map (up_from tail (length F)) (node_at n W') ∙ length-up_from tail (length F))
          (λ k l.
          let l' : k < length F = omega (arith, length-map (up_from tail (length F)) (node_at n W'), length-up_from tail (length F)) in
          get_or-map-up_from (node_at n W') tail (length F) k 0 l' ∙ in_piece k l') in
          record {
            fits = omega (arith, ap (len g t) a, T.is, F-len);
            perm = subst (λ (v : ℕ). Perm (queued n tail (tail + len g t v) W') (part (restrict g t) v)) (sym a)
                (subst (λ (l : List ℕ). Perm l (part (restrict g t) z)) (sym q) F-perm);
          }

      whole-old : (o : ℕ) → memb o (line_of n m W L) ≡ true → Whole g t n W' end o
      whole-old o l =
          let v : ℕ = node_at n W o in
          let a : node_at n W' o ≡ v = old_node o l in
          let c = I.each o l in
          let q : queued n o (o + len g t v) W' ≡ queued n o (o + len g t v) W =
          map_cong (node_at n W') (node_at n W) (up_from o (o + len g t v - o))
          (λ p x. before-end (n + p) (omega (arith, (up_from_in o (o + len g t v - o) p x).1, c.fits))) in
          record {
            fits = omega (arith, ap (len g t) a, c.fits, T.is);
            perm = subst (λ (u : ℕ). Perm (queued n o (o + len g t u) W') (part (restrict g t) u)) (sym a)
                (subst (λ (y : List ℕ). Perm y (part (restrict g t) v)) (sym q) c.perm);
          }

      -- what is marked
      mark_next : (q : ℕ) → Node g q → t q ≡ true → eqb (at L' q) 0 ≡ not (covered g t (led g n from (i + 1) W₀) q)
      mark_next q N l =
          let c : covered g t (led g n from (i + 1) W₀) q ≡ covered g t ws q || (memb q (part (restrict g t) z) || false) =
          ap (λ (y : List ℕ). covered g t y q) next_led_is ∙ any_append ws (z ∷ []) in
          let a : at L' q ≡ cond (eqb q z) (length F) (cond (memb q F) 1 (at L q)) = T.marks q N.low (omega (arith, N.high, I.ask.is)) in
          let p : memb q F ≡ memb q (part (restrict g t) z) = perm_memb F-perm q in
          ap (λ (y : ℕ). eqb y 0) a ∙ by_test (memb q F)
          (λ b.
          let r : covered g t (led g n from (i + 1) W₀) q ≡ true = c ∙ rw (sym p ∙ b) (all_true (covered g t ws q)) in
          rw (b, r) (by_test (eqb q z) (λ d. rw d (ne_eqb (length F) 0 (λ y. omega (arith, F-some)))) (λ d. rw d)))
          (λ b.
          let d : eqb q z ≡ false = fails (eqb q z) (λ y.
          clash (perm_memb F-perm z ∙ self_in I.graph t z z_node) (ap (λ (v : ℕ). memb v F) (sym (eqb-true q z y)) ∙ b)) in
          let r : covered g t (led g n from (i + 1) W₀) q ≡ covered g t ws q = c ∙ rw (sym p ∙ b) (or_nothing (covered g t ws q)) in
          rw (d, b, r) (I.marks q N l))
        where
          any_append : (l k : List ℕ) → anyb (λ w. memb q (part (restrict g t) w)) (l ++ k)
              ≡ anyb (λ w. memb q (part (restrict g t) w)) l || anyb (λ w. memb q (part (restrict g t) w)) k
          any_append [] k = refl
          any_append (y ∷ l) k = ap (λ (b : Bool). memb q (part (restrict g t) y) || b) (any_append l k) ∙ or_assoc (memb q (part (restrict g t) y)) (anyb (λ w. memb q (part (restrict g t) w)) l) (anyb (λ w. memb q (part (restrict g t) w)) k)
            where
              or_assoc : (b c d : Bool) → b || (c || d) ≡ (b || c) || d
              or_assoc true c d = refl
              or_assoc false c d = refl

          all_true : (b : Bool) → b || true ≡ true
          all_true true = refl
          all_true false = refl

          or_nothing : (b : Bool) → b || false ≡ b
          or_nothing true = refl
          or_nothing false = refl

      pub finding_take : Finding g n from to W₀ L₀ W' L' end (m + 1) (i + 1)
      finding_take = record {
        graph = I.graph;
        ask = I.ask;
        low = omega (arith, I.low);
        most = omega arith;
        seek = T.seek;
        beside = record {
          size = size_is ∙ I.beside.size;
          firsts = λ k l. before-end k (omega arith) ∙ I.beside.firsts k l;
          seconds = λ k l r. far_behind k (omega (arith, T.most)) ∙ I.beside.seconds k l r;
          behind = λ k l. far_behind k (omega (arith, T.most)) ∙ I.beside.behind k l;
        };
        size = T.size ∙ I.size;
        others = λ q N l. other_node q N l ∙ I.others q N l;
        marks = mark_next;
        sizes = λ w x. ⊎_elim (λ a. w-mark w a) (λ a. z-mark w a) (or_split (memb w ws) (memb w (z ∷ [])) (sym (memb-append w ws (z ∷ [])) ∙ sym (ap (memb w) next_led_is) ∙ x));
        line = line_is;
        end = new-end;
        count = omega (arith, I.count, T.is, F-some);
        spare = omega (arith, I.spare, T.spare);
        queue = λ k l r. far_behind k l ∙ I.queue k (omega (arith, T.is)) r;
        each = λ o l. ⊎_elim (λ a. whole-old o a)
            (λ a. subst (Whole g t n W' end) (sym (eqb-true o tail (sym (memb-one o tail) ∙ a))) whole-new)
            (or_split (memb o (line_of n m W L)) (memb o (tail ∷ [])) (sym (memb-append o (line_of n m W L) (tail ∷ [])) ∙ sym (ap (memb o) new_line) ∙ l));
      }
        where
          other_node : (q : ℕ) → Node g q → t q ≡ false → at L' q ≡ at L q
          other_node q N l =
              let a : memb q F ≡ false = fails (memb q F) (λ b. clash (piece_loose I.graph t z q z_node z-loose (sym (perm_memb F-perm q) ∙ b)) l) in
              let d : eqb q z ≡ false = fails (eqb q z) (λ y. clash (ap t (eqb-true q z y) ∙ z-loose) l) in
              T.marks q N.low (omega (arith, N.high, I.ask.is)) ∙ rw (d, a)

          z-mark : (w : ℕ) → memb w (z ∷ []) ≡ true → at L' w ≡ len g t w
          z-mark w a = let b : w ≡ z = eqb-true w z (sym (memb-one w z) ∙ a) in rw b (new-mark ∙ F-len)
