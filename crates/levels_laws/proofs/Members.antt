-- The members of a part: they are nodes, each once, and the same in its slice as in what is worked on, with what is stored for them. Assumes nothing.
use mathlib.Core.Path.{◌≡◌, sym, ap, ◌∙◌, subst, refl}
use mathlib.Core.Bool.{true, false}
use mathlib.Core.List.{List, [], ◌∷◌, ◌++◌}
use Prim.Native.Nat.{ℕ, ◌+◌, ◌-◌, ◌*◌, ◌≤◌, ◌<◌}
use native.Mathlib.Omega.{arith}
use lib.ListN.{length, get_or, set, take, drop, length-drop, length-map, length-set}
use lib.Seq.{ext_get_or, get_or-take, get_or-drop, length-take-le}
use lib.Dec.{eqb}
use Rattle.basis.specs.Lists.{filterb, memb, up_from}
use Rattle.basis.specs.Perm.{times, Once}
use Rattle.basis.specs.Stored.{stored}
use Rattle.basis.proofs.Count.{bit-one, count_append, none_times}
use Rattle.basis.proofs.Index.{get_or-map-up_from}
use Rattle.basis.proofs.Lists.{map_cong, map-memb, memb-map, up_from_in, up_from_make, length-up_from, filter_cong, memb_here}
use Rattle.basis.proofs.Logic.{eqb_self, or_right}
use Rattle.levels_laws.specs.Starts.{members_of}
use Rattle.levels_laws.specs.Members.{Members, settled_at, Mirrorable}
use Rattle.levels_laws.specs.Areas.{work_of, held_of}
use Rattle.levels_laws.proofs.Runs.{from_cons, map_split, from_next}
use Rattle.levels_laws.proofs.Areas.{front_read, front-set, member_read}

-- ---- the members

-- they are a list of words
pub members-listed : (n from to : ℕ) (W : List ℕ) → from ≤ to → 4 * n + to ≤ length W → take (to - from) (drop (4 * n + from) W) ≡ members_of n from to W
members-listed n from to W l h =
    ext_get_or 0 (take (to - from) (drop (4 * n + from) W)) (members_of n from to W)
    (omega (arith, size, length-map (up_from from (to - from)) (λ i. get_or W (4 * n + i) 0), length-up_from from (to - from)))
    (λ i k.
    let e : 4 * n + from + i ≡ 4 * n + (from + i) = omega arith in
    get_or-take (to - from) (drop (4 * n + from) W) i 0 (omega (arith, size)) ∙ get_or-drop (4 * n + from) W i 0
    ∙ ap (λ (j : ℕ). get_or W j 0) e ∙ sym (get_or-map-up_from (λ j. get_or W (4 * n + j) 0) from (to - from) i 0 (omega (arith, size))))
  where
    size : length (take (to - from) (drop (4 * n + from) W)) ≡ to - from
    size = length-take-le (to - from) (drop (4 * n + from) W) (omega (arith, length-drop (4 * n + from) W))

module _ {n from to : ℕ} {W : List ℕ} (A : Members n from to W) where
  abbrev word : ℕ → ℕ
  word i = get_or W (4 * n + i) 0

  -- the members before i are nodes
  pub member_range : (i : ℕ) → i ≤ to → (z : ℕ) → memb z (members_of n from i W) ≡ true → (1 ≤ z) × (z ≤ n)
  member_range i h z m =
      let e = map-memb word (up_from from (i - from)) z m in
      let b = up_from_in from (i - from) e.0 e.1 in
      let l : e.0 < to = omega (arith, b.0, b.1) in
      (rw e.2 (A.low e.0 b.0 l), rw e.2 (A.high e.0 b.0 l))

  module _ (i : ℕ) (l : from ≤ i) (h : i < to) where
    pub next_members : members_of n from (i + 1) W ≡ members_of n from i W ++ (word i ∷ [])
    next_members = from_next word from i l

    -- the next member stands nowhere before
    pub member_new : memb (word i) (members_of n from i W) ≡ false
    member_new =
        let e = ap (times (word i)) (map_split word from i to l (omega arith) ∙ ap (λ (x : List ℕ). members_of n from i W ++ x) (from_cons word i to h)) in
        let c = count_append (eqb (word i)) (members_of n from i W) (word i ∷ members_of n (i + 1) to W) in
        let o = bit-one (eqb (word i) (word i)) (eqb_self (word i)) in
        none_times (word i) (members_of n from i W) (omega (arith, A.once (word i)))

-- the same words are the same members
module _ {n from to : ℕ} {W : List ℕ} (A : Members n from to W) (U : List ℕ) (r : 5 * n ≤ length U)
    (s : (i : ℕ) → i < n → get_or U (4 * n + i) 0 ≡ get_or W (4 * n + i) 0) where
  pub members_same : members_of n from to U ≡ members_of n from to W
  members_same =
      map_cong (λ i. get_or U (4 * n + i) 0) (λ i. get_or W (4 * n + i) 0) (up_from from (to - from))
      (λ i m. s i (omega (arith, A.order, A.most, (up_from_in from (to - from) i m).1)))

  pub members_on : Members n from to U
  members_on = record {
    few = A.few;
    order = A.order;
    most = A.most;
    words = r;
    once = subst Once (sym members_same) A.once;
    low = λ i l h. rw (s i (omega (arith, A.most))) (A.low i l h);
    high = λ i l h. rw (s i (omega (arith, A.most))) (A.high i l h);
  }

-- a member before the end is a member
pub member_in : (n from to : ℕ) (W : List ℕ) (i : ℕ) → from ≤ i → i < to → memb (get_or W (4 * n + i) 0) (members_of n from to W) ≡ true
member_in n from to W i l h = memb-map (λ j. get_or W (4 * n + j) 0) (up_from from (to - from)) i (up_from_make from (to - from) i l (omega arith))

-- a word for each of some nodes, in front
stored-seen : (n base : ℕ) (f h : ℕ → ℕ) (X zs : List ℕ) → 6 * n ≤ length X → base + n ≤ 3 * n
    → ((z : ℕ) → memb z zs ≡ true → (1 ≤ z) × (z ≤ n)) → ((z : ℕ) → memb z zs ≡ true → f z ≡ h z)
    → (work_of n (stored base f X zs) ≡ stored base h (work_of n X) zs) × (held_of n (stored base f X zs) ≡ held_of n X)
unfolding stored
stored-seen n base f h X [] r b m s = (refl, refl)
stored-seen n base f h X (z ∷ zs) r b m s =
    let i : ℕ = base + z - 1 in
    let a = front-set n X r i (f z) (omega (arith, (m z (memb_here z zs)).0, (m z (memb_here z zs)).1)) in
    let c = stored-seen n base f h (set X i (f z)) zs (rw (length-set X i (f z)) r) b (λ y e. m y (or_right (eqb y z) e)) (λ y e. s y (or_right (eqb y z) e)) in
    (c.0 ∙ ap (λ (W : List ℕ). stored base h W zs) (a.0 ∙ ap (set (work_of n X) i) (s z (memb_here z zs))), c.1 ∙ a.1)

module _ (n : ℕ) (X : List ℕ) (r : 6 * n ≤ length X) where
  module _ {from to : ℕ} (A : Members n from to (work_of n X)) where
    pub members_in_lem : Members n from to X
    members_in_lem = members_on A X (omega arith) (member_read n X r)

    pub members-seen : members_of n from to X ≡ members_of n from to (work_of n X)
    members-seen = members_same A X (omega arith) (member_read n X r)

    range : (z : ℕ) → memb z (members_of n from to X) ≡ true → (1 ≤ z) × (z ≤ n)
    range = member_range members_in_lem to (omega arith)

    -- what is stored for the members in front
    pub members-stored : (base : ℕ) (f h : ℕ → ℕ) → base + n ≤ 3 * n → ((z : ℕ) → 1 ≤ z → z ≤ n → f z ≡ h z) → {Y : List ℕ}
        → Y ≡ stored base f X (members_of n from to X)
        → (work_of n Y ≡ stored base h (work_of n X) (members_of n from to (work_of n X))) × (held_of n Y ≡ held_of n X)
    members-stored base f h b s y =
        let c = stored-seen n base f h X (members_of n from to X) r b range (λ z m. s z (range z m).0 (range z m).1) in (
          ap (work_of n) y ∙ c.0 ∙ ap (stored base h (work_of n X)) members-seen,
          ap (held_of n) y ∙ c.1,
        )

    -- the settled members
    pub settled-seen : filterb (settled_at n X) (members_of n from to X) ≡ filterb (settled_at n (work_of n X)) (members_of n from to (work_of n X))
    settled-seen =
        filter_cong (settled_at n X) (settled_at n (work_of n X)) (members_of n from to X)
        (λ z m.
        let a = front_read n X r (z - 1) (omega (arith, (range z m).0, (range z m).1)) in
        let b = front_read n X r (2 * n + z - 1) (omega (arith, (range z m).0, (range z m).1)) in
        λ i. eqb (a i) (b i))
        ∙ ap (filterb (settled_at n (work_of n X))) members-seen

  pub mirrorable_in : {from to k : ℕ} → Mirrorable n from to k (work_of n X) → Mirrorable n from to k X
  mirrorable_in {from} {to} T = record {
    members = members_in_lem T.members;
    few = T.few;
    most = λ q m.
        let b = range T.members q m in
        rw (front_read n X r (2 * n + q - 1) (omega (arith, b.0, b.1))) (T.most q (sym (ap (memb q) (members-seen T.members)) ∙ m));
  }
