-- The steps that level a part, on lists and in one slice: what each asks, from what the ones before it have done. Assumes nothing.
use mathlib.Core.Path.{◌≡◌, sym, ap, ◌∙◌, subst}
use mathlib.Core.Bool.{Bool}
use mathlib.Core.List.{List}
use Prim.Native.Nat.{ℕ, ◌-◌, ◌*◌, ◌≤◌, ◌+◌}
use native.Mathlib.Omega.{arith}
use lib.ListN.{length, get_or, length-map}
use lib.Seq.{sets}
use lib.Dec.{ltb}
use Rattle.basis.specs.Lists.{filterb, up_from}
use Rattle.basis.specs.Stored.{stored}
use Rattle.basis.proofs.Count.{count_length, length-filter}
use Rattle.basis.proofs.Lists.{length-up_from}
use Rattle.basis.proofs.Stored.{length-stored}
use Rattle.spec.specs.Ends.{Ends}
use Rattle.spec.specs.Graph.{Graph}
use Rattle.levels_laws.specs.Tally.{tally}
use Rattle.levels_laws.specs.Model.{queued, slots, number_at, written, Countable}
use Rattle.levels_laws.specs.Given.{Entry, Levelled}
use Rattle.levels_laws.specs.Members.{Members, Mirrorable, settled_at, mirrored_at}
use Rattle.levels_laws.specs.Placed.{words_after, levels_after, PlaceableAll}
use Rattle.levels_laws.specs.Seek.{loose_at}
use Rattle.levels_laws.specs.Starts.{starts_of, members_of, Findable, Found}
use Rattle.levels_laws.specs.Areas.{work_of, held_of}
use Rattle.levels_laws.proofs.Areas.{front_read, front_sets, view_room}
use Rattle.levels_laws.proofs.Members.{members_in_lem, members-stored, settled-seen, mirrorable_in}
use Rattle.levels_laws.proofs.Settled.{W₁, W₂, W₃, L₃, Z, mirrorable, members-one, countable_two}
use Rattle.levels_laws.proofs.Pieces.{findable, after}
use Rattle.levels_laws.proofs.Levelled.{levelled}

-- ---- the levels of a part

module _ {g : Graph} {z : ℕ} {e : Ends} {n from to : ℕ} {W L : List ℕ} (A : Entry g z e n from to W L) {k : ℕ} (p : k ≡ e.k) where
  pub mirror_ok : Mirrorable n from to k W
  mirror_ok = subst (λ (x : ℕ). Mirrorable n from to x W) (sym p) (mirrorable A)

  module _ {U₁ : List ℕ} (q₁ : U₁ ≡ stored (2 * n) (mirrored_at n k W) W (members_of n from to W)) where
    one_is : U₁ ≡ W₁ A
    one_is = q₁ ∙ ap (λ (x : ℕ). stored (2 * n) (mirrored_at n x W) W (members_of n from to W)) p

    pub gather_ok : Members n from to U₁
    gather_ok = subst (Members n from to) (sym one_is) (members-one A)

    module _ {t : ℕ} {U₂ : List ℕ} (c : t ≡ length (filterb (settled_at n U₁) (members_of n from to U₁)))
        (q₂ : U₂ ≡ sets U₁ n (filterb (settled_at n U₁) (members_of n from to U₁))) where
      t_is : t ≡ length (Z A)
      t_is = c ∙ ap (λ (x : List ℕ). length (filterb (settled_at n x) (members_of n from to x))) one_is

      two_is : U₂ ≡ W₂ A
      two_is = q₂ ∙ ap (λ (x : List ℕ). sets x n (filterb (settled_at n x) (members_of n from to x))) one_is

      pub settle_ok : Countable n 0 0 t U₂
      settle_ok = subst (λ (x : ℕ). Countable n 0 0 x U₂) (sym t_is) (subst (Countable n 0 0 (length (Z A))) (sym two_is) (countable_two A))

      module _ {U₃ L₃' : List ℕ} (q₃ : U₃ ≡ tally U₂ (slots n 0 0 t U₂)) (r₃ : L₃' ≡ written (number_at 0 U₂) L (queued n 0 t U₂)) where
        three_is : U₃ ≡ W₃ A
        three_is = q₃ ∙ (λ i. tally (two_is i) (slots n 0 0 (t_is i) (two_is i)))

        levels_is : L₃' ≡ L₃ A
        levels_is = r₃ ∙ (λ i. written (number_at 0 (two_is i)) L (queued n 0 (t_is i) (two_is i)))

        pub find_ok : Findable g n from to U₃ L₃'
        find_ok = subst (λ (x : List ℕ). Findable g n from to x L₃') (sym three_is) (subst (Findable g n from to (W₃ A)) (sym levels_is) (findable A))

        module _ {U₄ L₄ : List ℕ} {m : ℕ} (F : Found g n (to - from) (loose_at n U₃) U₃ L₃' U₄ L₄ m) {narrow : Bool} (w : narrow ≡ ltb e.u_width e.v_width) where
          found : Found g n (to - from) (loose_at n (W₃ A)) (W₃ A) (L₃ A) U₄ L₄ m
          found = subst (λ (x : List ℕ). Found g n (to - from) (loose_at n x) x (L₃ A) U₄ L₄ m) three_is
              (subst (λ (x : List ℕ). Found g n (to - from) (loose_at n U₃) U₃ x U₄ L₄ m) levels_is F)

          pub place_ok : PlaceableAll n (n - m) narrow (starts_of n m U₄) U₄ L₄
          place_ok = (after A found narrow w).can

          pub level_done : {U₅ L₅ : List ℕ} → U₅ ≡ words_after n narrow (starts_of n m U₄) U₄ L₄ → L₅ ≡ levels_after n narrow (starts_of n m U₄) U₄ L₄
              → Levelled g z e n from to W L U₅ L₅
          level_done {U₅} {L₅} a b =
              subst (λ (x : List ℕ). Levelled g z e n from to W L x L₅) (sym a)
              (subst (Levelled g z e n from to W L (words_after n narrow (starts_of n m U₄) U₄ L₄)) (sym b) (levelled A found w))

module _ {g : Graph} {z : ℕ} {e : Ends} {n from to : ℕ} (X : List ℕ) (A : Entry g z e n from to (work_of n X) (held_of n X)) {k : ℕ} (p : k ≡ e.k) where
  room : 6 * n ≤ length X
  room = view_room n X A.words A.room

  pub mirror_in : Mirrorable n from to k X
  mirror_in = mirrorable_in n X room (mirror_ok A p)

  -- the members mirrored
  module _ (Y : List ℕ) (q : Y ≡ stored (2 * n) (mirrored_at n k X) X (members_of n from to X)) where
    mirrored_room : 6 * n ≤ length Y
    mirrored_room = omega (arith, room, ap length q, length-stored (2 * n) (mirrored_at n k X) X (members_of n from to X))

    mirrored-seen : (work_of n Y ≡ stored (2 * n) (mirrored_at n k (work_of n X)) (work_of n X) (members_of n from to (work_of n X))) × (held_of n Y ≡ held_of n X)
    mirrored-seen = members-stored n X room (mirror_ok A p).members (2 * n) (mirrored_at n k X) (mirrored_at n k (work_of n X)) (omega arith)
        (λ y l h. ap (λ (x : ℕ). k + 1 - x) (front_read n X room (2 * n + y - 1) (omega arith))) q

    still : Members n from to (work_of n Y)
    still = gather_ok A p mirrored-seen.0

    pub gather_in : Members n from to Y
    gather_in = members_in_lem n Y mirrored_room still

    abbrev M : List ℕ
    M = filterb (settled_at n Y) (members_of n from to Y)

    S-less : length M ≤ n
    S-less = omega (
      arith,
      length-filter (settled_at n Y) (members_of n from to Y),
      count_length (settled_at n Y) (members_of n from to Y),
      length-map (up_from from (to - from)) (λ i. get_or Y (4 * n + i) 0),
      length-up_from from (to - from),
      A.most,
    )

    -- and the settled ones in the queue
    module _ {t : ℕ} (S : List ℕ) (c : t ≡ length M) (r : S ≡ sets Y n M) where
      count : t ≡ length (filterb (settled_at n (work_of n Y)) (members_of n from to (work_of n Y)))
      count = c ∙ ap length (settled-seen n Y mirrored_room still)

      queued-seen : (work_of n S ≡ sets (work_of n Y) n M) × (held_of n S ≡ held_of n Y)
      queued-seen = let b = front_sets n Y mirrored_room n M (omega (arith, S-less)) in (ap (work_of n) r ∙ b.0, ap (held_of n) r ∙ b.1)

      gathered : work_of n S ≡ sets (work_of n Y) n (filterb (settled_at n (work_of n Y)) (members_of n from to (work_of n Y)))
      gathered = queued-seen.0 ∙ ap (sets (work_of n Y) n) (settled-seen n Y mirrored_room still)

      same_levels : held_of n S ≡ held_of n X
      same_levels = queued-seen.1 ∙ mirrored-seen.1

      pub settle_in : Countable n 0 0 t (work_of n S) × (n ≤ length (held_of n S))
      settle_in = (settle_ok A p mirrored-seen.0 count gathered, omega (arith, ap length same_levels, A.room))

      module _ (T : List ℕ) (w : work_of n T ≡ tally (work_of n S) (slots n 0 0 t (work_of n S)))
          (l : held_of n T ≡ written (number_at 0 (work_of n S)) (held_of n S) (queued n 0 t (work_of n S))) where
        placed : held_of n T ≡ written (number_at 0 (work_of n S)) (held_of n X) (queued n 0 t (work_of n S))
        placed = l ∙ ap (λ (L : List ℕ). written (number_at 0 (work_of n S)) L (queued n 0 t (work_of n S))) same_levels

        pub find_in : Findable g n from to (work_of n T) (held_of n T)
        find_in = find_ok A p mirrored-seen.0 count gathered w placed

        module _ (P : List ℕ) {m : ℕ} (F : Found g n (to - from) (loose_at n (work_of n T)) (work_of n T) (held_of n T) (work_of n P) (held_of n P) m)
            {narrow : Bool} (v : narrow ≡ ltb e.u_width e.v_width) where
          pub place_in_lem : ((n ≤ 4096) × (m ≤ n) × (6 * n ≤ length P))
              × PlaceableAll n (n - m) narrow (starts_of n m (work_of n P)) (work_of n P) (held_of n P)
          place_in_lem =
              let f = find_in in
              let r = view_room n P (omega (arith, F.beside.size, f.words)) (omega (arith, F.levels, f.levels)) in
              ((A.few, omega (arith, F.most, F.less, A.most), r), place_ok A p mirrored-seen.0 count gathered w placed F v)

          pub level_in : (R : List ℕ) → work_of n R ≡ words_after n narrow (starts_of n m (work_of n P)) (work_of n P) (held_of n P)
              → held_of n R ≡ levels_after n narrow (starts_of n m (work_of n P)) (work_of n P) (held_of n P)
              → Levelled g z e n from to (work_of n X) (held_of n X) (work_of n R) (held_of n R)
          level_in R a b = level_done A p mirrored-seen.0 count gathered w placed F v a b
