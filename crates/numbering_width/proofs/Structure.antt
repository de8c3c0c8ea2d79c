-- What the width asks, of a part whose members and level structure stand in the scratch. Assumes nothing.
use mathlib.Core.Path.{◌≡◌, sym, ap, ◌∙◌}
use mathlib.Core.Bool.{true, false}
use mathlib.Core.List.{List}
use Prim.Native.Nat.{ℕ, ◌-◌, ◌*◌, ◌≤◌, ◌<◌}
use native.Mathlib.Omega.{arith}
use lib.ListN.{length, get_or}
use Rattle.basis.specs.Lists.{memb}
use Rattle.basis.proofs.Count.{all-stand}
use Rattle.basis.proofs.Index.{memb-get_or}
use Rattle.spec.specs.Graph.{Graph}
use Rattle.spec.specs.Levels.{part}
use Rattle.spec.specs.Unknowns.{bad_counts}
use Rattle.laws.specs.Structure.{LevelStructure}
use Rattle.laws.proofs.Legal.{of_node-at}
use Rattle.laws.proofs.Parts.{part_inside}
use Rattle.levels_laws.specs.Areas.{tally_of}
use Rattle.levels_laws.specs.Members.{Members}
use Rattle.levels_laws.specs.Starts.{members_of}
use Rattle.numbering_width.specs.Width.{Weighable}

module _ {g : Graph} {z k v u : ℕ} {ls : List ℕ} (S : LevelStructure g z k v u ls) where
  -- each of the levels 1..k is the level of a node
  structure_deep : k ≤ g.size
  structure_deep = omega (arith, all-stand k ls level, S.size)
    where
      level : (i : ℕ) → 1 ≤ i → i ≤ k → memb i ls ≡ true
      level i l h =
          let w = S.occupied i l h in
          let N = part_inside g z w.0 w.1 in
          ap (λ (x : ℕ). memb x ls) (sym w.2 ∙ of_node-at ls w.0 N.low) ∙ memb-get_or ls (w.0 - 1) (omega (arith, N.low, N.high, S.size))

  pub structure_weighable : {from to : ℕ} {counts X : List ℕ} → bad_counts g.size counts ≡ false → 6 * g.size ≤ length X → Members g.size from to X
      → ((q : ℕ) → memb q (members_of g.size from to X) ≡ memb q (part g z)) → tally_of g.size X ≡ ls → ((j : ℕ) → j < g.size → get_or X j 0 ≡ 0)
      → Weighable g.size from to k counts X
  structure_weighable counted room members same levels clean = record {
    counted = counted;
    room = room;
    members = members;
    deep = structure_deep;
    some = λ q m. rw levels (S.some q (sym (same q) ∙ m));
    most = λ q m. rw levels (S.most q (sym (same q) ∙ m));
    outside = λ q l h m. rw levels (S.outside q (record { low = l; high = h }) (sym (same q) ∙ m));
    clean = λ j l. clean j (omega (arith, structure_deep));
  }
