-- `levels_combine::legal::erase` meets its contract: the members are a list behind the words that are cleared. Assumes nothing.
use mathlib.Core.Path.{◌≡◌, sym, ap, ◌∙◌}
use mathlib.Core.List.{List}
use Prim.Native.Nat.{ℕ, ◌+◌, ◌-◌, ◌*◌, ◌≤◌}
use native.Mathlib.Nat.{le_refl}
use native.Mathlib.Omega.{arith}
use lib.ListN.{take, drop}
use Rattle.basis.specs.Lists.{memb}
use Rattle.basis.specs.Stored.{stored, nought}
use Rattle.graph_words.specs.Erasable.{Erasable}
use Rattle.levels_laws.specs.Members.{Members}
use Rattle.levels_laws.specs.Starts.{members_of}
use Rattle.levels_laws.proofs.Members.{members-listed, member_range}
use Rattle.levels_combine.proofs.legal.erase.Goals as goal

module _ {n from to : ℕ} {W : List ℕ} (A : Members n from to W) where
  is-list : take (to - from) (drop (4 * n + from) W) ≡ members_of n from to W
  is-list = members-listed n from to W A.order (omega (arith, A.most, A.words))

  ask : (base : ℕ) → base + n ≤ 4 * n → Erasable base (4 * n + from) (to - from) W
  ask base h = record {
    held = omega (arith, A.order, A.most, A.words);
    inside = λ v m.
        let r = member_range A to (le_refl to) v (sym (ap (memb v) is-list) ∙ m) in
        (r.0, omega (arith, r.1));
  }

pub erase-requires : goal.erase-requires
erase-requires c = ask c.requires.members c.args.base c.requires.n_bound

pub returns : goal.returns
returns c = c.erase.ensures ∙ ap (stored c.args.base nought c.args.scratch.now) (is-list c.requires.members)
