-- A text that is written only where it has room: the line of a refusal. Assumes nothing.
use mathlib.Core.Path.{◌≡◌, refl}
use mathlib.Core.Bool.{cond}
use mathlib.Core.List.{List, [], ◌∷◌}
use Prim.Native.Nat.{ℕ, ◌+◌, ◌≤◌, ◌<◌}
use native.Mathlib.Omega.{arith}
use lib.ListN.{length, length-append}
use lib.Dec.{leb}
use borrow.Author.Tests.{lt-leb, le-leb}
use Rattle.basis.specs.Lists.{overwrite}
use Rattle.spec.specs.Text.{ascii, decimal, newline}
use Rattle.spec.specs.File.{item, refused_line}
use Rattle.file_writing.specs.Written.{Put}
use Rattle.file_writing.proofs.Puts.{put_front, room_whole}

-- the label, the digits and the line's end
pub refused_length : (c : ℕ) → length (refused_line c) ≡ 9 + length (decimal c)
unfolding refused_line item ascii newline
refused_length c = omega (arith, length-append (decimal c) (10 ∷ []))

module _ (text out : List ℕ) where
  -- no room: nothing is written
  pub tried_short : length out < length text
      → (0 ≡ cond (leb (length text) (length out)) (length text) 0) × (out ≡ cond (leb (length text) (length out)) (overwrite text out) out)
  tried_short h = rw (lt-leb (length text) (length out) h) (refl, refl)

  -- room: the whole text
  pub tried_room : {z : ℕ} {held : List ℕ} → length text ≤ length out → Put text 0 z out held
      → (z ≡ cond (leb (length text) (length out)) (length text) 0) × (held ≡ cond (leb (length text) (length out)) (overwrite text out) out)
  tried_room h p = rw (le-leb (length text) (length out) h) (put_front (room_whole text out h) p)
