-- Answers and lent buffers in general (document 01, "Lent buffers").
-- Assumes nothing.
use Rattle.std.specs.Prelude.{ℕ, zero, suc, Bool, true, false, List, length, replicate, ltb}
use Rattle.basis.specs.Lists.{overwrite}

-- a refusal by its number, or what the call returns
pub data Outcome (A : Type 0) : Type 0 where
  refused : ℕ → Outcome A
  accepted : A → Outcome A

-- 0 is no refusal
unfoldable pub outcome : {A : Type 0} → ℕ → A → Outcome A
outcome zero a = accepted a
outcome (suc c) a = refused (suc c)

-- a buffer that is written only by an accepted call: its front is new, and "Longer buffers keep their excess untouched"
unfoldable pub filled : ℕ → List ℕ → List ℕ → List ℕ
filled zero new old = overwrite new old
filled (suc c) new old = old

-- the first n words 0
unfoldable pub zeroed : ℕ → List ℕ → List ℕ
zeroed n scratch = overwrite (replicate n 0) scratch

-- scratch after a call: its n words are 0 where the test passed, and untouched elsewhere
unfoldable pub scratch_after : Bool → ℕ → List ℕ → List ℕ
scratch_after true n scratch = zeroed n scratch
scratch_after false n scratch = scratch

-- "6n words of scratch where it had 8n. The calls on one part .. follow. Refusal 5 is measured against 6n." (document 02, A.7)
abbrev pub words_per_node : ℕ
words_per_node = 6

-- 5: "a lent buffer, mark bytes excepted, is short" of n words
abbrev pub short : List ℕ → ℕ → Bool
short buffer n = ltb (length buffer) n
