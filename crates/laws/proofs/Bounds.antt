-- The bounds of `elementsRefusal`, `elementsIn` and `digitsBefore` bound nothing: any that is large enough gives the same, and the
-- elements of a list and the digits of a number obey the equations that a reader expects, with no bound. Assumes nothing.
use mathlib.Core.Path.{◌≡◌, refl, sym, ap, ◌∙◌}
use mathlib.Core.Logic.{⊎_elim}
use mathlib.Core.Bool.{Bool, true, false}
use mathlib.Core.List.{List, [], ◌∷◌, ◌++◌, append_assoc}
use Prim.Native.Nat.{ℕ, zero, suc, ◌+◌, ◌/◌, ◌%◌, ◌≤◌, ◌<◌}
use native.Mathlib.Omega.{arith}
use lib.ListN.{length, take, drop, length-drop}
use borrow.Author.Tests.{lt-ltb, le-ltb}
use Rattle.basis.proofs.Logic.{lt_or_le}
use Rattle.spec.specs.Refusal.{◌or_else◌}
use Rattle.spec.specs.Mesh.{node_count, element_refusal, elements_refusal, elements_in, elements}
use Rattle.spec.specs.Text.{digits_before, decimal}

-- ---- elements, bounded by the words of their list: an element takes its kind word at least

-- either of two bounds
refusal_either : (b c n : ℕ) (ws : List ℕ) → length ws ≤ b → length ws ≤ c → elements_refusal b n ws ≡ elements_refusal c n ws
unfolding elements_refusal
refusal_either zero zero n ws p q = refl
refusal_either zero (suc c) n [] p q = refl
refusal_either zero (suc c) n (k ∷ ws) p q = absurd (omega arith)
refusal_either (suc b) zero n [] p q = refl
refusal_either (suc b) zero n (k ∷ ws) p q = absurd (omega arith)
refusal_either (suc b) (suc c) n [] p q = refl
refusal_either (suc b) (suc c) n (k ∷ ws) p q =
    ap (λ (r : ℕ). element_refusal 9 n k ws or_else r)
    (refusal_either b c n (drop (node_count k) ws) (omega (arith, length-drop (node_count k) ws)) (omega (arith, length-drop (node_count k) ws)))

elements_either : (b c : ℕ) (ws : List ℕ) → length ws ≤ b → length ws ≤ c → elements_in b ws ≡ elements_in c ws
unfolding elements_in
elements_either zero zero ws p q = refl
elements_either zero (suc c) [] p q = refl
elements_either zero (suc c) (k ∷ ws) p q = absurd (omega arith)
elements_either (suc b) zero [] p q = refl
elements_either (suc b) zero (k ∷ ws) p q = absurd (omega arith)
elements_either (suc b) (suc c) [] p q = refl
elements_either (suc b) (suc c) (k ∷ ws) p q =
    ap (λ (r : List (List ℕ)). take (node_count k) ws ∷ r)
    (elements_either b c (drop (node_count k) ws) (omega (arith, length-drop (node_count k) ws)) (omega (arith, length-drop (node_count k) ws)))

-- any bound from the list's length on
pub refusal_bound : (b n : ℕ) (ws : List ℕ) → length ws ≤ b → elements_refusal b n ws ≡ elements_refusal (length ws) n ws
refusal_bound b n ws h = refusal_either b (length ws) n ws h (omega arith)

pub elements_bound : (b : ℕ) (ws : List ℕ) → length ws ≤ b → elements_in b ws ≡ elements_in (length ws) ws
elements_bound b ws h = elements_either b (length ws) ws h (omega arith)

-- no words
pub refusal_empty : (n : ℕ) → elements_refusal 0 n [] ≡ 0
unfolding elements_refusal
refusal_empty n = refl

pub elements_empty : elements [] ≡ []
unfolding elements elements_in
elements_empty = refl

-- "Elements are tested one by one": the first, then those after its nodes
pub refusal-first : (n kind : ℕ) (ws : List ℕ)
    → let rest = drop (node_count kind) ws in
    elements_refusal (length (kind ∷ ws)) n (kind ∷ ws) ≡ element_refusal 9 n kind ws or_else elements_refusal (length rest) n rest
unfolding elements_refusal
refusal-first n kind ws =
    ap (λ (r : ℕ). element_refusal 9 n kind ws or_else r) (refusal_bound (length ws) n (drop (node_count kind) ws) (omega (arith, length-drop (node_count kind) ws)))

-- "An element is a kind word, then its nodes"
pub elements-first : (kind : ℕ) (ws : List ℕ) → elements (kind ∷ ws) ≡ take (node_count kind) ws ∷ elements (drop (node_count kind) ws)
unfolding elements elements_in
elements-first kind ws =
    ap (λ (r : List (List ℕ)). take (node_count kind) ws ∷ r) (elements_bound (length ws) (drop (node_count kind) ws) (omega (arith, length-drop (node_count kind) ws)))

-- ---- digits, bounded by the number itself

-- a step: the last digit, or the digits before it
digits_done : (b n : ℕ) (after : List ℕ) → n < 10 → digits_before (suc b) n after ≡ (48 + n) ∷ after
unfolding digits_before
digits_done b n after h =
    ap (λ (t : Bool). elim t [ true ↦ (48 + n) ∷ after | false ↦ digits_before b (n / 10) ((48 + n % 10) ∷ after) ]) (lt-ltb n 10 h)

digits_step : (b n : ℕ) (after : List ℕ) → 10 ≤ n → digits_before (suc b) n after ≡ digits_before b (n / 10) ((48 + n % 10) ∷ after)
unfolding digits_before
digits_step b n after h =
    ap (λ (t : Bool). elim t [ true ↦ (48 + n) ∷ after | false ↦ digits_before b (n / 10) ((48 + n % 10) ∷ after) ]) (le-ltb n 10 h)

-- a number of one digit leaves nothing to go on with
digits_small : (b n : ℕ) (after : List ℕ) → n < 10 → n ≤ b → digits_before b n after ≡ (48 + n) ∷ after
unfolding digits_before
digits_small zero n after h l = let z : n ≡ 0 = omega arith in rw z
digits_small (suc b) n after h l = digits_done b n after h

-- either of two bounds
digits_either : (b c n : ℕ) (after : List ℕ) → n ≤ b → n ≤ c → digits_before b n after ≡ digits_before c n after
digits_either zero c n after p q = digits_small zero n after (omega arith) p ∙ sym (digits_small c n after (omega arith) q)
digits_either (suc b) zero n after p q = digits_small (suc b) n after (omega arith) p ∙ sym (digits_small zero n after (omega arith) q)
digits_either (suc b) (suc c) n after p q =
    ⊎_elim (λ l. digits_done b n after l ∙ sym (digits_done c n after l))
    (λ l. digits_step b n after l ∙ digits_either b c (n / 10) ((48 + n % 10) ∷ after) (omega arith) (omega arith) ∙ sym (digits_step c n after l))
    (lt_or_le n 10)

-- any bound from the number on
pub digits_bound : (b n : ℕ) (after : List ℕ) → n ≤ b → digits_before b n after ≡ digits_before n n after
digits_bound b n after h = digits_either b n n after h (omega arith)

-- what follows stays behind
digits_append : (b n : ℕ) (after : List ℕ) → digits_before b n after ≡ digits_before b n [] ++ after
unfolding digits_before
digits_append zero n after = refl
digits_append (suc b) n after =
    let d : ℕ = 48 + n % 10 in
    ⊎_elim (λ l. digits_done b n after l ∙ ap (λ (t : List ℕ). t ++ after) (sym (digits_done b n [] l)))
    (λ l.
    digits_step b n after l
    ∙ digits_append b (n / 10) (d ∷ after)
    ∙ sym (append_assoc (digits_before b (n / 10) []) (d ∷ []) after)
    ∙ ap (λ (t : List ℕ). t ++ after) (sym (digits_append b (n / 10) (d ∷ [])) ∙ sym (digits_step b n [] l)))
    (lt_or_le n 10)

-- one digit
pub decimal-one : (n : ℕ) → n < 10 → decimal n ≡ (48 + n) ∷ []
unfolding decimal
decimal-one n h = digits_small n n [] h (omega arith)

-- the digits before the last one, and the last one
pub decimal_more : (n : ℕ) → 10 ≤ n → decimal n ≡ decimal (n / 10) ++ (48 + n % 10) ∷ []
unfolding decimal
decimal_more zero h = absurd (omega arith)
decimal_more (suc n) h =
    digits_step n (suc n) [] h
    ∙ digits_append n (suc n / 10) ((48 + suc n % 10) ∷ [])
    ∙ ap (λ (l : List ℕ). l ++ (48 + suc n % 10) ∷ []) (digits_bound n (suc n / 10) [] (omega arith))
