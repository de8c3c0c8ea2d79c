-- What a file is refused by, test after test: its header, its counts, its elements; and what the list of counts has then. Assumes nothing.
use mathlib.Core.Path.{◌≡◌, refl, sym, ap, ◌∙◌}
use mathlib.Core.List.{List}
use Prim.Native.Nat.{ℕ, ◌≤◌}
use Rattle.std.specs.Prelude.{Result, Ok, Err}
use Rattle.refusals.specs.Numbers.{number_in}
use Rattle.refusals.specs.declared.Refusal.{Refusal}
use Rattle.spec.specs.Lent.{filled}
use Rattle.spec.specs.Refusal.{◌or_else◌}
use Rattle.spec.specs.File.{file_counts, header_refusal, counts_refusal, body_refusal, file_refusal}
use Rattle.laws.proofs.Lent.{filled_refused}
use Rattle.laws.proofs.Refused.{or_else_first}
use Rattle.file_listing.specs.Counted.{counts_after}

-- a test that refuses nothing has the number 0
pub number_none : (r : Result (Unit {0}) Refusal) → ((e : Refusal) → r ≡ Err e → ⊥) → number_in r ≡ 0
number_none (Ok u) other = refl
number_none (Err e) other = absurd (other e refl)

module _ (file : List ℕ) where
  -- by the header, and the counts are untouched
  module _ {c : ℕ} (e : c ≡ header_refusal file) (some : 1 ≤ c) where
    pub by_header : file_refusal file ≡ c
    unfolding file_refusal
    by_header =
        let rest : ℕ = counts_refusal file or_else body_refusal file in
        ap (λ (h : ℕ). h or_else rest) (sym e) ∙ or_else_first c rest some

    pub header_leaves : (K : List ℕ) → K ≡ counts_after file K
    header_leaves K =
        let first = ap (λ (h : ℕ). h or_else counts_refusal file) (sym e) ∙ or_else_first c (counts_refusal file) some in
        filled_refused (header_refusal file or_else counts_refusal file) c (file_counts file) K first some

  module _ (good : header_refusal file ≡ 0) where
    -- what the reading of the counts leaves of their list
    pub counts_left : (K : List ℕ) {K' : List ℕ} → K' ≡ filled (counts_refusal file) (file_counts file) K → K' ≡ counts_after file K
    counts_left K e = e ∙ ap (λ (h : ℕ). filled (h or_else counts_refusal file) (file_counts file) K) (sym good)

    -- by the counts
    pub by_counts : {c : ℕ} → c ≡ counts_refusal file → 1 ≤ c → file_refusal file ≡ c
    unfolding file_refusal
    by_counts {c} e some =
        ap (λ (h : ℕ). h or_else counts_refusal file or_else body_refusal file) good
        ∙ ap (λ (k : ℕ). k or_else body_refusal file) (sym e)
        ∙ or_else_first c (body_refusal file) some

    -- by the elements, and what follows them
    pub by_body : {A : Type 0} (f : ℕ → A) {x : A} → counts_refusal file ≡ 0 → x ≡ f (body_refusal file) → x ≡ f (file_refusal file)
    unfolding file_refusal
    by_body f counted e =
        e
        ∙ ap (λ (k : ℕ). f (k or_else body_refusal file)) (sym counted)
        ∙ ap (λ (h : ℕ). f (h or_else counts_refusal file or_else body_refusal file)) (sym good)
