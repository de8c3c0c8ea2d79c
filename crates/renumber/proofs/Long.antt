-- A file that is longer than a file may be is refused as such, whatever stands in it: so its first 65,536 bytes say what is printed of it.
-- Assumes nothing.
use Rattle.std.proofs.Common.{◌≡◌, ℕ, ◌<◌, ◌≤◌, List, None, Some, IfSome, OnOk, Result, Ok, Err, length, take, true, subst, ◌⊎◌, inl, inr, sym, ap, ◌∙◌, arith}
use Rattle.std.proofs.Math.Seq.{length-take-le}
use Rattle.std.proofs.lemmas.List.{take_all}
use Rattle.std.proofs.lemmas.Bool.{lt-ltb, cases_lt}
use Rattle.std.specs.declared.option.Option.{Option}
use Rattle.std.specs.Io.KnownBytes.{Appends}
use Rattle.std.proofs.KnownBytes.{Appends-nil}
use Rattle.spec.specs.File.{bad_header, header_refusal, file_refusal, refused_line, output, program_output}

bad_if_long : (file : List ℕ) → 65535 < length file → bad_header file ≡ true
unfolding bad_header
bad_if_long file long = let h = lt-ltb 65535 (length file) long in rw h

refused_if_bad : (file : List ℕ) → bad_header file ≡ true → file_refusal file ≡ 12
unfolding file_refusal header_refusal
refused_if_bad file bad = rw bad

printed_if_refused : (file : List ℕ) → file_refusal file ≡ 12 → program_output file ≡ refused_line 12
unfolding program_output output
printed_if_refused file refused = rw refused

printed_if_long : (file : List ℕ) → 65535 < length file → program_output file ≡ refused_line 12
printed_if_long file long = printed_if_refused file (refused_if_bad file (bad_if_long file long))

front_suffices : (file : List ℕ) → program_output (take 65536 file) ≡ program_output file
front_suffices file = by_length (cases_lt 65535 (length file))
  where
    by_length : (65535 < length file) ⊎ (length file ≤ 65535) → program_output (take 65536 file) ≡ program_output file
    by_length (inl long) = printed_if_long (take 65536 file) (omega (arith, length-take-le 65536 file long)) ∙ sym (printed_if_long file long)
    by_length (inr short) = ap program_output (take_all 65536 file (omega arith))

-- what is written of the bytes read is what is printed of the whole input
pub printed_whole : {E : Type 0} (r : Result (Unit {0}) E) (a x y : Option (List ℕ)) (front lines : List ℕ) (room : ℕ) → room ≡ 65536
    → IfSome a (λ file. front ≡ take room file) → lines ≡ program_output front → OnOk r (Appends x y lines)
    → OnOk r (IfSome a (λ file. Appends x y (program_output file)))
printed_whole (Err _) a x y front lines room e is_front text written = tt
printed_whole (Ok u) None x y front lines room e is_front text written = tt
printed_whole (Ok u) (Some file) x y front lines room e is_front text written =
    let first : front ≡ take 65536 file = is_front ∙ ap (λ (n : ℕ). take n file) e in
    subst (Appends x y) (text ∙ ap program_output first ∙ front_suffices file) written

-- and so it is with a front of what is printed
pub printed_front : (a x y : Option (List ℕ)) (front lines : List ℕ) (room : ℕ) → room ≡ 65536
    → IfSome a (λ file. front ≡ take room file) → lines ≡ program_output front → (n : ℕ) × Appends x y (take n lines)
    → IfSome a (λ file. (n : ℕ) × Appends x y (take n (program_output file)))
printed_front None x y front lines room e is_front text written = tt
printed_front (Some file) x y front lines room e is_front text written =
    let first : front ≡ take 65536 file = is_front ∙ ap (λ (n : ℕ). take n file) e in
    (written.0, subst (λ (l : List ℕ). Appends x y (take written.0 l)) (text ∙ ap program_output first ∙ front_suffices file) written.1)

-- where nothing is written, that is the front of length 0
pub printed_none : (a x : Option (List ℕ)) → IfSome a (λ file. (n : ℕ) × Appends x x (take n (program_output file)))
printed_none None x = tt
printed_none (Some file) x = (0, Appends-nil x)
