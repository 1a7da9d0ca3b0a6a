-- What std writes of a number in two places or more, a nought before one digit. Assumes nothing.
use Rattle.std.proofs.Common.{◌≡◌, refl, ℕ, ◌+◌, ◌-◌, ◌/◌, ◌%◌, ◌^◌, ◌<◌, ◌≤◌, false, List, [], ◌∷◌, ◌++◌, append-nil, length, length-append, arith, codes, decimal}
use Rattle.std.specs.Fmt.{char_count, format_spec, padded_integral}
use Rattle.std.proofs.lemmas.Fmt.{decimal_digit, decimal_step, decimal_nonempty}

pub one_digit : (n : ℕ) → n < 10 → padded_integral (format_spec 32 0 4 2 (2 ^ 64 - 1)) false [] (decimal n) ≡ codes "0" ++ decimal n
unfolding padded_integral char_count
one_digit n l = rw (decimal_digit n l) refl

longer : (numeral : List ℕ) → 2 ≤ length numeral → padded_integral (format_spec 32 0 4 2 (2 ^ 64 - 1)) false [] numeral ≡ numeral
unfolding padded_integral char_count
longer numeral h = let e : 2 - length numeral ≡ 0 = omega arith in rw e (append-nil numeral)

pub more_digits : (n : ℕ) → 10 ≤ n → n < 2 ^ 64 → padded_integral (format_spec 32 0 4 2 (2 ^ 64 - 1)) false [] (decimal n) ≡ decimal n
more_digits n l small =
    let e = decimal_step n l small in
    let front : 0 < length (decimal (n / 10)) = decimal_nonempty (n / 10) (omega arith) in
    longer (decimal n) (rw (e, length-append (decimal (n / 10)) ((48 + n % 10) ∷ [])) (omega arith))
