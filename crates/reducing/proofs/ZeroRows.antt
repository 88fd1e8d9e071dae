-- Where the content of a row of polynomials is 0, each entry is zero.
use Rattle.std.specs.Prelude.{ℕ, zero, suc, unsigned_abs, [], ◌∷◌}
use Rattle.std.specs.Int.{◌∣◌}
use Rattle.std.proofs.Common.{◌≡◌, refl, ap, sym, ◌∙◌}
use Rattle.std.proofs.Math.Nat.{eq-zero_of_zero-dvd}
use Rattle.ring_laws.specs.Meaning.{number, several}
use Rattle.ring_laws.specs.Algebra.{Passing, same_passing}
use Rattle.ring_laws.specs.Wholes.{number_of, whole_algebra}
use Rattle.ring_laws.specs.WholeDomain.{abs_nought}
use Rattle.ring_laws.specs.WholeLaws.{whole_laws}
use Rattle.poly_laws.proofs.PolyLaws.{coefficient, coefficient-nought, equal_coefficients}
use Rattle.poly_divide.specs.Content.{sizes_of, row_sizes, DividesAll, IsContent}
use Rattle.whole_roots.specs.Differences.{polynomials}
use Rattle.kernel_laws.specs.Rows.{entry_at}
use Rattle.reducing.specs.PolynomialRows.{Row, meant}
use Rattle.reducing.proofs.CommonNumbers.{each_of}
use Rattle.reducing.proofs.ContentQuotients.{o, polys}
use Rattle.reducing.proofs.RowContents.{first_part, last_part}

zero_number : (v : Passing whole_algebra) → 0 ∣ unsigned_abs (number_of v.0) → v ≡ o.nought
zero_number (number z, p) h = same_passing whole_algebra (number z, p) o.nought (ap number (abs_nought z (eq-zero_of_zero-dvd h)))
zero_number (several xs, p) h = cc

zero_polynomial : (x : Passing polynomials) → DividesAll 0 (sizes_of x.0) → x ≡ polys.nought
zero_polynomial x h =
    equal_coefficients whole_algebra whole_laws.closed whole_laws.ring x polys.nought
    (λ k. zero_number (coefficient whole_algebra whole_laws.closed whole_laws.ring x k) (each_of 0 x h k)
    ∙ sym (coefficient-nought whole_algebra whole_laws.closed whole_laws.ring k))

zero_entries : (row : Row) → DividesAll 0 (row_sizes (meant row)) → (k : ℕ) → entry_at polynomials.ops (meant row) k ≡ polynomials.ops.nought
zero_entries [] h k = refl
zero_entries (x ∷ xs) h zero =
    ap (λ (t : Passing polynomials). t.0) (zero_polynomial x (first_part 0 (sizes_of x.0) (row_sizes (meant xs)) h))
zero_entries (x ∷ xs) h (suc k) = zero_entries xs (last_part 0 (sizes_of x.0) (row_sizes (meant xs)) h) k

pub zero_row : (row : Row) → IsContent (row_sizes (meant row)) 0 → (k : ℕ) → entry_at polynomials.ops (meant row) k ≡ polynomials.ops.nought
zero_row row h k = zero_entries row h.divides k
