use Rattle.std.proofs.Common.{◌≤◌, length, string_bytes}
use Rattle.cert_text.specs.Printing.{numbers}
use Rattle.cert_text.proofs.PolynomialText.{IsWritten}
use Rattle.cert_text.proofs.printing.push_polynomial.Given as goal

abbrev pub invariant-loop-power : goal.invariant-loop-power
invariant-loop-power l = record {
  within : l.power ≤ length l.coefficients;
  short : length l.coefficients ≤ 256;
  written : IsWritten (string_bytes l.fn.text) (string_bytes l.text) (numbers l.coefficients) l.first l.power;
}

abbrev pub decreases-loop-power : goal.decreases-loop-power
decreases-loop-power l = l.power
