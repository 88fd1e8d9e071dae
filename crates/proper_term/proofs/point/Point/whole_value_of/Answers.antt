use Rattle.std.proofs.Common.{◌<◌, ◌^◌, arith, rules, FitsSigned, subst, sym}
use Rattle.std.proofs.lemmas.Int.{ints}
use Rattle.std.specs.Int.{w64}
use Rattle.std.specs.Prelude.{unsigned_abs}
use Rattle.proper_term.proofs.FormValues.{value_small, some_of, given_of}
use Rattle.proper_term.proofs.point.Point.whole_value_of.Goals as goal

pub unwrap-requires : goal.unwrap-requires
unwrap-requires c =
    let f = c.args.form.now in
    let n : FitsSigned w64 c.args.self.n = search rules in
    let k : FitsSigned w64 c.args.self.k = search rules in
    let e = value_small f.n_slope c.args.self.n f.k_slope c.args.self.k f.offset f.small_n_slope (omega (arith, ints, n)) f.small_k_slope
    (omega (arith, ints, k)) f.small_offset in
    let s = subst (λ z. unsigned_abs z < 2 ^ 72) (sym c.value_of.ensures.value) e in
    some_of _ _ c.new.result c.new.ensures.given (λ m. omega (arith, ints, s, m))

pub returns-clause-small : goal.returns-clause-small
returns-clause-small c =
    let f = c.args.form.now in
    let n : FitsSigned w64 c.args.self.n = search rules in
    let k : FitsSigned w64 c.args.self.k = search rules in
    let e = value_small f.n_slope c.args.self.n f.k_slope c.args.self.k f.offset f.small_n_slope (omega (arith, ints, n)) f.small_k_slope
    (omega (arith, ints, k)) f.small_offset in
    let s = subst (λ z. unsigned_abs z < 2 ^ 72) (sym c.value_of.ensures.value) e in
    omega (arith, ints, s, given_of _ _ c.new.result c.unwrap.result c.new.ensures.given c.unwrap.ensures)
