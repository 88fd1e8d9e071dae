use Rattle.std.proofs.Common.{◌≡◌, subst, arith}
use Rattle.std.specs.Option.{MatchOption}
use Rattle.spelled.proofs.PoweredSteps.{power_read}
use Rattle.spelled.proofs.powered.PoweredSpelling.read.Goals as goal

-- no power
pub returns-in_default-clause-read : goal.returns-in_default-clause-read
returns-in_default-clause-read g c = λ p h e.
    let self = c.args.self.now in
    let told = (power_read (g.S.Spelling.format self.each) self.spaceless c.args.text.now c.first_piece.result.0.now c.first_piece.result.1
    c.read_times.result
    c.first_piece.ensures.piece (record { one = c.read_times.ensures.one; more = c.read_times.ensures.more }) p h e).1 in
    let none = c.in_default.is in
    cc

-- the power 0
pub returns-then-power-eq0-clause-read : goal.returns-then-power-eq0-clause-read
returns-then-power-eq0-clause-read g c = λ p h e.
    let self = c.args.self.now in
    let told = (power_read (g.S.Spelling.format self.each) self.spaceless c.args.text.now c.first_piece.result.0.now c.first_piece.result.1
    c.read_times.result
    c.first_piece.ensures.piece (record { one = c.read_times.ensures.one; more = c.read_times.ensures.more }) p h e).1 in
    let some = c.in-Some.is in
    let same : c.in-Some.power ≡ p.1 = cc in
    omega (arith, h.1.0, same, c.if-power-eq0.true)

-- no item
pub returns-in_default-2-clause-read : goal.returns-in_default-2-clause-read
returns-in_default-2-clause-read g c = λ p h e.
    let self = c.args.self.now in
    let front = (power_read (g.S.Spelling.format self.each) self.spaceless c.args.text.now c.first_piece.result.0.now c.first_piece.result.1
    c.read_times.result
    c.first_piece.ensures.piece (record { one = c.read_times.ensures.one; more = c.read_times.ensures.more }) p h e).0 in
    subst (λ found. MatchOption found ⊥ (λ x. g.S.Spelling.value_of x ≡ p.0)) c.in_default-2.is (c.in_ok-item.ensures.read p.0 h.0 front)

-- both
pub returns-clause-read : goal.returns-clause-read
returns-clause-read g c = λ p h e.
    let self = c.args.self.now in
    let read = power_read (g.S.Spelling.format self.each) self.spaceless c.args.text.now c.first_piece.result.0.now c.first_piece.result.1
    c.read_times.result
    c.first_piece.ensures.piece (record { one = c.read_times.ensures.one; more = c.read_times.ensures.more }) p h e in
    let told = read.1 in
    let some = c.in-Some.is in
    let power : c.in-Some.power ≡ p.1 = cc in
    let item = subst (λ found. MatchOption found ⊥ (λ x. g.S.Spelling.value_of x ≡ p.0)) c.in-Some-2.is (c.in_ok-item.ensures.read p.0 h.0 read.0) in
    λ i. (item i, power i)
