use Rattle.std.proofs.Common.{◌≡◌, ◌∙◌, ℕ, List, subst, Option, Bor}
use Rattle.std.specs.Option.{MatchOption}
use Rattle.spelled.specs.Separators.{stop_of, tail_of}
use Rattle.spelled.proofs.BesideSteps.{front_found, back_found}
use Rattle.spelled.proofs.beside.BesideSpelling.read.Goals as goal

-- no separator
pub returns-in_default-clause-read : goal.returns-in_default-clause-read
returns-in_default-clause-read g c = λ p h e.
    let self = c.args.self.now in
    let text = (g.B.Spelling.format self.second).text p.1 in
    let back = back_found (g.A.Spelling.format self.first) (g.B.Spelling.format self.second) (stop_of self.separator) c.stop-stop.result
    (tail_of self.separator) c.as_bytes.result.now c.stop-stop.ensures
    (c.as_bytes.ensures.value ∙ c.tail-tail.ensures)
    self.without c.args.text.now c.first_piece.result.0.now c.first_piece.result.1 c.first_piece.ensures.piece p h e in
    subst (λ (more : Option (Bor (List ℕ))). MatchOption more ⊥ (λ rest. rest.now ≡ text)) c.in_default.is back

-- no first item
pub returns-in_default-2-clause-read : goal.returns-in_default-2-clause-read
returns-in_default-2-clause-read g c = λ p h e.
    let self = c.args.self.now in
    let front = front_found (g.A.Spelling.format self.first) (g.B.Spelling.format self.second) (stop_of self.separator) c.stop-stop.result
    (tail_of self.separator) c.as_bytes.result.now c.stop-stop.ensures
    (c.as_bytes.ensures.value ∙ c.tail-tail.ensures)
    self.without c.args.text.now c.first_piece.result.0.now c.first_piece.result.1 c.first_piece.ensures.piece p h e in
    subst (λ found. MatchOption found ⊥ (λ x. g.A.Spelling.value_of x ≡ p.0)) c.in_default-2.is (c.in_ok-first.ensures.read p.0 h.0 front)

-- no second item
pub returns-in_default-3-clause-read : goal.returns-in_default-3-clause-read
returns-in_default-3-clause-read g c = λ p h e.
    let self = c.args.self.now in
    let text = (g.B.Spelling.format self.second).text p.1 in
    let back = back_found (g.A.Spelling.format self.first) (g.B.Spelling.format self.second) (stop_of self.separator) c.stop-stop.result
    (tail_of self.separator) c.as_bytes.result.now c.stop-stop.ensures
    (c.as_bytes.ensures.value ∙ c.tail-tail.ensures)
    self.without c.args.text.now c.first_piece.result.0.now c.first_piece.result.1 c.first_piece.ensures.piece p h e in
    let rest = subst (λ (more : Option (Bor (List ℕ))). MatchOption more ⊥ (λ r. r.now ≡ text)) c.in-Some.is back in
    subst (λ found. MatchOption found ⊥ (λ x. g.B.Spelling.value_of x ≡ p.1)) c.in_default-3.is (c.in_ok-second.ensures.read p.1 h.1 rest)

-- both
pub returns-clause-read : goal.returns-clause-read
returns-clause-read g c = λ p h e.
    let self = c.args.self.now in
    let text = (g.B.Spelling.format self.second).text p.1 in
    let front = front_found (g.A.Spelling.format self.first) (g.B.Spelling.format self.second) (stop_of self.separator) c.stop-stop.result
    (tail_of self.separator) c.as_bytes.result.now c.stop-stop.ensures
    (c.as_bytes.ensures.value ∙ c.tail-tail.ensures)
    self.without c.args.text.now c.first_piece.result.0.now c.first_piece.result.1 c.first_piece.ensures.piece p h e in
    let back = back_found (g.A.Spelling.format self.first) (g.B.Spelling.format self.second) (stop_of self.separator) c.stop-stop.result
    (tail_of self.separator) c.as_bytes.result.now c.stop-stop.ensures
    (c.as_bytes.ensures.value ∙ c.tail-tail.ensures)
    self.without c.args.text.now c.first_piece.result.0.now c.first_piece.result.1 c.first_piece.ensures.piece p h e in
    let rest = subst (λ (more : Option (Bor (List ℕ))). MatchOption more ⊥ (λ r. r.now ≡ text)) c.in-Some.is back in
    let first = subst (λ found. MatchOption found ⊥ (λ x. g.A.Spelling.value_of x ≡ p.0)) c.in-Some-2.is (c.in_ok-first.ensures.read p.0 h.0 front) in
    let second = subst (λ found. MatchOption found ⊥ (λ x. g.B.Spelling.value_of x ≡ p.1)) c.in-Some-3.is
    (c.in_ok-second.ensures.read p.1 h.1 rest) in
    λ i. (first i, second i)
