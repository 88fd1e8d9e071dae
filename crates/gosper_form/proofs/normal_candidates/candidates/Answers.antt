use Rattle.std.proofs.Common.{◌≡◌, refl}
use Rattle.term_pieces.specs.NormalForm.{at_earlier_k}
use Rattle.lin_form.specs.Forms.{form_of}
use Rattle.gosper_form.proofs.NormalOrder.{stands_moved, candidates_moved, sorted_rising}
use Rattle.gosper_form.proofs.normal_candidates.candidates.Goals as goal

-- the sort only moves the candidates
pub returns-clause-all : goal.returns-clause-all
returns-clause-all c = λ s h first some below.
    stands_moved c.in_ok-found.found.items c.sort_unstable.new.self.items c.sort_unstable.ensures.permutation s h
    (c.in_ok-found.ensures.all s h first some below)

pub returns-clause-candidates : goal.returns-clause-candidates
returns-clause-candidates c =
    candidates_moved (λ c. form_of c.earlier ≡ at_earlier_k (form_of c.form) c.shift) c.in_ok-found.found.items c.sort_unstable.new.self.items
    c.sort_unstable.ensures.permutation c.in_ok-found.ensures.candidates

pub returns-clause-rising : goal.returns-clause-rising
returns-clause-rising c = sorted_rising _ (λ c d. refl) c.sort_unstable.new.self.items c.sort_unstable.ensures.sorted
