use Rattle.exact_texts.proofs.Separated.{first_found}
use Rattle.spelled.proofs.splitting.first_piece.Goals as goal

pub returns-in-Some-clause-piece : goal.returns-in-Some-clause-piece
returns-in-Some-clause-piece c = λ x xs p e.
    first_found c.args.stop c.args.tail.now c.args.text.now c.in-Some.front.now c.in-Some.back.now x xs c.behind.result p c.in-Some.ensures.cut.0
    c.in-Some.ensures.cut.1 e
    c.behind.ensures.exact
