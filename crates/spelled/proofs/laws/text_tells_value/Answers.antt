use Rattle.spelled.proofs.laws.text_tells_value.Goals as goal

-- the three clauses are the law of the trait
pub returns-clause-told : goal.returns-clause-told
returns-clause-told g c = (g.met.S.Spelling.within_line c.args.spelling.now).determined

pub returns-clause-in_one_line : goal.returns-clause-in_one_line
returns-clause-in_one_line g c = (g.met.S.Spelling.within_line c.args.spelling.now).within

pub returns-clause-some : goal.returns-clause-some
returns-clause-some g c = (g.met.S.Spelling.within_line c.args.spelling.now).some
