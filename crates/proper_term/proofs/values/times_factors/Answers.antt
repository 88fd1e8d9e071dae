use Rattle.std.specs.Prelude.{pos}
use Rattle.poly_fraction.specs.FractionOf.{fraction_of}
use Rattle.proper_term.specs.Fields.{number_fraction_of, number_fraction}
use Rattle.proper_term.specs.TermOf.{term_of}
use Rattle.proper_term.specs.ValueBounds.{base_power}
use Rattle.proper_term.proofs.ValueRuns.{top_kept, base_power_top, lowest_nonzero}
use Rattle.proper_term.proofs.values.times_factors.Goals as goal

-- the polynomial's value isn't 0
pub times_n_power-requires : goal.times_n_power-requires
times_n_power-requires c = record {
  running = top_kept (number_fraction_of (fraction_of c.args.running.now)) (number_fraction c.args.poly.value (pos 1))
      (number_fraction_of (fraction_of c.in_ok-running.running)) c.in_ok-running.ensures.run c.requires.running c.requires.poly;
}

-- nor is a power of a base
pub times_k_power-requires : goal.times_k_power-requires
times_k_power-requires c = record {
  running = top_kept (number_fraction_of (fraction_of c.in_ok-running.running)) (base_power (term_of c.args.term.now).n_base c.args.point.n)
      (number_fraction_of (fraction_of c.in_ok-running-2.running)) c.in_ok-running-2.ensures.run
      (top_kept (number_fraction_of (fraction_of c.args.running.now)) (number_fraction c.args.poly.value (pos 1))
      (number_fraction_of (fraction_of c.in_ok-running.running)) c.in_ok-running.ensures.run c.requires.running c.requires.poly)
      (base_power_top (term_of c.args.term.now).n_base c.args.point.n (lowest_nonzero
      (term_of c.args.term.now).n_base c.args.term.now.proper.n_base));
}
