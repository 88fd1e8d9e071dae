use Rattle.std.proofs.Common.{refl, sym, subst, true≢false, List}
use Rattle.std.specs.Prelude.{◌≤ℤ◌, ◌≢◌, pos}
use Rattle.std.specs.List.{AllByRecursion}
use Rattle.hypergeometric.specs.LinearForm.{Factor, form_value}
use Rattle.proper_term.specs.Points.{point_of}
use Rattle.proper_term.proofs.ListItems.{negative_all, zero_all}
use Rattle.proper_term.proofs.point.is_defined_at.Goals as goal

pub returns-then-not-none_negative : goal.returns-then-not-none_negative
returns-then-not-none_negative c = record {
  test = (
    λ e. absurd (true≢false (sym e)),
    λ d. c.if-not-none_negative.ensures.test.1
        (subst (λ (xs : List Factor). AllByRecursion (λ x. pos 0 ≤ℤ form_value x.form (point_of c.args.point)) xs) (sym c.up.ensures.up)
        ((negative_all _ _).0 d.up)),
  );
}

pub returns-then-not-none_negative-2 : goal.returns-then-not-none_negative-2
returns-then-not-none_negative-2 c = record {
  test = (
    λ e. absurd (true≢false (sym e)),
    λ d. c.if-not-none_negative-2.ensures.test.1
        (subst (λ (xs : List Factor). AllByRecursion (λ x. pos 0 ≤ℤ form_value x.form (point_of c.args.point)) xs) (sym c.guard.ensures.guard)
        ((negative_all _ _).0 d.guard)),
  );
}

-- the three lists are right
pub returns : goal.returns
returns c = record {
  test = (
    λ e. record {
      up = (negative_all _ _).1 (subst (λ (xs : List Factor). AllByRecursion (λ x. pos 0 ≤ℤ form_value x.form (point_of c.args.point)) xs)
          c.up.ensures.up (c.if-not-none_negative.ensures.test.0 refl));
      guard = (negative_all _ _).1 (subst (λ (xs : List Factor). AllByRecursion (λ x. pos 0 ≤ℤ form_value x.form (point_of c.args.point)) xs)
          c.guard.ensures.guard (c.if-not-none_negative-2.ensures.test.0 refl));
      over = (zero_all _ _).1 (subst (λ (xs : List Factor). AllByRecursion (λ x. form_value x.form (point_of c.args.point) ≢ pos 0) xs)
          c.over.ensures.over (c.none_zero.ensures.test.0 e));
    },
    λ d. c.none_zero.ensures.test.1
        (subst (λ (xs : List Factor). AllByRecursion (λ x. form_value x.form (point_of c.args.point) ≢ pos 0) xs) (sym c.over.ensures.over)
        ((zero_all _ _).0 d.over)),
  );
}
