use Rattle.std.proofs.Common.{refl}
use Rattle.reducing.proofs.whole_rows.WholeReducing.plain_part.Goals as goal

pub returns : goal.returns
returns c = record {
  plain = record {
    value = c.args.self.now.value;
    value_is = refl;
    plain_is = refl;
    core_is = c.requires.core.split.core_is;
  };
  always = refl;
}
