-- What a list of factors of the code stands for.
use Rattle.hypergeometric.specs.LinearForm.{FactorList}
use Rattle.lin_form.specs.FactorLists.{factors_of}
use Rattle.lin_form.specs.declared.factor_lists.FactorList.{FactorList as FactorListOfCode}

-- the scale and the factors that a factor list of the code stands for
abbrev pub list_of : FactorListOfCode → FactorList
list_of list = record { scale = list.scale.value; factors = factors_of list.powers.entries }
