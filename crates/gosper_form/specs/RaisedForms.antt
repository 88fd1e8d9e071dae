-- Forms with their powers as the code gathers them, and what a call answers that gathers some.
use Rattle.std.specs.Prelude.{◌≡◌, List, map, Result, Ok, Err}
use Rattle.ring_laws.specs.Answer.{OnFault}
use Rattle.ring_laws.specs.declared.faults.RingFault.{RingFault}
use Rattle.hypergeometric.specs.LinearForm.{Factor}
use Rattle.hypergeometric.specs.FactorLists.{factor_with}
use Rattle.lin_form.specs.Forms.{form_of}
use Rattle.gosper_form.specs.declared.raised_forms.RaisedForm.{RaisedForm}

-- the form as often as its power says
abbrev pub factor_of : RaisedForm → Factor
factor_of raised = factor_with (form_of raised.form) raised.power

-- those of a list
abbrev pub factors_of : List RaisedForm → List Factor
factors_of forms = map factor_of forms

-- a value that stands for x, or no memory
abbrev pub Makes : {T A : Type 0} → (T → A) → A → Result T RingFault → Type 0
Makes view x (Ok value) = view value ≡ x
Makes view x (Err fault) = OnFault ⊥ fault
