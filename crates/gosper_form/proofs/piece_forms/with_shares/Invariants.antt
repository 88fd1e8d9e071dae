use Rattle.std.proofs.Common.{◌≡◌, ◌++◌, drop}
use Rattle.lin_form.specs.ListOf.{list_of}
use Rattle.term_pieces.specs.ItemForms.{from_each}
use Rattle.gosper_form.specs.RaisedForms.{factors_of}
use Rattle.gosper_form.specs.Shares.{share_of}
use Rattle.gosper_form.proofs.piece_forms.with_shares.Given as goal

-- the forms so far and the shares of the items that are left are the forms and the shares of all items
abbrev pub invariant-loop-index : goal.invariant-loop-index
invariant-loop-index l = factors_of l.fn.forms.items ++ from_each (share_of l.share l.order) (list_of l.list).factors
    ≡ factors_of l.forms.items ++ from_each (share_of l.share l.order) (drop l.index (list_of l.list).factors)
