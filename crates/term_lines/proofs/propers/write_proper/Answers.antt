use Rattle.std.specs.Prelude.{string_bytes}
use Rattle.std.specs.Result.{OnOk}
use Rattle.std.proofs.Common.{◌≡◌, ◌++◌, subst}
use Rattle.proper_term.specs.TermOf.{term_of}
use Rattle.lin_form.specs.ListOf.{list_of}
use Rattle.term_lines.specs.TermTexts.{list_fields}
use Rattle.term_lines.proofs.TermWrites.{lists_are, term_written}
use Rattle.term_lines.proofs.propers.write_proper.Goals as goal

pub returns : goal.returns
returns c =
    let t = term_of c.args.term.now in
    let lists = lists_are t (list_of c.up.result.now) (list_of c.down.result.now) (list_of c.over.result.now) (list_of c.guard.result.now)
    c.up.ensures.scale c.up.ensures.up c.down.ensures.scale c.down.ensures.down c.over.ensures.scale c.over.ensures.over
    c.guard.ensures.scale c.guard.ensures.guard in
    term_written c.write_lists.result t (string_bytes c.args.text.now) (string_bytes c.write_lists.new.text) c.poly.ensures.poly c.scale.ensures.scale c.n_base.ensures.n_base c.k_base.ensures.k_base
    c.in_ok-write.ensures c.in_ok-push_str.ensures.bytes c.in_ok-write-2.ensures c.in_ok-push_str-2.ensures.bytes
    c.in_ok-write-3.ensures c.in_ok-push_str-3.ensures.bytes c.in_ok-write-4.ensures c.in_ok-push_str-4.ensures.bytes
    (subst (λ v. OnOk c.write_lists.result (string_bytes c.write_lists.new.text ≡ string_bytes c.push_str-4.new.self ++ list_fields.text v)) lists
    c.write_lists.ensures)
