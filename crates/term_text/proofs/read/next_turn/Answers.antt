use Rattle.std.proofs.Common.{subst, sym, ◌+◌, ◌∷◌, [], ◌++◌, length, arith}
use Rattle.term_text.specs.Code.SeveralImage.{kind_of}
use Rattle.term_text.specs.Code.Progress.{taken, ended}
use Rattle.term_text.specs.Answers.{HasFault}
use Rattle.term_text.proofs.Turns.{TakenIs, EndIs, turn_token, turn_end, turn_flawed, taken_fails, ended_fails}
use Rattle.term_text.proofs.read.next_turn.Goals as goal

pub returns-in-Ok : goal.returns-in-Ok
returns-in-Ok c = record {
  turn = λ ts after. subst (EndIs (kind_of c.args.kind) c.args.text.now) c.in-Ok.ensures.ended
      (turn_end c.args.kind c.args.text.now c.args.progress ts c.past_spaces-at.result after c.past_spaces-at.ensures.place c.in-End.ensures.front);
}

pub returns-in-Err : goal.returns-in-Err
returns-in-Err c = record {
  turn = λ ts after. ended_fails (kind_of c.args.kind) c.args.text.now c.in-Err.fault (ended c.args.kind c.args.progress (length c.args.text.now)) c.in-Err.ensures.ended
      (turn_end c.args.kind c.args.text.now c.args.progress ts c.past_spaces-at.result after c.past_spaces-at.ensures.place c.in-End.ensures.front);
}

pub returns-in-Flawed : goal.returns-in-Flawed
returns-in-Flawed c = record {
  turn = λ ts after. subst (HasFault (kind_of c.args.kind) c.args.text.now) (sym c.fault_of_flaw.ensures.fault)
      (turn_flawed c.args.kind c.args.text.now c.args.progress ts c.past_spaces-at.result c.in-Flawed.flaw after c.past_spaces-at.ensures.place c.in-Flawed.ensures.front);
}

pub returns-in-Ok-taken : goal.returns-in-Ok-taken
returns-in-Ok-taken c = record {
  turn = λ ts after.
      let x = turn_token c.args.kind c.args.text.now c.args.progress ts c.past_spaces-at.result c.in-Token.len c.in-Token.token after c.past_spaces-at.ensures.place c.in-Token.ensures.front in
      let y = subst (TakenIs (kind_of c.args.kind) c.args.text.now (ts ++ (c.past_spaces-at.result, x.0) ∷ []) (c.past_spaces-at.result + c.in-Token.len)) c.in-Ok-taken.ensures.taken x.1 in
      (ts ++ (c.past_spaces-at.result, x.0) ∷ [], y.0, omega (arith, y.1, c.past_spaces-at.ensures.place, c.in-Token.ensures.within), omega (arith, y.1, c.in-Token.ensures.within));
}

pub returns-in-Err-taken : goal.returns-in-Err-taken
returns-in-Err-taken c = record {
  turn = λ ts after.
      let x = turn_token c.args.kind c.args.text.now c.args.progress ts c.past_spaces-at.result c.in-Token.len c.in-Token.token after c.past_spaces-at.ensures.place c.in-Token.ensures.front in
      taken_fails (kind_of c.args.kind) c.args.text.now (ts ++ (c.past_spaces-at.result, x.0) ∷ []) (c.past_spaces-at.result + c.in-Token.len) c.in-Err-taken.fault
      (taken c.args.kind c.args.progress c.in-Token.token c.past_spaces-at.result (c.past_spaces-at.result + c.in-Token.len)) c.in-Err-taken.ensures.taken x.1;
}
