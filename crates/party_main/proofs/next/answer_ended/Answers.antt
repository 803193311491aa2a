use Rattle.std.proofs.Common.{◌+◌, refl}
use Rattle.transcript_book.proofs.Falls.{the_rest}
use Rattle.party_main.proofs.Cutting.{is_cut_short, gives_cut, promised_cut}
use Rattle.party_main.proofs.next.answer_ended.Goals as goal

pub returns-in-Some-clause-exact : goal.returns-in-Some-clause-exact
returns-in-Some-clause-exact c =
    let input = c.args.input.now in
    let end = c.in-Some.end in
    gives_cut c.args.name.now input _ _ end c.in-Some.ensures.0 c.in-Some.ensures.1 refl (the_rest input (end + 1)) c.answer_parts.result
    c.answer_parts.ensures.exact

pub returns-in-Some-clause-promised : goal.returns-in-Some-clause-promised
returns-in-Some-clause-promised c =
    let input = c.args.input.now in
    let end = c.in-Some.end in
    promised_cut c.args.name.now input _ _ end c.in-Some.ensures.0 c.in-Some.ensures.1 refl (the_rest input (end + 1)) c.answer_parts.result
    c.answer_parts.ensures.promised

pub returns-in-None-clause-exact : goal.returns-in-None-clause-exact
returns-in-None-clause-exact c = is_cut_short c.args.name.now c.args.input.now c.cut_short.result c.in-None.ensures c.cut_short.ensures
