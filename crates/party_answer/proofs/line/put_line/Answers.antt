use Rattle.party_wallet.specs.Value.{signed_hashkey}
use Rattle.party_answer.proofs.Growing.{line_asking, line_going}
use Rattle.party_answer.proofs.line.put_line.Goals as goal

pub returns-in_ok-put_once-in-Some : goal.returns-in_ok-put_once-in-Some
returns-in_ok-put_once-in-Some c = λ ts.
    line_asking c.args.part c.args.me (signed_hashkey c.args.kept.now.keys) c.args.asked c.args.out.now.items c.put_once.new.out.items
    c.args.timed.now ts c.in-Some.key.now c.in-Some.ensures c.in_ok-put_once-in-Some.ensures

pub returns-in_ok-put_present_in-in-None : goal.returns-in_ok-put_present_in-in-None
returns-in_ok-put_present_in-in-None c = λ ts.
    line_going c.args.part c.args.me (signed_hashkey c.args.kept.now.keys) c.args.asked c.args.out.now.items c.put_present_in.new.out.items
    c.args.timed.now ts c.in-None.ensures c.in_ok-put_present_in-in-None.ensures
