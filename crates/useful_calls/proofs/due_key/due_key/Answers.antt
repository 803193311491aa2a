use Rattle.useful_calls.specs.Asker.{asker_key, asker_wallet, known_entries}
use Rattle.useful_calls.proofs.Based.{by_base, by_none}
use Rattle.useful_calls.proofs.due_key.due_key.Goals as goal

pub returns-in_ok-key-in-Some : goal.returns-in_ok-key-in-Some
returns-in_ok-key-in-Some c =
    let p = c.args.asker.now in
    by_base p.deal.now p.me (asker_wallet p) (asker_key p) (known_entries p) c.args.lock c.in-Some.base c.in_ok-key-in-Some.key c.in-Some.ensures
    c.in_ok-key-in-Some.ensures

pub returns-in-None : goal.returns-in-None
returns-in-None c =
    let p = c.args.asker.now in by_none p.deal.now p.me (asker_wallet p) (asker_key p) (known_entries p) c.args.lock c.in-None.ensures
