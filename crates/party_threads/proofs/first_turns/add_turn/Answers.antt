use Rattle.party_threads.proofs.first_turns.add_turn.Goals as goal

pub returns : goal.returns
returns c = record { turn = c.in_ok-new_turn.field-0; is = c.in_ok-new_turn.ensures; added = c.in_ok-push.ensures.items }
