use Rattle.party_terms.proofs.Times.{awake_ends_with_the_deal, awake_is_long_enough, leaders_are_taken, openings_end_by_then}
use Rattle.party_terms.proofs.Times.{followers_publish_below, followers_publish_up_to, leaders_are_on_time, refunds_are_open, refunds_open_no_earlier}
use Rattle.party_terms.proofs.laws.heights_hold.Goals as goal

pub returns-clause-leaders : goal.returns-clause-leaders
returns-clause-leaders c = leaders_are_on_time

pub returns-clause-followers : goal.returns-clause-followers
returns-clause-followers c = followers_publish_below

pub returns-clause-refunds : goal.returns-clause-refunds
returns-clause-refunds c = refunds_are_open

pub returns-clause-up_to : goal.returns-clause-up_to
returns-clause-up_to c = followers_publish_up_to

pub returns-clause-no_earlier : goal.returns-clause-no_earlier
returns-clause-no_earlier c = refunds_open_no_earlier

pub returns-clause-openings : goal.returns-clause-openings
returns-clause-openings c = openings_end_by_then

pub returns-clause-shown : goal.returns-clause-shown
returns-clause-shown c = leaders_are_taken

pub returns-clause-awake : goal.returns-clause-awake
returns-clause-awake c = awake_is_long_enough

pub returns-clause-ends : goal.returns-clause-ends
returns-clause-ends c = awake_ends_with_the_deal
