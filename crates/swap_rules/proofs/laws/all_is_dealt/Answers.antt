use Rattle.swap_rules.proofs.Dealing as lemmas
use Rattle.swap_rules.proofs.laws.all_is_dealt.Goals as goal

pub returns-clause-books : goal.returns-clause-books
returns-clause-books c = lemmas.all_dealt

pub returns-clause-races : goal.returns-clause-races
returns-clause-races c = lemmas.races_dealt
