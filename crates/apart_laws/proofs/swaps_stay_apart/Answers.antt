use Rattle.apart_laws.proofs.Apart as apart
use Rattle.apart_laws.proofs.swaps_stay_apart.Goals as goal

pub returns-clause-books : goal.returns-clause-books
returns-clause-books c = apart.books_stay_apart

pub returns-clause-runs : goal.returns-clause-runs
returns-clause-runs c = apart.swaps_stay_apart
