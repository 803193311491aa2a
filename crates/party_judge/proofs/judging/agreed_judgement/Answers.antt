use Rattle.party_terms.specs.Inside.{inside_agreed}
use Rattle.party_judge.proofs.Promises.{agreed_fails, agreed_gives, agreed_job, agreed_promise, formed_book}
use Rattle.party_judge.proofs.judging.agreed_judgement.Goals as goal

pub book_judgement-requires-clause-told : goal.book_judgement-requires-clause-told
book_judgement-requires-clause-told c =
    agreed_job (inside_agreed c.args.agreed) c.args.lines.now c.in_ok-first.first c.read_agreements.new.lines (rw c.as_slice.ensures at c.in_ok-first.ensures)
    c.in-Ok.job c.in-Ok.book.histories c.in-Ok.ensures c.requires.told

pub book_judgement-requires-clause-formed : goal.book_judgement-requires-clause-formed
book_judgement-requires-clause-formed c =
    formed_book (inside_agreed c.args.agreed) c.args.lines.now c.in_ok-first.first c.read_agreements.new.lines (rw c.as_slice.ensures at c.in_ok-first.ensures)
    c.in-Ok.job c.in-Ok.book.histories c.in-Ok.ensures

pub returns-in-Ok-clause-exact : goal.returns-in-Ok-clause-exact
returns-in-Ok-clause-exact c =
    agreed_gives (inside_agreed c.args.agreed) c.args.lines.now c.in_ok-first.first c.read_agreements.new.lines (rw c.as_slice.ensures at c.in_ok-first.ensures)
    c.in-Ok.job c.in-Ok.book.histories c.in-Ok.ensures c.args.form c.book_judgement.result c.book_judgement.ensures.exact

pub returns-in-Ok-clause-promised : goal.returns-in-Ok-clause-promised
returns-in-Ok-clause-promised c =
    agreed_promise (inside_agreed c.args.agreed) c.args.lines.now c.in_ok-first.first c.read_agreements.new.lines (rw c.as_slice.ensures at c.in_ok-first.ensures)
    c.in-Ok.job c.in-Ok.book.histories c.in-Ok.ensures c.args.form c.book_judgement.result c.book_judgement.ensures.promised

pub returns-clause-exact : goal.returns-clause-exact
returns-clause-exact c =
    rw c.refusal_fault.ensures
    (agreed_fails (inside_agreed c.args.agreed) c.args.lines.now c.in_ok-first.first c.read_agreements.new.lines (rw c.as_slice.ensures at c.in_ok-first.ensures) c.args.form c.in-Err.fault c.in-Err.ensures)
