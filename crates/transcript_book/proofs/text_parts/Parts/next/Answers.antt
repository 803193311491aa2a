use Rattle.transcript_book.proofs.Falls.{next_found, next_none, the_rest}
use Rattle.transcript_book.proofs.text_parts.Parts.next.Goals as goal

pub returns-in-Some : goal.returns-in-Some
returns-in-Some c =
    let p = c.self.inside in
    rw (← c.self.view_is) (next_found p.by p.at c.in-Some.end p.text.now _ p.is_finished c.if-self.false (the_rest p.text.now p.at) c.in-Some.ensures.0
    c.in-Some.ensures.1)

pub returns-in-None : goal.returns-in-None
returns-in-None c =
    let p = c.self.inside in
    rw (← c.self.view_is) (next_none p.by p.at p.text.now _ p.is_finished c.if-self.false (the_rest p.text.now p.at) c.in-None.ensures)
