use Rattle.std.proofs.Common.{Some, refl, ap, ◌∙◌}
use Rattle.command_input.specs.Streams.{streams}
use Rattle.swap_answer.specs.Answered.{whole_text}
use Rattle.swap_answer.specs.Sliced.{no_faults, sliced_tape}
use Rattle.swap_answer.proofs.Statuses.{never_read_fault, never_unread, never_unwritten, no_race, wrong_words}
use Rattle.swap_answer.proofs.answer.swap_answer.Goals as goal

pub returns-clause-answer : goal.returns-clause-answer
returns-clause-answer c calm = record {
  ended = c.swap_plain-status.result;
  written = c.swap_plain-status.new.sink.taken;
  after = streams (sliced_tape c.swap_plain-status.new.source) no_faults (Some c.swap_plain-status.new.sink.taken) c.swap_plain-status.new.sink.faults;
  took = refl;
  answer = rw (c.new-source.ensures, c.new-sink.ensures) at c.swap_plain-status.ensures.answer calm;
  status = c.with_text.ensures.status;
  text = c.with_text.ensures.text ∙ ap (whole_text c.swap_plain-status.result) c.into_text.ensures;
}

pub returns-clause-words : goal.returns-clause-words
returns-clause-words c calm = wrong_words _ c.swap_plain-status.result _ c.with_text.ensures.status (c.swap_plain-status.ensures.words calm)

pub returns-clause-no_race : goal.returns-clause-no_race
returns-clause-no_race c race = no_race c.swap_plain-status.result _ c.into_text.result _ c.with_text.ensures.status c.with_text.ensures.text (c.swap_plain-status.ensures.no_race race)

pub returns-clause-no_write_fault : goal.returns-clause-no_write_fault
returns-clause-no_write_fault c = never_unwritten c.swap_plain-status.result _ c.with_text.ensures.status

pub returns-clause-no_read_fault : goal.returns-clause-no_read_fault
returns-clause-no_read_fault c =
    never_unread c.swap_plain-status.result _ c.with_text.ensures.status
    (never_read_fault _ c.swap_plain-status.result c.swap_plain-status.ensures.no_race (λ calm. (c.swap_plain-status.ensures.answer calm).read_fault))
