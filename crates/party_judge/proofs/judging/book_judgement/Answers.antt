use Rattle.audit_command.proofs.Reported.{few_told}
use Rattle.party_judge.proofs.judging.book_judgement.Goals as goal

pub judgement_in-requires-clause-parties : goal.judgement_in-requires-clause-parties
judgement_in-requires-clause-parties c =
    few_told _ _ _ c.in_ok-report.report c.in_ok-report.ensures.sound.report c.requires.told.whole.sized.parties.1
