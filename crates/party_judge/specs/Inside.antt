-- What the program keeps of a judgement.
use Rattle.command_input.specs.Written.{Written}
use Rattle.party_judge.specs.declared.judging.Judgement.{Judgement}

abbrev pub written : Judgement → Written
written j = record { text = j.text; found = j.found }
