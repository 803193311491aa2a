use Rattle.party_main.proofs.Processes.{is_process, nothing_given, nothing_written}
use Rattle.party.proofs.serve.Goals as goal

pub returns-clause-text : goal.returns-clause-text
returns-clause-text g c =
    is_process _ _ _ _ _ (nothing_given _ _ c.new-source.ensures) (nothing_written _ _ c.new-sink.ensures) _ _ _ _ _ c.party_top-status.ensures
