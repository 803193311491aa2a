use Rattle.party_rows.proofs.Counted.{keys_right, row_added}
use Rattle.party_rows.proofs.rows.add_party_row.Goals as goal

pub returns-clause-rows : goal.returns-clause-rows
returns-clause-rows c =
    row_added c.args.job.now.deal c.args.rows.now.items c.args.party c.args.said.row c.requires.rows c.requires.party
    (keys_right c.args.line c.args.job.now.deal c.args.said.row _ c.in_ok-right_keys.ensures)
