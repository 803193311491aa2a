use Rattle.std.proofs.Common.{◌∙◌}
use Rattle.serde_json.specs.View.{view, members_view}
use Rattle.offer_text.proofs.Values.{put_is_first}
use Rattle.offer_text.proofs.fields.put_first.Goals as goal

pub returns-clause-ok : goal.returns-clause-ok
returns-clause-ok c = c.in_ok-put.ensures.ok ∙ put_is_first c.args.name.now (view c.args.value) (members_view c.args.fields.now.entries) c.requires
