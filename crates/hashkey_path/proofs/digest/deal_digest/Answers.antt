use Rattle.std.proofs.Common.{sym, ap, ◌∙◌}
use Rattle.swap_base.specs.Text.{joined}
use Rattle.hashkey_path.proofs.Feeding.{feeds_as, deal_fed, id_of_bytes, any_id}
use Rattle.hashkey_path.proofs.digest.deal_digest.Goals as goal

pub returns-clause-value : goal.returns-clause-value
returns-clause-value c =
    c.finalize.ensures _
    (deal_fed c.args.deal.now _ _ _ _ _ _ _ _ c.new-hasher.ensures c.update.ensures c.feed_head.ensures c.feed_arcs.ensures c.feed_leaders.ensures
    c.feed_times.ensures (feeds_as _ _ _ _ (ap joined c.as_slice.ensures) c.feed_digests.ensures) c.feed_keys.ensures)
    ∙ id_of_bytes c.args.deal.now

pub returns-clause-any_id : goal.returns-clause-any_id
returns-clause-any_id c = λ id. any_id c.args.deal.now id ∙ sym (returns-clause-value c)
