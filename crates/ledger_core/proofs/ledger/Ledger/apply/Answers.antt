use Rattle.std.proofs.Common.{◌+◌, ◌==◌, cond, sym, ap, ◌∙◌, arith}
use Rattle.ledger_core.specs.declared.entry.What.TheVariants.{Call as Made}
use Rattle.ledger_core.specs.History.{accepted_call, moved_accounts}
use Rattle.ledger_core.proofs.History.{full_reply}
use Rattle.ledger_core.proofs.Bounds.{countable}
use Rattle.ledger_core.proofs.Contracts.{contract_in}
use Rattle.ledger_core.proofs.Scans.{bounded, reply_is, has_room, kept_call, call_scans}
use Rattle.ledger_core.proofs.ledger.Ledger.apply.Goals as goal

pub returns-then-is_full-clause-reply : goal.returns-then-is_full-clause-reply
returns-then-is_full-clause-reply c =
    sym (full_reply c.args.self.now.deal c.args.self.now.arc c.args.self.now.history c.args.sender c.args.call (sym c.is_full.ensures
    ∙ c.if-is_full.true))

pub make_reply-reply-requires-clause-contract : goal.make_reply-reply-requires-clause-contract
make_reply-reply-requires-clause-contract c =
    let l = c.self.inside in
    let i = c.self.invariant in
    rw i.scans.contract (contract_in l.deal l.arc l.history.list i.arc i.scans.legal)

pub updated_accounts-self-inside-requires-clause-bound : goal.updated_accounts-self-inside-requires-clause-bound
updated_accounts-self-inside-requires-clause-bound c =
    let l = c.self.inside in
    let i = c.self.invariant in
    bounded l.deal l.arc l.history.list l.accounts i.scans.legal i.sized i.arc i.scans.accounts

pub push-requires-clause-few : goal.push-requires-clause-few
push-requires-clause-few c =
    let l = c.self.inside in
    let few = (countable l.deal l.arc l.history.list c.self.invariant.scans.legal).count in
    omega arith

pub invariant_of-self : goal.invariant_of-self
invariant_of-self c =
    let l = c.self.inside in
    let i = c.self.invariant in
    let two = rw (← c.self.view_is) at c.requires.of_the_two in
    let fits = rw (← c.self.view_is) at c.requires.fits in
    let unfull = rw (← c.self.view_is) at (sym c.is_full.ensures ∙ c.if-is_full.false) in
    let have = rw (← c.self.view_is) at c.balance-balance.ensures in
    let reply =
    reply_is l.deal l.arc l.history.list l.height l.accounts l.contract l.party_calls l.counterparty_calls l.ticks c.balance-balance.result
    c.args.sender c.args.call c.make_reply-reply.result i.scans unfull have c.make_reply-reply.ensures.reply in
    record {
      sized = i.sized;
      arc = i.arc;
      party = i.party;
      counterparty = i.counterparty;
      scans =
          rw c.push.ensures.list
          (call_scans l.deal l.arc l.history.list l.height l.accounts c.updated_accounts-self-inside.result l.contract c.make_reply-reply.new.contract
          l.party_calls c.one_more_where-self-inside.result l.counterparty_calls c.one_more_where-self-inside-2.result l.ticks c.args.sender c.args.call
          c.make_reply-reply.result
          i.scans
          (record {
            of_the_two = two;
            fits = fits;
            height = i.scans.height;
            reply = reply;
            room =
                has_room l.deal l.arc l.history.list c.args.sender c.args.call c.make_reply-reply.result unfull reply;
          })
          (c.updated_accounts-self-inside.ensures
          ∙ ap (λ p. moved_accounts p l.accounts (c.args.sender == p) (accepted_call (Made c.args.call) c.make_reply-reply.result)) i.party)
          c.make_reply-reply.ensures.contract
          (c.one_more_where-self-inside.ensures ∙ ap (λ p. l.party_calls + cond (c.args.sender == p) 1 0) i.party)
          (c.one_more_where-self-inside-2.ensures ∙ ap (λ p. l.counterparty_calls + cond (c.args.sender == p) 1 0) i.counterparty));
    }

pub returns-clause-reply : goal.returns-clause-reply
returns-clause-reply c =
    let l = c.self.inside in
    let i = c.self.invariant in
    let unfull = rw (← c.self.view_is) at (sym c.is_full.ensures ∙ c.if-is_full.false) in
    let have = rw (← c.self.view_is) at c.balance-balance.ensures in
    rw (← c.self.view_is)
    (reply_is l.deal l.arc l.history.list l.height l.accounts l.contract l.party_calls l.counterparty_calls l.ticks c.balance-balance.result
    c.args.sender c.args.call c.make_reply-reply.result i.scans unfull have c.make_reply-reply.ensures.reply)

pub returns-clause-refused : goal.returns-clause-refused
returns-clause-refused c = λ n.
    let l = c.self.inside in
    rw (c.push.ensures.list, ← c.self.view_is)
    (kept_call l.deal l.arc l.history.list c.args.sender l.height c.args.call c.make_reply-reply.result n)

pub returns-clause-legal : goal.returns-clause-legal
returns-clause-legal c = (invariant_of-self c).scans.legal
