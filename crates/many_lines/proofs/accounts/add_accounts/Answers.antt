use Rattle.many_lines.proofs.Pairs.{pair_on}
use Rattle.many_lines.proofs.accounts.add_accounts.Goals as goal

pub loop-name-preserved : goal.loop-name-preserved
loop-name-preserved c = record {
  reads = pair_on c.loop-name.accounts c.add_account.new.accounts c.in-Some.name.now c.in-Some-next.word.now c.loop-name.fields
      c.next.new.self c.next-in-Some.new.self _ c.in-Some.ensures c.in-Some-next.ensures c.in_ok-add_account.ensures.exact c.loop-name.invariant.reads;
  few = λ begun. c.in_ok-add_account.ensures.few (c.loop-name.invariant.few begun);
}
