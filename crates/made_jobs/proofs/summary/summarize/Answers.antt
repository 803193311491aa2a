use Rattle.made_jobs.proofs.Drawing.{at_start}
use Rattle.made_jobs.proofs.Playing.{is_sized, job_conforming}
use Rattle.made_jobs.proofs.Summed.{book_still, ended_still, job_still, kept_still, legal_is, shown_is, text_is, wallets_still}
use Rattle.made_jobs.proofs.summary.summarize.Goals as goal

pub played-requires-clause-first : goal.played-requires-clause-first
played-requires-clause-first c =
    let g = c.in_ok-generator in
    at_start c.args.seed c.args.parties c.args.events g.generator g.ensures.generator

pub played-requires-clause-wallets : goal.played-requires-clause-wallets
played-requires-clause-wallets c =
    let g = c.in_ok-generator in
    wallets_still c.args.seed c.args.parties c.args.events g.generator g.ensures.generator _ g.ensures.wallets

pub summed-requires-clause-sized : goal.summed-requires-clause-sized
summed-requires-clause-sized c = is_sized c.job.result.now.deal c.job.ensures.accepted

pub summed-requires-clause-conforming : goal.summed-requires-clause-conforming
summed-requires-clause-conforming c =
    let g = c.in_ok-generator in
    let p = c.in_ok-book.ensures in
    job_conforming c.job.result.now c.args.seed c.args.parties
    (job_still c.args.seed c.args.parties c.args.events g.generator g.ensures.generator c.played.new.generator c.job.result.now
    p.seed p.parties c.job.ensures.exact)

pub summed-requires-clause-legal : goal.summed-requires-clause-legal
summed-requires-clause-legal c =
    let g = c.in_ok-generator in
    let p = c.in_ok-book.ensures in
    legal_is c.args.seed c.args.parties c.args.events c.job.result.now c.in_ok-book.book.histories
    (job_still c.args.seed c.args.parties c.args.events g.generator g.ensures.generator c.played.new.generator c.job.result.now
    p.seed p.parties c.job.ensures.exact)
    (book_still c.args.seed c.args.parties c.args.events g.generator g.ensures.generator _ p.book)
    (kept_still c.args.seed c.args.parties c.args.events g.generator g.ensures.generator p.kept)

pub returns-clause-text : goal.returns-clause-text
returns-clause-text c =
    let g = c.in_ok-generator in
    let p = c.in_ok-book.ensures in
    text_is c.args.seed c.args.parties c.args.events c.job.result.now c.in_ok-book.book.histories
    (job_still c.args.seed c.args.parties c.args.events g.generator g.ensures.generator c.played.new.generator c.job.result.now
    p.seed p.parties c.job.ensures.exact)
    (book_still c.args.seed c.args.parties c.args.events g.generator g.ensures.generator _ p.book) _ c.in_ok-summary.ensures.text

pub returns-clause-found : goal.returns-clause-found
returns-clause-found c =
    let g = c.in_ok-generator in
    let p = c.in_ok-book.ensures in
    shown_is c.args.seed c.args.parties c.args.events c.job.result.now c.in_ok-book.book.histories
    (job_still c.args.seed c.args.parties c.args.events g.generator g.ensures.generator c.played.new.generator c.job.result.now
    p.seed p.parties c.job.ensures.exact)
    (book_still c.args.seed c.args.parties c.args.events g.generator g.ensures.generator _ p.book) _ c.in_ok-summary.ensures.found

pub returns-clause-kept : goal.returns-clause-kept
returns-clause-kept c =
    let g = c.in_ok-generator in
    kept_still c.args.seed c.args.parties c.args.events g.generator g.ensures.generator c.in_ok-book.ensures.kept

pub returns-clause-ended : goal.returns-clause-ended
returns-clause-ended c =
    let g = c.in_ok-generator in
    ended_still c.args.seed c.args.parties c.args.events g.generator g.ensures.generator c.in_ok-book.ensures.ended
