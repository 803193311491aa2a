use Rattle.std.proofs.Common.{◌≡◌, ◌∙◌, ℕ, Bool, List, Ok, ap, subst}
use Rattle.std.proofs.lemmas.Result.{err_from_is_err_and}
use Rattle.offer_header.specs.Limits.{HoldsEach}
use Rattle.offer_header.specs.Names.{has_strategy}
use Rattle.command_input.proofs.Named.{named_ok}
use Rattle.command_input.specs.Refusal.{named_result}
use Rattle.swap_base.specs.Fault.{Fails}
use Rattle.swap_offer.specs.Job.{parse_header_job, header_names}
use Rattle.command_input.specs.Input.{desk}
use Rattle.command_input.proofs.Streams.{first_stops, fits_fresh, line_of, nothing_read}
use Rattle.swap_commands.specs.Says.{IsCommandRefusal}
use Rattle.swap_commands.specs.Words.{OfJob}
use Rattle.swap_commands.proofs.Reading.{empty_stops, header_stops}
use Rattle.swap_commands.proofs.header.first_line.Goals as goal

pub returns-in_err-names-clause-stops : goal.returns-in_err-names-clause-stops
returns-in_err-names-clause-stops g c = λ command asked.
    let p = err_from_is_err_and c.from_residual.result c.from_residual.ensures.1 in
    rw (p.1, p.2, c.requires) (nothing_read (g.S.Source.left c.args.source.now) (g.S.Source.faults c.args.source.now))

pub next-requires : goal.next-requires
next-requires g c = fits_fresh _ _ c.requires

pub returns-in_err-next-clause-stops : goal.returns-in_err-next-clause-stops
returns-in_err-next-clause-stops g c = λ command asked.
    let now = desk (g.S.Source.left c.next.new.source) (g.S.Source.faults c.next.new.source) c.next.new.self in
    let p = err_from_is_err_and c.from_residual-in_err-next.result c.from_residual-in_err-next.ensures.1 in
    rw (p.1, p.2)
    (first_stops (IsCommandRefusal _ (OfJob command)) (g.S.Source.left c.args.source.now) (g.S.Source.faults c.args.source.now) c.args.input.now now c.requires
    c.in_err-next.field-0.0 c.in_err-next.ensures.fails)

pub returns-then-not-branch-clause-stops : goal.returns-then-not-branch-clause-stops
returns-then-not-branch-clause-stops g c = λ command asked.
    let now = desk (g.S.Source.left c.next.new.source) (g.S.Source.faults c.next.new.source) c.next.new.self in
    empty_stops _ command c.in_ok-next.field-0 (g.S.Source.left c.args.source.now) (g.S.Source.faults c.args.source.now) c.args.input.now now
    c.no_line.result c.requires c.if-not-branch.true c.in_ok-next.ensures.gives c.no_line.ensures

pub returns-in_err-prepared-clause-stops : goal.returns-in_err-prepared-clause-stops
returns-in_err-prepared-clause-stops g c = λ command asked.
    let now = desk (g.S.Source.left c.next.new.source) (g.S.Source.faults c.next.new.source) c.next.new.self in
    let p = err_from_is_err_and c.from_residual-in_err-prepared.result c.from_residual-in_err-prepared.ensures.1 in
    let same = ap has_strategy c.as_slice.ensures ∙ c.in_ok-names.ensures in
    let fails = subst (λ (has : List ℕ → Bool). Fails c.in_err-prepared.field-0.0 (named_result
    (header_names has c.args.purpose c.number-number.result c.text.result.now)
    (parse_header_job has c.args.purpose c.number-number.result c.text.result.now))) same c.in_err-prepared.ensures.exact in
    rw (p.1, p.2)
    (header_stops _ command c.in_ok-next.field-0 (g.S.Source.left c.args.source.now) (g.S.Source.faults c.args.source.now) c.args.input.now now
    c.in_err-prepared.field-0.0 c.args.purpose c.number-number.result c.text.result.now c.requires c.if-not-branch.false c.in_ok-next.ensures.gives asked
    c.number-number.ensures c.text.ensures fails)

pub returns-clause-line : goal.returns-clause-line
returns-clause-line g c = rw c.requires at (line_of _ _ _ c.if-not-branch.false c.in_ok-next.ensures.gives)

pub returns-clause-header : goal.returns-clause-header
returns-clause-header g c =
    let same = ap has_strategy c.as_slice.ensures ∙ c.in_ok-names.ensures in
    let job = c.in_ok-prepared.prepared.job in
    rw (c.number-number.ensures, c.text.ensures) at
    (subst (λ (has : List ℕ → Bool). parse_header_job has c.args.purpose c.number-number.result c.text.result.now ≡ Ok job) same
    (named_ok _ _ _ c.in_ok-prepared.ensures.exact))

pub returns-clause-names : goal.returns-clause-names
returns-clause-names g c =
    let same = ap has_strategy c.as_slice.ensures ∙ c.in_ok-names.ensures in
    let job = c.in_ok-prepared.prepared.job in
    rw (c.number-number.ensures, c.text.ensures) at
    (subst (λ (has : List ℕ → Bool). job.names ≡ header_names has c.args.purpose c.number-number.result c.text.result.now) same
    c.in_ok-prepared.ensures.names)

pub returns-clause-strategies : goal.returns-clause-strategies
returns-clause-strategies g c =
    let same = ap has_strategy c.as_slice.ensures ∙ c.in_ok-names.ensures in
    subst (λ (has : List ℕ → Bool). HoldsEach has c.in_ok-prepared.prepared.job.roles) same c.in_ok-prepared.ensures.strategies
