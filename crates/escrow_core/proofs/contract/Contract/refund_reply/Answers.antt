use Rattle.std.proofs.Common.{◌≡◌, ◌∙◌, ℕ, Bool, false, not, List, sym, ap, eq-eqb, get_or, Option, Some, None, is_none, is_some, length, refl}
use Rattle.std.specs.List.{position_from, list_all, range_with_len}
use Rattle.escrow_core.specs.declared.terms.Terms.{Terms}
use Rattle.escrow_core.specs.Terms.{refund_expiry}
use Rattle.escrow_core.proofs.Opened.{open_test}
use Rattle.escrow_core.proofs.Rows.{nothing_locked, not_expired, has_expired}
use Rattle.escrow_core.proofs.contract.Contract.refund_reply.Goals as goal

-- whether every lock is open, by the least closed one
tested : (leaders : ℕ) (bs shown : List Bool) → length bs ≡ leaders → shown ≡ bs
    → list_all (λ i. get_or bs i false) (range_with_len 0 leaders) ≡ is_none (position_from not 0 shown)
tested leaders bs shown n e =
    ap (λ (k : ℕ). list_all (λ i. get_or bs i false) (range_with_len 0 k)) (sym n) ∙ open_test bs
    ∙ ap (λ (xs : List Bool). is_none (position_from not 0 xs)) (sym e)

is_none-not : (o : Option ℕ) → is_none o ≡ not (is_some o)
is_none-not None = refl
is_none-not (Some i) = refl

pub returns-then-is_none : goal.returns-then-is_none
returns-then-is_none c =
    nothing_locked _ _ _ _ _ c.if-is_settled.ensures (eq-eqb _ _ (c.if-sender-party_id.false ∙ c.party_id.ensures ∙ c.requires.of_the_deal.from))
    (tested _ c.args.self.now.opened c.opened.result.now c.requires.of_the_deal.opened c.opened.ensures.opened
    ∙ ap is_none (sym c.first_closed.ensures.exact) ∙ is_none-not c.first_closed.result ∙ ap not c.if-is_none.ensures)

pub returns-then-height-first : goal.returns-then-height-first
returns-then-height-first c =
    not_expired _ _ _ _ _ _ c.if-is_settled.ensures (eq-eqb _ _ (c.if-sender-party_id.false ∙ c.party_id.ensures ∙ c.requires.of_the_deal.from))
    (tested _ c.args.self.now.opened c.opened.result.now c.requires.of_the_deal.opened c.opened.ensures.opened
    ∙ ap is_none (sym c.first_closed.ensures.exact) ∙ is_none-not c.first_closed.result ∙ ap not c.if-is_none.ensures)
    (c.refund_expiry-first.ensures.exact
    ∙ ap (λ (a : ℕ). refund_expiry c.args.deal.now a c.terms.result.now (λ i. get_or c.opened-2.result.now i false)) c.arc.ensures
    ∙ ap (λ (t : Terms). refund_expiry c.args.deal.now c.args.self.now.arc t (λ i. get_or c.opened-2.result.now i false)) c.terms.ensures
    ∙ ap (λ (bs : List Bool). refund_expiry c.args.deal.now c.args.self.now.arc c.args.self.now.terms (λ i. get_or bs i false)) c.opened-2.ensures.opened)
    c.if-height-first.true

pub returns : goal.returns
returns c =
    has_expired _ _ _ _ c.refund_expiry-first.result _ c.if-is_settled.ensures (eq-eqb _ _ (c.if-sender-party_id.false ∙ c.party_id.ensures
    ∙ c.requires.of_the_deal.from))
    (tested _ c.args.self.now.opened c.opened.result.now c.requires.of_the_deal.opened c.opened.ensures.opened
    ∙ ap is_none (sym c.first_closed.ensures.exact) ∙ is_none-not c.first_closed.result ∙ ap not c.if-is_none.ensures)
    (c.refund_expiry-first.ensures.exact
    ∙ ap (λ (a : ℕ). refund_expiry c.args.deal.now a c.terms.result.now (λ i. get_or c.opened-2.result.now i false)) c.arc.ensures
    ∙ ap (λ (t : Terms). refund_expiry c.args.deal.now c.args.self.now.arc t (λ i. get_or c.opened-2.result.now i false)) c.terms.ensures
    ∙ ap (λ (bs : List Bool). refund_expiry c.args.deal.now c.args.self.now.arc c.args.self.now.terms (λ i. get_or bs i false)) c.opened-2.ensures.opened)
    c.if-height-first.false
