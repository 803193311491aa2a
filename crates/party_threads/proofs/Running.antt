-- Rounds, one after another.
use Rattle.std.proofs.Common.{◌≡◌, ◌≢◌, ◌⊎◌, ℕ, zero, suc, ◌+◌, ◌*◌, ◌/◌, ◌<◌, ◌≤◌, ◌==◌, [], ◌∷◌, length, length-append, refl, sym, ap, ◌∙◌, subst, inl, inr}
use Rattle.std.proofs.Common.{arith, if◌then◌else◌, eq-eqb, ne_eqb, div-mul-le_self, mul-le-mul_left, mul-le-mul_right}
use Rattle.swap_base.proofs.Lists.{in_range}
use Rattle.swap_rules.proofs.Prefixes.{same_or_not}
use Rattle.swap_digraph.specs.declared.deal.Deal.{Deal}
use Rattle.escrow_core.specs.declared.reply.Reply.TheVariants.{Accepted}
use Rattle.ledger_core.specs.History.{height}
use Rattle.ledger_core.specs.Ledger.{tick_entry}
use Rattle.ledger_core.specs.Book.{history}
use Rattle.ledger_shared.specs.Value.{ticks_in_order}
use Rattle.swap_run.specs.Run.{Cast, State, start}
use Rattle.swap_run.specs.Laws.{IsReadyCast}
use Rattle.swap_run.specs.Fair.{the_horizon}
use Rattle.swap_run.proofs.Ticks.{horizon_low}
use Rattle.swap_world.specs.Gone.{MayGive}
use Rattle.party_threads.specs.Race.{needed_rounds, IsRound, IsRaced, ticks_of_rounds}
use Rattle.party_threads.specs.Standing.{AllHaveRoom}
use Rattle.party_threads.proofs.Racing.{ticked_after, following_level}

pub no_rounds : (gives : MayGive) (c : Cast) (ticks rounds : ℕ) (s : State) → rounds ≡ 0 → s ≡ start c → IsRaced gives c ticks rounds s
no_rounds gives c ticks rounds s none e = record { states = λ r. s; first = e; last = refl; each = λ r lt. absurd (omega (arith, lt, none)) }

abbrev later : (ℕ → State) → ℕ → State → ℕ → State
later f rounds new r = if r == rounds + 1 then new else f r

then_new : (f : ℕ → State) (rounds r : ℕ) (new : State) → r ≡ rounds + 1 → later f rounds new r ≡ new
then_new f rounds r new is = ap (λ b. if b then new else f r) (eq-eqb r (rounds + 1) is)

then_old : (f : ℕ → State) (rounds r : ℕ) (new : State) → r ≢ rounds + 1 → later f rounds new r ≡ f r
then_old f rounds r new other = ap (λ b. if b then new else f r) (ne_eqb r (rounds + 1) other)

module _ (gives : MayGive) (c : Cast) (ticks rounds : ℕ) (mid new : State) (k : IsRaced gives c ticks rounds mid) (step : IsRound gives c ticks mid new) where
  one_more : (r : ℕ) → r < rounds + 1 → (r ≡ rounds) ⊎ (r ≢ rounds) → IsRound gives c ticks (later k.states rounds new r) (later k.states rounds new (r + 1))
  one_more r lt (inl e) =
      let not_last : r ≢ rounds + 1 = λ q. omega (arith, e, q) in
      let next : r + 1 ≡ rounds + 1 = ap (λ m. m + 1) e in
      subst (λ (w : State × State). IsRound gives c ticks w.0 w.1)
      (λ i. (sym (then_old k.states rounds r new not_last ∙ (ap k.states e ∙ k.last)) i, sym (then_new k.states rounds (r + 1) new next) i)) step
  one_more r lt (inr ne) =
      let not_last : r ≢ rounds + 1 = λ q. omega (arith, lt, q) in
      let not_next : r + 1 ≢ rounds + 1 = λ q. ne (omega (arith, q)) in
      subst (λ (w : State × State). IsRound gives c ticks w.0 w.1)
      (λ i. (sym (then_old k.states rounds r new not_last) i, sym (then_old k.states rounds (r + 1) new not_next) i)) (k.each r (omega (arith, lt, ne)))

  pub one_round_more : IsRaced gives c ticks (rounds + 1) new
  one_round_more = record {
    states = later k.states rounds new;
    first = then_old k.states rounds 0 new (λ q. omega (arith, q)) ∙ k.first;
    last = then_new k.states rounds (rounds + 1) new refl;
    each = λ r lt. one_more r lt (same_or_not r rounds);
  }

length_of_rounds : (ticks r : ℕ) → length (ticks_of_rounds ticks r) ≡ r
length_of_rounds ticks zero = refl
length_of_rounds ticks (suc r) =
    let n = length-append (ticks_of_rounds ticks r) (tick_entry ticks (suc r * ticks) Accepted ∷ []) in
    let m = length_of_rounds ticks r in
    omega (arith, n, m)

-- rounds that don't pass the horizon yet end below it
few_rounds : (d : Deal) (ticks r : ℕ) → 1 ≤ ticks → r < needed_rounds d ticks → (r ≤ r * ticks) × (r * ticks ≤ the_horizon d)
few_rounds d ticks r some lt =
    let low : r ≤ the_horizon d / ticks = omega (arith, lt) in
    let whole : the_horizon d / ticks * ticks ≤ the_horizon d = div-mul-le_self (the_horizon d) ticks in
    let more : r * ticks ≤ the_horizon d / ticks * ticks = mul-le-mul_right ticks low in
    let own : r * 1 ≤ r * ticks = mul-le-mul_left r some in
    (omega (arith, own), omega (arith, more, whole))

-- before each round the ledgers have room for its tick
pub room_left : (gives : MayGive) (c : Cast) (ticks r : ℕ) (s : State) → IsReadyCast c → 1 ≤ ticks → ticks ≤ 1000 → r < needed_rounds c.deal ticks
    → IsRaced gives c ticks r s
    → AllHaveRoom ticks c.deal s.book
room_left gives c ticks r s ready some below lt raced a la =
    let few = few_rounds c.deal ticks r some lt in
    let least : r ≤ r * ticks = few.0 in
    let most : r * ticks ≤ the_horizon c.deal = few.1 in
    let low : the_horizon c.deal ≤ 14000 = horizon_low c.deal ready.accepted in
    let level : height (history s.book a) ≡ r * ticks = following_level gives c ticks r s ready some raced a (in_range a (length c.deal.graph.arcs) la) in
    let count : length (ticks_in_order (history s.book a)) ≡ r =
    ap length (ticked_after gives c ticks r s ready some raced a (in_range a (length c.deal.graph.arcs) la)) ∙ length_of_rounds ticks r in
    record { few = omega (arith, count, least, most, low); low = omega (arith, level, most, low, below) }
