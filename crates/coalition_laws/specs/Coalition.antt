-- What a coalition gains by leaving the protocol (Herlihy 2018, section 3): nothing, as long as
-- nobody outside it ends underwater.
use Rattle.std.specs.Prelude.{◌≡◌, ◌≢◌, ◌⊎◌, ℕ, ◌<◌, ◌==◌, Bool, true, false, not, ◌&&◌, List, length}
use Rattle.std.specs.List.{list_any, list_all}
use Rattle.swap_base.specs.Lists.{IsElement}
use Rattle.swap_digraph.specs.Graph.{leaving, entering, IsConnectingPath}
use Rattle.swap_digraph.specs.Deal.{party, counterparty}
use Rattle.swap_digraph.specs.declared.deal.Deal.{Deal}
use Rattle.ledger_core.specs.Book.{Histories, IsLegalBook}
use Rattle.swap_rules.specs.declared.finding.Finding.{Finding}
use Rattle.swap_rules.specs.declared.outcome.Outcome.TheVariants.{NoDeal, FreeRide, Underwater, Deal as WholeDeal, Discount}
use Rattle.swap_rules.specs.Accepted.{IsAccepted}
use Rattle.swap_rules.specs.Findings.{findings}
use Rattle.swap_rules.specs.Party.{is_triggered}
use Rattle.swap_rules.specs.Outcome.{is_got, outcome}
use Rattle.swap_rules.specs.Laws.{names_party}
use Rattle.swap_rules.specs.Walking.{HasLost, endangers}

-- The words.

-- A coalition is any set of parties, said by a test: c v says that v is one of them. Nothing is
-- asked of what they do. The parties that the test leaves out are outside the coalition.
abbrev pub Coalition : Type 0
Coalition = ℕ → Bool

-- the coalition of v alone
abbrev pub only : ℕ → Coalition
only v = λ w. w == v

-- arc a leads from outside the coalition into it
abbrev pub leads_in : Deal → Coalition → ℕ → Bool
leads_in d c a = not (c (party d a)) && c (counterparty d a)

-- arc a leads from the coalition to outside it
abbrev pub leads_out : Deal → Coalition → ℕ → Bool
leads_out d c a = c (party d a) && not (c (counterparty d a))

-- every vertex of the list is outside the coalition
abbrev pub are_outside : Coalition → List ℕ → Bool
are_outside c p = list_all (λ v. not (c v)) p

-- no party outside the coalition ends underwater: each lost nothing, or got all
abbrev pub NoOtherIsUnderwater : Deal → Histories → Coalition → Type 0
NoOtherIsUnderwater d b c = (v : ℕ) → v < d.graph.n → c v ≡ false → outcome d b v ≢ Underwater

-- every arc into the coalition is triggered, so that it can be claimed
abbrev pub IsAllTriggered : Deal → Histories → Coalition → Type 0
IsAllTriggered d b c = (a : ℕ) → a < length d.graph.arcs → leads_in d c a ≡ true → is_triggered d b a ≡ true

-- An arc out of the coalition that is got: the one outside was paid under the agreed terms.
pub record HasPaid (d : Deal) (b : Histories) (c : Coalition) : Type 0 where
  pub arc : ℕ
  pub below : arc < length d.graph.arcs
  pub out : leads_out d c arc ≡ true
  pub got : is_got d b arc ≡ true

-- What the parties of a coalition don't gain, taken as one party: it ends neither with a free ride
-- nor with a discount. Its units are counted by arcs into it and out of it, and not by the arcs
-- between its own.
pub record GainsNothing (d : Deal) (b : Histories) (c : Coalition) : Type 0 where
  -- no free ride: if an arc into the coalition is triggered, whether or not it was claimed, then
  -- the coalition has paid on an arc out of it
  pub no_free_ride : (a : ℕ) → a < length d.graph.arcs → leads_in d c a ≡ true → is_triggered d b a ≡ true → HasPaid d b c
  -- no discount: if every arc into the coalition is triggered, then it has paid on every arc out of
  -- it
  pub no_discount : IsAllTriggered d b c → (a : ℕ) → a < length d.graph.arcs → leads_out d c a ≡ true → is_got d b a ≡ true

-- The laws of a book.

-- in a legal book of an accepted deal no coalition gains, as long as nobody outside it is
-- underwater
abbrev pub CoalitionsGainNothing : Type 0
CoalitionsGainNothing = (d : Deal) (b : Histories) (c : Coalition) → IsAccepted d → IsLegalBook d b → NoOtherIsUnderwater d b c → GainsNothing d b c

-- Whoever stands before a payer got all. Take a party u outside the coalition that has lost an arc,
-- and a path of parties outside it that leads from w to u: every arc that enters w is got, those
-- from the coalition as those from others. The path may be u alone.
abbrev pub PayersArePaid : Type 0
PayersArePaid =
    (d : Deal) (b : Histories) (c : Coalition) (w u : ℕ) (p : List ℕ) → IsAccepted d → IsLegalBook d b → NoOtherIsUnderwater d b c
    → IsConnectingPath d.graph w u p → are_outside c p ≡ true → HasLost d b u → (a : ℕ) → IsElement a (entering d.graph w) → is_got d b a ≡ true

-- Whoever stands behind one that didn't get all has lost nothing. Take a party w outside the
-- coalition with an entering arc that isn't got, and a path of parties outside it that leads from w
-- to u: no arc that leaves u is triggered, none to the coalition either. The path may be w alone.
abbrev pub ReceiversPay : Type 0
ReceiversPay =
    (d : Deal) (b : Histories) (c : Coalition) (w u : ℕ) (p : List ℕ) (a : ℕ) → IsAccepted d → IsLegalBook d b → NoOtherIsUnderwater d b c
    → IsConnectingPath d.graph w u p → are_outside c p ≡ true → IsElement a (entering d.graph w) → is_got d b a ≡ false
    → (o : ℕ) → IsElement o (leaving d.graph u) → is_triggered d b o ≡ false

-- what is got was triggered: a claim is accepted only where every lock is opened
abbrev pub GotIsTriggered : Type 0
GotIsTriggered = (d : Deal) (b : Histories) (a : ℕ) → IsLegalBook d b → a < length d.graph.arcs → is_got d b a ≡ true → is_triggered d b a ≡ true

-- where nobody else is underwater, v ends with no deal, with the whole deal or underwater
abbrev pub LonersGainNothing : Type 0
LonersGainNothing =
    (d : Deal) (b : Histories) (v : ℕ) → IsAccepted d → IsLegalBook d b → NoOtherIsUnderwater d b (only v)
    → (outcome d b v ≢ FreeRide) × (outcome d b v ≢ Discount)

-- where nobody is underwater, either all end with no deal or all with the whole deal
abbrev pub AllOrNothing : Type 0
AllOrNothing =
    (d : Deal) (b : Histories) → IsAccepted d → IsLegalBook d b → ((v : ℕ) → v < d.graph.n → outcome d b v ≢ Underwater)
    → ((v : ℕ) → v < d.graph.n → outcome d b v ≡ NoDeal) ⊎ ((v : ℕ) → v < d.graph.n → outcome d b v ≡ WholeDeal)

-- The same by what is found.

-- A party that conforms, with no finding that endangers it and none in its name: it was neither in
-- breach, nor late with an unlock or a claim, nor forged, and every ledger that enters it has ended.
pub record IsUnharmed (d : Deal) (conforming : ℕ → Bool) (found : List Finding) (v : ℕ) : Type 0 where
  pub conforms : conforming v ≡ true
  pub clear : list_any (endangers d v) found ≡ false
  pub unforged : list_any (names_party d v) found ≡ false

-- every party outside the coalition is unharmed: all that don't conform are in it
abbrev pub OthersAreUnharmed : Deal → (ℕ → Bool) → List Finding → Coalition → Type 0
OthersAreUnharmed d conforming found c = (v : ℕ) → v < d.graph.n → c v ≡ false → IsUnharmed d conforming found v

-- nobody gains by cheating together with others, unless one who keeps to the protocol was harmed
abbrev pub CheatersGainNothing : Type 0
CheatersGainNothing =
    (d : Deal) (conforming : ℕ → Bool) (b : Histories) (c : Coalition) → IsAccepted d → IsLegalBook d b
    → OthersAreUnharmed d conforming (findings d conforming b) c → GainsNothing d b c

-- nor alone
abbrev pub CheaterGainsNothing : Type 0
CheaterGainsNothing =
    (d : Deal) (conforming : ℕ → Bool) (b : Histories) (v : ℕ) → IsAccepted d → IsLegalBook d b
    → OthersAreUnharmed d conforming (findings d conforming b) (only v) → (outcome d b v ≢ FreeRide) × (outcome d b v ≢ Discount)

-- where all conform and none is harmed, however late they published, all trade or none does
abbrev pub UnharmedTradeAllOrNothing : Type 0
UnharmedTradeAllOrNothing =
    (d : Deal) (conforming : ℕ → Bool) (b : Histories) → IsAccepted d → IsLegalBook d b
    → ((v : ℕ) → v < d.graph.n → IsUnharmed d conforming (findings d conforming b) v)
    → ((v : ℕ) → v < d.graph.n → outcome d b v ≡ NoDeal) ⊎ ((v : ℕ) → v < d.graph.n → outcome d b v ≡ WholeDeal)
