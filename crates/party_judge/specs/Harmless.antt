-- What a late publish that is said harmless has to do with what is useful.
use Rattle.std.specs.Prelude.{◌≡◌, ℕ, ◌≤◌, nat_le, Bool, true, false, filter, set, Option}
use Rattle.swap_base.specs.Lists.{IsElement}
use Rattle.swap_digraph.specs.declared.deal.Deal.{Deal}
use Rattle.hashkey_path.specs.declared.hashkey.Hashkey.{Hashkey}
use Rattle.escrow_core.specs.Terms.{stated_terms}
use Rattle.ledger_core.specs.declared.entry.Call.TheVariants.{Publish}
use Rattle.ledger_core.specs.Book.{Histories, history, IsLegalBook}
use Rattle.swap_rules.specs.declared.finding.Finding.{Finding}
use Rattle.swap_rules.specs.declared.finding.Finding.TheVariants.{Late}
use Rattle.swap_rules.specs.declared.finding.Rule.TheVariants.{Publish as ToPublish}
use Rattle.swap_rules.specs.Accepted.{IsAccepted}
use Rattle.swap_rules.specs.Due.{Wallet, Action, due}
use Rattle.swap_rules.specs.Findings.{findings}
use Rattle.swap_rules.specs.Useful.{useful, IsHarmful}
use Rattle.outcome_rules.specs.declared.report.Report.{Report}
use Rattle.party_judge.specs.Marks.{is_harmless}

-- the publish of the correct terms on arc a
abbrev pub publish_on : Deal → ℕ → Action
publish_on d a = record { arc = a; call = Publish (stated_terms d a) }

-- the book, with arc a's ledger as it stood at that height
abbrev pub up_to : Histories → ℕ → ℕ → Histories
up_to b a last = set b a (filter (λ e. nat_le e.height last) (history b a))

-- What is said of v's late publish on arc a, where `last` is the last height at which it was in time.
pub record IsWeighed (d : Deal) (b : Histories) (v a last : ℕ) : Type 0 where
  -- It was due when the arc's ledger stood there.
  pub was_due : (w : Wallet) (signed : ℕ → Option Hashkey) → IsElement (publish_on d a) (due d v w signed (up_to b a last))
  -- Where it counts, it is useful over whatever is known, wherever it is due and lands at that height
  -- at the latest.
  pub counts : is_harmless d (Late v ToPublish a last) ≡ false → (at : ℕ → ℕ) (w : Wallet) (signed : ℕ → Option Hashkey) (k : Histories) → at a ≤ last
      → IsElement (publish_on d a) (due d v w signed k) → IsElement (publish_on d a) (useful d v at w signed k)
  -- Where it is harmless, it isn't useful over anything that is known, where it lands at that height
  -- or above: it can only hurt v.
  pub harmless : is_harmless d (Late v ToPublish a last) ≡ true → (at : ℕ → ℕ) (w : Wallet) (signed : ℕ → Option Hashkey) (k : Histories) → last ≤ at a
      → ¬ IsElement (publish_on d a) (useful d v at w signed k) × IsHarmful d v at w signed k (publish_on d a)

-- each late publish that a report tells is weighed
abbrev pub AreWeighed : Deal → Histories → Report → Type 0
AreWeighed d b r = (v a last : ℕ) → IsElement (Late v ToPublish a last) r.findings → IsWeighed d b v a last

-- Each late publish that is found is harmless exactly where it could only hurt.
abbrev pub HarmlessIsUseless : Type 0
HarmlessIsUseless =
    (d : Deal) (conforming : ℕ → Bool) (b : Histories) (v a last : ℕ) → IsAccepted d → IsLegalBook d b
    → IsElement (Late v ToPublish a last) (findings d conforming b) → IsWeighed d b v a last

-- a finding that is harmless is a late publish
abbrev pub OnlyPublishesAreHarmless : Type 0
OnlyPublishesAreHarmless =
    (d : Deal) (f : Finding) → is_harmless d f ≡ true → (v : ℕ) × (a : ℕ) × (last : ℕ) × (f ≡ Late v ToPublish a last)
