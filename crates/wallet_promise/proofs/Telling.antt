-- A history and a book as they are told: what stands in them is what stood there before.
use Rattle.std.proofs.Common.{◌≡◌, ℕ, Bool, false, cond, ◌||◌, List, [], Option, Some, None, refl, ap, ◌∙◌}
use Rattle.std.specs.List.{flat_map}
use Rattle.std.proofs.Math.ListN.{get_or-map as get_or-map_at}
use Rattle.swap_base.proofs.Lists.{or_neither}
use Rattle.ledger_core.specs.declared.entry.Call.{Call}
use Rattle.ledger_core.specs.declared.entry.Call.TheVariants.{Publish, Unlock, Claim, Refund, Transfer}
use Rattle.ledger_core.specs.declared.entry.What.{What}
use Rattle.ledger_core.specs.declared.entry.What.TheVariants.{Call as Made, Tick}
use Rattle.ledger_core.specs.declared.entry.Entry.{Entry}
use Rattle.ledger_core.specs.History.{entry_ticks, made_call, accepted, publication, opening, settling, is_sender}
use Rattle.ledger_core.specs.Book.{Histories, history}
use Rattle.swap_rules.specs.Party.{pick_call}
use Rattle.swap_rules.specs.Rest.{is_ticking}
use Rattle.wallet_promise.specs.WithoutNoise.{is_of_contract, is_told, telling, tellings, SaysTheSame, SayTheSame}
use Rattle.wallet_promise.proofs.Filters.{first_given_answer-filter, list_any-filter, sum_by-filter, flat-filter}

-- What noise is.
pub record IsNoise (v : ℕ) (e : Entry) : Type 0 where
  pub call : is_ticking e.what ≡ false
  pub others : is_sender v e.sender ≡ false
  pub idle : is_of_contract (accepted e) ≡ false

pub noise : (v : ℕ) (e : Entry) → is_told v e ≡ false → IsNoise v e
noise v e t =
    let one = or_neither (is_ticking e.what || is_sender v e.sender) (is_of_contract (accepted e)) t in
    let two = or_neither (is_ticking e.what) (is_sender v e.sender) one.0 in
    record { call = two.0; others = two.1; idle = one.1 }

pub no_ticks : (w : What) → is_ticking w ≡ false → entry_ticks w ≡ 0
no_ticks (Made c) e = refl
no_ticks (Tick k) e = absurd (cc e)

pub no_publication : (t : ℕ) (o : Option Call) → is_of_contract o ≡ false → publication t o ≡ None
no_publication t None e = refl
no_publication t (Some (Publish terms)) e = absurd (cc e)
no_publication t (Some (Unlock key)) e = refl
no_publication t (Some Claim) e = refl
no_publication t (Some Refund) e = refl
no_publication t (Some (Transfer to units)) e = refl

pub no_opening : (i t : ℕ) (o : Option Call) → is_of_contract o ≡ false → opening i t o ≡ None
no_opening i t None e = refl
no_opening i t (Some (Publish terms)) e = refl
no_opening i t (Some (Unlock key)) e = absurd (cc e)
no_opening i t (Some Claim) e = refl
no_opening i t (Some Refund) e = refl
no_opening i t (Some (Transfer to units)) e = refl

pub no_settling : (o : Option Call) → is_of_contract o ≡ false → settling o ≡ None
no_settling None e = refl
no_settling (Some (Publish terms)) e = refl
no_settling (Some (Unlock key)) e = refl
no_settling (Some Claim) e = absurd (cc e)
no_settling (Some Refund) e = absurd (cc e)
no_settling (Some (Transfer to units)) e = refl

pub no_call : (v : ℕ) (e : Entry) → is_sender v e.sender ≡ false → pick_call v e ≡ None
no_call v e n = ap (λ b. cond b (made_call e.what) None) n

-- a test that only unlocks pass is passed by no noise
pub no_unlock : (test : Option Call → Bool) → test None ≡ false → ((to units : ℕ) → test (Some (Transfer to units)) ≡ false) → (o : Option Call)
    → is_of_contract o ≡ false → test o ≡ false
no_unlock test n t None e = n
no_unlock test n t (Some (Publish terms)) e = absurd (cc e)
no_unlock test n t (Some (Unlock key)) e = absurd (cc e)
no_unlock test n t (Some Claim) e = absurd (cc e)
no_unlock test n t (Some Refund) e = absurd (cc e)
no_unlock test n t (Some (Transfer to units)) e = t to units

pub says_telling : (v : ℕ) (h : List Entry) → SaysTheSame v (telling v h) h
says_telling v h = record {
  height = sum_by-filter (is_told v) (λ e. entry_ticks e.what) h (λ e t. no_ticks e.what (noise v e t).call);
  published =
      first_given_answer-filter (is_told v) (λ e. publication e.height (accepted e)) h (λ e t. no_publication e.height (accepted e) (noise v e t).idle);
  opened =
      λ i. first_given_answer-filter (is_told v) (λ e. opening i e.height (accepted e)) h (λ e t. no_opening i e.height (accepted e) (noise v e t).idle);
  settled = first_given_answer-filter (is_told v) (λ e. settling (accepted e)) h (λ e t. no_settling (accepted e) (noise v e t).idle);
  calls =
      λ test n. list_any-filter (is_told v) (λ e. test (pick_call v e)) h (λ e t. ap test (no_call v e (noise v e t).others) ∙ n);
}

-- Books.

pub history_is : (v : ℕ) (b : Histories) (a : ℕ) → history (tellings v b) a ≡ telling v (history b a)
history_is v b a = get_or-map_at (telling v) b a []

pub say_tellings : (v : ℕ) (b : Histories) → SayTheSame v (tellings v b) b
say_tellings v b a = rw (history_is v b a) (says_telling v (history b a))

pub whole_is : (v : ℕ) (b : Histories) → flat_map (λ h. h) (tellings v b) ≡ telling v (flat_map (λ h. h) b)
whole_is v b = flat-filter (is_told v) b
