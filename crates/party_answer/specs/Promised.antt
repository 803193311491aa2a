-- What holds of an answer that was given.
use Rattle.std.specs.Prelude.{◌≡◌, ◌≢◌, ◌⊎◌, ◌==◌, ◌<◌, ◌≤◌, ◌++◌, ℕ, true, false, List, [], codes, length, set, Option, Some, None, Result, Ok, Err}
use Rattle.swap_base.specs.declared.fault.Fault.{Fault}
use Rattle.swap_base.specs.Fault.{Gives}
use Rattle.swap_base.specs.Lists.{IsElement}
use Rattle.time_bounds.specs.Times as times
use Rattle.swap_digraph.specs.Graph.{is_listed, leaving}
use Rattle.hashkey_path.specs.declared.hashkey.Hashkey.{Hashkey}
use Rattle.escrow_core.specs.declared.terms.Terms.{Terms}
use Rattle.escrow_core.specs.Terms.{stated_terms}
use Rattle.ledger_core.specs.declared.entry.Call.TheVariants.{Publish, Unlock, Claim, Refund}
use Rattle.ledger_core.specs.declared.entry.Entry.{Entry}
use Rattle.ledger_core.specs.History.{height}
use Rattle.ledger_core.specs.Book.{Histories, history, IsLegalBook}
use Rattle.swap_rules.specs.Accepted.{IsAccepted}
use Rattle.swap_rules.specs.Due.{Action}
use Rattle.swap_rules.specs.Useful.{IsHarmful}
use Rattle.swap_rules.specs.Machine.{IsWallet}
use Rattle.swap_rules.specs.Rest.{are_ticks, rest_deadline}
use Rattle.wallet_promise.specs.Life.{Asking}
use Rattle.wallet_promise.specs.Answers.{MayGo, MayKeep, was_sent}
use Rattle.wallet_promise.specs.WithoutNoise.{SayEnough}
use Rattle.answer_rules.specs.Heights.{HasHeight}
use Rattle.answer_rules.specs.Finished.{are_finished, ContinuesWithoutParty}
use Rattle.answer_rules.specs.Stopped.{is_stopped_call, unstopped}
use Rattle.answer_rules.specs.Laws.{IsLastHeight}
use Rattle.party_notes.specs.declared.reason.AnswerReason.{AnswerReason}
use Rattle.party_notes.specs.declared.reason.AnswerReason.TheVariants.{NotAgreed}
use Rattle.party_answer.specs.declared.given.Answer.{Answer}
use Rattle.party_notes.specs.Asked.{PartyQuestion, SaidState, asked, known, text_said, told}
use Rattle.useful_calls.specs.Landing.{may_land}
use Rattle.party_notes.specs.Kept.{with_stop}
use Rattle.useful_calls.specs.Actions.{is_lock_stopped}
use Rattle.party_answer.specs.Stale.{is_any, is_stale, waits_for}
use Rattle.party_answer.specs.declared.timed.Timed.{Timed}
use Rattle.party_answer.specs.Lines.{Present, KeepFirst, timed, untimed}
use Rattle.party_answer.specs.Text.{answerable_landing, answered, answered_calls, due_text, end_text, kept_keys, answered_lines, landing_calls, lands_at, own_wallet, question_answer}
use Rattle.party_answer.specs.Text.{stale, stopped, useful_actions, useful_landing, was_published}

-- what the wallet hands over
abbrev pub own_asking : PartyQuestion → Asking
own_asking q = record { known = told q; kept = kept_keys q }

-- the call may go out
abbrev pub MayBeMade : PartyQuestion → Action → Type 0
MayBeMade q x = MayGo q.deal q.me (own_wallet q) (own_asking q) x

-- the hashkey may be kept
abbrev pub MayBeKept : PartyQuestion → Hashkey → Type 0
MayBeKept q key = MayKeep q.deal q.me (own_wallet q) (own_asking q) key

-- Why a call is left out: it can only hurt the party, it is an unlock for a stopped lock, or it
-- waits for a stale ledger.

abbrev pub CanOnlyHurt : PartyQuestion → Action → Type 0
CanOnlyHurt q x = IsHarmful q.deal q.me (lands_at q) (own_wallet q) (kept_keys q) (known q) x

abbrev pub IsLockStopped : PartyQuestion → Action → Type 0
IsLockStopped q x = is_stopped_call (is_lock_stopped (stopped q)) x.call ≡ true

abbrev pub WaitsForLedger : PartyQuestion → Action → Type 0
WaitsForLedger q x = waits_for (stale q) x ≡ true

abbrev pub IsLeftOutAction : PartyQuestion → Action → Type 0
IsLeftOutAction q x = CanOnlyHurt q x ⊎ (IsLockStopped q x ⊎ WaitsForLedger q x)

-- the height isn't above that at which rest ends, if it ends at one
abbrev pub IsWithinRest : Option ℕ → ℕ → Type 0
IsWithinRest None at = Unit {0}
IsWithinRest (Some end) at = at ≤ end

-- the ledger of arc a with more entries
abbrev pub with_more : PartyQuestion → ℕ → List Entry → Histories
with_more q a more = set (known q) a (history (known q) a ++ more)

-- the publish has the correct terms, and lands by the height by which contracts open
abbrev pub OpensInTime : PartyQuestion → Timed → Terms → Type 0
OpensInTime q t terms = (terms ≡ stated_terms q.deal t.arc) × (lands_at q t.arc ≤ times.opening_deadline q.deal.start q.deal.delta q.deal.bound)

-- No call is answered, no hashkey has to be kept, no publish that was sent may land, and no ledger
-- is stale.
pub record IsNothingAnswered (q : PartyQuestion) : Type 0 where
  pub calls : answered q ≡ []
  pub landing : landing_calls q ≡ []
  pub shown : stale q ≡ []

-- up to which height the contract accepts the hashkey of an unlock
abbrev pub HasLastHeight : PartyQuestion → Timed → Hashkey → Type 0
HasLastHeight q t key = (last : ℕ) × (t.until ≡ Some last) × IsLastHeight q.deal (known q) q.me t.arc key last

-- a call with its heights
abbrev pub own_timed : PartyQuestion → Action → Timed
own_timed q x = timed q.deal (known q) q.me x

-- the ledger of arc a is stale: it is told lower than it was seen
abbrev pub IsStale : PartyQuestion → ℕ → Type 0
IsStale q a = IsElement a (stale q)

-- the call is a claim or a refund
abbrev pub Settles : Action → Type 0
Settles x = (x.call ≡ Claim) ⊎ (x.call ≡ Refund)

-- Nothing is signed or published because of what a stale ledger doesn't show.
pub record TrustsNoStaleLedger (q : PartyQuestion) : Type 0 where
  -- a ledger next to the party that is told below a height at which it was seen is stale
  pub told : (a : ℕ) → a < length q.deal.graph.arcs → is_stale q.deal q.me (known q) q.kept.seen a ≡ true → IsStale q a
  -- where a ledger is stale no publish is answered, and no hashkey is signed
  pub publishes : (a : ℕ) (t : Timed) (terms : Terms) → IsStale q a → IsElement (Present t) (answered_lines q) → t.call ≢ Publish terms
  pub signs : (a : ℕ) (t : Timed) (key : Hashkey) → IsStale q a → ¬ IsElement (KeepFirst t key) (answered_lines q)
  -- no call is answered on a stale ledger
  pub calls : (t : Timed) → IsElement (Present t) (answered_lines q) → ¬ IsStale q t.arc
  -- each claim and each refund on another ledger that may go out is answered
  pub settles : (x : Action) → MayBeMade q x → Settles x → ¬ IsStale q x.arc → IsElement (Present (own_timed q x)) (answered_lines q)
  -- where a ledger is stale and nothing is answered, no more is said than that
  pub rests : (a : ℕ) → IsStale q a → answered_calls q ≡ [] → landing_calls q ≡ []
      → end_text (is_any (stale q)) q.deal (known q) q.me (answered_calls q) (landing_calls q) ≡ codes "wait\n"

-- the same question, where the notes of one more lock are torn or differ
abbrev pub with_torn_note : PartyQuestion → ℕ → PartyQuestion
with_torn_note q i = record q { kept = with_stop q.kept i }

-- Notes of a lock that are torn or differ stop that lock alone.
pub record StopsItsLock (q : PartyQuestion) : Type 0 where
  -- the lock is stopped, and no unlock for a stopped lock is answered
  pub torn : (i : ℕ) → is_listed i q.kept.stopped ≡ true → is_lock_stopped (stopped q) i ≡ true
  pub silent : (t : Timed) (key : Hashkey) → IsElement t (answered_calls q) → t.call ≡ Unlock key → is_lock_stopped (stopped q) key.lock ≡ false
  -- one more such lock takes away the unlocks for it, and leaves all other calls as they are
  pub others : (i : ℕ) → answered (with_torn_note q i) ≡ unstopped (λ j. i == j) (answered q)

-- The answer is that to what is asked: of an accepted deal, over ledgers that did what is told of
-- them, for a party whose seed it is.
pub record IsPromisedAnswer (asks : Result PartyQuestion AnswerReason) (answer : Answer) : Type 0 where
  pub question : PartyQuestion
  pub asked : asks ≡ Ok question
  pub is : answer ≡ question_answer question
  pub accepted : IsAccepted question.deal
  pub party : question.me < question.deal.graph.n
  pub wallet : IsWallet question.deal question.me (own_wallet question)
  pub legal : IsLegalBook question.deal (known question)
  -- each call in it may go out and is useful, and no publish in it was sent
  pub go : (t : Timed) → IsElement (Present t) (answered_lines question) → MayBeMade question (untimed t)
  pub once : (t : Timed) → IsElement (Present t) (answered_lines question) → was_sent (was_published question) (untimed t) ≡ false
  pub helps : (t : Timed) → IsElement (Present t) (answered_lines question) → IsElement (untimed t) (useful_actions question (known question))
  -- each publish in it has the correct terms, and lands by the height by which contracts open
  pub opens : (t : Timed) (terms : Terms) → IsElement (Present t) (answered_lines question) → t.call ≡ Publish terms → OpensInTime question t terms
  -- each hashkey in it may be kept
  pub keep : (t : Timed) (key : Hashkey) → IsElement (KeepFirst t key) (answered_lines question) → MayBeKept question key
  -- what is landing was sent, and no publish of the party is told there; and each of these is told
  pub landing : (t : Timed) → IsElement t (landing_calls question) → may_land question.kept.sent question.me (known question) t.arc ≡ true
  pub lands : (a : ℕ) → IsElement a (leaving question.deal.graph question.me) → may_land question.kept.sent question.me (known question) a ≡ true
      → (t : Timed) × IsElement t (landing_calls question) × (t.arc ≡ a)
  -- only four kinds of calls that may go out are left out: publishes that were sent, calls that
  -- can only hurt the party, unlocks for a stopped lock, and calls that wait for a stale ledger.
  -- For each other lock for which a hashkey may be kept it has such a hashkey.
  pub all : (x : Action) → MayBeMade question x → was_sent (was_published question) x ≡ false
      → IsElement (Present (own_timed question x)) (answered_lines question) ⊎ IsLeftOutAction question x
  pub each : (key : Hashkey) (may : MayBeKept question key)
      → ((t : Timed) × (other : Hashkey) × IsElement (KeepFirst t other) (answered_lines question) × (other.lock ≡ key.lock)) ⊎ IsLeftOutAction question (MayKeep.unlock may)
  -- notes of a lock that are torn or differ stop that lock alone
  pub alone : StopsItsLock question
  -- nothing is signed or published because of what a stale ledger doesn't show
  pub cautious : TrustsNoStaleLedger question
  -- where the told ledgers say enough of some histories, the same actions are useful over these, so
  -- noise may be left out
  pub heard : (at : ℕ → ℕ) (h : Histories) → SayEnough question.deal question.me (known question) h
      → useful_landing question at h ≡ useful_landing question at (known question)
  -- where nothing is useful, or nothing is answered and nothing may land, ticks of a ledger change
  -- nothing of that up to the height at which rest ends, though calls land higher then
  pub rest : (later : ℕ → ℕ) (a : ℕ) (more : List Entry) → useful_actions question (known question) ≡ [] → are_ticks more ≡ true
      → ((c : ℕ) → lands_at question c ≤ later c)
      → IsWithinRest (rest_deadline question.deal question.me (known question)) (height (history (known question) a ++ more))
      → useful_landing question later (with_more question a more) ≡ []
  pub wait : (later : ℕ → ℕ) (a : ℕ) (more : List Entry) → IsNothingAnswered question → are_ticks more ≡ true → ((c : ℕ) → lands_at question c ≤ later c)
      → IsWithinRest (rest_deadline question.deal question.me (known question)) (height (history (known question) a ++ more))
      → answerable_landing question later (with_more question a more) ≡ []
  -- where the party is done nothing is answered, whatever lands on any ledger without calls of the
  -- party
  pub done : (later : ℕ → ℕ) (h : Histories) → IsNothingAnswered question → are_finished question.deal (known question) question.me ≡ true
      → IsLegalBook question.deal h → ContinuesWithoutParty question.me (known question) h → ((c : ℕ) → lands_at question c ≤ later c)
      → answerable_landing question later h ≡ []
  -- it tells what is due, or that nothing is
  pub never_empty : due_text question ≢ []
  -- each height in it is the last one for a call to be on time, or the last one for a contract to
  -- accept a hashkey
  pub by : (t : Timed) → IsElement t (answered_calls question) → HasHeight question.deal (known question) question.me (kept_keys question) (untimed t) t.last
  pub until : (t : Timed) (key : Hashkey) → IsElement t (answered_calls question) → t.call ≡ Unlock key → HasLastHeight question t key

-- The answer keeps its promise to the party of that name and seed, over a text whose first line has
-- that number.
abbrev pub IsTextAnswer : ℕ → List ℕ → List ℕ → List ℕ → Answer → Type 0
IsTextAnswer first name seed text answer = IsPromisedAnswer (asked first name seed text) answer

-- where the text's deal isn't the one that was agreed on, the answer says only this
abbrev pub NeedsAgreement : ℕ → List ℕ → Result Answer (Fault AnswerReason) → Type 0
NeedsAgreement first text result =
    (s : SaidState) (rest : List (List ℕ)) → text_said first text ≡ Ok (s, rest) → s.told ≢ s.agreed.digest
    → Gives (λ x. x) result (Err (NotAgreed s.agreed.digest))
