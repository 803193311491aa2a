-- What is asked, and what is answered to it.
use Rattle.std.proofs.Common.{◌≡◌, ◌≢◌, ◌<◌, ℕ, Bool, true, false, ◌||◌, ◌==◌, not, List, length, ◌++◌, map, inl, inr, Result, Ok, Err, refl, sym, ap, ◌∙◌, subst}
use Rattle.std.specs.Prelude.{is_some}
use Rattle.std.specs.List.{flat_map, list_any}
use Rattle.std.specs.Str.{bytes_eq}
use Rattle.swap_base.specs.declared.fault.Fault.{Fault}
use Rattle.swap_base.specs.declared.fault.Fault.TheVariants as faults
use Rattle.swap_base.specs.Fault.{◌>>=◌, Gives, Fails}
use Rattle.swap_base.specs.Lists.{IsElement}
use Rattle.swap_base.proofs.Lists.{from_filter}
use Rattle.swap_digraph.specs.Graph.{leaving}
use Rattle.escrow_core.specs.Terms.{stated_terms}
use Rattle.ledger_core.specs.declared.entry.Call.TheVariants.{Publish}
use Rattle.ledger_core.specs.Book.{Histories}
use Rattle.swap_rules.specs.Due.{Action, when_due}
use Rattle.swap_rules.proofs.Prefixes.{from_flat_map}
use Rattle.swap_rules.proofs.Words.{bytes_eq-true, leaves}
use Rattle.wallet_promise.specs.Answers.{was_sent}
use Rattle.command_input.specs.declared.refusal.Refusal.{Refusal}
use Rattle.party_wallet.specs.Value.{signed_hashkey}
use Rattle.party_machine.specs.Wallet.{seed_wallet}
use Rattle.party_machine.proofs.Good.{fitting_is_good}
use Rattle.answer_rules.specs.Heights.{IsShort}
use Rattle.answer_rules.specs.Stopped.{is_stopped_call, useful_unless_stopped}
use Rattle.answer_rules.proofs.Measured.{useful_is_short}
use Rattle.answer_rules.proofs.Stopping.{unstopped_useful}
use Rattle.useful_calls.specs.Actions.{is_lock_stopped}
use Rattle.party_notes.specs.declared.asked.Asked.{Asked}
use Rattle.party_answer.specs.declared.given.Answer.{Answer}
use Rattle.party_notes.specs.declared.reason.AnswerReason.{AnswerReason}
use Rattle.party_notes.specs.declared.reason.AnswerReason.TheVariants.{NotAgreed}
use Rattle.party_answer.specs.declared.timed.Timed.{Timed}
use Rattle.party_answer.specs.declared.unkept.Unkept.{Unkept}
use Rattle.party_notes.specs.Asked.{PartyQuestion, SaidState, as_agreed, asked, by_refusal, known, lines_said, said_asked, text_said, unless_differs}
use Rattle.party_notes.specs.Faults.{refusal_fault}
use Rattle.party_answer.specs.Inside.{calls_text, landing_timed, warned_text, AreMeasured}
use Rattle.party_notes.specs.Inside.{asked_question, IsWellAsked}
use Rattle.useful_calls.specs.Landing.{landing_height, may_land}
use Rattle.party_answer.specs.Stale.{is_any, stale_arcs, stopped_locks, unwaiting, waits_for}
use Rattle.party_answer.specs.declared.warned.Warned.{Warned}
use Rattle.party_answer.specs.Lines.{timed}
use Rattle.party_answer.specs.Text.{answer_told, answerable_landing, answered, answered_calls, bad_lines, due_text, lands_at, noted, noted_text, question_answer, said_answer, stale, stale_text, stopped, unkept, unkept_text, unsent}
use Rattle.party_answer.specs.Text.{useful_actions, warning_text, warns, was_published}
use Rattle.party_answer.specs.Promised.{IsPromisedAnswer, NeedsAgreement}
use Rattle.party_rows.specs.Lines.{ended_lines}
use Rattle.party_answer.proofs.Answered.{IsSound, holds, seed_signs}
use Rattle.party_notes.proofs.Faults.{fails_by_refusal}

-- ---- what is asked is sound

pub sound : (seed : List ℕ) (a : Asked) → IsWellAsked seed a → IsSound (asked_question seed a)
sound seed a is = record {
  accepted = is.accepted;
  party = is.me;
  wallet = fitting_is_good a.deal a.me seed is.accepted is.me is.fits;
  legal = is.legal;
  good = is.good;
}

-- ---- what is answered

module _ (seed : List ℕ) (a : Asked) (k : Histories) (us : List Unkept) (st stops : List ℕ) (xs ys zs : List Action) (is : IsWellAsked seed a)
    (e : k ≡ known (asked_question seed a)) (f : us ≡ unkept (asked_question seed a)) (s : st ≡ stale (asked_question seed a))
    (g : stops ≡ stopped_locks a.deal (signed_hashkey a.kept.signed.keys) a.kept.stopped us st)
    (h : xs ≡ useful_unless_stopped (is_lock_stopped stops) a.deal a.me (landing_height k a.ledgers) (seed_wallet seed a.me a.deal) (signed_hashkey a.kept.signed.keys) k)
    (u : ys ≡ unsent (asked_question seed a) xs) (w : zs ≡ unwaiting st ys) where
  abbrev left : List ℕ → Histories → List Action
  left ls b =
      useful_unless_stopped (is_lock_stopped ls) a.deal a.me (landing_height b a.ledgers) (seed_wallet seed a.me a.deal) (signed_hashkey a.kept.signed.keys) b

  -- the stopped locks
  stops_are : stops ≡ stopped (asked_question seed a)
  stops_are =
      g ∙ ap (λ (z : List Unkept). stopped_locks a.deal (signed_hashkey a.kept.signed.keys) a.kept.stopped z st) f
      ∙ ap (stopped_locks a.deal (signed_hashkey a.kept.signed.keys) a.kept.stopped (unkept (asked_question seed a))) s

  -- what is useful and not stopped is what may be answered
  answerable_is : xs ≡ answerable_landing (asked_question seed a) (lands_at (asked_question seed a)) (known (asked_question seed a))
  answerable_is =
      h ∙ ap (λ z. left z k) stops_are ∙ ap (left (stopped (asked_question seed a))) e
      ∙ unstopped_useful (is_lock_stopped (stopped (asked_question seed a))) a.deal a.me (lands_at (asked_question seed a)) (seed_wallet seed a.me a.deal)
      (signed_hashkey a.kept.signed.keys) (known (asked_question seed a)) is.legal (seed_signs a.deal a.me seed) is.good

  -- and what wasn't sent, and waits for no ledger, is what is answered
  pub answered_is : zs ≡ answered (asked_question seed a)
  answered_is =
      w ∙ ap (λ z. unwaiting z ys) s ∙ ap (unwaiting (stale (asked_question seed a))) (u ∙ ap (unsent (asked_question seed a)) answerable_is)

-- what is answered is on arcs of the deal
pub measured : (seed : List ℕ) (a : Asked) (zs : List Action) → IsWellAsked seed a → zs ≡ answered (asked_question seed a) → AreMeasured a.deal zs
measured seed a zs is e x i =
    let sd = sound seed a is in
    let q = asked_question seed a in
    let shown = from_filter (λ y. not (waits_for (stale q) y)) x (unsent q (answerable_landing q (lands_at q) (known q))) (subst (IsElement x) e i) in
    let open_call = from_filter (λ y. not (was_sent (was_published q) y)) x (answerable_landing q (lands_at q) (known q)) shown.0 in
    let j = from_filter (λ y. not (is_stopped_call (is_lock_stopped (stopped q)) y.call)) x (useful_actions q (known q)) open_call.0 in
    useful_is_short a.deal a.me (seed_wallet seed a.me a.deal) (signed_hashkey a.kept.signed.keys) (known q) is.accepted is.legal sd.wallet
    (seed_signs a.deal a.me seed) is.good (lands_at q) x j.0

pub calls_given : (seed : List ℕ) (a : Asked) (k : Histories) (zs : List Action) (ts : List Timed) → k ≡ known (asked_question seed a)
    → zs ≡ answered (asked_question seed a) → ts ≡ map (timed a.deal k a.me) zs → ts ≡ answered_calls (asked_question seed a)
calls_given seed a k zs ts e g t =
    t ∙ ap (map (timed a.deal k a.me)) g ∙ ap (λ b. map (timed a.deal b a.me) (answered (asked_question seed a))) e

-- the stale ledgers
pub stale_given : (seed : List ℕ) (a : Asked) (k : Histories) (st : List ℕ) → k ≡ known (asked_question seed a) → st ≡ stale_arcs a.deal a.me k a.kept.seen
    → st ≡ stale (asked_question seed a)
stale_given seed a k st e is = is ∙ ap (λ b. stale_arcs a.deal a.me b a.kept.seen) e

-- the text of an answer by its parts
abbrev parted : Asked → List ℕ → List ℕ → List Unkept → Histories → List Timed → List Timed → List ℕ
parted a st ns us b xs ys =
    (((flat_map (stale_text a.kept.seen) st ++ flat_map noted_text ns) ++ flat_map unkept_text us) ++ bad_lines 0 a.ledgers) ++ calls_text (is_any st) a b xs ys

pub text_given : (seed : List ℕ) (a : Asked) (k : Histories) (w : Warned) (ts ls : List Timed) (text : List ℕ) → k ≡ known (asked_question seed a)
    → w.unkept.items ≡ unkept (asked_question seed a) → w.stale.items ≡ stale (asked_question seed a) → ts ≡ answered_calls (asked_question seed a)
    → ls ≡ landing_timed a k → w.noted.items ≡ noted (asked_question seed a)
    → text ≡ (warned_text a.kept.seen w ++ bad_lines 0 a.ledgers) ++ calls_text (is_any w.stale.items) a k ts ls
    → text ≡ warning_text (asked_question seed a) ++ due_text (asked_question seed a)
unfolding warning_text due_text
text_given seed a k w ts ls text e g s h l n is =
    let q = asked_question seed a in
    is ∙ (ap (λ z. parted a w.stale.items w.noted.items w.unkept.items k ts z) l
    ∙ (ap (λ b. parted a w.stale.items w.noted.items w.unkept.items b ts (landing_timed a b)) e
    ∙ (ap (λ z. parted a w.stale.items w.noted.items z (known q) ts (landing_timed a (known q))) g
    ∙ (ap (λ z. parted a w.stale.items z (unkept q) (known q) ts (landing_timed a (known q))) n
    ∙ (ap (λ z. parted a z (noted q) (unkept q) (known q) ts (landing_timed a (known q))) s
    ∙ ap (λ z. parted a (stale q) (noted q) (unkept q) (known q) z (landing_timed a (known q))) h)))))

-- the publishes that may land are on arcs of the deal
pub landing_measured : (a : Asked) (k : Histories) (xs : List Action)
    → xs ≡ flat_map (λ c. when_due (may_land a.kept.sent a.me k c) c (Publish (stated_terms a.deal c))) (leaving a.deal.graph a.me) → AreMeasured a.deal xs
landing_measured a k xs is x i =
    let f = from_flat_map (λ c. when_due (may_land a.kept.sent a.me k c) c (Publish (stated_terms a.deal c))) (leaving a.deal.graph a.me) x (subst (IsElement x) is i) in
    by f.0 (may_land a.kept.sent a.me k f.0) f.1 f.2
  where
    by : (c : ℕ) (b : Bool) → IsElement c (leaving a.deal.graph a.me) → IsElement x (when_due b c (Publish (stated_terms a.deal c)))
        → (x.arc < length a.deal.graph.arcs) × IsShort x.call
    by c true j (inl e) =
        (subst (λ (y : Action). y.arc < length a.deal.graph.arcs) (sym e) (leaves a.deal a.me c j).0, subst (λ (y : Action). IsShort y.call) (sym e) tt)
    by c true j (inr n) = absurd n
    by c false j n = absurd n

pub warns_given : (seed : List ℕ) (a : Asked) (w : Warned) (b : Bool) → w.unkept.items ≡ unkept (asked_question seed a)
    → w.stale.items ≡ stale (asked_question seed a) → w.noted.items ≡ noted (asked_question seed a)
    → b ≡ (is_any w.stale.items || is_any w.noted.items || not (length w.unkept.items == 0) || list_any (λ t. is_some t.bad) a.ledgers)
    → b ≡ warns (asked_question seed a)
unfolding warns
warns_given seed a w b g s n is =
    is ∙ ap (λ z. is_any z || is_any w.noted.items || not (length w.unkept.items == 0) || list_any (λ t. is_some t.bad) a.ledgers) s
    ∙ ap (λ z. is_any (stale (asked_question seed a)) || is_any z || not (length w.unkept.items == 0) || list_any (λ t. is_some t.bad) a.ledgers) n
    ∙ ap (λ (z : List Unkept). is_any (stale (asked_question seed a)) || is_any (noted (asked_question seed a)) || not (length z == 0) || list_any (λ t. is_some t.bad) a.ledgers) g

pub answer_given : (q : PartyQuestion) (text : List ℕ) (b : Bool) → text ≡ warning_text q ++ due_text q → b ≡ warns q
    → ◌≡◌ {A = Answer} (record { text = text; warns = b }) (question_answer q)
unfolding question_answer
answer_given q text b e f = λ i. record { text = e i; warns = f i }

-- ---- the promise

pub promised : (seed : List ℕ) (a : Asked) (asks : Result PartyQuestion AnswerReason) (answer : Answer) → IsWellAsked seed a → asks ≡ Ok (asked_question seed a)
    → answer ≡ question_answer (asked_question seed a) → IsPromisedAnswer asks answer
promised seed a asks answer is e f = holds (asked_question seed a) (sound seed a is) asks answer e f

-- ---- step by step

step : {A B R : Type 0} (r : Result A R) (x : A) (f : A → Result B R) → r ≡ Ok x → (r >>= f) ≡ f x
step r x f e = ap (λ z. z >>= f) e

as_one : {A B C R : Type 0} (r : Result A R) (f : A → Result B R) (g : B → Result C R) → ((r >>= f) >>= g) ≡ (r >>= λ x. f x >>= g)
as_one (Ok x) f g = refl
as_one (Err e) f g = refl

fails_on : {A B : Type 0} (f : Fault AnswerReason) (r : Result A AnswerReason) (g : A → Result B AnswerReason) → Fails f r → Fails f (r >>= g)
fails_on (faults.Refused e) r g h = ap (λ z. z >>= g) h
fails_on faults.NoMemory r g h = tt

-- where a line before the first ledger is refused
pub lines_refused : {B : Type 0} (first : ℕ) (ls : List (List ℕ)) (f : Fault Refusal) (given : Fault AnswerReason)
    (g : SaidState × List (List ℕ) → Result B AnswerReason) → given ≡ refusal_fault f → Fails f (lines_said first ls)
    → Fails given (by_refusal (lines_said first ls) >>= g)
lines_refused first ls f given g e h =
    fails_on given (by_refusal (lines_said first ls)) g (fails_by_refusal (lines_said first ls) f given e h)

pub lines_give : {B : Type 0} (first : ℕ) (ls : List (List ℕ)) (s : SaidState × List (List ℕ)) (g : SaidState × List (List ℕ) → Result B AnswerReason)
    → lines_said first ls ≡ Ok s → (by_refusal (lines_said first ls) >>= g) ≡ g s
lines_give first ls s g e = ap (λ r. by_refusal r >>= g) e

-- where the text has no lines
text_cut : {A B : Type 0} (f : Fault Refusal) (r : Result A Refusal) (g : A → Result B Refusal) → Fails f r → Fails f (r >>= g)
text_cut (faults.Refused e) r g h = ap (λ z. z >>= g) h
text_cut faults.NoMemory r g h = tt

module _ (first : ℕ) (name seed text : List ℕ) where
  pub whole : answer_told first name seed text ≡ (by_refusal (text_said first text) >>= said_answer first name seed)
  unfolding answer_told asked
  whole = as_one (by_refusal (text_said first text)) (said_asked first name seed) (λ q. Ok (question_answer q))

  -- the answer by the lines of the text
  pub by_lines : (ls : List (List ℕ)) → ended_lines text ≡ Ok ls
      → answer_told first name seed text ≡ (by_refusal (lines_said first ls) >>= said_answer first name seed)
  unfolding text_said
  by_lines ls e =
      whole ∙ ap (λ (r : Result (List (List ℕ)) Refusal). by_refusal (r >>= lines_said first) >>= said_answer first name seed) e

  pub asks_lines : (ls : List (List ℕ)) → ended_lines text ≡ Ok ls
      → asked first name seed text ≡ (by_refusal (lines_said first ls) >>= said_asked first name seed)
  unfolding text_said asked
  asks_lines ls e = ap (λ (r : Result (List (List ℕ)) Refusal). by_refusal (r >>= lines_said first) >>= said_asked first name seed) e

  -- where it has none
  pub no_lines : (f : Fault Refusal) (given : Fault AnswerReason) → given ≡ refusal_fault f → Fails f (ended_lines text)
      → Fails given (answer_told first name seed text)
  unfolding text_said
  no_lines f given e h =
      subst (Fails given) (sym whole)
      (fails_on given (by_refusal (text_said first text)) (said_answer first name seed)
      (fails_by_refusal (text_said first text) f given e (text_cut f (ended_lines text) (lines_said first) h)))

  differs : (told digest : List ℕ) (b : Bool) → bytes_eq told digest ≡ b → told ≢ digest → unless_differs digest b ≡ Err (NotAgreed digest)
  differs told digest true e n = absurd (n (bytes_eq-true told digest e))
  differs told digest false e n = refl

  -- what follows the test of agreement plays no part
  stops : {A B : Type 0} (r : Result (Unit {0}) AnswerReason) (reason : AnswerReason) (f : Unit {0} → Result A AnswerReason) (g : A → Result B AnswerReason)
      → r ≡ Err reason → ((r >>= f) >>= g) ≡ Err reason
  stops r reason f g e = ap (λ z. (z >>= f) >>= g) e

  not_agreed : (s : SaidState) (rest : List (List ℕ)) → s.told ≢ s.agreed.digest → said_answer first name seed (s, rest) ≡ Err (NotAgreed s.agreed.digest)
  unfolding said_asked
  not_agreed s rest n =
      stops (as_agreed s) (NotAgreed s.agreed.digest) _ (λ q. Ok (question_answer q)) (differs s.told s.agreed.digest (bytes_eq s.told s.agreed.digest) refl n)

  pub needs_agreement : (result : Result Answer (Fault AnswerReason)) → Gives (λ a. a) result (answer_told first name seed text)
      → NeedsAgreement first text result
  needs_agreement result g s rest e n =
      subst (Gives (λ a. a) result)
      (whole ∙ (ap (λ (r : Result (SaidState × List (List ℕ)) Refusal). by_refusal r >>= said_answer first name seed) e ∙ not_agreed s rest n)) g
