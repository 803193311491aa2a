-- The text that answers a question, line by line.
use Rattle.std.specs.Prelude.{ℕ, ◌+◌, Bool, not, ◌||◌, ◌==◌, List, [], ◌∷◌, ◌++◌, map, filter, codes, decimal, Option, Some, None, is_some, length, slice_index_or, Result, Ok, if◌then◌else◌}
use Rattle.std.specs.List.{flat_map, list_any}
use Rattle.hex.specs.Hex.{encode_lower}
use Rattle.swap_base.specs.Fault.{◌>>=◌}
use Rattle.swap_base.specs.Text.{joined}
use Rattle.swap_digraph.specs.Graph.{is_listed, leaving}
use Rattle.swap_digraph.specs.declared.deal.Deal.{Deal}
use Rattle.hashkey_path.specs.declared.hashkey.Hashkey.{Hashkey}
use Rattle.escrow_core.specs.Terms.{stated_terms}
use Rattle.ledger_core.specs.declared.entry.Call.TheVariants.{Publish}
use Rattle.ledger_core.specs.Book.{Histories}
use Rattle.swap_rules.specs.Due.{Action, Wallet, when_due}
use Rattle.swap_rules.specs.Useful.{useful}
use Rattle.swap_rules.specs.Rest.{rest_deadline}
use Rattle.command_input.specs.Words.{reply_text}
use Rattle.party_wallet.specs.Value.{signed_hashkey}
use Rattle.party_machine.specs.Wallet.{seed_wallet}
use Rattle.transcript_book.specs.Between.{spaced}
use Rattle.transcript_book.specs.Words.{call_words, list_word, signature_word}
use Rattle.wallet_promise.specs.Answers.{was_sent}
use Rattle.answer_rules.specs.Finished.{are_finished}
use Rattle.answer_rules.specs.Stopped.{unstopped}
use Rattle.told_ledgers.specs.declared.told_ledger.BadEntry.{BadEntry}
use Rattle.told_ledgers.specs.declared.told_ledger.Replies.{Replies}
use Rattle.told_ledgers.specs.declared.told_ledger.ToldLedger.{ToldLedger}
use Rattle.party_notes.specs.declared.reason.AnswerReason.{AnswerReason}
use Rattle.party_answer.specs.declared.given.Answer.{Answer}
use Rattle.party_answer.specs.declared.unkept.Unkept.{Unkept}
use Rattle.party_notes.specs.Asked.{PartyQuestion, SaidState, asked, by_refusal, known, lines_said, said_asked}
use Rattle.useful_calls.specs.Landing.{landing_height, may_land}
use Rattle.party_answer.specs.Unkept.{all_unkept, noted_locks}
use Rattle.party_answer.specs.Stale.{is_any, stale_arcs, stopped_locks, unwaiting}
use Rattle.useful_calls.specs.Actions.{is_lock_stopped}
use Rattle.party_answer.specs.declared.line.Part.{Part}
use Rattle.party_answer.specs.declared.line.Part.TheVariants.{Keeps, Calls}
use Rattle.party_answer.specs.declared.timed.Timed.{Timed}
use Rattle.party_answer.specs.Lines.{Line, Present, KeepFirst, call_lines, timed}

-- ---- what goes by a question

-- the hashkey that was kept for a lock
abbrev pub kept_keys : PartyQuestion → ℕ → Option Hashkey
kept_keys q = signed_hashkey q.kept.keys

-- whether a publish was sent on the arc
abbrev pub was_published : PartyQuestion → ℕ → Bool
was_published q a = is_listed a q.kept.sent

-- what the seed signs
abbrev pub own_wallet : PartyQuestion → Wallet
own_wallet q = seed_wallet q.seed q.me q.deal

-- at which height a call lands that is presented now
abbrev pub lands_at : PartyQuestion → ℕ → ℕ
lands_at q = landing_height (known q) q.ledgers

-- all that is useful over other ledgers, where calls land at other heights
abbrev pub useful_landing : PartyQuestion → (ℕ → ℕ) → Histories → List Action
useful_landing q at k = useful q.deal q.me at (own_wallet q) (kept_keys q) k

-- all that is useful over other ledgers
abbrev pub useful_actions : PartyQuestion → Histories → List Action
useful_actions q k = useful_landing q (lands_at q) k

-- the unlocks in the party's name that it never made
abbrev pub unkept : PartyQuestion → List Unkept
unkept q = all_unkept (kept_keys q) q.ledgers

-- the arcs whose ledgers are told lower than they were seen
abbrev pub stale : PartyQuestion → List ℕ
stale q = stale_arcs q.deal q.me (known q) q.kept.seen

-- the locks for which nothing is signed and nothing presented
abbrev pub stopped : PartyQuestion → List ℕ
stopped q = stopped_locks q.deal (kept_keys q) q.kept.stopped (unkept q) (stale q)

-- the locks whose notes are torn or differ
abbrev pub noted : PartyQuestion → List ℕ
noted q = noted_locks q.deal q.kept.stopped

-- what is useful over other ledgers, where calls land at other heights, without unlocks for stopped
-- locks
abbrev pub answerable_landing : PartyQuestion → (ℕ → ℕ) → Histories → List Action
answerable_landing q at k = unstopped (is_lock_stopped (stopped q)) (useful_landing q at k)

-- without publishes that were sent
abbrev pub unsent : PartyQuestion → List Action → List Action
unsent q xs = filter (λ x. not (was_sent (was_published q) x)) xs

-- what is answered: without calls that wait for a stale ledger
abbrev pub answered : PartyQuestion → List Action
answered q = unwaiting (stale q) (unsent q (answerable_landing q (lands_at q) (known q)))

-- with its heights
abbrev pub answered_calls : PartyQuestion → List Timed
answered_calls q = map (timed q.deal (known q) q.me) (answered q)

-- line by line
abbrev pub answered_lines : PartyQuestion → List Line
answered_lines q = call_lines (kept_keys q) None (answered_calls q)

-- the publishes that may land, by leaving arc
abbrev pub landing_actions : PartyQuestion → List Action
landing_actions q = flat_map (λ a. when_due (may_land q.kept.sent q.me (known q) a) a (Publish (stated_terms q.deal a))) (leaving q.deal.graph q.me)

-- with their heights
abbrev pub landing_calls : PartyQuestion → List Timed
landing_calls q = map (timed q.deal (known q) q.me) (landing_actions q)

-- ---- what is wrong

-- the stale ledger of arc a, with the greatest height at which it was seen
unfoldable pub stale_text : (seen : List ℕ) → ℕ → List ℕ
stale_text seen a = joined (codes "stale " ∷ decimal a ∷ codes " " ∷ decimal (slice_index_or seen a 0) ∷ codes "\n" ∷ [])

abbrev pub replies_text : Option Replies → List ℕ
replies_text None = []
replies_text (Some r) = joined (codes " " ∷ reply_text r.stated ∷ codes " " ∷ reply_text r.replayed ∷ [])

-- the bad entry of arc a: it can't be read, or the contract of the deal doesn't reply so
unfoldable pub bad_text : ℕ → BadEntry → List ℕ
bad_text a b = joined (codes "bad " ∷ decimal a ∷ codes " " ∷ decimal b.entry ∷ replies_text b.replies ∷ codes "\n" ∷ [])

abbrev pub bad_entry_line : ℕ → Option BadEntry → List ℕ
bad_entry_line a None = []
bad_entry_line a (Some b) = bad_text a b

-- the bad entries of ledgers, where the first ledger is that of arc a
abbrev pub bad_lines : ℕ → List ToldLedger → List ℕ
bad_lines a [] = []
bad_lines a (t ∷ ts) = bad_entry_line a t.bad ++ bad_lines (a + 1) ts

-- a lock whose notes are torn or differ
unfoldable pub noted_text : ℕ → List ℕ
noted_text i = joined (codes "unkept " ∷ decimal i ∷ codes "\n" ∷ [])

-- an unlock in the party's name that it never made
unfoldable pub unkept_text : Unkept → List ℕ
unkept_text u = joined (codes "unkept " ∷ decimal u.arc ∷ codes " " ∷ decimal u.entry ∷ codes " " ∷ decimal u.lock ∷ codes "\n" ∷ [])

-- ---- of calls

abbrev pub until_text : Option ℕ → List ℕ
until_text None = []
until_text (Some last) = joined (codes " until " ∷ decimal last ∷ [])

-- a call of party v that may be presented
unfoldable pub presented_call_text : ℕ → Timed → List ℕ
presented_call_text v t =
    joined (codes "call " ∷ decimal t.arc ∷ codes " " ∷ decimal v ∷ codes " by " ∷ decimal t.last ∷ until_text t.until ∷ codes " " ∷
    spaced (call_words t.call) ∷ codes "\n" ∷ [])

-- a hashkey but for its lock
abbrev pub key_text : Hashkey → List ℕ
key_text key =
    joined (encode_lower key.secret ∷ codes " " ∷ list_word (map decimal key.path) ∷ codes " " ∷ list_word (map signature_word key.sigs) ∷ [])

-- a hashkey that has to be kept before this unlock with it
unfoldable pub keep_text : Timed → Hashkey → List ℕ
keep_text t key =
    joined (codes "keep " ∷ decimal key.lock ∷ codes " by " ∷ decimal t.last ∷ until_text t.until ∷ codes " " ∷ key_text key ∷ codes "\n" ∷ [])

-- a publish that was sent and may land
unfoldable pub landing_text : Timed → List ℕ
landing_text t = joined (codes "landing " ∷ decimal t.arc ∷ codes " by " ∷ decimal t.last ∷ until_text t.until ∷ codes "\n" ∷ [])

-- the lines of hashkeys, or those of calls
abbrev pub line_text : Part → ℕ → Line → List ℕ
line_text Keeps v (Present t) = []
line_text Keeps v (KeepFirst t key) = keep_text t key
line_text Calls v (Present t) = presented_call_text v t
line_text Calls v (KeepFirst t key) = []

-- the lines of hashkeys, and behind them those of calls
abbrev pub lines_text : ℕ → List Line → List ℕ
lines_text v ys = flat_map (line_text Keeps v) ys ++ flat_map (line_text Calls v) ys

-- ---- of rest

-- nothing is due before a call lands, or a ledger stands above that height, if there is one
abbrev pub wait_text : Option ℕ → List ℕ
wait_text None = codes "wait\n"
wait_text (Some height) = joined (codes "wait " ∷ decimal height ∷ codes "\n" ∷ [])

-- nothing is left to do, or nothing is due for now; where a ledger is stale neither is known
unfoldable pub rest_text : (is_stale : Bool) → Deal → Histories → ℕ → List ℕ
rest_text is_stale d k v =
    if is_stale then wait_text None else if are_finished d k v then codes "done\n" else wait_text (rest_deadline d v k)

-- where nothing is answered, and nothing may land
abbrev pub end_text : (is_stale : Bool) → Deal → Histories → ℕ → (calls landing : List Timed) → List ℕ
end_text s d k v [] [] = rest_text s d k v
end_text s d k v [] (u ∷ us) = []
end_text s d k v (t ∷ ts) us = []

-- ---- the whole

-- what stands before the calls: what is wrong
unfoldable pub warning_text : PartyQuestion → List ℕ
warning_text q =
    flat_map (stale_text q.kept.seen) (stale q) ++ flat_map noted_text (noted q) ++ flat_map unkept_text (unkept q) ++ bad_lines 0 q.ledgers

-- the hashkeys, the calls and what may land, or that there is none
unfoldable pub due_text : PartyQuestion → List ℕ
due_text q =
    lines_text q.me (answered_lines q) ++ flat_map landing_text (landing_calls q)
    ++ end_text (is_any (stale q)) q.deal (known q) q.me (answered_calls q) (landing_calls q)

-- a ledger is stale, the notes of a lock are torn or differ, an unlock stands in the party's name
-- that it never made, or a ledger has a bad entry
unfoldable pub warns : PartyQuestion → Bool
warns q = is_any (stale q) || is_any (noted q) || not (length (unkept q) == 0) || list_any (λ t. is_some t.bad) q.ledgers

-- the answer to a question
unfoldable pub question_answer : PartyQuestion → Answer
question_answer q = record { text = warning_text q ++ due_text q; warns = warns q }

-- the answer to what a text says, whose first line has that number
abbrev pub said_answer : ℕ → List ℕ → List ℕ → SaidState × List (List ℕ) → Result Answer AnswerReason
said_answer first name seed s = said_asked first name seed s >>= λ q. Ok (question_answer q)

-- the answer to lines, where the first line has that number
abbrev pub lines_answer : ℕ → List ℕ → List ℕ → List (List ℕ) → Result Answer AnswerReason
lines_answer first name seed ls = by_refusal (lines_said first ls) >>= said_answer first name seed

-- the answer to a text whose first line has that number, or the first reason against it
unfoldable pub answer_told : ℕ → List ℕ → List ℕ → List ℕ → Result Answer AnswerReason
answer_told first name seed text = asked first name seed text >>= λ q. Ok (question_answer q)
