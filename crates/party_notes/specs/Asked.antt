-- What an input asks, or the first reason against it.
use Rattle.std.specs.Prelude.{ℕ, Bool, true, false, List, Option, Some, None, Result, Ok, Err}
use Rattle.std.specs.Str.{bytes_eq}
use Rattle.swap_base.specs.Fault.{◌>>=◌}
use Rattle.swap_digraph.specs.declared.deal.Deal.{Deal}
use Rattle.ledger_core.specs.Book.{Histories}
use Rattle.command_input.specs.declared.reason.Reason.{Reason}
use Rattle.command_input.specs.declared.reason.Reason.TheVariants.{WrongWallet}
use Rattle.command_input.specs.declared.refusal.Refusal.{Refusal}
use Rattle.command_input.specs.Refusal.{refusal}
use Rattle.party_wallet.specs.Fits.{wrong_lock}
use Rattle.told_ledgers.specs.declared.told_ledger.ToldLedger.{ToldLedger}
use Rattle.swap_rules.specs.Counted.{all_counted}
use Rattle.told_ledgers.specs.Telling.{ledgers_told, told_book}
use Rattle.party_rows.specs.Lines.{ended_lines, nameless, following_line_number}
use Rattle.party_rows.specs.Names.{party_named}
use Rattle.party_rows.specs.Digests.{agreed_line}
use Rattle.party_notes.specs.Notes.{NotesState, notes_read}
use Rattle.party_notes.specs.Kept.{KeptState, notes_kept}
use Rattle.party_terms.specs.Terms.{AgreedState, parse_agreed}
use Rattle.party_notes.specs.declared.reason.AnswerReason.{AnswerReason}
use Rattle.party_notes.specs.declared.reason.AnswerReason.TheVariants.{Refused, NotAgreed}

abbrev pub by_refusal : {A : Type 0} → Result A Refusal → Result A AnswerReason
by_refusal (Ok x) = Ok x
by_refusal (Err r) = Err (Refused r)

abbrev pub as_answer_reason : {A : Type 0} → Result A Reason → Result A AnswerReason
as_answer_reason (Ok x) = Ok x
as_answer_reason (Err reason) = Err (Refused (nameless reason))

-- What an input says before its first ledger: the digest that was agreed on, the notes, and the
-- deal with its context and its digest, as they stand there.
pub record SaidState : Type 0 where
  pub told : List ℕ
  pub notes : NotesState
  pub agreed : AgreedState

-- what the lines before the ledgers say, and the lines behind them; the first line has that number
unfoldable pub lines_said : ℕ → List (List ℕ) → Result (SaidState × List (List ℕ)) Refusal
lines_said first ls = do
  told ← agreed_line first ls
  notes ← notes_read (following_line_number first) told.1
  agreed ← parse_agreed notes.0.next notes.1
  Ok (record { told = told.0; notes = notes.0; agreed = agreed.0 }, agreed.1)

-- what a text says whose first line has that number, and the lines behind
unfoldable pub text_said : ℕ → List ℕ → Result (SaidState × List (List ℕ)) Refusal
text_said first text = ended_lines text >>= lines_said first

abbrev pub unless_differs : List ℕ → (same : Bool) → Result (Unit {0}) AnswerReason
unless_differs digest true = Ok tt
unless_differs digest false = Err (NotAgreed digest)

-- what stands in the input has to be what was agreed on
abbrev pub as_agreed : SaidState → Result (Unit {0}) AnswerReason
as_agreed s = unless_differs s.agreed.digest (bytes_eq s.told s.agreed.digest)

abbrev pub unless_wrong_lock : List (List ℕ) → ℕ → Option ℕ → Result (Unit {0}) Refusal
unless_wrong_lock names v None = Ok tt
unless_wrong_lock names v (Some i) = Err (refusal names (WrongWallet v i))

-- the seed has to have what the deal states of the party
abbrev pub own_seed : SaidState → ℕ → List ℕ → Result (Unit {0}) Refusal
own_seed s v seed = unless_wrong_lock s.agreed.job.names v (wrong_lock s.agreed.job.deal v seed)

-- What is asked: the party of a deal, its seed, what is told of each ledger, what the party kept,
-- and on which arcs it sent a publish.
pub record PartyQuestion : Type 0 where
  pub deal : Deal
  pub me : ℕ
  pub seed : List ℕ
  pub ledgers : List ToldLedger
  pub kept : KeptState

-- what each ledger did so far, as it was told
abbrev pub told : PartyQuestion → Histories
told q = told_book q.ledgers

-- what counts of it: the party's refused unlocks, claims and refunds are passed over
abbrev pub known : PartyQuestion → Histories
known q = all_counted q.me (told q)

-- the party that is asked for: by its name, with its seed; the first note has that number
unfoldable pub party_asked : ℕ → List ℕ → List ℕ → SaidState → Result (ℕ × KeptState) Refusal
party_asked first name seed s = do
  me ← party_named s.notes.next s.agreed.job.names name
  owned ← own_seed s me seed
  kept ← notes_kept s.agreed.job.deal me first s.notes.list
  Ok (me, kept)

-- what is asked by what a text says, whose first line has that number
unfoldable pub said_asked : ℕ → List ℕ → List ℕ → SaidState × List (List ℕ) → Result PartyQuestion AnswerReason
said_asked first name seed s = do
  same ← as_agreed s.0
  party ← by_refusal (party_asked (following_line_number first) name seed s.0)
  ledgers ← as_answer_reason (ledgers_told s.0.agreed.job.deal party.0 s.0.agreed.next s.1)
  Ok (record { deal = s.0.agreed.job.deal; me = party.0; seed = seed; ledgers = ledgers; kept = party.1 })

-- what a text asks whose first line has that number
unfoldable pub asked : ℕ → List ℕ → List ℕ → List ℕ → Result PartyQuestion AnswerReason
asked first name seed text = by_refusal (text_said first text) >>= said_asked first name seed

-- what lines ask, where the first line has that number
abbrev pub lines_asked : ℕ → List ℕ → List ℕ → List (List ℕ) → Result PartyQuestion AnswerReason
lines_asked first name seed ls = by_refusal (lines_said first ls) >>= said_asked first name seed
