-- What an input of many swaps says before its events, line by line.
use Rattle.std.specs.Prelude.{◌≡◌, ℕ, ◌==◌, Bool, nat_lt, List, [], ◌∷◌, ◌++◌, length, codes, is_some, Option, Some, None, Result, Ok, Err, if◌then◌else◌}
use Rattle.std.specs.Str.{bytes_eq}
use Rattle.serde_json.specs.Find.{get}
use Rattle.swap_base.specs.Fault.{◌>>=◌}
use Rattle.swap_base.specs.declared.fault.Fault.{Fault}
use Rattle.swap_base.specs.declared.fault.Fault.TheVariants.{Refused, NoMemory}
use Rattle.swap_job.specs.declared.job.Job.{Job}
use Rattle.swap_job.specs.declared.job.Finish.{Finish}
use Rattle.swap_job.specs.declared.job.Purpose.TheVariants.{Run}
use Rattle.command_input.specs.declared.reason.Reason.{Reason}
use Rattle.command_input.specs.declared.reason.Reason.TheVariants.{BadLine, CutShort}
use Rattle.command_input.specs.declared.refusal.Refusal.{Refusal}
use Rattle.command_input.specs.Refusal.{fault_with_names, named_result, refusal}
use Rattle.offer_moves.specs.Fields.{parse_data}
use Rattle.transcript_book.specs.declared.said.Misspelling.{Misspelling}
use Rattle.transcript_book.specs.Between.{separated_parts}
use Rattle.transcript_book.specs.Reading.{is_word}
use Rattle.swap_offer.specs.Job.{parse_header_job, header_names}
use Rattle.many_lines.specs.Fields.{history_accounts, parse_chain_list, parse_finish_fields}
use Rattle.many_lines.specs.declared.accounts.ChainAccounts.{ChainAccounts}
use Rattle.many_lines.specs.declared.many_job.ManyJob.{ManyJob}
use Rattle.many_lines.specs.declared.stage.Stage.{Stage}
use Rattle.many_lines.specs.declared.stage.SwapLine.{SwapLine}
use Rattle.many_lines.specs.declared.stage.Stage.TheVariants.{First, Words, Header, Over}

-- the line isn't of the form that stands next; the reason speaks of no party
abbrev pub bad_many_line : ℕ → Refusal
bad_many_line line = refusal [] (BadLine line)

abbrev pub bad : {A : Type 0} → ℕ → Result A Refusal
bad line = Err (bad_many_line line)

-- the fault of a line one of whose fields says nothing
abbrev pub by_field : ℕ → Fault Misspelling → Fault Refusal
by_field line (Refused e) = Refused (bad_many_line line)
by_field line NoMemory = NoMemory

-- what is read of a line's fields, or that the line has another form
abbrev pub by_fields : {A : Type 0} → ℕ → Result A Misspelling → Result A Refusal
by_fields line (Ok x) = Ok x
by_fields line (Err e) = bad line

-- the fault takes these names, or memory ran out
abbrev pub IsNamed : Fault Reason → List (List ℕ) → Fault Refusal → Type 0
IsNamed fault names NoMemory = Unit {0}
IsNamed fault names (Refused refusal) = fault_with_names names fault ≡ Refused refusal

-- What was read: the chains and the swaps so far, and which line stands next.
pub record HeadingState : Type 0 where
  pub many : ManyJob
  pub stage : Stage

abbrev pub no_swaps : ManyJob
no_swaps = record { names = []; units = []; jobs = []; chains = [] }

-- before the first line
abbrev pub nothing_headed : HeadingState
nothing_headed = record { many = no_swaps; stage = First }

-- ---- what the next line makes of it

abbrev pub first_taken : HeadingState → ℕ → List ℕ → Result HeadingState Refusal
first_taken h line text = if bytes_eq text (codes "swap many 1") then Ok (record { many = h.many; stage = Words }) else bad line

abbrev pub with_accounts : HeadingState → ChainAccounts → HeadingState
with_accounts h a = record {
  many =
      record {
        names = h.many.names ++ a.names ∷ [];
        units = h.many.units ++ a.units ∷ [];
        jobs = h.many.jobs;
        chains = h.many.chains;
      };
  stage = Words;
}

-- one more chain: at most 32, all before the first swap
unfoldable pub chain_taken : HeadingState → ℕ → List (List ℕ) → Result HeadingState Refusal
chain_taken h line ws =
    if length h.many.jobs == 0 then (if nat_lt (length h.many.names) 32 then (by_fields line (history_accounts ws) >>= λ a. Ok
    (with_accounts h a)) else bad line)
    else bad line

-- a swap of at most 8, with the chains of its arcs; its header comes next
unfoldable pub swap_taken : HeadingState → ℕ → List (List ℕ) → Result HeadingState Refusal
swap_taken h line ws =
    if nat_lt (length h.many.jobs) 8 then
    (by_fields line (parse_chain_list (length h.many.names) ws) >>= λ chains. Ok (record { many = h.many; stage = Header (record { number = line; chains = chains }) }))
    else bad line

-- the finish, after at least one swap
unfoldable pub finish_taken : HeadingState → ℕ → List (List ℕ) → Result HeadingState Refusal
finish_taken h line ws =
    if length h.many.jobs == 0 then bad line else (by_fields line (parse_finish_fields ws) >>= λ f. Ok (record { many = h.many; stage = Over f }))

-- a line of a chain, of a swap or of the finish, by its first field
abbrev pub kind_taken : HeadingState → ℕ → List ℕ → List (List ℕ) → Result HeadingState Refusal
kind_taken h line w ws =
    if is_word w (codes "chain") then chain_taken h line ws
    else if is_word w (codes "swap") then swap_taken h line ws
    else if is_word w (codes "finish") then finish_taken h line ws
    else bad line

abbrev pub fields_taken : HeadingState → ℕ → List (List ℕ) → Result HeadingState Refusal
fields_taken h line [] = bad line
fields_taken h line (w ∷ ws) = kind_taken h line w ws

-- whether the object of a line states a finish
unfoldable pub tells_finish : ℕ → List ℕ → Result Bool Reason
tells_finish line text = parse_data line text >>= λ d. Ok (is_some (get (codes "finish") d))

-- a header states no finish, since all swaps have one finish
unfoldable pub without_finish : ℕ → List ℕ → Result (Unit {0}) Refusal
without_finish line text = named_result [] (tells_finish line text) >>= λ told. if told then bad line else Ok tt

-- the job of a swap's header, which is read as that of a run
unfoldable pub swap_job : (List ℕ → Bool) → ℕ → List ℕ → Result Job Refusal
swap_job has line text = do
  job ← named_result (header_names has Run line text) (parse_header_job has Run line text)
  u ← without_finish line text
  Ok job

abbrev pub with_swap : ManyJob → Job → List ℕ → HeadingState
with_swap many job chains = record {
  many = record { names = many.names; units = many.units; jobs = many.jobs ++ job ∷ []; chains = many.chains ++ chains ∷ [] };
  stage = Words;
}

-- the header of a swap, whose line before it names a chain for each arc
unfoldable pub header_taken : (List ℕ → Bool) → ManyJob → SwapLine → ℕ → List ℕ → Result HeadingState Refusal
header_taken has many before line text =
    swap_job has line text >>= λ job. if length before.chains == length job.deal.graph.arcs then Ok (with_swap many job before.chains)
    else bad before.number

abbrev pub stage_line_taken : (List ℕ → Bool) → Stage → HeadingState → ℕ → List ℕ → Result HeadingState Refusal
stage_line_taken has First h line text = first_taken h line text
stage_line_taken has Words h line text = fields_taken h line (separated_parts 32 text)
stage_line_taken has (Header before) h line text = header_taken has h.many before line text
stage_line_taken has (Over finish) h line text = bad line

-- what the next line makes of it
abbrev pub line_taken : (List ℕ → Bool) → HeadingState → ℕ → List ℕ → Result HeadingState Refusal
line_taken has h line text = stage_line_taken has h.stage h line text

-- the finish, once its line was read
abbrev pub stage_finish : Stage → Result Finish Refusal
stage_finish (Over finish) = Ok finish
stage_finish _ = Err (refusal [] CutShort)

abbrev pub finish_told : Stage → Option Finish
finish_told (Over finish) = Some finish
finish_told _ = None
