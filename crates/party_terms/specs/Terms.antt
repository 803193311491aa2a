-- What is written of a header line and its lines of context, or the first reason against them.
use Rattle.std.specs.Prelude.{ℕ, List, [], ◌∷◌, ◌++◌, length, Result, Ok, Err, if◌then◌else◌}
use Rattle.std.specs.Str.{bytes_eq}
use Rattle.std.specs.List.{flat_map}
use Rattle.sha2.specs.Sha256.{sha256}
use Rattle.swap_base.specs.Fault.{◌>>=◌}
use Rattle.swap_job.specs.declared.job.Job.{Job}
use Rattle.swap_job.specs.declared.job.Purpose.TheVariants.{Audit}
use Rattle.command_input.specs.declared.reason.Reason.TheVariants.{BadLine}
use Rattle.command_input.specs.declared.refusal.Refusal.{Refusal}
use Rattle.command_input.specs.Refusal.{named_result}
use Rattle.offer_header.specs.Names.{no_strategy}
use Rattle.offer_text.specs.HeaderLine.{header_line}
use Rattle.swap_offer.specs.Job.{parse_header_job, header_names}
use Rattle.party_rows.specs.Lines.{first_line, ended_lines, following_line_number, nameless, no_line, short_header}
use Rattle.party_rows.specs.Names.{party_named}
use Rattle.party_terms.specs.declared.context.ContextLine.{ContextLine}
use Rattle.party_terms.specs.Context.{parse_context}
use Rattle.party_terms.specs.Text.{terms_text}

-- The line of that number is the very line that is written of its job. Who reads the same line with
-- another reader of JSON (a member that stands twice, a space, another order) could be told another
-- deal than its party agrees to.
unfoldable pub very_line : ℕ → List ℕ → Job → Result (Unit {0}) Refusal
very_line line text job = if bytes_eq text (header_line job) then Ok tt else Err (nameless (BadLine line))

-- the job of a deal's header line of that number, as a transcript has it and as `deal` writes it
unfoldable pub parse_header_line : ℕ → List ℕ → Result Job Refusal
parse_header_line line text = do
  u ← short_header line text
  job ← named_result (header_names no_strategy Audit line text) (parse_header_job no_strategy Audit line text)
  v ← very_line line text job
  Ok job

-- What wallets agree on: a deal, what they say of its arcs, and the digest of both. The line behind
-- has that number.
pub record AgreedState : Type 0 where
  pub job : Job
  pub context : List ContextLine
  pub digest : List ℕ
  pub next : ℕ

-- the header line and the lines of context, each with its line feed
abbrev pub agreed_text : List ℕ → List ContextLine → List ℕ
agreed_text header context = (header ++ 10 ∷ []) ++ flat_map (λ x. x.line ++ 10 ∷ []) context

-- The digest to agree on. It is the same for every party, and binds names too.
unfoldable pub agreed_digest : List ℕ → List ContextLine → List ℕ
agreed_digest header context = sha256 (agreed_text header context)

-- what wallets agree on by the first of these lines, the header line of that number, and the lines
-- of context behind it; and the lines behind these
unfoldable pub parse_agreed : ℕ → List (List ℕ) → Result (AgreedState × List (List ℕ)) Refusal
parse_agreed number ls = do
  header ← first_line ls
  job ← parse_header_line number header.0
  context ← parse_context (length job.deal.graph.arcs) (following_line_number number) header.1
  Ok (record { job = job; context = context.0.list; digest = agreed_digest header.0 context.0.list; next = context.0.next }, context.1)

-- the terms of the party of that name, by what was agreed on
unfoldable pub named_terms : List ℕ → AgreedState → Result (List ℕ) Refusal
named_terms name s = do
  v ← party_named 1 s.job.names name
  Ok (terms_text s.job.names s.job.deal s.context s.digest v)

-- the terms of the party of that name, by all lines of a text
unfoldable pub terms_from_lines : List ℕ → List (List ℕ) → Result (List ℕ) Refusal
terms_from_lines name ls = do
  agreed ← parse_agreed 1 ls
  u ← no_line agreed.0.next agreed.1
  named_terms name agreed.0

-- what `terms` writes for the party of that name
unfoldable pub terms_output : List ℕ → List ℕ → Result (List ℕ) Refusal
terms_output name text = ended_lines text >>= terms_from_lines name
