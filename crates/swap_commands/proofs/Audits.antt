-- What the command `audit` says.
use Rattle.std.proofs.Common.{◌≡◌, inl, inr, ℕ, Bool, true, false, List, Option, Result, Ok, Err, sym, ap}
use Rattle.swap_io.specs.Tape.{Tape}
use Rattle.swap_io.specs.Causes.{AppendsProperPrefix}
use Rattle.swap_io.specs.Handed.{AppendsPrefix}
use Rattle.command_input.specs.declared.refusal.Refusal.{Refusal}
use Rattle.command_input.specs.Refusal.{refusal}
use Rattle.audit_command.specs.Output.{audit_output}
use Rattle.audit_command.specs.Says.{AuditSays, HasAuditAnswer, HasAuditOutput}
use Rattle.command_input.specs.declared.status.Status.{Status}
use Rattle.command_input.specs.declared.status.Status.TheVariants.{Done, Named, WrongWords, Refused, ReadFault, WriteFault, NoMemory, TooLong}
use Rattle.command_input.specs.Streams.{streams}
use Rattle.swap_world.specs.Gone.{MayGive}
use Rattle.command_input.specs.Written.{IsWrittenWhole, Written}
use Rattle.swap_commands.specs.Output.{reason_alone, refusal_names, names_told, no_chance, output_given_chance}
use Rattle.swap_commands.specs.Says.{HasOutput, HasRead, StatusSays}
use Rattle.swap_commands.specs.Words.{Audit}
use Rattle.swap_commands.specs.Strategies.{given_strategies}

module _ (has : List ℕ → Bool) (gives : MayGive) where
  gives_by : (input : List ℕ) (output : Result Written Refusal) → audit_output input ≡ output → output_given_chance has no_chance Audit input ≡ reason_alone output
  unfolding output_given_chance
  gives_by input output e = ap reason_alone e

  named_by : (input : List ℕ) (refusal : Refusal) → audit_output input ≡ Err refusal → refusal.names ≡ refusal_names has Audit input
  unfolding refusal_names
  named_by input refusal e = sym (ap names_told e)

  abbrev read_by : (a b : Tape) (output : Result Written Refusal) → HasAuditAnswer a b output → HasRead has no_chance Audit a b (reason_alone output)
  read_by a b output r = record {
    input = r.input;
    taken = r.taken;
    ended = r.ended;
    within = r.within;
    gives = gives_by r.input output r.gives;
  }

  written_by : (P Q : Written → Type 0) → ((w : Written) → P w → Q w) → (a b : Tape) → HasAuditOutput P a b → HasOutput has gives Q Audit a b
  written_by P Q f a b o = record {
    chance = no_chance;
    output = o.output;
    read = read_by a b (Ok o.output) o.read;
    promised = o.promised;
    written = f o.output o.written;
  }

  cut : (a b : Tape) (taken taken' : Option (List ℕ)) → HasAuditOutput (λ w. AppendsProperPrefix taken taken' w.text) a b
      → HasOutput has gives (λ w. AppendsProperPrefix taken taken' w.text) Audit a b
  cut a b taken taken' o = written_by (λ w. AppendsProperPrefix taken taken' w.text) (λ w. AppendsProperPrefix taken taken' w.text) (λ w x. x) a b o

  short : (a b : Tape) (taken taken' : Option (List ℕ)) → HasAuditOutput (λ w. AppendsPrefix taken taken' w.text) a b
      → HasOutput has gives (λ w. AppendsPrefix taken taken' w.text) Audit a b
  short a b taken taken' o = written_by (λ w. AppendsPrefix taken taken' w.text) (λ w. AppendsPrefix taken taken' w.text) (λ w x. x) a b o

  pub says_audit : (a b : Tape) (n m : ℕ) (taken taken' : Option (List ℕ)) (p q : ℕ) (s : Status)
      → AuditSays (streams a n taken p) (streams b m taken' q) s → StatusSays (given_strategies has gives) Audit (streams a n taken p) (streams b m taken' q) s
  says_audit a b n m taken taken' p q Done s = written_by (IsWrittenWhole taken taken' false) (IsWrittenWhole taken taken' false) (λ w x. x) a b s
  says_audit a b n m taken taken' p q Named s = written_by (IsWrittenWhole taken taken' true) (IsWrittenWhole taken taken' true) (λ w x. x) a b s
  says_audit a b n m taken taken' p q WrongWords s = absurd s
  says_audit a b n m taken taken' p q (Refused reason names) s =
      let r = refusal names reason in (record { read = read_by a b (Err r) s.0; named = named_by s.0.input r s.0.gives }, s.1)
  says_audit a b n m taken taken' p q ReadFault s = s
  says_audit a b n m taken taken' p q WriteFault s = (s.0, cut a b taken taken' s.1)
  says_audit a b n m taken taken' p q NoMemory (inl k) = inl k
  says_audit a b n m taken taken' p q NoMemory (inr o) = inr (short a b taken taken' o)
  says_audit a b n m taken taken' p q TooLong s = s
