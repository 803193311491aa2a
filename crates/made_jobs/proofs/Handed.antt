-- A text that is put behind what waits, and what is handed on after it.
use Rattle.std.proofs.Common.{◌≡◌, ℕ, List, [], ◌++◌, Option, Result, Ok, Err, refl, ap, subst}
use Rattle.std.proofs.KnownBytes.{Appends-nil}
use Rattle.swap_base.specs.Text.{lines}
use Rattle.swap_gen.specs.Drawn.{generated}
use Rattle.swap_gen.specs.Events.{generated_events}
use Rattle.swap_gen.specs.Line.{event_line}
use Rattle.made_jobs.specs.Making.{written_line}
use Rattle.made_jobs.specs.Generating.{generated_text}
use Rattle.swap_io.specs.Handed.{Handed, Hands, Lost}
use Rattle.swap_io.proofs.Handing.{handed_on, handed_put, hands_err, hands_ok, lost_on}
use Rattle.swap_io.specs.declared.fault.TextFault.{TextFault}
use Rattle.swap_io.specs.declared.fault.TextFault.TheVariants.{NoMemory}

-- nothing was handed on yet
pub all_lost : (a : Option (List ℕ)) (w text : List ℕ) → Lost NoMemory a w a text
all_lost a w text = (w ++ text, ([], Appends-nil a, refl))

-- a text was put behind what waits, and then more was handed on
pub hands_then : {T : Type 0} (a b : Option (List ℕ)) (n m : ℕ) (w x y text more total : List ℕ) (result : Result T TextFault) → x ≡ w ++ text
    → text ++ more ≡ total → Hands a b n m x y more result → Hands a b n m w y total result
hands_then a b n m w x y text more total (Ok v) put is h =
    hands_ok v a b n m w y total (Ok v) refl
    (subst (λ (t : List ℕ). Handed a w b y t) is (handed_on a a b w x y text more (handed_put a w x text put) h.all)) h.later
hands_then a b n m w x y text more total (Err e) put is h =
    hands_err e a b n m w y total (Err e) refl
    (subst (λ (t : List ℕ). Lost e a w b t) is (lost_on e a a b w x text more (handed_put a w x text put) h.lost)) h.later (λ q. h.failed (rw q refl))

-- the header line, and the lines of events that speak of the names, are the whole text
pub text_is : (seed n count : ℕ) (names : List (List ℕ)) → names ≡ (generated seed n).names
    → written_line (generated seed n) ++ lines (λ _. event_line names) 0 (generated_events seed n count) ≡ generated_text seed n count
unfolding generated_text
text_is seed n count names is = ap (λ (y : List (List ℕ)). written_line (generated seed n) ++ lines (λ _. event_line y) 0 (generated_events seed n count)) is
