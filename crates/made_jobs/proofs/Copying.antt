-- Lines that are copied one after another.
use Rattle.std.proofs.Common.{◌≡◌, ◌==◌, ℕ, ◌+◌, Bool, true, false, cond, List, [], ◌∷◌, ◌++◌, fold, codes, Result, Ok, Err, refl, sym, ap, ◌∙◌}
use Rattle.swap_base.specs.Fault.{◌>>=◌, Fails, steps}
use Rattle.swap_base.specs.Text.{joined}
use Rattle.swap_base.specs.declared.fault.Fault.{Fault}
use Rattle.swap_base.specs.declared.fault.Fault.TheVariants.{Refused, NoMemory}
use Rattle.swap_job.specs.declared.event.Event.{Event}
use Rattle.swap_job.specs.declared.job.Job.{Job}
use Rattle.swap_job.specs.declared.job.Purpose.TheVariants.{Make}
use Rattle.command_input.specs.declared.reason.Reason.{Reason}
use Rattle.command_input.specs.declared.reason.Reason.TheVariants.{OverLimit}
use Rattle.swap_offer.specs.Job.{counted, parse_header_job}
use Rattle.swap_gen.specs.Made.{made}
use Rattle.made_jobs.specs.Making.{written_line, with_copied_line, made_text, made_lines_output, line_step, copied, next_made_line}

-- the lines are counted, and put behind the text
pub lines_put : (count : ℕ) (text : List ℕ) (ls : List (ℕ × List ℕ)) → steps line_step (count, text) ls ≡ steps counted count ls >>= λ n.
    Ok (n, fold with_copied_line text ls)
unfolding steps line_step
lines_put count text [] = refl
lines_put count text (l ∷ ls) = go (counted count l) (λ n. lines_put n (with_copied_line text l) ls)
  where
    go : (r : Result ℕ Reason) → ((n : ℕ) → steps line_step (n, with_copied_line text l) ls ≡ steps counted n ls >>= λ m. Ok (m, fold with_copied_line (with_copied_line text l) ls))
        → ((r >>= λ n. let s : Result (ℕ × List ℕ) Reason = Ok (n, with_copied_line text l) in s) >>= λ s. steps line_step s ls)
        ≡ (r >>= λ n. steps counted n ls) >>= λ n. Ok (n, fold with_copied_line text (l ∷ ls))
    go (Ok n) others = others n
    go (Err reason) others = refl

-- what is written of the lines of an input
pub made_is : (has : List ℕ → Bool) (l : ℕ × List ℕ) (ls : List (ℕ × List ℕ))
    → (parse_header_job has Make l.0 l.1 >>= λ job. copied 0 (written_line (made job)) ls) ≡ made_lines_output has (l ∷ ls)
unfolding copied made_text
made_is has l ls = go (parse_header_job has Make l.0 l.1)
  where
    after : (job : Job) (r : Result ℕ Reason) → ((r >>= λ n. let s : Result (ℕ × List ℕ) Reason = Ok (n, fold with_copied_line (written_line (made job)) ls) in s)
        >>= λ s. let t : Result (List ℕ) Reason = Ok s.1 in t)
        ≡ ((r >>= λ n. let e : Result (List Event) Reason = Ok [] in e) >>= λ events. let j : Result (Job × List Event) Reason = Ok (job, events) in j)
        >>= λ j. Ok (made_text j.0 ls)
    after job (Ok n) = refl
    after job (Err reason) = refl

    go : (r : Result Job Reason) → (r >>= λ job. steps line_step (0, written_line (made job)) ls >>= λ s. let t : Result (List ℕ) Reason = Ok s.1 in t)
        ≡ (r >>= λ job. (steps counted 0 ls >>= λ n. let e : Result (List Event) Reason = Ok [] in e)
        >>= λ events. let j : Result (Job × List Event) Reason = Ok (job, events) in j) >>= λ j. Ok (made_text j.0 ls)
    go (Ok job) =
        ap (λ (x : Result (ℕ × List ℕ) Reason). x >>= λ s. let t : Result (List ℕ) Reason = Ok s.1 in t) (lines_put 0 (written_line (made job)) ls)
        ∙ after job (steps counted 0 ls)
    go (Err reason) = refl

-- a line after the others

pub copied_one : (count : ℕ) (text : List ℕ) (number : ℕ) (line : List ℕ) (ls : List (ℕ × List ℕ))
    → copied count text ((number, line) ∷ ls) ≡ next_made_line count text number line >>= λ t. copied (count + 1) t ls
unfolding copied next_made_line line_step counted steps
copied_one count text number line ls = go (count == 200000)
  where
    go : (full : Bool)
        → ((cond {A = Result ℕ Reason} full (Err (OverLimit number (codes "events") 200001)) (Ok (count + 1))
        >>= λ n. let s : Result (ℕ × List ℕ) Reason = Ok (n, text ++ joined (line ∷ codes "\n" ∷ [])) in s) >>= λ s. steps line_step s ls)
        >>= (λ s. let t : Result (List ℕ) Reason = Ok s.1 in t)
        ≡ ((cond {A = Result ℕ Reason} full (Err (OverLimit number (codes "events") 200001)) (Ok (count + 1))
        >>= λ n. let s : Result (ℕ × List ℕ) Reason = Ok (n, text ++ joined (line ∷ codes "\n" ∷ [])) in s)
        >>= λ s. let t : Result (List ℕ) Reason = Ok s.1 in t)
        >>= λ t. steps line_step (count + 1, t) ls >>= λ s. let u : Result (List ℕ) Reason = Ok s.1 in u
    go true = refl
    go false = refl

pub copied_none : (count : ℕ) (text : List ℕ) → copied count text [] ≡ Ok text
unfolding copied steps
copied_none count text = refl

-- what the step of a line says of the count and of the text
pub step_says : (count : ℕ) (text new : List ℕ) (number n : ℕ) (line : List ℕ) → line_step (count, text) (number, line) ≡ Ok (n, new)
    → (n ≡ count + 1) × (next_made_line count text number line ≡ Ok new)
unfolding next_made_line line_step counted
step_says count text new number n line e = (
  counts (count == 200000) e,
  ap (λ (r : Result (ℕ × List ℕ) Reason). r >>= λ s. let t : Result (List ℕ) Reason = Ok s.1 in t) e,
)
  where
    counts : (full : Bool) → (cond {A = Result ℕ Reason} full (Err (OverLimit number (codes "events") 200001)) (Ok (count + 1))
        >>= λ m. let s : Result (ℕ × List ℕ) Reason = Ok (m, text ++ joined (line ∷ codes "\n" ∷ [])) in s) ≡ Ok (n, new) → n ≡ count + 1
    counts true h = absurd (cc h)
    counts false h = let same : (count + 1, text ++ joined (line ∷ codes "\n" ∷ [])) ≡ (n, new) = cc h in sym (ap (λ (p : ℕ × List ℕ). p.0) same)

pub step_fails : (count : ℕ) (text : List ℕ) (number : ℕ) (line : List ℕ) (fault : Fault Reason) → Fails fault (line_step (count, text) (number, line))
    → Fails fault (next_made_line count text number line)
unfolding next_made_line
step_fails count text number line NoMemory e = tt
step_fails count text number line (Refused reason) e = rw e refl
