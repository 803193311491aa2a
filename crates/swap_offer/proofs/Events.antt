-- The events of lines, read one after the other.
use Rattle.std.proofs.Common.{◌≡◌, ℕ, ◌+◌, ◌<◌, ◌≤◌, List, [], ◌∷◌, ◌++◌, length, get_or, drop, map, Result, Ok, Err, refl, sym, ap, ◌∙◌, arith, add-one}
use Rattle.std.proofs.Common.{drop-cons, append_assoc}
use Rattle.std.proofs.lemmas.List.{append-nil, nil_from_length, length-drop}
use Rattle.swap_base.specs.Fault.{◌>>=◌, steps, Fails}
use Rattle.swap_base.specs.declared.fault.Fault.{Fault}
use Rattle.swap_base.specs.declared.fault.Fault.TheVariants.{Refused, NoMemory}
use Rattle.swap_job.specs.declared.job.Job.{Job}
use Rattle.swap_job.specs.declared.event.Event.{Event}
use Rattle.command_input.specs.declared.reason.Reason.{Reason}
use Rattle.offer_moves.proofs.Lists.{with_front}
use Rattle.swap_offer.specs.Job.{counted, parse_events, limited_event}

-- a line as it stands in the text
abbrev pub line_of : {B : Type 0} → (B → List ℕ) → ℕ × B → ℕ × List ℕ
line_of text l = (l.0, text l.1)

regroup : (front : List Event) (next : Result Event Reason) (rest : Result (List Event) Reason) →
    with_front front (next >>= λ e. rest >>= λ es. Ok (e ∷ es)) ≡ next >>= λ e. with_front (front ++ e ∷ []) rest
regroup front (Ok e) (Ok es) = ap (λ (xs : List Event). let r : Result (List Event) Reason = Ok xs in r) (simp append_assoc)
regroup front (Ok e) (Err r) = refl
regroup front (Err r) rest = refl

step_of : (job : Job) (n : ℕ) (front : List Event) (line : ℕ) (text : List ℕ) (rest : List (ℕ × List ℕ)) →
    with_front front (parse_events job n ((line, text) ∷ rest))
    ≡ limited_event job n line text >>= λ e. with_front (front ++ e ∷ []) (parse_events job (n + 1) rest)
unfolding parse_events
step_of job n front line text rest = regroup front (limited_event job n line text) (parse_events job (n + 1) rest)

none_left : (job : Job) (n : ℕ) → parse_events job n [] ≡ Ok []
unfolding parse_events
none_left job n = refl

pub starts : (read : Result (List Event) Reason) → with_front [] read ≡ read
starts (Ok es) = refl
starts (Err r) = refl

module _ {B : Type 0} (text : B → List ℕ) (job : Job) (ls : List (ℕ × B)) (total : Result (List Event) Reason) where
  -- what was read, and what is still read
  abbrev pub left : ℕ → List Event → Result (List Event) Reason
  left i front = with_front front (parse_events job i (map (line_of text) (drop i ls)))

  next : (i : ℕ) (front : List Event) (d : ℕ × B) → i < length ls → left i front ≡ limited_event job i (get_or ls i d).0 (text (get_or ls i d).1) >>= λ e.
      left (i + 1) (front ++ e ∷ [])
  next i front d lt =
      let e : drop i ls ≡ get_or ls i d ∷ drop (i + 1) ls = rw (add-one, drop-cons ls i d) refl in
      ap (λ (xs : List (ℕ × B)). with_front front (parse_events job i (map (line_of text) xs))) e
      ∙ step_of job i front (get_or ls i d).0 (text (get_or ls i d).1) (map (line_of text) (drop (i + 1) ls))

  pub goes_on : (i : ℕ) (front : List Event) (e : Event) (d : ℕ × B) → i < length ls → limited_event job i (get_or ls i d).0 (text (get_or ls i d).1) ≡ Ok e
      → left i front ≡ total
      → left (i + 1) (front ++ e ∷ []) ≡ total
  goes_on i front e d lt h so_far = sym (next i front d lt ∙ ap (λ (r : Result Event Reason). r >>= λ x. left (i + 1) (front ++ x ∷ [])) h) ∙ so_far

  pub ends : (f : Fault Reason) (i : ℕ) (front : List Event) (d : ℕ × B) → i < length ls
      → Fails f (limited_event job i (get_or ls i d).0 (text (get_or ls i d).1)) → left i front ≡ total → Fails f total
  ends NoMemory i front d lt h so_far = tt
  ends (Refused r) i front d lt h so_far = sym so_far ∙ next i front d lt ∙ ap (λ (q : Result Event Reason). q >>= λ x. left (i + 1) (front ++ x ∷ [])) h

  pub is_done : (i : ℕ) (front : List Event) → length ls ≤ i → left i front ≡ total → total ≡ Ok front
  is_done i front le so_far =
      let e : drop i ls ≡ [] = nil_from_length (drop i ls) (omega (arith, length-drop i ls)) in
      sym so_far ∙ ap (λ (xs : List (ℕ × B)). with_front front (parse_events job i (map (line_of text) xs))) e
      ∙ ap (λ (r : Result (List Event) Reason). with_front front r) (none_left job i)
      ∙ ap (λ (xs : List Event). let r : Result (List Event) Reason = Ok xs in r) (append-nil front)

-- lines that are counted, and not examined
module _ {B : Type 0} (text : B → List ℕ) (ls : List (ℕ × B)) (total : Result ℕ Reason) where
  -- what is left to count
  abbrev pub to_count : ℕ → ℕ → Result ℕ Reason
  to_count i count = steps counted count (map (line_of text) (drop i ls))

  next_count : (i count : ℕ) (d : ℕ × B) → i < length ls
      → to_count i count ≡ counted count ((get_or ls i d).0, text (get_or ls i d).1) >>= λ n. to_count (i + 1) n
  unfolding steps
  next_count i count d lt =
      let e : drop i ls ≡ get_or ls i d ∷ drop (i + 1) ls = rw (add-one, drop-cons ls i d) refl in
      ap (λ (xs : List (ℕ × B)). steps counted count (map (line_of text) xs)) e

  pub counts_on : (i count n : ℕ) (d : ℕ × B) → i < length ls → counted count ((get_or ls i d).0, text (get_or ls i d).1) ≡ Ok n
      → to_count i count ≡ total → to_count (i + 1) n ≡ total
  counts_on i count n d lt h so_far = sym (next_count i count d lt ∙ ap (λ (r : Result ℕ Reason). r >>= λ k. to_count (i + 1) k) h) ∙ so_far

  pub counts_end : (f : Fault Reason) (i count : ℕ) (d : ℕ × B) → i < length ls
      → Fails f (counted count ((get_or ls i d).0, text (get_or ls i d).1)) → to_count i count ≡ total → Fails f total
  counts_end NoMemory i count d lt h so_far = tt
  counts_end (Refused r) i count d lt h so_far =
      sym so_far ∙ next_count i count d lt ∙ ap (λ (q : Result ℕ Reason). q >>= λ k. to_count (i + 1) k) h

  pub count_is_done : (i count : ℕ) → length ls ≤ i → to_count i count ≡ total → total ≡ Ok count
  unfolding steps
  count_is_done i count le so_far =
      let e : drop i ls ≡ [] = nil_from_length (drop i ls) (omega (arith, length-drop i ls)) in
      sym so_far ∙ ap (λ (xs : List (ℕ × B)). steps counted count (map (line_of text) xs)) e
