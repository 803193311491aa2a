-- The lines of an input tell events, one line after another.
use Rattle.std.proofs.Common.{◌≡◌, ℕ, ◌+◌, true, List, [], ◌∷◌, ◌++◌, Result, Ok, Err, refl, sym, ap, ◌∙◌, subst, append_assoc, append-nil}
use Rattle.std.specs.List.{FoldsTo}
use Rattle.swap_base.specs.Fault.{◌>>=◌, Fails}
use Rattle.swap_base.specs.declared.fault.Fault.{Fault}
use Rattle.swap_base.specs.declared.fault.Fault.TheVariants as offer
use Rattle.command_input.specs.Faults.{of_offer}
use Rattle.command_input.specs.Input.{CanBeLeft, Desk, Ends, Fits, IsLast, IsLine, Stops, Tells, ahead}
use Rattle.command_input.proofs.Streams.{IsStepAt, Led, led_none, led_on_at, led_to_end, led_to_fault_at, stops_as}
use Rattle.swap_commands.specs.Walk.{HasTakenEvent, IsWalked, lines_told}

-- What is said of an input that was read to its end.

pub ends_as : (P Q : List ℕ → Type 0) → ((bytes : List ℕ) → P bytes → Q bytes) → (s t : Desk) → Ends P s t → Ends Q s t
ends_as P Q f s t e = record { bytes = e.bytes; stands = e.stands; can = e.can; told = f e.bytes e.told; ended = e.ended }

pub tells_all : (P : List ℕ → Type 0) (s t : Desk) → Ends P s t → t.at.over ≡ true → Tells P s t
tells_all P s t e met =
    let same : (rest : List ℕ) → CanBeLeft t.at rest → e.bytes ++ rest ≡ e.bytes = λ rest can. ap (λ (xs : List ℕ). e.bytes ++ xs) (can met) ∙ append-nil e.bytes in
    record {
      bytes = e.bytes;
      stands = e.stands;
      can = λ rest can over. same rest can ∙ e.can over;
      told = λ rest can. subst P (sym (same rest can)) e.told;
    }

-- The events so far, and those of the lines ahead.

same_result : {A R : Type 0} (r : Result A R) → (r >>= λ x. let y : Result A R = Ok x in y) ≡ r
same_result (Ok x) = refl
same_result (Err e) = refl

regroup : {E R : Type 0} (done : List E) (next : Result E R) (rest : Result (List E) R)
    → ((next >>= λ e. rest >>= λ es. let r : Result (List E) R = Ok (e ∷ es) in r) >>= λ es. let r : Result (List E) R = Ok (done ++ es) in r)
    ≡ ((next >>= λ e. let r : Result (List E) R = Ok (done ++ e ∷ []) in r) >>= λ more. rest >>= λ es. let r : Result (List E) R = Ok (more ++ es) in r)
regroup {E} {R} done (Ok e) (Ok es) = ap (λ (xs : List E). let r : Result (List E) R = Ok xs in r) (sym (append_assoc done (e ∷ []) es))
regroup done (Ok e) (Err r) = refl
regroup done (Err r) rest = refl

folds_push : {E A : Type 0} (leads : A → E → A → Type 0) (x y z : A) (es : List E) (e : E) → FoldsTo leads x es y → leads y e z
    → FoldsTo leads x (es ++ e ∷ []) z
folds_push leads x y z [] e p q = (z, subst (λ w. leads w e z) (sym p) q, refl)
folds_push leads x y z (d ∷ es) e p q = (p.0, p.1, folds_push leads p.0 y z es e p.2 q)

module _ {E R : Type 0} (told : ℕ → ℕ → List ℕ → Result E R) where
  -- the events so far, and those of the lines
  unfoldable pub gathered : ℕ → List E → List (ℕ × List ℕ) → Result (List E) R
  gathered n done ls = lines_told told n ls >>= λ events. Ok (done ++ events)

  unfoldable gather : ℕ → List E → ℕ → List ℕ → Result (List E) R
  gather n done line text = told n line text >>= λ event. Ok (done ++ event ∷ [])

  gather_step : (n : ℕ) (done : List E) → IsStepAt gathered gather n done
  unfolding gathered gather lines_told
  gather_step n done number text rest = regroup done (told n number text) (lines_told told (n + 1) rest)

  gathered_none : (n : ℕ) (done : List E) → gathered n done [] ≡ Ok done
  unfolding gathered lines_told
  gathered_none n done = ap (λ (es : List E). let r : Result (List E) R = Ok es in r) (append-nil done)

  gathered_from : (ls : List (ℕ × List ℕ)) → gathered 0 [] ls ≡ lines_told told 0 ls
  unfolding gathered
  gathered_from ls = same_result (lines_told told 0 ls)

  gather_fails : (n : ℕ) (done : List E) (line : ℕ) (text : List ℕ) (fault : Fault R) → Fails fault (told n line text) → Fails fault (gather n done line text)
  unfolding gather
  gather_fails n done line text offer.NoMemory e = tt
  gather_fails n done line text (offer.Refused r) e = ap (λ (x : Result E R). x >>= λ event. let y : Result (List E) R = Ok (done ++ event ∷ []) in y) e

  gather_tells : (n : ℕ) (done : List E) (line : ℕ) (text : List ℕ) (event : E) → told n line text ≡ Ok event
      → gather n done line text ≡ Ok (done ++ event ∷ [])
  unfolding gather
  gather_tells n done line text event e = ap (λ (x : Result E R). x >>= λ event. let y : Result (List E) R = Ok (done ++ event ∷ []) in y) e

  -- what is said against a line is said of all
  pub refused : (first s t : Desk) (count : ℕ) (events : List E) (fault : Fault R) → Led gathered first [] s count events → IsLine s t
      → Fails fault (told count t.at.number t.at.text) → Stops (λ bytes r. lines_told told 0 (ahead first.at bytes) ≡ Err r) first t (of_offer fault)
  refused first s t count events fault led line fails =
      stops_as (λ bytes r. gathered 0 [] (ahead first.at bytes) ≡ Err r) (λ bytes r. lines_told told 0 (ahead first.at bytes) ≡ Err r)
      (λ bytes r e. sym (gathered_from (ahead first.at bytes)) ∙ e) first t (of_offer fault)
      (led_to_fault_at gathered first [] gather s t count events fault (gather_step count events) led line
      (gather_fails count events t.at.number t.at.text fault fails))

  module _ {A : Type 0} (leads : A → E → A → Type 0) (old : A) where
    -- The lines so far told events, which have led here.
    pub record IsOn (first here : Desk) (count : ℕ) (now : A) : Type 0 where
      pub events : List E
      pub led : Led gathered first [] here count events
      pub stepped : FoldsTo leads old events now

    pub none_yet : (first : Desk) → Fits first.left first.at → IsOn first first 0 old
    none_yet first fits = record { events = []; led = led_none gathered first [] fits; stepped = refl }

    pub one_more : (first s t : Desk) (count : ℕ) (now new : A) → IsOn first s count now → IsLine s t
        → HasTakenEvent leads (told count t.at.number t.at.text) now new → IsOn first t (count + 1) new
    one_more first s t count now new on line k = record {
      events = on.events ++ k.event ∷ [];
      led = led_on_at gathered first [] gather s t count on.events (on.events ++ k.event ∷ []) (gather_step count on.events) on.led line
          (gather_tells count on.events t.at.number t.at.text k.event k.is_told);
      stepped = folds_push leads old now new on.events k.event on.stepped k.stepped;
    }

    -- the end of the input
    pub is_walked : (first s t : Desk) (count : ℕ) (now : A) → IsOn first s count now → IsLast s t → IsWalked leads told old now first t
    is_walked first s t count now on last =
        record {
          events = on.events;
          are_told = ends_as (λ bytes. gathered 0 [] (ahead first.at bytes) ≡ Ok on.events) (λ bytes. lines_told told 0 (ahead first.at bytes) ≡ Ok on.events)
              (λ bytes e. sym (gathered_from (ahead first.at bytes)) ∙ e) first t
              (led_to_end gathered first [] (λ y. y) gathered_none s t count on.events on.led last);
          met = last.met;
          stepped = on.stepped;
        }
