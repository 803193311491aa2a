-- A reading steps along the lines of its input.
use Rattle.std.proofs.Common.{◌≡◌, ◌+◌, ℕ, Bool, true, false, List, [], ◌∷◌, ◌++◌, Result, Ok, Err, refl, sym, ap, ◌∙◌, subst, arith}
use Rattle.std.proofs.Common.{append_assoc, append-nil}
use Rattle.swap_io.specs.Tape.{Tape}
use Rattle.swap_base.specs.Fault.{◌>>=◌, Fails}
use Rattle.swap_base.specs.declared.fault.Fault.{Fault}
use Rattle.swap_base.specs.declared.fault.Fault.TheVariants as offer
use Rattle.swap_io.proofs.Feeds.{took_on}
use Rattle.swap_io.specs.declared.fault.LineFault.{LineFault}
use Rattle.swap_io.specs.declared.fault.LineFault.TheVariants as line
use Rattle.swap_io.specs.declared.fault.DrainFault.{DrainFault}
use Rattle.swap_io.specs.declared.fault.DrainFault.TheVariants as drained
use Rattle.command_input.specs.declared.fault.InputFault.{InputFault}
use Rattle.command_input.specs.declared.fault.InputFault.TheVariants.{Refused, ReadFault, TooLong, NoMemory}
use Rattle.command_input.specs.declared.status.Status.TheVariants as status
use Rattle.command_input.specs.declared.refusal.Refusal.{Refusal}
use Rattle.command_input.specs.Faults.{of_drain, of_line, of_offer, retold, unread}
use Rattle.command_input.specs.Input.{InputProgress, Breaks, CanBeLeft, Desk, Drains, Ends, Faulted, Fits, GivesLine, GivesNoLine}
use Rattle.command_input.specs.Input.{HasStopped, HasNoNewFault, IsDrained, IsLast, IsLine}
use Rattle.command_input.specs.Input.{TookPart, Stands, Stops, Tells, ahead, desk, fresh}
use Rattle.command_input.proofs.Ahead.{faulted_on, line_faults, stands_none, stands_on}

-- bytes may come before the end
pub can_come : (s : InputProgress) (rest : List ℕ) → s.over ≡ false → CanBeLeft s rest
can_come s rest not_over = λ over. absurd (cc (sym not_over ∙ over))

-- before the first line
pub fits_fresh : (left : Tape) (s : InputProgress) → s ≡ fresh → Fits left s
fits_fresh left s e = subst (λ (t : InputProgress). Fits left t) (sym e) (record { within = omega arith; ended = λ over. absurd (cc over) })

-- what a walk in the state y makes of the next line, whose number is given, and then of the lines
-- after it
abbrev pub IsStepAt : {A R E : Type 0} → (ℕ → A → List (ℕ × List ℕ) → Result R E) → (ℕ → A → ℕ → List ℕ → Result A E) → ℕ → A → Type 0
IsStepAt walk next n y = (number : ℕ) (text : List ℕ) (rest : List (ℕ × List ℕ))
    → walk n y ((number, text) ∷ rest) ≡ next n y number text >>= λ z. walk (n + 1) z rest

abbrev pub IsStep : {A R E : Type 0} → (ℕ → A → List (ℕ × List ℕ) → Result R E) → (ℕ → A → ℕ → List ℕ → Result A E) → Type 0
IsStep {A = A} walk next = (n : ℕ) (y : A) → IsStepAt walk next n y

module _ {A R E : Type 0} (walk : ℕ → A → List (ℕ × List ℕ) → Result R E) (first : Desk) (x : A) where
  -- What was read so far leads to y, whatever comes after it.
  pub record Led (now : Desk) (count : ℕ) (y : A) : Type 0 where
    pub bytes : List ℕ
    pub stands : Stands first now bytes
    pub can : CanBeLeft first.at bytes
    pub stays : first.at.over ≡ true → now.at.over ≡ true
    pub leads : (rest : List ℕ) → CanBeLeft now.at rest → walk 0 x (ahead first.at (bytes ++ rest)) ≡ walk count y (ahead now.at rest)

  pub led_none : Fits first.left first.at → Led first 0 x
  led_none fits = record {
    bytes = [];
    stands = stands_none first fits;
    can = λ over. refl;
    stays = λ over. over;
    leads = λ rest can.
        refl;
  }

  -- a line came, so that the end wasn't met before
  not_over : (s t : Desk) (count : ℕ) (y : A) → Led s count y → IsLine s t → ¬ (first.at.over ≡ true)
  not_over s t count y p q over = absurd (cc (sym q.open_yet ∙ p.stays over))

  -- the lines ahead were the next one and those ahead of it
  stepped : (next : ℕ → A → ℕ → List ℕ → Result A E) (s t : Desk) (count : ℕ) (y : A) → IsStepAt walk next count y
      → (p : Led s count y) (q : IsLine s t) (rest : List ℕ) → CanBeLeft t.at rest
      → walk 0 x (ahead first.at ((p.bytes ++ q.bytes) ++ rest)) ≡ next count y t.at.number t.at.text >>= λ z. walk (count + 1) z (ahead t.at rest)
  stepped next s t count y one p q rest can =
      ap (λ (xs : List ℕ). walk 0 x (ahead first.at xs)) (append_assoc p.bytes q.bytes rest)
      ∙ p.leads (q.bytes ++ rest) (can_come s.at (q.bytes ++ rest) q.open_yet)
      ∙ ap (walk count y) (q.first rest can)
      ∙ one t.at.number t.at.text (ahead t.at rest)

  pub led_on_at : (next : ℕ → A → ℕ → List ℕ → Result A E) (s t : Desk) (count : ℕ) (y z : A) → IsStepAt walk next count y
      → Led s count y → IsLine s t → next count y t.at.number t.at.text ≡ Ok z → Led t (count + 1) z
  led_on_at next s t count y z one p q e = record {
    bytes = p.bytes ++ q.bytes;
    stands = stands_on first s t p.bytes q.bytes p.stands q.stands;
    can = λ over. absurd (not_over s t count y p q over);
    stays = λ over. absurd (not_over s t count y p q over);
    leads = λ rest can. stepped next s t count y one p q rest can ∙ ap (λ (r : Result A E). r >>= λ z. walk (count + 1) z (ahead t.at rest)) e;
  }

  pub led_on : (next : ℕ → A → ℕ → List ℕ → Result A E) → IsStep walk next → (s t : Desk) (count : ℕ) (y z : A) → Led s count y
      → IsLine s t → next count y t.at.number t.at.text ≡ Ok z → Led t (count + 1) z
  led_on next one s t count y z p q e = led_on_at next s t count y z (one count y) p q e

  -- no line was given
  pub led_stops : {F : Type 0} (P : List ℕ → F → Type 0) (s t : Desk) (count : ℕ) (y : A) → Led s count y → (e : LineFault) → GivesNoLine s t e
      → Stops P first t (of_line e)
  led_stops P s t count y p e h = line_faults (λ r. Tells (λ bytes. P bytes r) first t) first s t p.bytes p.stands e h

  -- no line is ahead, whatever may still come
  at_last : (s t : Desk) (count : ℕ) (y : A) (p : Led s count y) (q : IsLast s t) (rest : List ℕ) → CanBeLeft t.at rest
      → walk 0 x (ahead first.at ((p.bytes ++ q.bytes) ++ rest)) ≡ walk count y []
  at_last s t count y p q rest can =
      ap (λ (xs : List ℕ). walk 0 x (ahead first.at ((p.bytes ++ q.bytes) ++ xs))) (can q.met)
      ∙ ap (λ (xs : List ℕ). walk 0 x (ahead first.at xs)) (append-nil (p.bytes ++ q.bytes)) ∙ p.leads q.bytes q.can ∙ ap (walk count y) q.none

  -- nothing may still come before what was read either
  last_can : (s t : Desk) (count : ℕ) (y : A) (p : Led s count y) (q : IsLast s t) → CanBeLeft first.at (p.bytes ++ q.bytes)
  last_can s t count y p q = λ over. ap (λ (xs : List ℕ). xs ++ q.bytes) (p.can over) ∙ q.can (p.stays over)

  -- what is said of an input that ends here
  pub led_to_last : (P : Result R E → Type 0) (s t : Desk) (count : ℕ) (y : A) → P (walk count y []) → Led s count y → IsLast s t
      → Tells (λ bytes. P (walk 0 x (ahead first.at bytes))) first t
  led_to_last P s t count y says p q = record {
    bytes = p.bytes ++ q.bytes;
    stands = stands_on first s t p.bytes q.bytes p.stands q.stands;
    can = λ rest can over.
        ap (λ (xs : List ℕ). (p.bytes ++ q.bytes) ++ xs) (can q.met) ∙ append-nil (p.bytes ++ q.bytes) ∙ last_can s t count y p q over;
    told = λ rest can. subst P (sym (at_last s t count y p q rest can)) says;
  }

  pub led_to_end : (out : A → R) → ((n : ℕ) (y : A) → walk n y [] ≡ Ok (out y)) → (s t : Desk) (count : ℕ) (y : A) → Led s count y
      → IsLast s t → Ends (λ bytes. walk 0 x (ahead first.at bytes) ≡ Ok (out y)) first t
  led_to_end out none s t count y p q = record {
    bytes = p.bytes ++ q.bytes;
    stands = stands_on first s t p.bytes q.bytes p.stands q.stands;
    can = last_can s t count y p q;
    told = p.leads q.bytes q.can ∙ ap (walk count y) q.none ∙ none count y;
    ended = q.stands.fits.ended q.met;
  }

  -- a fault of the next line
  pub led_to_fault_at : (next : ℕ → A → ℕ → List ℕ → Result A E) (s t : Desk) (count : ℕ) (y : A) (fault : Fault E)
      → IsStepAt walk next count y → Led s count y → IsLine s t → Fails fault (next count y t.at.number t.at.text)
      → Stops (λ bytes reason. walk 0 x (ahead first.at bytes) ≡ Err reason) first t (of_offer fault)
  led_to_fault_at next s t count y offer.NoMemory one p q fails =
      let stands = stands_on first s t p.bytes q.bytes p.stands q.stands in
      (stands.calm, ((p.bytes ++ q.bytes, stands.took), stands.fits.within))
  led_to_fault_at next s t count y (offer.Refused reason) one p q fails = record {
    bytes = p.bytes ++ q.bytes;
    stands = stands_on first s t p.bytes q.bytes p.stands q.stands;
    can = λ rest can over. absurd (not_over s t count y p q over);
    told = λ rest can.
        stepped next s t count y one p q rest can ∙ ap (λ (r : Result A E). r >>= λ z. walk (count + 1) z (ahead t.at rest)) fails;
  }

  pub led_to_fault : (next : ℕ → A → ℕ → List ℕ → Result A E) → IsStep walk next → (s t : Desk) (count : ℕ) (y : A)
      (fault : Fault E) → Led s count y → IsLine s t → Fails fault (next count y t.at.number t.at.text)
      → Stops (λ bytes reason. walk 0 x (ahead first.at bytes) ≡ Err reason) first t (of_offer fault)
  led_to_fault next one s t count y fault p q fails = led_to_fault_at next s t count y fault (one count y) p q fails

-- What a call of `next` gives, by its answer.

pub line_of : (more : Bool) (s t : Desk) → more ≡ true → GivesLine more s t → IsLine s t
line_of true s t e p = p
line_of false s t e p = absurd (cc e)

pub last_run : (more : Bool) (s t : Desk) → more ≡ false → GivesLine more s t → IsLast s t
last_run true s t e p = absurd (cc e)
last_run false s t e p = p

-- memory ran out behind what was taken
pub no_memory_after : (s t : Desk) (bytes : List ℕ) → Stands s t bytes → HasNoNewFault s t × TookPart s t
no_memory_after s t bytes p = (p.calm, ((bytes, p.took), p.fits.within))

pub nothing_read : (left : Tape) (n : ℕ) → HasNoNewFault (desk left n fresh) (desk left n fresh) × TookPart (desk left n fresh) (desk left n fresh)
nothing_read left n = no_memory_after (desk left n fresh) (desk left n fresh) [] (stands_none (desk left n fresh) (fits_fresh left fresh refl))

-- no line was given
pub line_stops : {R : Type 0} (P : List ℕ → R → Type 0) (s t : Desk) (e : LineFault) → GivesNoLine s t e → Stops P s t (of_line e)
line_stops P s t line.ReadFault h = h
line_stops P s t line.TooLong h = h
line_stops P s t line.NoMemory h = h

pub first_stops : {R : Type 0} (P : List ℕ → R → Type 0) (left : Tape) (n : ℕ) (s : InputProgress) (t : Desk) → s ≡ fresh → (e : LineFault)
    → GivesNoLine (desk left n s) t e → Stops P (desk left n fresh) t (of_line e)
first_stops P left n s t first e h = subst (λ (x : InputProgress). Stops P (desk left n x) t (of_line e)) first (line_stops P (desk left n s) t e h)

-- What stopped a reading behind what was taken, where what is said of the bytes after it is said of
-- all.
pub stops_on : {R E : Type 0} (Q : List ℕ → R → Type 0) (P : List ℕ → E → Type 0) (r s t : Desk) (xs : List ℕ) → Stands r s xs → r.at.over ≡ false
    → (said : R → E) → ((bytes : List ℕ) (e : R) → CanBeLeft s.at bytes → Q bytes e → P (xs ++ bytes) (said e)) → (f : InputFault R)
    → Stops Q s t f → Stops P r t (retold said f)
stops_on Q P r s t xs p going said says f h =
    faulted_on (λ e. Tells (λ bytes. Q bytes e) s t) (λ e. Tells (λ bytes. P bytes e) r t) r s t xs p said
    (λ e k. record {
      bytes = xs ++ k.bytes;
      stands = stands_on r s t xs k.bytes p k.stands;
      can = λ rest can. can_come r.at ((xs ++ k.bytes) ++ rest) going;
      told = λ rest can.
          subst (λ (ys : List ℕ). P ys (said e)) (sym (append_assoc xs k.bytes rest)) (says (k.bytes ++ rest) e (k.can rest can) (k.told rest can));
    })
    f h

-- a stop is the same where its refusals are told as they are
told_same : {R : Type 0} (f : InputFault R) → retold (λ said. said) f ≡ f
told_same (Refused x) = refl
told_same ReadFault = refl
told_same TooLong = refl
told_same NoMemory = refl

pub stops_same : {R : Type 0} (Q P : List ℕ → R → Type 0) (r s t : Desk) (xs : List ℕ) → Stands r s xs → r.at.over ≡ false
    → ((bytes : List ℕ) (e : R) → CanBeLeft s.at bytes → Q bytes e → P (xs ++ bytes) e) → (f : InputFault R) → Stops Q s t f → Stops P r t f
stops_same {R} Q P r s t xs p going says f h =
    subst (λ (k : InputFault R). Stops P r t k) (told_same f) (stops_on Q P r s t xs p going (λ said. said) says f h)

-- what stops a reading stops it whatever is said of it
pub stops_as : {R : Type 0} (P Q : List ℕ → R → Type 0) → ((bytes : List ℕ) (r : R) → P bytes r → Q bytes r) → (s t : Desk) (fault : InputFault R)
    → Stops P s t fault → Stops Q s t fault
stops_as P Q f s t (Refused r) k =
    record { bytes = k.bytes; stands = k.stands; can = k.can; told = λ rest can. f (k.bytes ++ rest) r (k.told rest can) }
stops_as P Q f s t ReadFault k = k
stops_as P Q f s t TooLong k = k
stops_as P Q f s t NoMemory k = k

-- a fault of a drain
pub drain_faults : {R : Type 0} (P : R → Type 0) (s t : Desk) (e : DrainFault) → Breaks s t e → Faulted P s t (of_drain e)
drain_faults P s t drained.ReadFault h = h
drain_faults P s t drained.TooLong h = h

-- What is answered where the reading stopped, of the whole input.
module _ {R : Type 0} (P : List ℕ → R → Type 0) (first old new : Desk) where
  -- the rest was taken
  all_taken : (r : R) → Tells (λ bytes. P bytes r) first old → IsDrained old new → Ends (λ bytes. P bytes r) first new
  all_taken r t d = record {
    bytes = t.bytes ++ d.bytes;
    stands = record {
      took = took_on first.left old.left new.left first.at.reading old.at.reading new.at.reading t.bytes d.bytes t.stands.took d.took;
      calm = d.calm ∙ t.stands.calm;
      fits = record { within = d.within; ended = λ over. d.ended t.stands.fits.ended };
    };
    can = t.can d.bytes d.can;
    told = t.told d.bytes d.can;
    ended = d.ended t.stands.fits.ended;
  }

  same : (f answer : InputFault R) → (answer ≡ f) × (new ≡ old) → HasStopped P first old f → HasStopped P first new answer
  same f answer e h = subst (λ (d : Desk). HasStopped P first d answer) (sym e.1) (subst (λ (k : InputFault R). HasStopped P first old k) (sym e.0) h)

  drained_answer : (r : R) (answer : InputFault R) → Tells (λ bytes. P bytes r) first old
      → Faulted (λ said. (said ≡ r) × IsDrained old new) old new answer → HasStopped P first new answer
  drained_answer r answer t h =
      subst (λ (k : InputFault R). HasStopped P first new k) (told_same answer)
      (faulted_on (λ said. (said ≡ r) × IsDrained old new) (λ said. Ends (λ bytes. P bytes said) first new) first old new t.bytes t.stands (λ said. said)
      (λ said d. subst (λ (k : R). Ends (λ bytes. P bytes k) first new) (sym d.0) (all_taken r t d.1)) answer h)

  pub has_stopped : (fault answer : InputFault R) → Stops P first old fault → Drains old new fault answer → HasStopped P first new answer
  has_stopped (Refused r) answer s d = drained_answer r answer s d
  has_stopped ReadFault answer s d = same ReadFault answer d s
  has_stopped TooLong answer s d = same TooLong answer d s
  has_stopped NoMemory answer s d = same NoMemory answer d s

-- no read failed, unless the fault tells of it, or the status
pub calm_of : {R : Type 0} (P : List ℕ → R → Type 0) (first now : Desk) (f : InputFault R) → HasStopped P first now f → ¬ (f ≡ ReadFault) → HasNoNewFault first now
calm_of P first now (Refused r) h unless = h.stands.calm
calm_of P first now ReadFault h unless = absurd (unless refl)
calm_of P first now TooLong h unless = h.0
calm_of P first now NoMemory h unless = h.0

pub calm_unread : (P : List ℕ → Refusal → Type 0) (first now : Desk) (f : InputFault Refusal) → HasStopped P first now f
    → ¬ (unread f ≡ status.ReadFault) → HasNoNewFault first now
calm_unread P first now f h unless = calm_of P first now f h (λ e. unless (ap unread e))
