-- How texts are handed to a sink one after another.
use Rattle.std.proofs.Common.{◌≡◌, ◌<◌, ◌≤◌, ◌+◌, ℕ, List, [], ◌++◌, length, take, drop, get_or, Option, Result, Ok, Err, refl, sym, ap}
use Rattle.std.proofs.Common.{◌∙◌, subst, arith, append_assoc, append-nil, length-append}
use Rattle.std.proofs.KnownBytes.{Appends-nil, Appends-trans}
use Rattle.std.proofs.lemmas.Result.{IfErr-at_err, IfOk-at_ok}
use Rattle.std.proofs.lemmas.List.{take_at, take-append-drop, length-drop}
use Rattle.std.specs.Io.KnownBytes.{Appends}
use Rattle.swap_io.specs.Causes.{Rose, AppendsProperPrefix}
use Rattle.swap_base.specs.Text.{lines}
use Rattle.swap_base.proofs.Lines.{lines_on, lines_done}
use Rattle.swap_io.specs.Handed.{Handed, Hands, Lost, AppendsPrefix}
use Rattle.swap_io.specs.declared.fault.TextFault.{TextFault}
use Rattle.swap_io.specs.declared.fault.TextFault.TheVariants.{WriteFault, NoMemory}

pub handed_none : (a : Option (List ℕ)) (w : List ℕ) → Handed a w a w []
handed_none a w = ([], Appends-nil a, append-nil w)

-- a text that waits
pub handed_put : (a : Option (List ℕ)) (w x text : List ℕ) → x ≡ w ++ text → Handed a w a x text
handed_put a w x text e = ([], Appends-nil a, sym e)

pub handed_on : (a b c : Option (List ℕ)) (w x y text more : List ℕ) → Handed a w b x text → Handed b x c y more → Handed a w c y (text ++ more)
handed_on a b c w x y text more p q = (
  p.0 ++ q.0,
  Appends-trans a b c p.0 q.0 p.1 q.1,
  sym (append_assoc w text more) ∙ ap (λ (l : List ℕ). l ++ more) p.2 ∙ append_assoc p.0 x more ∙ ap (λ (l : List ℕ). p.0 ++ l) q.2
      ∙ sym (append_assoc p.0 q.0 y),
)

pub lost_on : (e : TextFault) (a b c : Option (List ℕ)) (w x text more : List ℕ) → Handed a w b x text → Lost e b x c more → Lost e a w c (text ++ more)
lost_on WriteFault a b c w x text more p q = (q.0, q.1, handed_on a b c w x q.0 text more p q.2)
lost_on NoMemory a b c w x text more p q = (q.0, handed_on a b c w x q.0 text more p q.1)

more_lost : (a c : Option (List ℕ)) (w lost text more : List ℕ) → Handed a w c lost text → Handed a w c (lost ++ more) (text ++ more)
more_lost a c w lost text more p = (p.0, p.1, sym (append_assoc w text more) ∙ ap (λ (l : List ℕ). l ++ more) p.2 ∙ append_assoc p.0 lost more)

-- what comes after a text is lost with it
pub lost_before : (e : TextFault) (a c : Option (List ℕ)) (w text more : List ℕ) → Lost e a w c text → Lost e a w c (text ++ more)
lost_before WriteFault a c w text more q = (q.0 ++ more, rw length-append (omega (arith, q.1)), more_lost a c w q.0 text more q.2)
lost_before NoMemory a c w text more q = (q.0 ++ more, more_lost a c w q.0 text more q.1)

-- want of memory after a text
pub lost_after : (a b : Option (List ℕ)) (w x text more : List ℕ) → Handed a w b x text → Lost NoMemory a w b (text ++ more)
lost_after a b w x text more p = (x ++ more, more_lost a b w x text more p)

-- a text that was handed on whole
pub all_appended : (a b : Option (List ℕ)) (text : List ℕ) → Handed a [] b [] text → Appends a b text
all_appended a b text p = subst (λ (l : List ℕ). Appends a b l) (sym (p.2 ∙ append-nil p.0)) p.1

front : (bytes lost text : List ℕ) → text ≡ bytes ++ lost → take (length bytes) text ≡ bytes
front bytes lost text e = ap (take (length bytes)) e ∙ take_at bytes lost (length bytes) refl

pub proper_prefix : (a b : Option (List ℕ)) (text : List ℕ) → Lost WriteFault a [] b text → AppendsProperPrefix a b text
proper_prefix a b text (lost, some, (bytes, taken, parts)) = (
  length bytes,
  omega (arith, some, length-append bytes lost, ap length parts),
  subst (λ (l : List ℕ). Appends a b l)
      (sym (front bytes lost text parts)) taken,
)

pub prefix : (a b : Option (List ℕ)) (text : List ℕ) → Lost NoMemory a [] b text → AppendsPrefix a b text
prefix a b text (lost, (bytes, taken, parts)) =
    (length bytes, omega (arith, length-append bytes lost, ap length parts), subst (λ (l : List ℕ). Appends a b l) (sym (front bytes lost text parts)) taken)

-- what waited was written in part
pub lost_prefix : (a b : Option (List ℕ)) (w : List ℕ) → AppendsProperPrefix a b w → Lost WriteFault a w b []
lost_prefix a b w (k, short, taken) = (drop k w, omega (arith, short, length-drop k w), (take k w, taken, append-nil w ∙ sym (take-append-drop k w)))

-- Counts of faults.

pub rose_before : (a b c : ℕ) → a ≤ b → Rose b c → Rose a c
rose_before a b c le r = omega (arith, le, r)

pub rose_after : (a b c : ℕ) → Rose a b → b ≤ c → Rose a c
rose_after a b c r le = omega (arith, r, le)

-- A line for each of a list. The lines before place i were handed on.

module _ {A : Type 0} (f : ℕ → A → List ℕ) (xs : List A) (total : List ℕ) (a : Option (List ℕ)) (w : List ℕ) where
  -- what was handed on so far, and with the lines of the rest it is the whole
  abbrev pub SoFar : Option (List ℕ) → List ℕ → ℕ → Type 0
  SoFar b x i = (text : List ℕ) × Handed a w b x text × (text ++ lines f i (drop i xs) ≡ total)

  -- one more line was put behind what waits, and then some of that was passed on
  pub line_on : (b c : Option (List ℕ)) (x y z : List ℕ) (i : ℕ) (item d : A) → i < length xs → item ≡ get_or xs i d → y ≡ x ++ f i item → Handed b y c z []
      → SoFar b x i → SoFar c z (i + 1)
  line_on b c x y z i item d lt is wrote passed s =
      let put : Handed a w b y (s.0 ++ f i item) = handed_on a b b w x y s.0 (f i item) s.1 (handed_put b x y (f i item) wrote) in (
        s.0 ++ f i item,
        subst (λ (t : List ℕ). Handed a w c z t) (append-nil (s.0 ++ f i item)) (handed_on a b c w y z (s.0 ++ f i item) [] put passed),
        lines_on f s.0 (s.0 ++ f i item) total i xs i item d lt is refl s.2,
      )

  -- a fault where some of that was passed on
  pub line_lost : (e : TextFault) (b c : Option (List ℕ)) (x y : List ℕ) (i : ℕ) (item d : A) → i < length xs → item ≡ get_or xs i d → y ≡ x ++ f i item
      → Lost e b y c [] → SoFar b x i → Lost e a w c total
  line_lost e b c x y i item d lt is wrote lost s =
      let put : Handed a w b y (s.0 ++ f i item) = handed_on a b b w x y s.0 (f i item) s.1 (handed_put b x y (f i item) wrote) in
      let so_far : Lost e a w c (s.0 ++ f i item) = subst (λ (t : List ℕ). Lost e a w c t) (append-nil (s.0 ++ f i item))
      (lost_on e a b c w y (s.0 ++ f i item) [] put lost) in
      subst (λ (t : List ℕ). Lost e a w c t) (lines_on f s.0 (s.0 ++ f i item) total i xs i item d lt is refl s.2)
      (lost_before e a c w (s.0 ++ f i item) (lines f (i + 1) (drop (i + 1) xs)) so_far)

  -- one more text was handed on
  pub text_on : (b c : Option (List ℕ)) (x y : List ℕ) (i : ℕ) (item d : A) → i < length xs → item ≡ get_or xs i d → Handed b x c y (f i item) → SoFar b x i
      → SoFar c y (i + 1)
  text_on b c x y i item d lt is passed s =
      (s.0 ++ f i item, handed_on a b c w x y s.0 (f i item) s.1 passed, lines_on f s.0 (s.0 ++ f i item) total i xs i item d lt is refl s.2)

  pub text_lost : (e : TextFault) (b c : Option (List ℕ)) (x : List ℕ) (i : ℕ) (item d : A) → i < length xs → item ≡ get_or xs i d → Lost e b x c (f i item)
      → SoFar b x i → Lost e a w c total
  text_lost e b c x i item d lt is lost s =
      subst (λ (t : List ℕ). Lost e a w c t) (lines_on f s.0 (s.0 ++ f i item) total i xs i item d lt is refl s.2)
      (lost_before e a c w (s.0 ++ f i item) (lines f (i + 1) (drop (i + 1) xs)) (lost_on e a b c w x s.0 (f i item) s.1 lost))

  -- want of memory before the next line
  pub rest_lost : (b : Option (List ℕ)) (x : List ℕ) (i : ℕ) → SoFar b x i → Lost NoMemory a w b total
  rest_lost b x i s = subst (λ (t : List ℕ). Lost NoMemory a w b t) s.2 (lost_after a b w x s.0 (lines f i (drop i xs)) s.1)

  pub all_lines : (b : Option (List ℕ)) (x : List ℕ) (i : ℕ) → length xs ≤ i → SoFar b x i → Handed a w b x total
  all_lines b x i le s = subst (λ (t : List ℕ). Handed a w b x t) (lines_done f s.0 total i xs i le s.2) s.1

-- The records of calls.

pub hands_ok : {T : Type 0} (x : T) (a b : Option (List ℕ)) (n m : ℕ) (w y text : List ℕ) (result : Result T TextFault) → result ≡ Ok x
    → Handed a w b y text → n ≤ m → Hands a b n m w y text result
hands_ok x a b n m w y text result is p le = rw is (record { all = p; lost = tt; later = le; failed = λ e. absurd (cc e) })

pub hands_err : {T : Type 0} (e : TextFault) (a b : Option (List ℕ)) (n m : ℕ) (w y text : List ℕ) (result : Result T TextFault) → result ≡ Err e
    → Lost e a w b text → n ≤ m → (e ≡ WriteFault → Rose n m) → Hands a b n m w y text result
hands_err e a b n m w y text result is p le rose = rw is (record { all = tt; lost = p; later = le; failed = λ q. rose (cc q) })

-- a text was handed on, and then what waits was passed on
pub hands_after : {T : Type 0} (a b c : Option (List ℕ)) (n m k : ℕ) (w y z text total : List ℕ) (result : Result T TextFault) → Handed a w b y text
    → text ≡ total → n ≤ m → Hands b c m k y z [] result → Hands a c n k w z total result
hands_after a b c n m k w y z text total (Ok x) p e le h =
    hands_ok x a c n k w z total (Ok x) refl (subst (λ (t : List ℕ). Handed a w c z t) (append-nil text ∙ e) (handed_on a b c w y z text [] p h.all))
    (omega (arith, le, h.later))
hands_after a b c n m k w y z text total (Err f) p e le h =
    hands_err f a c n k w z total (Err f) refl (subst (λ (t : List ℕ). Lost f a w c t) (append-nil text ∙ e) (lost_on f a b c w y text [] p h.lost))
    (omega (arith, le, h.later)) (λ is. rose_before n m k le (h.failed (rw is refl)))

-- what comes after a text, and the text itself, are lost with a part of it
pub lost_with : (e : TextFault) (a b c : Option (List ℕ)) (w y text more rest total : List ℕ) → Handed a w b y text → Lost e b y c more
    → (text ++ more) ++ rest ≡ total → Lost e a w c total
lost_with e a b c w y text more rest total p l is = subst (λ (t : List ℕ). Lost e a w c t) is
    (lost_before e a c w (text ++ more) rest (lost_on e a b c w y text more p l))

-- want of memory after a text
pub lost_then : (a b : Option (List ℕ)) (w y text rest total : List ℕ) → Handed a w b y text → text ++ rest ≡ total → Lost NoMemory a w b total
lost_then a b w y text rest total p is = subst (λ (t : List ℕ). Lost NoMemory a w b t) is (lost_after a b w y text rest p)

-- what a call lost, where it answered a fault
pub lost_was : {T : Type 0} (e : TextFault) (a b : Option (List ℕ)) (n m : ℕ) (w y text : List ℕ) (result : Result T TextFault) → result ≡ Err e
    → Hands a b n m w y text result → Lost e a w b text
lost_was e a b n m w y text result is h = IfErr-at_err (λ f. Lost f a w b text) is h.lost

pub rose_was : {T : Type 0} (e : TextFault) (a b : Option (List ℕ)) (n m : ℕ) (w y text : List ℕ) (result : Result T TextFault) → result ≡ Err e
    → Hands a b n m w y text result → e ≡ WriteFault → Rose n m
rose_was e a b n m w y text result is h same = h.failed (is ∙ ap (λ (f : TextFault). Err f) same)

-- what a call handed on, where it answered none
pub handed_was : {T : Type 0} (x : T) (a b : Option (List ℕ)) (n m : ℕ) (w y text : List ℕ) (result : Result T TextFault) → result ≡ Ok x
    → Hands a b n m w y text result → Handed a w b y text
handed_was x a b n m w y text result is h = IfOk-at_ok (λ _. Handed a w b y text) is h.all

-- what a call that began with nothing waiting wrote, where it answered a fault

pub written_part : {T : Type 0} (a b : Option (List ℕ)) (n m : ℕ) (w y text : List ℕ) (result : Result T TextFault) → w ≡ [] → Hands a b n m w y text result
    → result ≡ Err WriteFault → AppendsProperPrefix a b text
written_part a b n m w y text result none h is = proper_prefix a b text
    (subst (λ (v : List ℕ). Lost WriteFault a v b text) none (lost_was WriteFault a b n m w y text result is h))

pub written_short : {T : Type 0} (a b : Option (List ℕ)) (n m : ℕ) (w y text : List ℕ) (result : Result T TextFault) → w ≡ []
    → Hands a b n m w y text result → result ≡ Err NoMemory → AppendsPrefix a b text
written_short a b n m w y text result none h is = prefix a b text (subst (λ (v : List ℕ). Lost NoMemory a v b text) none
    (lost_was NoMemory a b n m w y text result is h))
