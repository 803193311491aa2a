-- What a status over memory says of the status over a sink.
use Rattle.std.proofs.Common.{◌≡◌, ◌⊎◌, ◌↔◌, inl, inr, ℕ, List, [], refl, sym, ◌∙◌, arith}
use Rattle.swap_io.specs.Causes.{Rose}
use Rattle.command_input.specs.declared.status.Status.{Status}
use Rattle.command_input.specs.declared.status.Status.TheVariants.{Done, Named, WrongWords, Refused, ReadFault, WriteFault, NoMemory, TooLong}
use Rattle.swap_answer.specs.Answered.{memory_status, whole_text}
use Rattle.swap_answer.specs.Sliced.{no_faults}

wrong_is : (s : Status) → memory_status s ≡ WrongWords → s ≡ WrongWords
wrong_is Done e = absurd (cc e)
wrong_is Named e = absurd (cc e)
wrong_is WrongWords e = refl
wrong_is (Refused reason names) e = absurd (cc e)
wrong_is ReadFault e = absurd (cc e)
wrong_is WriteFault e = absurd (cc e)
wrong_is NoMemory e = absurd (cc e)
wrong_is TooLong e = absurd (cc e)

is_wrong : (s : Status) → s ≡ WrongWords → memory_status s ≡ WrongWords
is_wrong Done e = absurd (cc e)
is_wrong Named e = absurd (cc e)
is_wrong WrongWords e = refl
is_wrong (Refused reason names) e = absurd (cc e)
is_wrong ReadFault e = absurd (cc e)
is_wrong WriteFault e = absurd (cc e)
is_wrong NoMemory e = absurd (cc e)
is_wrong TooLong e = absurd (cc e)

pub wrong_words : (P : Type 0) (s t : Status) → t ≡ memory_status s → (s ≡ WrongWords) ↔ P → (t ≡ WrongWords) ↔ P
wrong_words P s t e k = rw e (λ w. k.0 (wrong_is s w), λ p. is_wrong s (k.1 p))

pub never_unwritten : (s t : Status) → t ≡ memory_status s → ¬ (t ≡ WriteFault)
never_unwritten s t e = rw e (by s)
  where
    by : (s : Status) → ¬ (memory_status s ≡ WriteFault)
    by Done k = absurd (cc k)
    by Named k = absurd (cc k)
    by WrongWords k = absurd (cc k)
    by (Refused reason names) k = absurd (cc k)
    by ReadFault k = absurd (cc k)
    by WriteFault k = absurd (cc k)
    by NoMemory k = absurd (cc k)
    by TooLong k = absurd (cc k)

pub never_unread : (s t : Status) → t ≡ memory_status s → ¬ (s ≡ ReadFault) → ¬ (t ≡ ReadFault)
never_unread s t e k = rw e (λ is. k (by s is))
  where
    by : (s : Status) → memory_status s ≡ ReadFault → s ≡ ReadFault
    by Done k = absurd (cc k)
    by Named k = absurd (cc k)
    by WrongWords k = absurd (cc k)
    by (Refused reason names) k = absurd (cc k)
    by ReadFault k = refl
    by WriteFault k = absurd (cc k)
    by NoMemory k = absurd (cc k)
    by TooLong k = absurd (cc k)

pub none_rose : ¬ (Rose no_faults no_faults)
none_rose k = absurd (omega (arith, k))

pub no_race : (s t : Status) (written text : List ℕ) → t ≡ memory_status s → text ≡ whole_text s written → (s ≡ WrongWords) ⊎ (s ≡ NoMemory)
    → ((t ≡ WrongWords) ⊎ (t ≡ NoMemory)) × (text ≡ [])
no_race s t written text e f (inl k) = rw (e, f, k) (inl refl, refl)
no_race s t written text e f (inr k) = rw (e, f, k) (inr refl, refl)

pub never_read_fault : (P : Type 0) (s : Status) → (P → (s ≡ WrongWords) ⊎ (s ≡ NoMemory)) → (¬ P → s ≡ ReadFault → Rose no_faults no_faults)
    → ¬ (s ≡ ReadFault)
never_read_fault P s race rose e = none_rose (rose (λ p. by (race p)) e)
  where
    by : (s ≡ WrongWords) ⊎ (s ≡ NoMemory) → ⊥
    by (inl k) = absurd (cc (sym k ∙ e))
    by (inr k) = absurd (cc (sym k ∙ e))
