-- What the command `clear` says, by how its parts ended.
use Rattle.std.proofs.Common.{◌≡◌, ℕ, Bool, true, false, List, [], ◌∷◌, ◌++◌, Option, Ok, Err, refl, sym, ap, ◌∙◌, subst, append-nil}
use Rattle.swap_io.specs.Tape.{Tape}
use Rattle.swap_base.specs.Fault.{Fails}
use Rattle.swap_base.specs.declared.fault.Fault.{Fault}
use Rattle.swap_base.specs.declared.fault.Fault.TheVariants as offer
use Rattle.command_input.specs.declared.reason.Reason.{Reason}
use Rattle.command_input.specs.declared.reason.Reason.TheVariants.{BadLine, NotJson}
use Rattle.command_input.specs.declared.refusal.Refusal.{Refusal}
use Rattle.command_input.specs.Lines.{collect_lines, filled_lines}
use Rattle.swap_world.specs.Gone.{MayGive}
use Rattle.swap_clear.specs.ClearedText.{cleared_line, IsClearedLine}
use Rattle.swap_commands.specs.Cleared.{IsCleared, IsFurther}
use Rattle.command_input.specs.Faults.{named_fault, of_offer}
use Rattle.command_input.specs.Input.{InputProgress, Desk, Ends, GivesLine, IsLast, IsLine, Stops, Tells, ahead, desk, fresh}
use Rattle.swap_commands.specs.Output.{refuse_further_line, clear_output, refusal_names, no_chance, output_given_chance, plain_text, wish_lines_output}
use Rattle.swap_commands.specs.Says.{CommandSays, IsCommandRefusal}
use Rattle.command_input.specs.declared.fault.InputFault.{InputFault}
use Rattle.command_input.specs.declared.fault.InputFault.TheVariants.{Refused}
use Rattle.swap_commands.specs.Words.{Clear}
use Rattle.command_input.specs.declared.status.Status.{Status}
use Rattle.command_input.proofs.Ahead.{stands_on}
use Rattle.swap_commands.proofs.Saying.{says_whole}
use Rattle.swap_commands.specs.Strategies.{given_strategies}
use Rattle.command_input.proofs.Streams.{can_come, last_run, line_of, no_memory_after, stops_same}
use Rattle.command_input.specs.Written.{StatusWrites}
use Rattle.command_input.specs.Streams.{streams}

-- ---- what is written, by the lines of an input

by_lines : (bytes : List ℕ) (ls : List (ℕ × List ℕ)) → filled_lines 1 (collect_lines bytes) ≡ ls → clear_output bytes ≡ wish_lines_output ls
unfolding clear_output
by_lines bytes ls e = ap wish_lines_output e

line_fails : (n : ℕ) (t : List ℕ) (ls : List (ℕ × List ℕ)) (reason : Reason) → cleared_line n t ≡ Err reason → wish_lines_output ((n, t) ∷ ls) ≡ Err reason
line_fails n t ls reason h = rw h refl

line_clears : (n : ℕ) (t text : List ℕ) → IsClearedLine n t text → cleared_line n t ≡ Ok text
unfolding cleared_line
line_clears n t text c = rw (c.is_read, c.shown) refl

further_fails : (n : ℕ) (t text : List ℕ) (ls : List (ℕ × List ℕ)) (reason : Reason) → cleared_line n t ≡ Ok text → refuse_further_line ls ≡ Err reason
    → wish_lines_output ((n, t) ∷ ls) ≡ Err reason
further_fails n t text ls reason h e = rw (h, e) refl

line_ends : (n : ℕ) (t text : List ℕ) → cleared_line n t ≡ Ok text → wish_lines_output ((n, t) ∷ []) ≡ Ok (plain_text text)
line_ends n t text h = rw h refl

module _ (has : List ℕ → Bool) where
  against : (bytes : List ℕ) (ls : List (ℕ × List ℕ)) (reason : Reason) (names : List (List ℕ)) → filled_lines 1 (collect_lines bytes) ≡ ls
      → wish_lines_output ls ≡ Err reason → names ≡ [] → IsCommandRefusal has Clear bytes (record { reason = reason; names = names })
  unfolding output_given_chance refusal_names
  against bytes ls reason names e h none = (by_lines bytes ls e ∙ h, none)

  gives_text : (bytes text : List ℕ) → IsCleared bytes text → output_given_chance has no_chance Clear bytes ≡ Ok (plain_text text)
  unfolding output_given_chance
  gives_text bytes text c = by_lines bytes ((c.line, c.wishes) ∷ []) c.lines ∙ line_ends c.line c.wishes text (line_clears c.line c.wishes text c.cleared)

  -- ---- what is said against an input

  -- it has no line
  pub empty_stops : (more : Bool) (left : Tape) (n : ℕ) (s : InputProgress) (now : Desk) (fault : InputFault Refusal) → s ≡ fresh → more ≡ false
      → GivesLine more (desk left n s) now → fault ≡ Refused (record { reason = NotJson 1; names = [] })
      → Stops (IsCommandRefusal has Clear) (desk left n fresh) now fault
  empty_stops more left n s now fault first none given is =
      let old : Desk = desk left n fresh in
      let p : IsLast old now = last_run more old now none (subst (λ (x : InputProgress). GivesLine more (desk left n x) now) first given) in
      let t : Tells (λ bytes. IsCommandRefusal has Clear bytes (record { reason = NotJson 1; names = [] })) old now = record {
        bytes = p.bytes;
        stands = p.stands;
        can = λ rest can. can_come fresh (p.bytes ++ rest) refl;
        told = λ rest can.
            let e : filled_lines 1 (collect_lines (p.bytes ++ rest)) ≡ [] = ap (λ (xs : List ℕ). filled_lines 1 (collect_lines (p.bytes ++ xs))) (can p.met)
            ∙ ap (λ (xs : List ℕ). filled_lines 1 (collect_lines xs)) (append-nil p.bytes) ∙ p.none in
            against (p.bytes ++ rest) [] (NotJson 1) [] e refl refl;
      } in
      subst (λ (f : InputFault Refusal). Stops (IsCommandRefusal has Clear) old now f) (sym is) t

  -- its first line is refused
  against_line : (left : Tape) (n : ℕ) (now : Desk) (fault : Fault Reason) → IsLine (desk left n fresh) now
      → Fails fault (cleared_line now.at.number now.at.text)
      → Stops (IsCommandRefusal has Clear) (desk left n fresh) now (named_fault [] (of_offer fault))
  against_line left n now offer.NoMemory p fails = no_memory_after (desk left n fresh) now p.bytes p.stands
  against_line left n now (offer.Refused r) p fails = record {
    bytes = p.bytes;
    stands = p.stands;
    can = λ rest can. can_come fresh (p.bytes ++ rest) refl;
    told = λ rest can.
        against (p.bytes ++ rest) ((now.at.number, now.at.text) ∷ ahead now.at rest) r [] (p.first rest can)
        (line_fails now.at.number now.at.text (ahead now.at rest) r fails) refl;
  }

  pub line_stops : (more : Bool) (left : Tape) (n : ℕ) (s : InputProgress) (now : Desk) (fault : Fault Reason) (line : ℕ) (text : List ℕ) → s ≡ fresh
      → more ≡ true → GivesLine more (desk left n s) now → line ≡ now.at.number → text ≡ now.at.text → Fails fault (cleared_line line text)
      → Stops (IsCommandRefusal has Clear) (desk left n fresh) now (named_fault [] (of_offer fault))
  line_stops more left n s now fault line text first some given number same fails =
      let p : IsLine (desk left n fresh) now =
      line_of more (desk left n fresh) now some (subst (λ (x : InputProgress). GivesLine more (desk left n x) now) first given) in
      let f : Fails fault (cleared_line now.at.number text) = subst (λ (k : ℕ). Fails fault (cleared_line k text)) number fails in
      against_line left n now fault p (subst (λ (t : List ℕ). Fails fault (cleared_line now.at.number t)) same f)

  -- a further line is a bad one, after the first was cleared
  pub against_further : (left : Tape) (n : ℕ) (mid now : Desk) (text : List ℕ) → IsClearedLine mid.at.number mid.at.text text
      → IsLine (desk left n fresh) mid → (fault : InputFault Refusal) → Stops (IsFurther mid.at) mid now fault
      → Stops (IsCommandRefusal has Clear) (desk left n fresh) now fault
  against_further left n mid now text c p fault s =
      stops_same (IsFurther mid.at) (IsCommandRefusal has Clear) (desk left n fresh) mid now p.bytes p.stands refl
      (λ bytes r can f.
      against (p.bytes ++ bytes) ((mid.at.number, mid.at.text) ∷ ahead mid.at bytes) r.reason r.names (p.first bytes can)
      (further_fails mid.at.number mid.at.text text (ahead mid.at bytes) r.reason (line_clears mid.at.number mid.at.text text c) f.0) f.1)
      fault s

  -- ---- what the command says

  pub says_clear : (may : MayGive) (left left' : Tape) (n m : ℕ) (taken taken' : Option (List ℕ)) (p q : ℕ) (now : InputProgress) (text : List ℕ)
      (status : Status) (e : Ends (λ bytes. IsCleared bytes text) (desk left n fresh) (desk left' m now)) → StatusWrites taken taken' p q (plain_text text) status
      → CommandSays (given_strategies has may) Clear (streams left n taken p) (streams left' m taken' q) status
  says_clear may left left' n m taken taken' p q now text status e w =
      says_whole has may no_chance Clear (λ bytes. IsCleared bytes text) left left' n m taken taken' p q now (plain_text text) status e
      (gives_text e.bytes text e.told) (record { text = text; shown = refl; cleared = e.told }) w

-- a further line
pub further_stops : (more : Bool) (s t : Desk) (fault : InputFault Refusal) → more ≡ true → GivesLine more s t
    → fault ≡ Refused (record { reason = BadLine t.at.number; names = [] }) → Stops (IsFurther s.at) s t fault
further_stops more s t fault some given is =
    let p : IsLine s t = line_of more s t some given in
    let told : Tells (λ bytes. IsFurther s.at bytes (record { reason = BadLine t.at.number; names = [] })) s t = record {
      bytes = p.bytes;
      stands = p.stands;
      can = λ rest can. can_come s.at (p.bytes ++ rest) p.open_yet;
      told = λ rest can. (ap refuse_further_line (p.first rest can), refl);
    } in
    subst (λ (f : InputFault Refusal). Stops (IsFurther s.at) s t f) (sym is) told

-- one line was cleared, and no further one came
pub is_cleared : (left : Tape) (n : ℕ) (mid now : Desk) (text : List ℕ) → IsLine (desk left n fresh) mid
    → IsClearedLine mid.at.number mid.at.text text → IsLast mid now → Ends (λ bytes. IsCleared bytes text) (desk left n fresh) now
is_cleared left n mid now text p c q = record {
  bytes = p.bytes ++ q.bytes;
  stands = stands_on (desk left n fresh) mid now p.bytes q.bytes p.stands q.stands;
  can = can_come fresh (p.bytes ++ q.bytes) refl;
  told = record {
    line = mid.at.number;
    wishes = mid.at.text;
    lines = p.first q.bytes q.can ∙ ap (λ (ls : List (ℕ × List ℕ)). (mid.at.number, mid.at.text) ∷ ls) q.none;
    cleared = c;
  };
  ended = q.stands.fits.ended q.met;
}
