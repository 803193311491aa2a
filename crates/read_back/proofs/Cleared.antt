-- Each group that is cleared of a line of wishes is one of those wishes.
use Rattle.std.proofs.Common.{◌≡◌, ◌≤◌, ℕ, Bool, true, false, nat_lt, cond, List, [], ◌∷◌, ◌++◌, length, Result, Ok, Err, refl, ap, subst, ltb-false}
use Rattle.std.specs.Prelude.{All}
use Rattle.std.specs.Str.{bytes_eq}
use Rattle.std.specs.List.{list_any}
use Rattle.std.proofs.lemmas.List.Elements.{All-nil, All-push}
use Rattle.swap_base.specs.Fault.{steps}
use Rattle.swap_base.specs.Lists.{IsElement}
use Rattle.command_input.specs.declared.reason.Reason.{Reason}
use Rattle.command_input.specs.declared.reason.Reason.TheVariants.{BadName, Duplicate, StartTooSoon}
use Rattle.offer_moves.specs.Fields.{parse_data}
use Rattle.offer_moves.specs.Lists.{collected_results}
use Rattle.offer_header.specs.Names.{is_name, name_added, AreNames}
use Rattle.offer_header.proofs.Walked.{steps_keep}
use Rattle.swap_clear.specs.declared.answer.Group.{Group}
use Rattle.swap_clear.specs.declared.answer.Clearing.{Clearing}
use Rattle.swap_clear.specs.declared.fault.ClearReason.{ClearReason}
use Rattle.swap_clear.specs.Clearing.{cleared_groups}
use Rattle.swap_clear.proofs.ClearingAnswers as told
use Rattle.swap_clear.specs.Cleared.{by_clearing, parse_cleared, make_clearing, wished_start, without_self_arcs}
use Rattle.swap_clear.specs.Fields.{raw_wishes}
use Rattle.swap_clear.specs.Limits.{limited_proposals, limited_times, parse_wishes, parse_wish_text, AreWishesInLimits}
use Rattle.swap_clear.specs.Names.{wished_name_step, numbered_arc, numbered_wishes, AreBoundedEnds}
use Rattle.swap_clear.specs.declared.cleared.Cleared.{Cleared}
use Rattle.swap_clear.specs.declared.fields.RawWishes.{RawWishes}
use Rattle.swap_clear.specs.declared.limits.Wishes.{Wishes}
use Rattle.swap_clear.specs.declared.names.Numbered.{Numbered}
use Rattle.swap_clear.proofs.Named.{listed_arcs, names_of}
use Rattle.swap_clear.proofs.Within.{set_contains_ends}
use Rattle.read_back.proofs.Onward.{landed, ok_is, onward}
use Rattle.read_back.proofs.Shape.{IsClear, IsGood}
use Rattle.read_back.proofs.Showable.{two_tests}

-- ---- names

good_step : (line : ℕ) (seen : List (List ℕ)) (name : List ℕ) (t : List (List ℕ)) → All IsGood seen → wished_name_step line seen name ≡ Ok t → All IsGood t
unfolding name_added
good_step line seen name t good h =
    let a = two_tests (is_name name) (list_any (bytes_eq name) seen) (Duplicate line name) (BadName line name) (seen ++ name ∷ []) t h in
    subst (All IsGood) a.1 (All-push IsGood seen name good a.0)

good_names : (line : ℕ) (parties names : List (List ℕ)) → steps (wished_name_step line) [] parties ≡ Ok names → All IsGood names
good_names line parties names e = steps_keep (All IsGood) (wished_name_step line) (good_step line) [] parties names (All-nil IsGood) e

-- What is known of names and of the numbers that stand for them.
record AreKnown (n : Numbered) : Type 0 where
  names : AreNames n.names
  ends : AreBoundedEnds n
  good : All IsGood n.names

numbered_are : (line : ℕ) (raw : RawWishes) (n : Numbered) → numbered_wishes line raw ≡ Ok n → AreKnown n
unfolding numbered_wishes
numbered_are line raw =
    onward (steps (wished_name_step line) [] raw.parties) _ AreKnown (λ names e.
    onward (collected_results (numbered_arc line names) raw.arcs) _ AreKnown (λ arcs a.
    landed (record { names = names; arcs = arcs }) AreKnown
    (record { names = names_of line raw.parties names e; ends = listed_arcs line names raw.arcs arcs a; good = good_names line raw.parties names e })))

-- ---- wishes

-- What is known of wishes.
record AreFine (w : Wishes) : Type 0 where
  within : AreWishesInLimits w
  good : All IsGood w.names

wishes_are : (line : ℕ) (raw : RawWishes) (w : Wishes) → parse_wishes line raw ≡ Ok w → AreFine w
unfolding parse_wishes
wishes_are line raw =
    onward (numbered_wishes line raw) _ AreFine (λ n m.
    onward (limited_times line raw) _ AreFine (λ t s.
    onward (limited_proposals line n) _ AreFine (λ arcs p.
    landed (record { start = t.0; delta = t.1; names = n.names; arcs = arcs }) AreFine
    (let k = numbered_are line raw n m in record { within = set_contains_ends line raw n t arcs k.names k.ends s p; good = k.good }))))

read_are : (line : ℕ) (text : List ℕ) (w : Wishes) → parse_wish_text line text ≡ Ok w → AreFine w
unfolding parse_wish_text
read_are line text =
    onward (parse_data line text) _ AreFine (λ d o.
    onward (raw_wishes line d) _ AreFine (λ raw r. wishes_are line raw))

-- ---- groups

ok_cleared : (r : Result Clearing ClearReason) (c : Clearing) → by_clearing r ≡ Ok c → r ≡ Ok c
ok_cleared (Ok x) c e = ap (λ (y : Clearing). Ok y) (ok_is x c e)
ok_cleared (Err reason) c e = absurd (cc e)

by_start : (b : Bool) (start delta : ℕ) (reason : Reason) (u : Unit {0}) → nat_lt start delta ≡ b → cond b (Err reason) (Ok tt) ≡ Ok u → delta ≤ start
by_start true start delta reason u e h = absurd (cc h)
by_start false start delta reason u e h = ltb-false start delta e

late_enough : (start delta : ℕ) (u : Unit {0}) → wished_start start delta ≡ Ok u → delta ≤ start
unfolding wished_start
late_enough start delta u h = by_start (nat_lt start delta) start delta (StartTooSoon start delta) u refl h

clearing_is : (w : Wishes) (c : Clearing) → make_clearing w ≡ Ok c → (w.delta ≤ w.start) × (cleared_groups (length w.names) w.arcs ≡ Ok c)
unfolding make_clearing
clearing_is w =
    let P = λ (c : Clearing). (w.delta ≤ w.start) × (cleared_groups (length w.names) w.arcs ≡ Ok c) in
    onward (without_self_arcs w.arcs) _ P (λ u s.
    onward (wished_start w.start w.delta) _ P (λ v t c e. (late_enough w.start w.delta v t, ok_cleared (cleared_groups (length w.names) w.arcs) c e)))

group_is : (w : Wishes) (c : Clearing) → AreFine w → make_clearing w ≡ Ok c → (group : Group) → IsElement group c.groups → IsClear w group
group_is w c fine e group i =
    let n : ℕ = length w.names in
    let k = clearing_is w c e in record {
      within = fine.within;
      names = fine.good;
      one = (told.groups n w.arcs c k.1).each group i;
      led = told.leaders n w.arcs c k.1 group i;
      ready = told.ready n w.arcs c k.1 fine.within.parties.1 fine.within.arcs.1 fine.within.amounts group i w.start w.delta fine.within.delta
          (k.0, fine.within.start.1);
    }

abbrev AreClear : Cleared → Type 0
AreClear c = (group : Group) → IsElement group c.clearing.groups → IsClear c.wishes group

pub groups_are_clear : (line : ℕ) (text : List ℕ) (c : Cleared) → parse_cleared line text ≡ Ok c → AreClear c
unfolding parse_cleared
groups_are_clear line text =
    onward (parse_wish_text line text) _ AreClear (λ w r.
    onward (make_clearing w) _ AreClear (λ c e.
    landed (record { wishes = w; clearing = c }) AreClear (group_is w c (read_are line text w r) e)))
