-- The names of a line of wishes are names, and each number is a party's.
use Rattle.std.proofs.Common.{◌≡◌, ℕ, ◌<◌, length, get_or, List, [], Ok, refl, subst, arith}
use Rattle.swap_base.specs.Fault.{steps}
use Rattle.offer_moves.specs.Lists.{collected_results}
use Rattle.offer_moves.proofs.Chains.{went, each_all}
use Rattle.offer_header.specs.Names.{AreNames, named_ends, name_step, no_strategy}
use Rattle.offer_header.specs.declared.raw.RawArc.{RawArc}
use Rattle.offer_header.proofs.Numbered.{ends_below, keeps_names}
use Rattle.offer_header.proofs.Walked.{steps_keep}
use Rattle.swap_clear.specs.Names.{wished_name_step, numbered_arc, header_party, HasBoundedEnds}
use Rattle.swap_clear.specs.declared.names.NumberedArc.{NumberedArc}

-- a step of a header's names
as_in_header : (line : ℕ) (seen : List (List ℕ)) (name : List ℕ) (t : List (List ℕ)) → wished_name_step line seen name ≡ Ok t
    → name_step no_strategy line [] seen (header_party name) ≡ Ok t
unfolding name_step
as_in_header line seen name t h = rw h refl

keeps : (line : ℕ) (seen : List (List ℕ)) (name : List ℕ) (t : List (List ℕ)) → AreNames seen → wished_name_step line seen name ≡ Ok t → AreNames t
keeps line seen name t names h = keeps_names no_strategy line [] seen (header_party name) t names (as_in_header line seen name t h)

pub names_of : (line : ℕ) (parties names : List (List ℕ)) → steps (wished_name_step line) [] parties ≡ Ok names → AreNames names
names_of line parties names h = steps_keep (λ l. AreNames l) (wished_name_step line) (keeps line) [] parties names
    (record { name = λ p lt. absurd (omega arith); apart = λ p q a b e. absurd (omega arith) }) h

is_below : (line : ℕ) (names : List (List ℕ)) (a : RawArc) (n : NumberedArc) → numbered_arc line names a ≡ Ok n → HasBoundedEnds (length names) n
unfolding numbered_arc
is_below line names a n h =
    let one = went (named_ends line names a) (λ ends. Ok (record { ends = ends; amount = a.amount })) n h in
    let same : record { ends = one.0; amount = a.amount } ≡ n = cc (one.2) in
    subst (HasBoundedEnds (length names)) same (ends_below line names a one.0 one.1)

pub listed_arcs : (line : ℕ) (names : List (List ℕ)) (arcs : List RawArc) (numbered : List NumberedArc) → collected_results (numbered_arc line names) arcs ≡ Ok numbered
    → (a : ℕ) (d : NumberedArc) → a < length numbered → HasBoundedEnds (length names) (get_or numbered a d)
listed_arcs line names arcs numbered h a d lt = each_all (HasBoundedEnds (length names)) (numbered_arc line names) (is_below line names) arcs numbered h a d lt
