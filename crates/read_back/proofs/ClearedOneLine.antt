-- The line of a group's job with seeds holds no line feed, and is one of an input's lines.
use Rattle.std.proofs.Common.{◌≡◌, ◌==◌, ℕ, not, List, [], ◌∷◌, ◌++◌, refl, ap, ◌∙◌, arith}
use Rattle.std.specs.Prelude.{codes, zip}
use Rattle.std.specs.List.{list_all}
use Rattle.swap_base.proofs.Lists.{and_parts}
use Rattle.command_input.specs.Lines.{filled_lines, collect_lines, with_first}
use Rattle.swap_clear.specs.declared.answer.Group.{Group}
use Rattle.swap_clear.specs.declared.limits.Wishes.{Wishes}
use Rattle.swap_clear.specs.ClearedText.{proposal_data, named_data, proposal}
use Rattle.read_back.specs.ClearedJobs.{seeded_data, seeded_line, seeded_party}
use Rattle.read_back.proofs.HeaderOneLine.{one_value, IsOneLine, IsPlain, items_plain}
use Rattle.read_back.proofs.ClearedLimited.{amount_low}
use Rattle.read_back.proofs.Shape.{IsClear}
use Rattle.read_back.proofs.Lines.{not_is}

job_plain : (w : Wishes) (group : Group) → IsClear w group → (texts : List (List ℕ)) → IsPlain (seeded_data w group texts)
job_plain w group k texts =
    let arcs = items_plain (λ a. proposal_data w.names (proposal w.arcs a)) group.arcs
    (λ a i. let low = (amount_low w group k a i).1 in (omega (arith, low), (tt, (tt, tt)))) in
    let leaders = items_plain (named_data (codes "party") w.names) group.leaders (λ l i. (tt, tt)) in
    let parties = items_plain (seeded_party w.names) (zip group.parties texts) (λ p i. (tt, (tt, tt))) in
    let bound = k.ready.bound.1 in
    let delta = k.within.delta.1 in
    let start = k.within.start.1 in
    (arcs, (omega (arith, bound), (omega (arith, delta), (leaders, (tt, (parties, (omega (arith, start), (omega arith, tt))))))))

pub is_one_line : (w : Wishes) (group : Group) → IsClear w group → (texts : List (List ℕ)) → IsOneLine (seeded_line w group texts)
unfolding seeded_line
is_one_line w group k texts = one_value (seeded_data w group texts) (job_plain w group k texts)

-- ---- lines

-- a line with its line feed is one line
one_of : (l : List ℕ) → IsOneLine l → collect_lines (l ++ codes "\n") ≡ l ∷ []
unfolding collect_lines
one_of [] h = refl
one_of (b ∷ l) h =
    let p = and_parts (not (b == 10)) (list_all (λ x. not (x == 10)) l) h in
    rw (not_is (b == 10) p.0) (ap (with_first b) (one_of l p.1))

-- it begins with a brace, and isn't blank
is_filled : (w : Wishes) (group : Group) (texts : List (List ℕ)) → filled_lines 1 (seeded_line w group texts ∷ []) ≡ (1, seeded_line w group texts) ∷ []
unfolding filled_lines seeded_line
is_filled w group texts = refl

pub as_given : (w : Wishes) (group : Group) (texts : List (List ℕ)) → IsOneLine (seeded_line w group texts)
    → filled_lines 1 (collect_lines (seeded_line w group texts ++ codes "\n")) ≡ (1, seeded_line w group texts) ∷ []
as_given w group texts one = ap (filled_lines 1) (one_of (seeded_line w group texts) one) ∙ is_filled w group texts
