-- What two searches tell.
use Rattle.std.proofs.Common.{◌≡◌, ℕ, ◌<◌, true, false, not, List, length, filter, Option, Some, None, sym, ap, ◌∙◌}
use Rattle.std.specs.List.{range_with_len, list_all}
use Rattle.swap_base.proofs.Lists.{from_range}
use Rattle.swap_digraph.specs.Value.{Graph}
use Rattle.swap_digraph.specs.Graph.{parties}
use Rattle.digraph_check.specs.Reach.{reaches, closed_set, reversed}
use Rattle.digraph_check.specs.Tree.{is_entered, all_entered, IsSearch}
use Rattle.digraph_check.proofs.ListTests.{filter-same, list_all-same}
use Rattle.digraph_check.proofs.Turned.{reaches-reversed}
use Rattle.digraph_check.proofs.ClosedSets.{closed_set-reached, closed_set-stranded, closed_set-none}

range_same : (g : Graph) (t : List (Option ℕ)) → IsSearch g t → range_with_len 0 (length t) ≡ parties g
range_same g t h = ap (range_with_len 0) h.entries

all_reached : (g : Graph) (t : List (Option ℕ)) → IsSearch g t → all_entered t ≡ list_all (λ v. reaches g 0 v) (parties g)
all_reached g t h =
    ap (λ (vs : List ℕ). list_all (λ v. is_entered t v) vs) (range_same g t h)
    ∙ list_all-same (λ v. is_entered t v) (λ v. reaches g 0 v) (parties g) (λ v i. h.reached v (from_range v g.n i))

-- in the digraph turned round
entered_back : (g : Graph) (t : List (Option ℕ)) (v : ℕ) → 0 < g.n → IsSearch (reversed g) t → v < g.n → is_entered t v ≡ reaches g v 0
entered_back g t v some h lt = h.reached v lt ∙ reaches-reversed g 0 v some lt

all_reach : (g : Graph) (t : List (Option ℕ)) → 0 < g.n → IsSearch (reversed g) t → all_entered t ≡ list_all (λ v. reaches g v 0) (parties g)
all_reach g t some h =
    ap (λ (vs : List ℕ). list_all (λ v. is_entered t v) vs) (range_same (reversed g) t h)
    ∙ list_all-same (λ v. is_entered t v) (λ v. reaches g v 0) (parties g) (λ v i. entered_back g t v some h (from_range v g.n i))

pub shows_reached : (g : Graph) (t : List (Option ℕ)) (set : List ℕ) → IsSearch g t → all_entered t ≡ false
    → set ≡ filter (is_entered t) (range_with_len 0 (length t)) → Some set ≡ closed_set g
shows_reached g t set h all e =
    ap Some (e ∙ ap (λ (vs : List ℕ). filter (is_entered t) vs) (range_same g t h)
    ∙ filter-same (is_entered t) (λ v. reaches g 0 v) (parties g) (λ v i. h.reached v (from_range v g.n i)))
    ∙ sym (closed_set-reached g (sym (all_reached g t h) ∙ all))

pub shows_stranded : (g : Graph) (t s : List (Option ℕ)) (set : List ℕ) → 0 < g.n → IsSearch g t → all_entered t ≡ true → IsSearch (reversed g) s
    → all_entered s ≡ false → set ≡ filter (λ v. not (is_entered s v)) (range_with_len 0 (length s)) → Some set ≡ closed_set g
shows_stranded g t s set some h all k missing e =
    ap Some (e ∙ ap (λ (vs : List ℕ). filter (λ v. not (is_entered s v)) vs) (range_same (reversed g) s k)
    ∙ filter-same (λ v. not (is_entered s v)) (λ v. not (reaches g v 0)) (parties g) (λ v i.
    ap not (entered_back g s v some k (from_range v g.n i))))
    ∙ sym (closed_set-stranded g (sym (all_reached g t h) ∙ all) (sym (all_reach g s some k) ∙ missing))

pub shows_none : (g : Graph) (t s : List (Option ℕ)) → 0 < g.n → IsSearch g t → all_entered t ≡ true → IsSearch (reversed g) s → all_entered s ≡ true
    → None ≡ closed_set g
shows_none g t s some h all k both = sym (closed_set-none g (sym (all_reached g t h) ∙ all) (sym (all_reach g s some k) ∙ both))
